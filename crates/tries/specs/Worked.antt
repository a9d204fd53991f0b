-- Searches worked by hand, from socket to socket (16 bits each) at costs that are ranks.
use Rattle.std.specs.Prelude.{◌≡◌, ℕ, false, List, [], ◌∷◌, ◌++◌, map, take, replicate, Some, None, Option, nat_eq}
use Rattle.kinds.specs.Ordered.{by_number}
use Rattle.kinds.specs.Strings.{Str}
use Rattle.filters.specs.declared.directive.Directive.TheVariants.{Block}
use Rattle.filters.specs.Rules.{Rule, better}
use Rattle.tries.specs.Shape.{nodes, need}
use Rattle.tries.specs.Search.{visits, back_visits, choice}

-- a string, written by its bits
abbrev pub string : List ℕ → Str
string bits = map (λ b. nat_eq b 1) bits

-- the address of 16 bits that begins as written, the rest being 0
abbrev pub address : List ℕ → Str
address bits = take 16 (string bits ++ replicate 16 false)

-- a filter with a label, a destination prefix, a source prefix and a cost
abbrev pub filter : ℕ → List ℕ → List ℕ → ℕ → Rule ℕ
filter label destination source cost =
    record { label = label; destination = string destination; source = string source; cost = cost; directive = Block }

-- the book of five filters
abbrev pub book : List (Rule ℕ)
book =
    filter 1 (1 ∷ []) (0 ∷ []) 5
    ∷ filter 2 (1 ∷ 0 ∷ []) (1 ∷ 1 ∷ []) 7
    ∷ filter 3 [] (1 ∷ 1 ∷ 0 ∷ []) 3
    ∷ filter 4 (1 ∷ []) [] 9
    ∷ filter 5 (1 ∷ []) (1 ∷ 1 ∷ []) 7
    ∷ []

-- the book without filter 3
abbrev pub withdrawn : List (Rule ℕ)
withdrawn =
    filter 1 (1 ∷ []) (0 ∷ []) 5
    ∷ filter 2 (1 ∷ 0 ∷ []) (1 ∷ 1 ∷ []) 7
    ∷ filter 4 (1 ∷ []) [] 9
    ∷ filter 5 (1 ∷ []) (1 ∷ 1 ∷ []) 7
    ∷ []

-- the book with cost 30 for filter 3
abbrev pub dearer : List (Rule ℕ)
dearer =
    filter 1 (1 ∷ []) (0 ∷ []) 5
    ∷ filter 2 (1 ∷ 0 ∷ []) (1 ∷ 1 ∷ []) 7
    ∷ filter 3 [] (1 ∷ 1 ∷ 0 ∷ []) 30
    ∷ filter 4 (1 ∷ []) [] 9
    ∷ filter 5 (1 ∷ []) (1 ∷ 1 ∷ []) 7
    ∷ []

-- one filter that matches everything
abbrev pub all : List (Rule ℕ)
all = filter 1 [] [] 5 ∷ []

-- one filter with destination prefix 101
abbrev pub one : List (Rule ℕ)
one = filter 1 (1 ∷ 0 ∷ 1 ∷ []) [] 5 ∷ []

-- the label of the answer
abbrev pub label_of : Option (Rule ℕ) → Option ℕ
label_of None = None
label_of (Some f) = Some f.label

-- a search of F gives this label in so many visits
abbrev pub Gives : List (Rule ℕ) → Str → Str → Option ℕ → ℕ → Type 0
Gives F d s label v = (label_of (choice (better by_number) F d s) ≡ label) × (visits F d s ≡ v)

-- and backtracking takes so many
abbrev pub Takes : List (Rule ℕ) → Str → Str → Option ℕ → ℕ → ℕ → Type 0
Takes F d s label v back = (label_of (choice (better by_number) F d s) ≡ label) × (visits F d s ≡ v) × (back_visits F d s ≡ back)

pub record WorkedSearches : Type 0 where
  -- the book of five filters
  pub nodes_of_the_book : nodes book ≡ 14
  pub best_behind_a_switch : Takes book (address (1 ∷ 0 ∷ [])) (address (1 ∷ 1 ∷ 0 ∷ 1 ∷ [])) (Some 3) 7 13
  pub smaller_label_at_equal_cost : Takes book (address (1 ∷ 0 ∷ [])) (address (1 ∷ 1 ∷ 1 ∷ [])) (Some 2) 6 12
  pub destination_left_early : Takes book (address (1 ∷ 1 ∷ [])) (address (0 ∷ 1 ∷ [])) (Some 1) 4 5
  pub only_the_outermost_source_trie : Takes book (address (0 ∷ [])) (address (1 ∷ 1 ∷ 0 ∷ [])) (Some 3) 5 5
  pub nothing_matches : Takes book (address (0 ∷ [])) (address (0 ∷ [])) None 2 2
  pub switch_at_the_first_bit : Takes book (address (1 ∷ 0 ∷ [])) (address (0 ∷ 0 ∷ [])) (Some 1) 5 7
  -- the book changed
  pub nodes_when_withdrawn : nodes withdrawn ≡ 10
  pub next_best_when_withdrawn : Gives withdrawn (address (1 ∷ 0 ∷ [])) (address (1 ∷ 1 ∷ 0 ∷ 1 ∷ [])) (Some 2) 6
  pub best_before_a_switch : Gives dearer (address (1 ∷ 0 ∷ [])) (address (1 ∷ 1 ∷ 0 ∷ 1 ∷ [])) (Some 2) 7
  -- one filter that matches everything
  pub nodes_of_all : nodes all ≡ 2
  pub every_search_visits_two : (d s : Str) → visits all d s ≡ 2
  -- one filter whose destination is not met
  pub destination_missed : (s : Str) → Gives one (address (1 ∷ 0 ∷ 0 ∷ [])) s None 3
  -- two filters of 32-bit addresses
  pub places_for_two_filters : need 2 32 32 ≡ 131
