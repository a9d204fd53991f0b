-- What holds of every grid and every search, whatever the type C of costs.
use Rattle.std.specs.Prelude.{◌≡◌, ℕ, ◌+◌, ◌<◌, ◌≤◌, Bool, true, List, [], length, Some, None, nat_lt}
use Rattle.std.specs.declared.cmp.Ordering.{Ordering}
use Rattle.kinds.specs.Strings.{Str, starts, equal}
use Rattle.filters.specs.Rules.{Rule, better, linear, standing}
use Rattle.filters.specs.Orders.{In, Each, Apart, Alike, Order, Compares, BestMatch}
use Rattle.tries.specs.Prefixes.{any}
use Rattle.tries.specs.Shape.{has_dst, has_src, dst_keys, src_keys, same_key, nodes, need, deepest}
use Rattle.tries.specs.Search.{path, visits, back_visits, last_dst, last_src, reach, choice}

-- a search chooses what the reading of every filter chooses
abbrev pub FindsTheBest : Type 0 → Type 0
FindsTheBest C = (lt : Rule C → Rule C → Bool) → Order lt → (F : List (Rule C)) → Apart F → (d s : Str) → choice lt F d s ≡ linear lt F d s

-- a search chooses the best match, or none where no filter matches
abbrev pub ChoosesTheBestMatch : Type 0 → Type 0
ChoosesTheBestMatch C = (order : C → C → Ordering) → Compares order → (F : List (Rule C)) → Apart F → (d s : Str) → BestMatch order F d s (choice (better order) F d s)

-- a search visits at most one node for each bit and the two roots, and never more than backtracking
abbrev pub VisitsFew : Type 0 → Type 0
VisitsFew C = (F : List (Rule C)) (d s : Str) → (visits F d s ≤ length d + length s + 2) × (visits F d s ≤ back_visits F d s)

-- how many nodes a search visits: those of the longest destination string on its way, and those of the longest source string reached
abbrev pub VisitsAre : Type 0 → Type 0
VisitsAre C = (F : List (Rule C)) (d s : Str) → visits F d s ≡ reach (last_dst F d) + reach (last_src F d s)

-- which source nodes a search visits: at each prefix u of s the one of the longest prefix of d that has one
abbrev pub PathIs : Type 0 → Type 0
PathIs C = (F : List (Rule C)) (d s D u : Str)
    → (In (D, u) (path (has_src F) d s) → (starts u s ≡ true) × (deepest (has_src F) d u ≡ Some D))
    × ((starts u s ≡ true) × (deepest (has_src F) d u ≡ Some D) → In (D, u) (path (has_src F) d s))

-- the nodes that are counted are those that there are
abbrev pub KeysAre : Type 0 → Type 0
KeysAre C = (F : List (Rule C)) (t D s : Str) → (any (equal t) (dst_keys F) ≡ has_dst F t) × (any (same_key (D, s)) (src_keys F) ≡ has_src F D s)

-- a build uses at most one node and, for each filter, both widths and one more
abbrev pub NodesFew : Type 0 → Type 0
NodesFew C = (F : List (Rule C)) (wd ws : ℕ) → Each (λ f. (length f.destination ≤ wd) × (length f.source ≤ ws)) F → nodes F ≤ need (length F) wd ws

-- a grid of no filters has no node, and a search of it visits none and chooses none
abbrev pub NoFilters : Type 0 → Type 0
NoFilters C = (lt : Rule C → Rule C → Bool) (d s : Str) → (nodes {C = C} [] ≡ 0) × (visits {C = C} [] d s ≡ 0) × (choice lt [] d s ≡ None)

-- the order of the filters in the list does not matter
abbrev pub OrderIsNothing : Type 0 → Type 0
OrderIsNothing C = (lt : Rule C → Rule C → Bool) → Order lt → (F G : List (Rule C)) → Apart F → Alike F G → (d s : Str)
    → (linear lt F d s ≡ linear lt G d s) × (choice lt F d s ≡ choice lt G d s) × (visits F d s ≡ visits G d s) × (back_visits F d s ≡ back_visits G d s) × (nodes F ≡ nodes G)

-- the better of two filters of the list stands before the other
abbrev pub StandingRanks : Type 0 → Type 0
StandingRanks C = (lt : Rule C → Rule C → Bool) → Order lt → (F : List (Rule C)) (f g : Rule C) → In f F → lt f g ≡ true → standing lt F f < standing lt F g

-- no two filters of a list have one standing
abbrev pub StandingsDiffer : Type 0 → Type 0
StandingsDiffer C = (lt : Rule C → Rule C → Bool) → Order lt → (F : List (Rule C)) → Apart F → (f g : Rule C) → In f F → In g F → standing lt F f ≡ standing lt F g → f ≡ g

-- of two filters of a list the better is the one with the smaller standing
abbrev pub StandingsDecide : Type 0 → Type 0
StandingsDecide C = (lt : Rule C → Rule C → Bool) → Order lt → (F : List (Rule C)) → Apart F → (f g : Rule C) → In f F → In g F → nat_lt (standing lt F f) (standing lt F g) ≡ lt f g
