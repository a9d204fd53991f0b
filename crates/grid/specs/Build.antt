-- The grid in the making: nodes with their children alone, memory that holds such nodes, and what an insertion adds.
use Rattle.std.specs.Prelude.{◌≡◌, ℕ, ◌+◌, ◌-◌, ◌^◌, ◌<◌, ◌≤◌, max, Bool, true, false, cond, ◌&&◌, ◌||◌, List, [], ◌++◌, map, length, drop, replicate, Some, None, Option}
use Rattle.kinds.specs.Strings.{Str, starts, equal, snoc}
use Rattle.filters.specs.Rules.{Rule, best}
use Rattle.tries.specs.Prefixes.{any}
use Rattle.grid.specs.declared.node.Kept.{Kept}
use Rattle.grid.specs.declared.node.Node.{Node}
use Rattle.grid.specs.declared.node.Node.TheVariants.{Empty, Destination, Source}
use Rattle.grid.specs.declared.edit.Way.{Way}
use Rattle.grid.specs.declared.edit.Way.TheVariants.{Down, Root}
use Rattle.grid.specs.Nodes.{links_of, no_links, sound, bare, pick_kept}
use Rattle.grid.specs.Derived.{Key, destination, source, key_eq, is_key, place, once, Rooted, keep}

-- memory as a grid has it: the used places are there, every link is below them, and every place behind is empty
pub record Safe (used : ℕ) (N : List Node) : Type 0 where
  pub fits : used ≤ length N
  pub linked : sound used N ≡ true
  pub rest : bare (drop used N) ≡ true

-- there are so many places, and a number of 32 bits counts them
abbrev pub Room : ℕ → List Node → Type 0
Room n N = (n ≤ length N) × (n < 2 ^ 32)

-- the most places that are used when one more filter is in, wd and ws being the widths of destination and source
abbrev pub most_used : ℕ → ℕ → ℕ → ℕ
most_used used wd ws = max 1 used + (wd + ws + 1)

-- the name of the node that a way leads to; a source node has no way to a root
abbrev pub reached : Key → Way → Key
reached (destination t) (Down b) = destination (snoc t b)
reached (destination t) Root = source t []
reached (source D s) (Down b) = source D (snoc s b)
reached (source D s) Root = source D s

-- there is such a way from a node
abbrev pub goes : Key → Way → Bool
goes (destination t) w = true
goes (source D s) (Down b) = true
goes (source D s) Root = false

-- the node of a string in the destination trie, or in the source trie of D
abbrev pub in_trie : Option Str → Str → Key
in_trie None s = destination s
in_trie (Some D) s = source D s

-- l is on the way to k in its trie, or k itself
abbrev pub above : Key → Key → Bool
above (destination t) (destination u) = starts u t
above (destination t) (source E u) = false
above (source D s) (destination u) = false
above (source D s) (source E u) = equal E D && starts u s

-- the node of a key, given where its ways lead and what it keeps; it has no switches
abbrev pub make : Key → (Way → Option ℕ) → Option Kept → Node
make (destination t) to k = Destination (links_of (λ b. to (Down b))) (to Root)
make (source D s) to k = Source (links_of (λ b. to (Down b))) no_links k

-- what a key keeps, where own says what source nodes do
abbrev pub own_at : (Str → Str → Option Kept) → Key → Option Kept
own_at own (destination t) = None
own_at own (source D s) = own D s

-- the node of a key with its children alone
abbrev pub raw : (Str → Str → Option Kept) → List Key → Key → Node
raw own keys k = make k (λ w. place (reached k w) keys) (own_at own k)

-- the used places of N hold the nodes of the keys, with their children alone, and what own says they keep
pub record State (own : Str → Str → Option Kept) (keys : List Key) (N : List Node) (used : ℕ) : Type 0 where
  pub long : length keys ≡ used
  pub distinct : once keys ≡ true
  pub rooted : Rooted keys
  pub closed : (k : Key) (w : Way) → goes k w ≡ true → any (key_eq (reached k w)) keys ≡ true → any (key_eq k) keys ≡ true
  pub bare : (D s : Str) → any (key_eq (source D s)) keys ≡ false → own D s ≡ None
  pub nodes : N ≡ map (raw own keys) keys ++ replicate (length N - used) Empty

-- the keys have grown by those that pass new, and k stands at p
pub record Grown (own : Str → Str → Option Kept) (keys : List Key) (new : Key → Bool) (k : Key) (N : List Node) (used : ℕ) (p : ℕ) : Type 0 where
  pub more : List Key
  pub state : State own more N used
  pub here : place k more ≡ Some p
  pub adds : (l : Key) → any (key_eq l) more ≡ (any (key_eq l) keys || new l)

-- what source nodes keep once (D, s) has been offered c
abbrev pub keeping : (Str → Str → Option Kept) → Str → Str → Kept → Str → Str → Option Kept
keeping own D s c E u = cond (equal E D && equal u s) (pick_kept (own D s) (Some c)) (own E u)

-- the nodes of a filter with destination D and source s
abbrev pub on_paths : Str → Str → Key → Bool
on_paths D s l = above (destination D) l || above (source D s) l

-- the paths of D and s are in, and c has been offered to (D, s)
pub record Inserted (own : Str → Str → Option Kept) (keys : List Key) (D s : Str) (c : Kept) (N : List Node) (used : ℕ) : Type 0 where
  pub more : List Key
  pub state : State (keeping own D s c) more N used
  pub adds : (l : Key) → any (key_eq l) more ≡ (any (key_eq l) keys || on_paths D s l)

-- f is a filter of just these strings
abbrev pub exactly : {C : Type 0} → Str → Str → Rule C → Bool
exactly D s f = equal D f.destination && equal s f.source

-- ---- lt f g says that f is better than g; standings are those in F
module _ {C : Type 0} (lt : Rule C → Rule C → Bool) (F : List (Rule C)) where
  -- what source nodes keep when the filters of G have been inserted: the best of those of just their strings
  abbrev pub own_of : List (Rule C) → Str → Str → Option Kept
  own_of G D s = keep lt F (best lt (exactly D s) G)

  -- the filters of G are inserted, and no node is finished
  pub record Filled (G : List (Rule C)) (N : List Node) (used : ℕ) : Type 0 where
    pub keys : List Key
    pub state : State (own_of G) keys N used
    pub whole : (k : Key) → any (key_eq k) keys ≡ is_key G k
