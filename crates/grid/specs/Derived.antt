-- The grid in memory that a list of filters derives: which node stands at which place, up to the numbering.
use Rattle.std.specs.Prelude.{◌≡◌, ℕ, suc, ◌-◌, Bool, true, false, cond, not, ◌&&◌, List, [], ◌∷◌, ◌++◌, map, length, replicate, Some, None, Option}
use Rattle.kinds.specs.Strings.{Str, equal, snoc}
use Rattle.filters.specs.Rules.{Rule, standing}
use Rattle.tries.specs.Prefixes.{any, longest_proper}
use Rattle.tries.specs.Shape.{has_dst, has_src}
use Rattle.tries.specs.Search.{kept}
use Rattle.grid.specs.declared.node.Kept.{Kept}
use Rattle.grid.specs.declared.node.Node.{Node}
use Rattle.grid.specs.declared.node.Node.TheVariants.{Empty, Destination, Source}
use Rattle.grid.specs.Nodes.{links_of}

-- the name of a node: a destination string, or a destination string and a source string
pub data Key : Type 0 where
  destination : Str → Key
  source : Str → Str → Key

-- the two are the same name
abbrev pub key_eq : Key → Key → Bool
key_eq (destination t) (destination u) = equal t u
key_eq (destination t) (source E u) = false
key_eq (source D s) (destination u) = false
key_eq (source D s) (source E u) = equal D E && equal s u

-- the grid of F has this node
abbrev pub is_key : {C : Type 0} → List (Rule C) → Key → Bool
is_key F (destination t) = has_dst F t
is_key F (source D s) = has_src F D s

-- one place further on
abbrev pub later : Option ℕ → Option ℕ
later None = None
later (Some p) = Some (suc p)

-- the place of k among the keys, or none
abbrev pub place : Key → List Key → Option ℕ
place k [] = None
place k (l ∷ ls) = cond (key_eq k l) (Some 0) (later (place k ls))

-- no key stands twice
abbrev pub once : List Key → Bool
once [] = true
once (k ∷ ks) = not (any (key_eq k) ks) && once ks

-- the root of the destination trie stands first
abbrev pub Rooted : List Key → Type 0
Rooted [] = Unit {0}
Rooted (k ∷ ks) = k ≡ destination []

-- the place of the source node (D, s), where there is such a D
abbrev pub place_of : List Key → Str → Option Str → Option ℕ
place_of keys s None = None
place_of keys s (Some D) = place (source D s) keys

-- the switch of (D, s) by b: where there is no child (D, s·b), the place of (A, s·b), A the longest proper prefix of D that has it
abbrev pub switch_place : {C : Type 0} → List (Rule C) → List Key → Str → Str → Bool → Option ℕ
switch_place F keys D s b =
    cond (has_src F D (snoc s b)) None (place_of keys (snoc s b) (longest_proper (λ A. has_src F A (snoc s b)) D))

-- ---- lt f g says that f is better than g
module _ {C : Type 0} (lt : Rule C → Rule C → Bool) (F : List (Rule C)) where
  -- a filter as a node keeps it, with its standing in F
  abbrev pub keep : Option (Rule C) → Option Kept
  keep None = None
  keep (Some f) = Some (record { label = f.label; standing = standing lt F f; directive = f.directive })

  -- the node of a key: children by their places, switches where there is no child, and the best filter of its strings
  abbrev pub node_of : List Key → Key → Node
  node_of keys (destination t) = Destination (links_of (λ b. place (destination (snoc t b)) keys)) (place (source t []) keys)
  node_of keys (source D s) =
      Source (links_of (λ b. place (source D (snoc s b)) keys)) (links_of (switch_place F keys D s)) (keep (kept lt F (D, s)))

-- the memory N, of which the first places are used, holds the grid of F: there is a numbering of just the nodes of that grid,
-- the root first, by which each used place holds the node of its key; every other place is empty
pub record Derived {C : Type 0} (lt : Rule C → Rule C → Bool) (F : List (Rule C)) (N : List Node) (used : ℕ) : Type 0 where
  pub keys : List Key
  pub long : length keys ≡ used
  pub distinct : once keys ≡ true
  pub whole : (k : Key) → any (key_eq k) keys ≡ is_key F k
  pub rooted : Rooted keys
  pub nodes : N ≡ map (node_of lt F keys) keys ++ replicate (length N - used) Empty
