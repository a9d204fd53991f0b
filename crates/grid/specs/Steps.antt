-- A search of nodes in memory, step by step.
use Rattle.std.specs.Prelude.{ℕ, ◌+◌, Bool, List, [], ◌∷◌, map, Some, None, Option}
use Rattle.std.specs.Option.{option_map}
use Rattle.kinds.specs.Strings.{Str}
use Rattle.filters.specs.declared.directive.Directive.{Directive}
use Rattle.grid.specs.declared.node.Kept.{Kept}
use Rattle.grid.specs.declared.node.Node.{Node}
use Rattle.grid.specs.declared.search.Walk.{Walk}
use Rattle.std.specs.Option.{option_or}
use Rattle.grid.specs.Nodes.{node_at, child_of, next_of, root_of, kept_of, pick_kept}

-- what comes after a step that leads on, or where it stopped
abbrev pub onward : {X : Type 0} → Option X → X → (X → X) → X
onward None x more = x
onward (Some y) x more = more y

-- steps along the bits of a string, as far as they lead
abbrev pub along : {X : Type 0} → (X → Bool → Option X) → X → Str → X
along step x [] = x
along step x (b ∷ r) = onward (step x b) x (λ y. along step y r)

-- what is met from a step that leads on, or nothing
abbrev pub beyond : {X : Type 0} → Option X → (X → List X) → List X
beyond None more = []
beyond (Some y) more = more y

-- what steps along the bits of a string lead to, one after the other
abbrev pub trace : {X : Type 0} → (X → Bool → Option X) → X → Str → List X
trace step x [] = []
trace step x (b ∷ r) = beyond (step x b) (λ y. y ∷ trace step y r)

-- ---- a walk, which goes from a node by a bit where `leads` says, and keeps of a node what `keeps` says

-- the node at p is visited, after n others, and last was kept before
abbrev pub visited : {K : Type 0} → (Option K → Node → Option K) → List Node → Option K → ℕ → ℕ → Walk K
visited keeps N last n p = record { at = p; kept = keeps last (node_at N p); visits = n + 1 }

module _ {K : Type 0} (leads : Node → Bool → Option ℕ) (keeps : Option K → Node → Option K) (N : List Node) where
  -- one step on, by a bit
  abbrev pub stepped : Walk K → Bool → Option (Walk K)
  stepped w b = option_map (visited keeps N w.kept w.visits) (leads (node_at N w.at) b)

  -- the places of the nodes that a walk visits from w on, along the bits of a string
  abbrev pub places : Walk K → Str → List ℕ
  places w t = w.at ∷ map (λ v. v.at) (trace stepped w t)

-- ---- down the destination trie

-- the source root of a destination node, where it has one, takes the place of the last
abbrev pub last_root : Option ℕ → Node → Option ℕ
last_root root n = option_or (root_of n) root

abbrev pub entered : List Node → Option ℕ → ℕ → ℕ → Walk ℕ
entered = visited last_root

abbrev pub step_down : List Node → Walk ℕ → Bool → Option (Walk ℕ)
step_down = stepped child_of last_root

abbrev pub places_down : List Node → Walk ℕ → Str → List ℕ
places_down = places child_of last_root

-- ---- along the source tries, to the child or along the switch

-- the better of what a source node keeps and what was kept so far
abbrev pub better_kept : Option Kept → Node → Option Kept
better_kept best n = pick_kept best (kept_of n)

abbrev pub met : List Node → Option Kept → ℕ → ℕ → Walk Kept
met = visited better_kept

abbrev pub step_on : List Node → Walk Kept → Bool → Option (Walk Kept)
step_on = stepped next_of better_kept

abbrev pub places_on : List Node → Walk Kept → Str → List ℕ
places_on = places next_of better_kept

-- ---- the answer

-- what is kept, by label and directive
abbrev pub told : Option Kept → Option (ℕ × Directive)
told = option_map (λ k. (k.label, k.directive))
