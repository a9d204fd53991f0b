-- The finishing of nodes, as it goes: along the source path of each filter, the shorter destinations first.
use Rattle.std.specs.Prelude.{ℕ, zero, suc, Bool, cond, List, [], ◌∷◌, length, Some, None, Option, ◌==◌, slice_set}
use Rattle.std.specs.Option.{unwrap_or, option_or}
use Rattle.std.specs.List.{fold}
use Rattle.kinds.specs.Strings.{Str}
use Rattle.filters.specs.Rules.{Rule}
use Rattle.grid.specs.declared.node.Kept.{Kept}
use Rattle.grid.specs.declared.node.Node.{Node}
use Rattle.grid.specs.declared.node.Node.TheVariants.{Empty}
use Rattle.grid.specs.declared.finish.Trek.{Trek}
use Rattle.grid.specs.Nodes.{node_at, child_of, next_of, root_of, kept_of}
use Rattle.grid.specs.Edits.{finish_in}

-- the node at a place, where there is a place
abbrev pub node_if : List Node → Option ℕ → Node
node_if N None = Empty
node_if N (Some p) = node_at N p

-- the place of the child by a bit, or the place itself where there is no child
abbrev pub child_from : List Node → ℕ → Bool → ℕ
child_from N p b = unwrap_or (child_of (node_at N p) b) p

-- ---- the roots of source tries on the way down a destination string

-- one step down, by a bit: the last root is remembered
abbrev pub fall : List Node → ℕ × Option ℕ → Bool → ℕ × Option ℕ
fall N w b = (child_from N w.0 b, option_or (root_of (node_at N w.0)) w.1)

-- the root at the end of the string, and the last one before the end, or else up
abbrev pub roots : List Node → ℕ → Option ℕ → Str → Option ℕ × Option ℕ
roots N p up s = let w = fold (fall N) (p, up) s in (root_of (node_at N w.0), w.1)

-- ---- along a source path

-- the node at p is finished: the memory then, and how far the finishing of its path has come
abbrev pub finish_at : List Node → ℕ → Node → Option Kept → List Node × Trek
finish_at N p beside above =
    (slice_set N p (finish_in (node_at N p) beside above), record { at = p; beside = beside; kept = kept_of (finish_in (node_at N p) beside above) })

-- and then the next, by a bit
abbrev pub trek_on : List Node × Trek → Bool → List Node × Trek
trek_on t b = finish_at t.0 (child_from t.0 t.1.at b) (node_if t.0 (next_of t.1.beside b)) t.1.kept

-- and so on, along a string
abbrev pub trek : List Node × Trek → Str → List Node × Trek
trek t s = fold trek_on t s

-- ---- filter by filter

-- the path of s, from the root of its trie, and the root beside that
abbrev pub finish_from : List Node → Option ℕ × Option ℕ → Str → List Node
finish_from N r s = elim r.0 [ None ↦ N | Some top ↦ (trek (finish_at N top (node_if N r.1) None) s).0 ]

-- the source path of a filter with destination D and source s
abbrev pub finish_path : List Node → Str → Str → List Node
finish_path N D s = finish_from N (roots N 0 None D) s

-- the source paths of those filters whose destination has n bits
abbrev pub finish_length : {C : Type 0} → ℕ → List Node → List (Rule C) → List Node
finish_length n N [] = N
finish_length n N (f ∷ F) = finish_length n (cond (length f.destination == n) (finish_path N f.destination f.source) N) F

-- those of all filters whose destination has fewer than n bits
abbrev pub finish_below : {C : Type 0} → ℕ → List Node → List (Rule C) → List Node
finish_below zero N F = N
finish_below (suc n) N F = finish_length n (finish_below n N F) F
