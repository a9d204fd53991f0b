-- Steps along a string: how a loop takes them, and that they stay inside the memory.
use Rattle.std.proofs.Common.{◌≡◌, ℕ, suc, ◌<◌, Bool, true, List, [], ◌∷◌, map, length, set, Some, None, Option, sym, refl, ap}
use Rattle.std.specs.Option.{option_map}
use Rattle.std.proofs.lemmas.List.Edits.{sets}
use Rattle.kinds.specs.Strings.{Str}
use Rattle.grid.specs.declared.node.Node.{Node}
use Rattle.grid.specs.declared.search.Walk.{Walk}
use Rattle.grid.specs.Nodes.{node_at, child_of, root_of, within, links_within, sound}
use Rattle.grid.specs.Inside.{else_within, root_inside}
use Rattle.grid.specs.Steps.{onward, along, beyond, trace, entered, step_down}
use Rattle.grid.proofs.Sound.{sound_at, within_lt}

-- ---- the step that a loop takes by the bit b, before it goes on by the bits r
module _ {X : Type 0} (step : X → Bool → Option X) (x : X) (b : Bool) (r : Str) where
  pub along_on : (y : X) → Some y ≡ step x b → along step x (b ∷ r) ≡ along step y r
  along_on y e = ap (λ (o : Option X). onward o x (λ y. along step y r)) (sym e)

  -- and what it notes: m is the memory after n notes, and at x the place of the node that x is at
  module _ (at : X → ℕ) (m : List ℕ) (n : ℕ) where
    noted : Option X → List ℕ
    noted o = sets m n (map at (beyond o (λ y. y ∷ trace step y r)))

    pub notes_on : (y : X) → Some y ≡ step x b → sets (set m n (at y)) (suc n) (map at (trace step y r)) ≡ sets m n (map at (trace step x (b ∷ r)))
    unfolding noted
    notes_on y e = ap noted e

-- ---- a step stays inside, where no link of a node leads out
pub lead_inside : (leads : Node → Bool → Option ℕ) (N : List Node) → sound (length N) N ≡ true
    → ((used : ℕ) (n : Node) (b : Bool) → links_within used n ≡ true → within used (leads n b) ≡ true)
    → (p : ℕ) (b : Bool) (q : ℕ) → Some q ≡ leads (node_at N p) b → q < length N
lead_inside leads N h inside p b q e = within_lt (length N) q (leads (node_at N p) b) (inside (length N) (node_at N p) b (sound_at (length N) N p h)) e

-- the source root that a descent ends with is inside
module _ (N : List Node) (h : sound (length N) N ≡ true) where
  entered_inside : (root : Option ℕ) (n p : ℕ) → within (length N) root ≡ true → within (length N) (entered N root n p).kept ≡ true
  entered_inside root n p k = else_within (length N) (root_of (node_at N p)) root (root_inside (length N) (node_at N p) (sound_at (length N) N p h)) k

  down_inside : (t : Str) (w : Walk ℕ) → within (length N) w.kept ≡ true → within (length N) (along (step_down N) w t).kept ≡ true
  down_inside [] w k = k
  down_inside (b ∷ r) w k = go (child_of (node_at N w.at) b) (λ p. down_inside r (entered N w.kept w.visits p) (entered_inside w.kept w.visits p k))
    where
      go : (o : Option ℕ) → ((p : ℕ) → within (length N) (along (step_down N) (entered N w.kept w.visits p) r).kept ≡ true)
          → within (length N) (onward (option_map (entered N w.kept w.visits) o) w (λ v. along (step_down N) v r)).kept ≡ true
      go None more = k
      go (Some p) more = more p

  pub root_is_inside : (t : Str) → within (length N) (along (step_down N) (entered N None 0 0) t).kept ≡ true
  root_is_inside t = down_inside t (entered N None 0 0) (entered_inside None 0 0 refl)
