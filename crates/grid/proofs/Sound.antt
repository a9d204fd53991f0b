-- In sound memory every reading of a link stays inside.
use Rattle.std.proofs.Common.{◌≡◌, ℕ, zero, suc, ◌<◌, ◌≤◌, Bool, true, false, List, [], ◌∷◌, Some, None, Option, sym, refl, subst, arith}
use Rattle.std.proofs.lemmas.Bool.{and_parts, and_from, ltb-true, lt-ltb}
use Rattle.grid.specs.declared.node.Node.{Node}
use Rattle.grid.specs.Nodes.{node_at, child_of, switch_of, root_of, within, links_within, sound}
use Rattle.grid.specs.Inside.{child_inside, switch_inside, root_inside}

-- each link of a node, where all are within
pub record Links (used : ℕ) (n : Node) : Type 0 where
  pub child : (b : Bool) → within used (child_of n b) ≡ true
  pub switch : (b : Bool) → within used (switch_of n b) ≡ true
  pub root : within used (root_of n) ≡ true

pub links : (used : ℕ) (n : Node) → links_within used n ≡ true → Links used n
links used n h = record { child = λ b. child_inside used n b h; switch = λ b. switch_inside used n b h; root = root_inside used n h }

pub sound_at : (used : ℕ) (N : List Node) (p : ℕ) → sound used N ≡ true → links_within used (node_at N p) ≡ true
sound_at used [] p h = refl
sound_at used (n ∷ N) zero h = (and_parts (links_within used n) (sound used N) h).0
sound_at used (n ∷ N) (suc p) h = sound_at used N p (and_parts (links_within used n) (sound used N) h).1

pub within_lt : (used p : ℕ) (o : Option ℕ) → within used o ≡ true → Some p ≡ o → p < used
within_lt used p o h e = ltb-true p used (subst (λ (x : Option ℕ). within used x ≡ true) (sym e) h)

-- ---- a larger bound

pub within_more : (u v : ℕ) → u ≤ v → (o : Option ℕ) → within u o ≡ true → within v o ≡ true
within_more u v l None h = refl
within_more u v l (Some p) h = let k = ltb-true p u h in lt-ltb p v (omega arith)

pub links_more : (u v : ℕ) → u ≤ v → (n : Node) → links_within u n ≡ true → links_within v n ≡ true
links_more u v l n h =
    and_from _ _ (more (child_of n false) (k.child false))
    (and_from _ _ (more (child_of n true) (k.child true))
    (and_from _ _ (more (switch_of n false) (k.switch false))
    (and_from _ _ (more (switch_of n true) (k.switch true)) (more (root_of n) k.root))))
  where
    k : Links u n
    k = links u n h

    more : (o : Option ℕ) → within u o ≡ true → within v o ≡ true
    more = within_more u v l

pub sound_more : (u v : ℕ) → u ≤ v → (N : List Node) → sound u N ≡ true → sound v N ≡ true
sound_more u v l [] h = refl
sound_more u v l (n ∷ N) h =
    let k = and_parts (links_within u n) (sound u N) h in
    and_from (links_within v n) (sound v N) (links_more u v l n k.0) (sound_more u v l N k.1)
