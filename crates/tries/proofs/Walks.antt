-- Which source nodes a walk visits. All that is used of the test for a source node is that it passes for each shorter source string.
use Rattle.std.proofs.Common.{◌≡◌, Bool, true, false, List, [], ◌∷◌, ◌++◌, Some, None, Option, sym, refl, ap, ◌∙◌, subst, inl, inr, append_assoc, append-nil}
use mathlib.Core.Bool.{beq}
use Rattle.std.proofs.lemmas.Bool.{both_ways, and_parts, and_from}
use Rattle.kinds.specs.Strings.{Str, starts, snoc}
use Rattle.kinds.proofs.Prefixes.{beq_same, beq_refl}
use Rattle.filters.specs.Orders.{In}
use Rattle.filters.proofs.Bests.{some_same}
use Rattle.tries.specs.Shape.{deepest, next}
use Rattle.tries.specs.Search.{led, walk, path}
use Rattle.tries.proofs.Longest.{longest_some, longest_has, longest_within, longest_or}

-- what a walk visits behind a node whose step by b leads as o says
abbrev pub rest : (Str → Str → Bool) → Str → Str → Option Str → List (Str × Str)
rest has u r o = led o (λ A. walk has A u r)

module _ (has : Str → Str → Bool) (cut : (P u v : Str) → has P (u ++ v) ≡ true → has P u ≡ true) where
  -- from the deepest node of u the step by b leads to the deepest node of u·b
  pub step : (d u D : Str) (b : Bool) → deepest has d u ≡ Some D → next has D u b ≡ deepest has d (snoc u b)
  step d u D b e =
      sym (longest_or (λ P. has P (snoc u b)) D)
      ∙ sym (longest_within (λ P. has P u) (λ P. has P (snoc u b)) d D (λ P. cut P u (b ∷ [])) e)

  -- where a longer source string has a node, a shorter one has
  pub deepest_cut : (d u v B : Str) → deepest has d (u ++ v) ≡ Some B → (A : Str) × (deepest has d u ≡ Some A)
  deepest_cut d u v B e =
      let m = longest_some (λ P. has P (u ++ v)) d B e in longest_has (λ P. has P u) d B m.0 (cut B u v m.1)

  -- the deepest node of u, with the empty string behind u, is the same node
  here : (d u D B : Str) → deepest has d u ≡ Some D → deepest has d (u ++ []) ≡ Some B → ◌≡◌ {A = Str × Str} (B, u ++ []) (D, u)
  here d u D B e k =
      let n : u ++ [] ≡ u = append-nil u in
      let k' : deepest has d u ≡ Some B = rw n at k in
      let z = some_same B D (sym k' ∙ e) in
      λ i. (z i, n i)

  -- a walk from the deepest node of u visits the deepest node of each longer string
  pub walk_meets : (d r u v D B : Str) → deepest has d u ≡ Some D → starts v r ≡ true → deepest has d (u ++ v) ≡ Some B → In (B, u ++ v) (walk has D u r)
  walk_meets d [] u [] D B e h k = inl (here d u D B e k)
  walk_meets d [] u (c ∷ v) D B e h k = absurd (both_ways false refl h)
  walk_meets d (b ∷ r) u [] D B e h k = inl (here d u D B e k)
  walk_meets d (b ∷ r) u (c ∷ v) D B e h k =
      let h' = and_parts (beq c b) (starts v r) h in
      let q = beq_same c b h'.0 in
      let n : u ++ c ∷ v ≡ snoc u b ++ v = rw q (sym (append_assoc u (b ∷ []) v)) in
      let k' : deepest has d (snoc u b ++ v) ≡ Some B = rw n at k in
      let m = deepest_cut d (snoc u b) v B k' in
      let on = walk_meets d r (snoc u b) v m.0 B m.1 h'.1 k' in
      inr
      (subst (λ o. In (B, u ++ c ∷ v) (rest has (snoc u b) r o)) (sym (step d u D b e ∙ m.1))
      (subst (λ (t : Str). In (B, t) (walk has m.0 (snoc u b) r)) (sym n) on))

  -- each node on a walk from the deepest node of u is the deepest node of a longer string
  pub walk_is : (d r u D : Str) (k : Str × Str) → deepest has d u ≡ Some D → In k (walk has D u r)
      → (v : Str) × (k.1 ≡ u ++ v) × (starts v r ≡ true) × (deepest has d k.1 ≡ Some k.0)
  walk_is d [] u D k e (inl q) =
      ([], ap (λ (z : Str × Str). z.1) q ∙ sym (append-nil u), refl, subst (λ (z : Str × Str). deepest has d z.1 ≡ Some z.0) (sym q) e)
  walk_is d [] u D k e (inr h) = absurd h
  walk_is d (b ∷ r) u D k e (inl q) =
      ([], ap (λ (z : Str × Str). z.1) q ∙ sym (append-nil u), refl, subst (λ (z : Str × Str). deepest has d z.1 ≡ Some z.0) (sym q) e)
  walk_is d (b ∷ r) u D k e (inr h) = go (next has D u b) refl h (λ A l. walk_is d r (snoc u b) A k l)
    where
      go : (o : Option Str) → next has D u b ≡ o → In k (rest has (snoc u b) r o)
          → ((A : Str) → deepest has d (snoc u b) ≡ Some A → In k (walk has A (snoc u b) r)
          → (v : Str) × (k.1 ≡ snoc u b ++ v) × (starts v r ≡ true) × (deepest has d k.1 ≡ Some k.0))
          → (v : Str) × (k.1 ≡ u ++ v) × (starts v (b ∷ r) ≡ true) × (deepest has d k.1 ≡ Some k.0)
      go None n l more = absurd l
      go (Some A) n l more =
          let m = more A (sym (step d u D b e) ∙ n) l in
          (b ∷ m.0, m.1 ∙ append_assoc u (b ∷ []) m.0, and_from (beq b b) (starts m.0 r) (beq_refl b) m.2, m.3)

  -- a search visits the deepest node of each prefix of s that has one
  pub path_meets : (d s u D : Str) → starts u s ≡ true → deepest has d u ≡ Some D → In (D, u) (path has d s)
  path_meets d s u D h e =
      let m = deepest_cut d [] u D e in
      subst (λ o. In (D, u) (rest has [] s o)) (sym m.1) (walk_meets d s [] u m.0 D m.1 h e)

  -- and no other node
  pub path_only : (d s : Str) (k : Str × Str) → In k (path has d s) → (starts k.1 s ≡ true) × (deepest has d k.1 ≡ Some k.0)
  path_only d s k h = go (deepest has d []) refl h
    where
      go : (o : Option Str) → deepest has d [] ≡ o → In k (rest has [] s o) → (starts k.1 s ≡ true) × (deepest has d k.1 ≡ Some k.0)
      go None e l = absurd l
      go (Some D) e l = let m = walk_is d s [] D k e l in (rw m.1 m.2, m.3)
