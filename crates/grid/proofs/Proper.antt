-- The longest proper prefix that passes a test.
use Rattle.std.proofs.Common.{◌≡◌, ◌<◌, Bool, true, false, cond, ◌⊎◌, [], ◌∷◌, ◌++◌, length, Some, None, Option, sym, refl, ap, ◌∙◌, subst, inl, inr, arith}
use Rattle.std.proofs.lemmas.List.{length_push}
use Rattle.std.proofs.lemmas.Bool.{both_ways, or_cases}
use Rattle.kinds.specs.Strings.{Str, starts, equal, snoc}
use Rattle.kinds.proofs.Prefixes.{starts_length, starts_more, equal_same}
use Rattle.filters.proofs.Bests.{none_some}
use Rattle.tries.specs.Prefixes.{further, longest, longest_proper}
use Rattle.tries.specs.Shape.{next}
use Rattle.tries.proofs.Longest.{longest_some, longest_has, longest_deep, longest_or}
use Rattle.tries.proofs.Walks.{step}
use Rattle.grid.proofs.Paths.{starts_snoc}

-- a string is empty or has a last bit
pub last_of : (t : Str) → (t ≡ []) ⊎ ((u : Str) × (c : Bool) × (t ≡ snoc u c))
last_of [] = inl refl
last_of (b ∷ t) =
    elim (last_of t) [
      | inl e ↦ inr ([], b, ap {B = Str} (λ r. b ∷ r) e)
      | inr w ↦ inr (b ∷ w.0, w.1, ap {B = Str} (λ r. b ∷ r) w.2)
    ]

-- the proper prefixes of t·c are the prefixes of t
pub proper_snoc : (p : Str → Bool) (t : Str) (c : Bool) → longest_proper p (snoc t c) ≡ longest p t
proper_snoc p [] c = go (p [])
  where
    go : (x : Bool) → further c x None ≡ cond x (Some []) None
    go true = refl
    go false = refl
proper_snoc p (b ∷ t) c = ap (λ (o : Option Str). further b (p []) o) (proper_snoc (λ u. p (b ∷ u)) t c)

-- it passes, and it is a shorter prefix
pub proper_some : (p : Str → Bool) (t u : Str) → longest_proper p t ≡ Some u → (p u ≡ true) × (starts u t ≡ true) × (length u < length t)
proper_some p t u e =
    elim (last_of t) [
      | inl z ↦ absurd (none_some u (ap (longest_proper p) (sym z) ∙ e))
      | inr w ↦
          let m = longest_some p w.0 u (sym (proper_snoc p w.0 w.1) ∙ ap (longest_proper p) (sym w.2) ∙ e) in
          let l = starts_length u w.0 m.0 in
          let k = length_push w.0 w.1 in
          let z = ap (λ (x : Str). length x) w.2 in
          (m.1, subst (λ (x : Str). starts u x ≡ true) (sym w.2) (starts_more u w.0 (w.1 ∷ []) m.0), omega arith)
    ]

-- where a shorter prefix passes, there is a longest, and that prefix is a prefix of it
pub proper_has : (p : Str → Bool) (t u : Str) → starts u t ≡ true → (u ≡ t → ⊥) → p u ≡ true → (v : Str) × (longest_proper p t ≡ Some v) × (starts u v ≡ true)
proper_has p t u h ne k =
    elim (last_of t) [
      | inl z ↦ absurd (ne (empty u (subst (λ (x : Str). starts u x ≡ true) z h) ∙ sym z))
      | inr w ↦
          elim (or_cases (starts u w.0) (equal u (snoc w.0 w.1)) (sym (starts_snoc u w.0 w.1) ∙ subst (λ (x : Str). starts u x ≡ true) w.2 h)) [
            | inl i ↦
                let m = longest_has p w.0 u i k in
                (m.0, ap (longest_proper p) w.2 ∙ proper_snoc p w.0 w.1 ∙ m.1, longest_deep p w.0 m.0 u m.1 i k)
            | inr i ↦ absurd (ne (equal_same u (snoc w.0 w.1) i ∙ sym w.2))
          ]
    ]
  where
    empty : (x : Str) → starts x [] ≡ true → x ≡ []
    empty [] i = refl
    empty (a ∷ x) i = absurd (both_ways false refl i)

-- one bit more of the string
pub proper_more : (p : Str → Bool) (t : Str) (b : Bool) → longest_proper p (snoc t b) ≡ cond (p t) (Some t) (longest_proper p t)
proper_more p t b = proper_snoc p t b ∙ longest_or p t

-- ---- a test that passes for each shorter source string
module _ (has : Str → Str → Bool) (cut : (P u v : Str) → has P (u ++ v) ≡ true → has P u ≡ true) where
  -- from the node beside (D, s) the step by b leads to the node beside (D, s·b)
  pub proper_step : (D s A : Str) (b : Bool) → longest_proper (λ P. has P s) D ≡ Some A → next has A s b ≡ longest_proper (λ P. has P (snoc s b)) D
  proper_step D s A b e =
      elim (last_of D) [
        | inl z ↦ absurd (none_some A (ap (longest_proper (λ P. has P s)) (sym z) ∙ e))
        | inr w ↦
            step has cut w.0 s A b (sym (proper_snoc (λ P. has P s) w.0 w.1) ∙ ap (longest_proper (λ P. has P s)) (sym w.2) ∙ e)
            ∙ sym (proper_snoc (λ P. has P (snoc s b)) w.0 w.1)
            ∙ ap (longest_proper (λ P. has P (snoc s b))) (sym w.2)
      ]

  -- where no node is beside (D, s), none is beside (D, s·b)
  pub proper_gone : (D s : Str) (b : Bool) → longest_proper (λ P. has P s) D ≡ None → longest_proper (λ P. has P (snoc s b)) D ≡ None
  proper_gone D s b e = go (longest_proper (λ P. has P (snoc s b)) D) refl
    where
      go : (o : Option Str) → longest_proper (λ P. has P (snoc s b)) D ≡ o → longest_proper (λ P. has P (snoc s b)) D ≡ None
      go None q = q
      go (Some A) q =
          let m = proper_some (λ P. has P (snoc s b)) D A q in
          let l = m.2 in
          let ne : A ≡ D → ⊥ = λ z. (let y = ap (λ (x : Str). length x) z in omega arith) in
          let n = proper_has (λ P. has P s) D A m.1 ne (cut A s (b ∷ []) m.0) in
          absurd (none_some n.0 (sym e ∙ n.1))
