-- The first place of a label.
use Rattle.std.proofs.Common.{◌≡◌, ℕ, zero, suc, ◌+◌, ◌<◌, true, false, cond, ◌||◌, eqb, List, [], ◌∷◌, ◌++◌, map, length, get_or, take, drop, is_some, Some, sym, refl, ap, ◌∙◌, arith}
use Rattle.std.specs.List.{position, position_from}
use Rattle.std.proofs.lemmas.Iterator.Adapters.{position_from-zero}
use Rattle.std.proofs.lemmas.List.Quantifiers.{position-Some}
use Rattle.tables.specs.Verdict.{has}
use Rattle.book.specs.Labels.{without}

module _ {X : Type 0} (label : X → ℕ) (n : ℕ) where
  has_from : (i : ℕ) (xs : List X) → is_some (position_from (λ x. eqb (label x) n) i xs) ≡ has n (map label xs)
  has_from i [] = refl
  has_from i (x ∷ xs) =
      elim (eqb (label x) n) as (λ b. is_some (cond b (Some i) (position_from (λ y. eqb (label y) n) (i + 1) xs)) ≡ (b || has n (map label xs))) [ true ↦ refl | false ↦ has_from (i + 1) xs ]

  -- a search tells whether the label is there
  pub has_position : (xs : List X) → is_some (position (λ x. eqb (label x) n) xs) ≡ has n (map label xs)
  has_position xs = ap is_some (position_from-zero (λ x. eqb (label x) n) xs) ∙ has_from 0 xs

  without_first : (xs : List X) (k : ℕ) (d : X) → k < length xs → eqb (label (get_or xs k d)) n ≡ true → ((j : ℕ) → j < k → eqb (label (get_or xs j d)) n ≡ false) → without label n xs ≡ take k xs ++ drop (suc k) xs
  without_first [] k d h e b = absurd (omega arith)
  without_first (x ∷ xs) zero d h e b = rw e refl
  without_first (x ∷ xs) (suc k) d h e b = rw (b 0 (omega arith)) (ap {B = List X} (λ ys. x ∷ ys) (without_first xs k d (omega arith) e (λ j l. b (suc j) (omega arith))))

  -- taking out the first element of a label closes the gap that it leaves
  pub without_at : (xs : List X) (k : ℕ) → Some k ≡ position (λ x. eqb (label x) n) xs → (k < length xs) × (without label n xs ≡ take k xs ++ drop (suc k) xs)
  without_at [] k e = cc
  without_at (x ∷ xs) k e =
      let p = position-Some (λ y. eqb (label y) n) (x ∷ xs) k x (sym e) in
      (p.0, without_first (x ∷ xs) k x p.0 p.1 p.2)
