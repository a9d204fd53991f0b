-- A book after a filter was taken out.
use Rattle.std.proofs.Common.{◌≡◌, ℕ, suc, ◌+◌, ◌-◌, ◌<◌, ◌≤◌, true, false, cond, not, ◌&&◌, eqb, List, [], ◌∷◌, ◌++◌, map, length, take, drop, Some, sym, refl, ap, ◌∙◌, arith}
use lib.Seq.{paste}
use Rattle.std.proofs.lemmas.List.Edits.{take-paste}
use Rattle.std.proofs.lemmas.List.{take-take, drop-take, length-drop, length-take-le}
use Rattle.std.proofs.lemmas.Bool.{and_parts, and_from, or_from, or_parts, not-true, not_from_false}
use Rattle.filters.specs.Meaning.{Record}
use Rattle.tables.specs.Verdict.{has}
use Rattle.book.specs.Labels.{apart, without}
use Rattle.tables.specs.Verdict.{labels}
use Rattle.std.specs.List.{position}
use Rattle.book.proofs.Found.{without_at}

module _ {X : Type 0} (label : X → ℕ) where
  -- what is not among the labels is not among fewer
  pub still_none : (n m : ℕ) (xs : List X) → has m (map label xs) ≡ false → has m (map label (without label n xs)) ≡ false
  still_none n m [] h = refl
  still_none n m (x ∷ xs) h =
      let p = or_parts (eqb (label x) m) (has m (map label xs)) h in
      elim (eqb (label x) n) as (λ t. has m (map label (cond t xs (x ∷ without label n xs))) ≡ false)
      [ true ↦ p.1 | false ↦ or_from (eqb (label x) m) (has m (map label (without label n xs))) p.0 (still_none n m xs p.1) ]

  pub fewer_apart : (n : ℕ) (xs : List X) → apart (map label xs) ≡ true → apart (map label (without label n xs)) ≡ true
  fewer_apart n [] a = refl
  fewer_apart n (x ∷ xs) a =
      let p = and_parts (not (eqb (label x) 0)) (not (has (label x) (map label xs)) && apart (map label xs)) a in
      let q = and_parts (not (has (label x) (map label xs))) (apart (map label xs)) p.1 in
      elim (eqb (label x) n) as (λ t. apart (map label (cond t xs (x ∷ without label n xs))) ≡ true) [
        | true ↦ q.1
        | false ↦
            and_from (not (eqb (label x) 0)) (not (has (label x) (map label (without label n xs))) && apart (map label (without label n xs))) p.0
            (and_from (not (has (label x) (map label (without label n xs)))) (apart (map label (without label n xs)))
            (not_from_false (has (label x) (map label (without label n xs))) (still_none n (label x) xs (not-true (has (label x) (map label xs)) q.0)))
            (fewer_apart n xs q.1))
      ]

module _ {D S P : Type 0} (xs : List (Record D S P)) (u at n : ℕ) (fits : u ≤ length xs) (found : Some at ≡ position (λ r. eqb r.label n) (take u xs)) where
  pub at_inside : at < u
  at_inside = omega (arith, (without_at (λ (r : Record D S P). r.label) n (take u xs) at found).0, length-take-le u xs fits)

  -- the places in use after later ones have moved down
  pub moved_are : take at xs ++ take (u - 1 - at) (drop (suc at) xs) ≡ without (λ r. r.label) n (take u xs)
  moved_are =
      let h = at_inside in
      let e : suc at + (u - 1 - at) ≡ u = omega arith in
      sym
      ((without_at (λ (r : Record D S P). r.label) n (take u xs) at found).1
      ∙ ap (λ (ys : List (Record D S P)). ys ++ drop (suc at) (take u xs)) (take-take at u xs (omega arith))
      ∙ ap (λ (k : ℕ). take at xs ++ drop (suc at) (take k xs)) (sym e)
      ∙ ap (λ (ys : List (Record D S P)). take at xs ++ ys) (drop-take (suc at) (u - 1 - at) xs))

  pub memory_is : (ys : List (Record D S P)) → ys ≡ paste xs at (drop (suc at) xs) (u - 1 - at) → ys ≡ without (λ r. r.label) n (take u xs) ++ drop (u - 1) xs
  memory_is ys p =
      let h = at_inside in
      let e : at + (u - 1 - at) ≡ u - 1 = omega arith in
      p
      ∙ ap (λ (ws : List (Record D S P)). ws ++ drop (at + (u - 1 - at)) xs) moved_are
      ∙ ap (λ (k : ℕ). without (λ r. r.label) n (take u xs) ++ drop k xs) e

  -- the places in use, k of them
  pub used_are : (ys : List (Record D S P)) (k : ℕ) → k ≡ u - 1 → ys ≡ paste xs at (drop (suc at) xs) (u - 1 - at) → take k ys ≡ without (λ r. r.label) n (take u xs)
  used_are ys k q p =
      let h = at_inside in
      let l = length-drop (suc at) xs in
      let e : k ≡ at + (u - 1 - at) = omega arith in
      ap (λ (j : ℕ). take j ys) e ∙ ap (take (at + (u - 1 - at))) p ∙ take-paste xs at (drop (suc at) xs) (u - 1 - at) (omega arith) (omega arith) ∙ moved_are

  pub left_apart : (ys : List (Record D S P)) (k : ℕ) → k ≡ u - 1 → ys ≡ paste xs at (drop (suc at) xs) (u - 1 - at) → apart (labels (take u xs)) ≡ true → apart (labels (take k ys)) ≡ true
  left_apart ys k q p a = ap (λ (ws : List (Record D S P)). apart (labels ws)) (used_are ys k q p) ∙ fewer_apart (λ (r : Record D S P). r.label) n (take u xs) a
