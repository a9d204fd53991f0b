-- Lists with the same filters, in any order, have the same best, the same search and the same number of nodes.
use Rattle.std.proofs.Common.{◌≡◌, ℕ, suc, ◌+◌, ◌≤◌, Bool, true, false, cond, ◌&&◌, ◌||◌, ◌⊎◌, List, [], ◌∷◌, ◌++◌, map, length, None, Option, sym, refl, ap, ◌∙◌, subst, ap₂, inl, inr, arith}
use mathlib.Core.Path.{fun_ext}
use Rattle.std.proofs.lemmas.Bool.{both_ways, cases_Bool, and_parts, and_from, cond-true, cond-false}
use Rattle.kinds.specs.Strings.{Str, starts, equal}
use Rattle.kinds.proofs.Prefixes.{equal_refl, equal_same}
use Rattle.filters.specs.Rules.{Rule, matches, scan, best, count}
use Rattle.filters.specs.Orders.{In, Apart, Alike, Order}
use Rattle.filters.proofs.Bests.{good_each, best_all, best_from, good_both}
use Rattle.tries.specs.Prefixes.{fronts, any, total, flat, distinct}
use Rattle.tries.specs.Shape.{has_dst, has_src, dst_keys, src_keys, same_key, nodes}
use Rattle.tries.specs.Search.{way, path, visits, back_visits, choice}
use Rattle.tries.specs.Laws.{OrderIsNothing}
use Rattle.tries.proofs.Finds.{any_in, any_out}

-- ---- the best

pub best_alike : {C : Type 0} (lt : Rule C → Rule C → Bool) → Order lt → (F G : List (Rule C)) → Apart F → Alike F G → (p : Rule C → Bool) → best lt p F ≡ best lt p G
best_alike lt ord F G apart same p =
    good_both lt ord F apart (best lt p F) (best lt p G) (λ f e. (best_from lt p F f e).0) (λ f e. same.1 f (best_from lt p G f e).0)
    (good_each lt (best lt p F) (best lt p G) (λ f e. let m = best_from lt p G f e in best_all lt ord p F f (same.1 f m.0) m.1))
    (good_each lt (best lt p G) (best lt p F) (λ f e. let m = best_from lt p F f e in best_all lt ord p G f (same.0 f m.0) m.1))

-- ---- the nodes that there are

pub same_bool : (x y : Bool) → (x ≡ true → y ≡ true) → (y ≡ true → x ≡ true) → x ≡ y
same_bool true true f g = refl
same_bool true false f g = sym (f refl)
same_bool false true f g = g refl
same_bool false false f g = refl

pub any_alike : {A : Type 0} (p : A → Bool) (xs ys : List A) → ((x : A) → In x xs → In x ys) → ((x : A) → In x ys → In x xs) → any p xs ≡ any p ys
any_alike p xs ys f g =
    same_bool (any p xs) (any p ys) (λ h. let m = any_out p xs h in any_in p m.0 ys (f m.0 m.1) m.2)
    (λ h. let m = any_out p ys h in any_in p m.0 xs (g m.0 m.1) m.2)

module _ {C : Type 0} (F G : List (Rule C)) (same : Alike F G) where
  pub dst_alike : has_dst F ≡ has_dst G
  dst_alike = fun_ext (λ t. any_alike (λ (f : Rule C). starts t f.destination) F G same.0 same.1)

  pub src_alike : has_src F ≡ has_src G
  src_alike = fun_ext (λ D. fun_ext (λ s. any_alike (λ (f : Rule C). equal D f.destination && starts s f.source) F G same.0 same.1))

  pub visits_alike : (d s : Str) → visits F d s ≡ visits G d s
  visits_alike d s = ap₂ (λ (p : Str → Bool) (q : Str → Str → Bool). length (way p d) + length (path q d s)) dst_alike src_alike

  pub back_alike : (d s : Str) → back_visits F d s ≡ back_visits G d s
  back_alike d s =
      ap₂ (λ (p : Str → Bool) (q : Str → Str → Bool). length (way p d) + total (λ D. count (q D) (fronts s)) (way p d)) dst_alike src_alike

  pub choice_alike : (lt : Rule C → Rule C → Bool) → Order lt → Apart F → (d s : Str) → choice lt F d s ≡ choice lt G d s
  choice_alike lt ord apart d s =
      ap₂ (λ (k : Str × Str → Option (Rule C)) (q : Str → Str → Bool). scan lt None (map k (path q d s)))
      (fun_ext (λ (k : Str × Str). best_alike lt ord F G apart same (λ f. starts f.destination k.0 && starts f.source k.1))) src_alike

-- ---- the number of different elements depends on the members alone

-- the elements that are not x
abbrev without : {A : Type 0} → (A → A → Bool) → A → List A → List A
without eq x [] = []
without eq x (y ∷ ys) = cond (eq x y) (without eq x ys) (y ∷ without eq x ys)

module _ {A : Type 0} (eq : A → A → Bool) (whole : (x y : A) → eq x y ≡ true → x ≡ y) (own : (x : A) → eq x x ≡ true) where
  apart_sym : (x y : A) → eq x y ≡ false → eq y x ≡ false
  apart_sym x y h =
      elim (cases_Bool (eq y x)) [ inl t ↦ absurd (both_ways (eq x y) h (rw (whole y x t) (own x))) | inr f ↦ f ]

  in_without : (x z : A) (ys : List A) → In z ys → eq x z ≡ false → In z (without eq x ys)
  in_without x z [] h k = h
  in_without x z (y ∷ ys) (inl e) k =
      subst (λ (l : List A). In z l) (sym (cond-false (eq x y) (without eq x ys) (y ∷ without eq x ys) (rw e at k))) (inl e)
  in_without x z (y ∷ ys) (inr h) k =
      elim (eq x y) as (λ t. In z (cond t (without eq x ys) (y ∷ without eq x ys))) [ true ↦ in_without x z ys h k | false ↦ inr (in_without x z ys h k) ]

  any_without : (x y : A) (zs : List A) → eq x y ≡ false → any (eq y) (without eq x zs) ≡ any (eq y) zs
  any_without x y [] h = refl
  any_without x y (z ∷ zs) h = go (eq x z) refl (any_without x y zs h)
    where
      go : (t : Bool) → eq x z ≡ t → any (eq y) (without eq x zs) ≡ any (eq y) zs → any (eq y) (cond t (without eq x zs) (z ∷ without eq x zs)) ≡ (eq y z || any (eq y) zs)
      go true e ih =
          let f : eq y z ≡ false = rw (← whole x z e) (apart_sym x y h) in
          ih ∙ ap (λ t. t || any (eq y) zs) (sym f)
      go false e ih = ap (λ t. eq y z || t) ih

  distinct_without : (x : A) (ys : List A) → distinct eq ys ≡ cond (any (eq x) ys) 1 0 + distinct eq (without eq x ys)
  distinct_without x [] = refl
  distinct_without x (y ∷ ys) = go (eq x y) refl (distinct_without x ys)
    where
      itself : (t : Bool) (m n : ℕ) → m ≡ cond t 1 0 + n → cond t m (suc m) ≡ 1 + n
      itself true m n h = omega arith
      itself false m n h = omega arith

      other : (t q : Bool) (m n : ℕ) → m ≡ cond t 1 0 + n → cond q m (suc m) ≡ cond t 1 0 + cond q n (suc n)
      other t true m n h = h
      other t false m n h = omega arith

      go : (t : Bool) → eq x y ≡ t → distinct eq ys ≡ cond (any (eq x) ys) 1 0 + distinct eq (without eq x ys)
          → distinct eq (y ∷ ys) ≡ cond (t || any (eq x) ys) 1 0 + distinct eq (cond t (without eq x ys) (y ∷ without eq x ys))
      go true e ih =
          ap (λ (z : A). cond (any (eq z) ys) (distinct eq ys) (suc (distinct eq ys))) (sym (whole x y e))
          ∙ itself (any (eq x) ys) (distinct eq ys) (distinct eq (without eq x ys)) ih
      go false e ih =
          other (any (eq x) ys) (any (eq y) ys) (distinct eq ys) (distinct eq (without eq x ys)) ih
          ∙ ap (λ t. cond (any (eq x) ys) 1 0 + cond t (distinct eq (without eq x ys)) (suc (distinct eq (without eq x ys)))) (sym (any_without x y ys e))

  distinct_within : (xs ys : List A) → ((x : A) → In x xs → In x ys) → distinct eq xs ≤ distinct eq ys
  distinct_within [] ys sub = omega arith
  distinct_within (x ∷ xs) ys sub = go (any (eq x) xs) refl (λ zs. distinct_within xs zs)
    where
      there' : any (eq x) ys ≡ true
      there' = any_in (eq x) x ys (sub x (inl refl)) (own x)

      apart : any (eq x) xs ≡ false → (z : A) → In z xs → eq x z ≡ false
      apart e z h = elim (cases_Bool (eq x z)) [ inl t ↦ absurd (both_ways (any (eq x) xs) e (any_in (eq x) z xs h t)) | inr f ↦ f ]

      go : (t : Bool) → any (eq x) xs ≡ t → ((zs : List A) → ((z : A) → In z xs → In z zs) → distinct eq xs ≤ distinct eq zs)
          → cond t (distinct eq xs) (suc (distinct eq xs)) ≤ distinct eq ys
      go true e ih = ih ys (λ z h. sub z (inr h))
      go false e ih =
          let l = ih (without eq x ys) (λ z h. in_without x z ys (sub z (inr h)) (apart e z h)) in
          let w = distinct_without x ys in
          let c = cond-true {A = ℕ} (any (eq x) ys) 1 0 there' in
          omega arith

  pub distinct_same : (xs ys : List A) → ((x : A) → In x xs → In x ys) → ((x : A) → In x ys → In x xs) → distinct eq xs ≡ distinct eq ys
  distinct_same xs ys f g = let a = distinct_within xs ys f in let b = distinct_within ys xs g in omega arith

-- ---- the number of nodes

pub in_append_left : {A : Type 0} (y : A) (xs ys : List A) → In y xs → In y (xs ++ ys)
in_append_left y [] ys h = absurd h
in_append_left y (x ∷ xs) ys (inl e) = inl e
in_append_left y (x ∷ xs) ys (inr h) = inr (in_append_left y xs ys h)

pub in_append_right : {A : Type 0} (y : A) (xs ys : List A) → In y ys → In y (xs ++ ys)
in_append_right y [] ys h = h
in_append_right y (x ∷ xs) ys h = inr (in_append_right y xs ys h)

append_in : {A : Type 0} (y : A) (xs ys : List A) → In y (xs ++ ys) → In y xs ⊎ In y ys
append_in y [] ys h = inr h
append_in y (x ∷ xs) ys (inl e) = inl (inl e)
append_in y (x ∷ xs) ys (inr h) = elim (append_in y xs ys h) [ inl k ↦ inl (inr k) | inr k ↦ inr k ]

pub in_flat : {A B : Type 0} (f : A → List B) (x : A) (y : B) (xs : List A) → In x xs → In y (f x) → In y (flat f xs)
in_flat f x y [] h k = absurd h
in_flat f x y (z ∷ zs) (inl e) k = in_append_left y (f z) (flat f zs) (rw e at k)
in_flat f x y (z ∷ zs) (inr h) k = in_append_right y (f z) (flat f zs) (in_flat f x y zs h k)

pub flat_in : {A B : Type 0} (f : A → List B) (y : B) (xs : List A) → In y (flat f xs) → (x : A) × In x xs × In y (f x)
flat_in f y [] h = absurd h
flat_in f y (x ∷ xs) h =
    elim (append_in y (f x) (flat f xs) h) [
      | inl k ↦ (x, inl refl, k)
      | inr k ↦ let m = flat_in f y xs k in (m.0, inr m.1, m.2)
    ]

flat_within : {A B : Type 0} (f : A → List B) (xs ys : List A) → ((x : A) → In x xs → In x ys) → (y : B) → In y (flat f xs) → In y (flat f ys)
flat_within f xs ys sub y h = let m = flat_in f y xs h in in_flat f m.0 y ys (sub m.0 m.1) m.2

pub same_key_lem : (k l : Str × Str) → same_key k l ≡ true → k ≡ l
same_key_lem k l h =
    let p = and_parts (equal k.0 l.0) (equal k.1 l.1) h in
    let a = equal_same k.0 l.0 p.0 in
    let b = equal_same k.1 l.1 p.1 in
    λ i. (a i, b i)

pub nodes_alike : {C : Type 0} (F G : List (Rule C)) → Alike F G → nodes F ≡ nodes G
nodes_alike {C = C} F G same =
    ap₂ (λ m n. m + n)
    (distinct_same equal equal_same equal_refl (dst_keys F) (dst_keys G) (flat_within (λ (f : Rule C). fronts f.destination) F G same.0)
    (flat_within (λ (f : Rule C). fronts f.destination) G F same.1))
    (distinct_same same_key same_key_lem (λ k. and_from (equal k.0 k.0) (equal k.1 k.1) (equal_refl k.0) (equal_refl k.1)) (src_keys F) (src_keys G)
    (flat_within (λ (f : Rule C). map (λ s. (f.destination, s)) (fronts f.source)) F G same.0)
    (flat_within (λ (f : Rule C). map (λ s. (f.destination, s)) (fronts f.source)) G F same.1))

pub order_is_nothing : {C : Type 0} → OrderIsNothing C
order_is_nothing lt ord F G apart same d s =
    (best_alike lt ord F G apart same (matches d s), choice_alike F G same lt ord apart d s, visits_alike F G same d s, back_alike F G same d s, nodes_alike F G same)
