-- A grid has at most one node and, for each filter, both widths and one more.
use Rattle.std.proofs.Common.{◌≡◌, suc, ◌+◌, ◌≤◌, Bool, true, false, cond, List, [], ◌∷◌, ◌++◌, map, length, refl, ap, ◌∙◌, subst, suc-mul, arith}
use lib.ListN.{length-map}
use Rattle.std.proofs.lemmas.Bool.{cond-true, or_right}
use Rattle.kinds.specs.Strings.{Str, equal}
use Rattle.filters.specs.Rules.{Rule}
use Rattle.tries.specs.Prefixes.{fronts, any, distinct}
use Rattle.tries.specs.Shape.{dst_keys, src_keys, same_key}
use Rattle.tries.specs.Laws.{NodesFew}

pub length_fronts : (t : Str) → length (fronts t) ≡ suc (length t)
length_fronts [] = refl
length_fronts (b ∷ t) = ap suc (length-map (fronts t) (λ (u : Str). b ∷ u) ∙ length_fronts t)

pub any_append : {A : Type 0} (p : A → Bool) (xs ys : List A) → any p ys ≡ true → any p (xs ++ ys) ≡ true
any_append p [] ys h = h
any_append p (x ∷ xs) ys h = or_right (p x) (any p (xs ++ ys)) (any_append p xs ys h)

module _ {A : Type 0} (eq : A → A → Bool) where
  distinct_more : (x : A) (xs : List A) → distinct eq (x ∷ xs) ≤ suc (distinct eq xs)
  distinct_more x xs = elim (any (eq x) xs) as (λ t. cond t (distinct eq xs) (suc (distinct eq xs)) ≤ suc (distinct eq xs)) [ true ↦ omega arith | false ↦ omega arith ]

  distinct_append : (xs ys : List A) → distinct eq (xs ++ ys) ≤ length xs + distinct eq ys
  distinct_append [] ys = omega arith
  distinct_append (x ∷ xs) ys = let m = distinct_more x (xs ++ ys) in let ih = distinct_append xs ys in omega arith

  -- an element that stands again further on is not counted here
  distinct_again : (x : A) (xs ys : List A) → any (eq x) ys ≡ true → distinct eq (x ∷ xs ++ ys) ≤ length xs + distinct eq ys
  distinct_again x xs ys h =
      let a = any_append (eq x) xs ys h in
      let e = cond-true (any (eq x) (xs ++ ys)) (distinct eq (xs ++ ys)) (suc (distinct eq (xs ++ ys))) a in
      let m = distinct_append xs ys in
      omega arith

  -- the same of a list f [] ∷ map f .. of the prefixes of t
  fronts_again : (f : Str → A) (t : Str) (ys : List A) → any (eq (f [])) ys ≡ true → distinct eq (map f (fronts t) ++ ys) ≤ length t + distinct eq ys
  fronts_again f [] ys h = distinct_again (f []) [] ys h
  fronts_again f (b ∷ t) ys h =
      let n = length-map (map (λ u. b ∷ u) (fronts t)) f in
      let m = length-map (fronts t) (λ (u : Str). b ∷ u) in
      let l = length_fronts t in
      let a = distinct_again (f []) (map f (map (λ u. b ∷ u) (fronts t))) ys h in
      omega arith

map_same : {A : Type 0} (xs : List A) → map (λ x. x) xs ≡ xs
map_same [] = refl
map_same {A = A} (x ∷ xs) = ap {B = List A} (λ r. x ∷ r) (map_same xs)

-- each further filter adds at most one node a bit of its destination
dst_again : {C : Type 0} (f g : Rule C) (G : List (Rule C)) → distinct equal (dst_keys (f ∷ g ∷ G)) ≤ length f.destination + distinct equal (dst_keys (g ∷ G))
dst_again f g G =
    subst (λ (xs : List Str). distinct equal (xs ++ dst_keys (g ∷ G)) ≤ length f.destination + distinct equal (dst_keys (g ∷ G))) (map_same (fronts f.destination))
    (fronts_again equal (λ u. u) f.destination (dst_keys (g ∷ G)) (starts_empty g.destination))
  where
    starts_empty : (t : Str) → any (equal []) (fronts t ++ dst_keys G) ≡ true
    starts_empty [] = refl
    starts_empty (b ∷ t) = refl

-- and one node a bit of its source, and one more
src_again : {C : Type 0} (f : Rule C) (G : List (Rule C)) → distinct same_key (src_keys (f ∷ G)) ≤ suc (length f.source) + distinct same_key (src_keys G)
src_again f G =
    let a = distinct_append same_key (map (λ s. (f.destination, s)) (fronts f.source)) (src_keys G) in
    let n = length-map {B = Str × Str} (fronts f.source) (λ s. (f.destination, s)) in
    let l = length_fronts f.source in
    omega arith

pub nodes_few : {C : Type 0} → NodesFew C
nodes_few [] wd ws e = omega arith
nodes_few (f ∷ []) wd ws e =
    let a = distinct_append equal (fronts f.destination) [] in
    let l = length_fronts f.destination in
    let b = src_again f [] in
    omega arith
nodes_few (f ∷ g ∷ G) wd ws e =
    let ih = nodes_few (g ∷ G) wd ws e.1 in
    let a = dst_again f g G in
    let b = src_again f (g ∷ G) in
    let m = suc-mul (suc (length G)) (wd + ws + 1) in
    let n = suc-mul (length G) (wd + ws + 1) in
    omega arith
