-- The keys of a grid, each once, are as many as its nodes.
use Rattle.std.proofs.Common.{◌≡◌, suc, ◌+◌, Bool, true, not, ◌&&◌, ◌||◌, List, [], ◌∷◌, length, sym, refl, ap, ◌∙◌, subst, arith}
use Rattle.std.proofs.lemmas.Bool.{and_parts, and_from, not-true, cond-false}
use Rattle.kinds.specs.Strings.{Str, equal}
use Rattle.kinds.proofs.Prefixes.{equal_same, equal_refl}
use Rattle.filters.specs.Rules.{Rule}
use Rattle.filters.specs.Orders.{In}
use Rattle.tries.specs.Prefixes.{any, distinct}
use Rattle.tries.specs.Shape.{dst_keys, src_keys, same_key, nodes}
use Rattle.tries.proofs.Finds.{any_in, any_out}
use Rattle.tries.proofs.Same.{distinct_same, same_key_lem}
use Rattle.tries.proofs.Keys.{dst_key, src_key}
use Rattle.grid.specs.Derived.{Key, destination, source, key_eq, is_key, once}

-- the strings of the destination keys, and those of the source keys
abbrev dsts : List Key → List Str
dsts [] = []
dsts (destination t ∷ ks) = t ∷ dsts ks
dsts (source D s ∷ ks) = dsts ks

abbrev srcs : List Key → List (Str × Str)
srcs [] = []
srcs (destination t ∷ ks) = srcs ks
srcs (source D s ∷ ks) = (D, s) ∷ srcs ks

parts : (ks : List Key) → length ks ≡ length (dsts ks) + length (srcs ks)
parts [] = refl
parts (destination t ∷ ks) = let e = parts ks in omega arith
parts (source D s ∷ ks) = let e = parts ks in omega arith

any_dsts : (t : Str) (ks : List Key) → any (key_eq (destination t)) ks ≡ any (equal t) (dsts ks)
any_dsts t [] = refl
any_dsts t (destination u ∷ ks) = ap (λ (b : Bool). equal t u || b) (any_dsts t ks)
any_dsts t (source D s ∷ ks) = any_dsts t ks

any_srcs : (D s : Str) (ks : List Key) → any (key_eq (source D s)) ks ≡ any (same_key (D, s)) (srcs ks)
any_srcs D s [] = refl
any_srcs D s (destination u ∷ ks) = any_srcs D s ks
any_srcs D s (source E u ∷ ks) = ap (λ (b : Bool). (equal D E && equal s u) || b) (any_srcs D s ks)

-- each string is counted
count_dsts : (ks : List Key) → once ks ≡ true → distinct equal (dsts ks) ≡ length (dsts ks)
count_dsts [] h = refl
count_dsts (destination t ∷ ks) h =
    let p = and_parts (not (any (key_eq (destination t)) ks)) (once ks) h in
    let n = sym (any_dsts t ks) ∙ not-true (any (key_eq (destination t)) ks) p.0 in
    cond-false (any (equal t) (dsts ks)) (distinct equal (dsts ks)) (suc (distinct equal (dsts ks))) n ∙ ap suc (count_dsts ks p.1)
count_dsts (source D s ∷ ks) h = count_dsts ks (and_parts (not (any (key_eq (source D s)) ks)) (once ks) h).1

count_srcs : (ks : List Key) → once ks ≡ true → distinct same_key (srcs ks) ≡ length (srcs ks)
count_srcs [] h = refl
count_srcs (destination t ∷ ks) h = count_srcs ks (and_parts (not (any (key_eq (destination t)) ks)) (once ks) h).1
count_srcs (source D s ∷ ks) h =
    let p = and_parts (not (any (key_eq (source D s)) ks)) (once ks) h in
    let n = sym (any_srcs D s ks) ∙ not-true (any (key_eq (source D s)) ks) p.0 in
    cond-false (any (same_key (D, s)) (srcs ks)) (distinct same_key (srcs ks)) (suc (distinct same_key (srcs ks))) n ∙ ap suc (count_srcs ks p.1)

-- lists in which the same elements are found have as many different ones
found_alike : {A : Type 0} (eq : A → A → Bool) → ((x y : A) → eq x y ≡ true → x ≡ y) → ((x : A) → eq x x ≡ true) → (xs ys : List A)
    → ((x : A) → any (eq x) xs ≡ any (eq x) ys) → distinct eq xs ≡ distinct eq ys
found_alike {A} eq same own xs ys e = distinct_same eq same own xs ys (within xs ys e) (within ys xs (λ x. sym (e x)))
  where
    within : (us vs : List A) → ((x : A) → any (eq x) us ≡ any (eq x) vs) → (x : A) → In x us → In x vs
    within us vs k x h =
        let m = any_out (eq x) vs (sym (k x) ∙ any_in (eq x) x us h (own x)) in
        subst (λ (y : A). In y vs) (sym (same x m.0 m.2)) m.1

pub keys_count : {C : Type 0} (F : List (Rule C)) (keys : List Key) → once keys ≡ true → ((k : Key) → any (key_eq k) keys ≡ is_key F k) → length keys ≡ nodes F
keys_count F keys h whole =
    let a = count_dsts keys h in
    let b = count_srcs keys h in
    let c = found_alike equal equal_same equal_refl (dsts keys) (dst_keys F) (λ t. sym (any_dsts t keys) ∙ whole (destination t) ∙ sym (dst_key F t)) in
    let d = found_alike same_key same_key_lem (λ k. and_from (equal k.0 k.0) (equal k.1 k.1) (equal_refl k.0) (equal_refl k.1)) (srcs keys) (src_keys F)
    (λ k. sym (any_srcs k.0 k.1 keys) ∙ whole (source k.0 k.1) ∙ sym (src_key F k.0 k.1)) in
    let e = parts keys in
    omega arith
