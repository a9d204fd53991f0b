-- How many nodes a search visits: in closed form, at most one a bit and the two roots, and at most those of backtracking.
use Rattle.std.proofs.Common.{◌≡◌, suc, ◌+◌, ◌≤◌, Bool, true, false, cond, ◌||◌, List, [], ◌∷◌, ◌++◌, map, length, Some, None, Option, sym, refl, ap, ◌∙◌, subst, ap₂, inl, inr, append_assoc, append-nil, arith}
use mathlib.Core.Bool.{beq}
use lib.ListN.{length-map}
use Rattle.std.proofs.lemmas.Bool.{both_ways, cases_Bool, and_parts, cond-true}
use Rattle.kinds.specs.Strings.{Str, starts, snoc}
use Rattle.kinds.proofs.Prefixes.{beq_same, starts_length}
use Rattle.filters.specs.Rules.{count}
use Rattle.filters.specs.Orders.{In}
use Rattle.filters.proofs.Bests.{in_map}
use Rattle.tries.specs.Prefixes.{fronts, further, longest, any, total, until}
use Rattle.tries.specs.Shape.{has_dst, has_src, deepest}
use Rattle.tries.specs.Search.{walk, way, path, visits, back_visits, is_there, reach}
use Rattle.tries.specs.Laws.{VisitsFew, VisitsAre}
use Rattle.tries.proofs.Longest.{longest_some, longest_never}
use Rattle.tries.proofs.Walks.{rest, step, deepest_cut}
use Rattle.tries.proofs.Finds.{any_in, dst_front, src_front, src_dst}

-- ---- a string with its longest prefix

reach_further : (b : Bool) (o : Option Str) → reach (further b true o) ≡ suc (reach o)
reach_further b None = refl
reach_further b (Some u) = omega arith

-- no longer string passes, where u does not
shut : (p : Str → Bool) (u : Str) → ((v : Str) → p (u ++ v) ≡ true → p u ≡ true) → p u ≡ false → (v : Str) → p (u ++ v) ≡ false
shut p u cut e v =
    elim (cases_Bool (p (u ++ v))) [ inl t ↦ absurd (both_ways (p u) e (cut v t)) | inr f ↦ f ]

pub reach_short : (p : Str → Bool) (t : Str) → reach (longest p t) ≤ length t + 1
reach_short p t = go (longest p t) refl
  where
    go : (o : Option Str) → longest p t ≡ o → reach o ≤ length t + 1
    go None e = omega arith
    go (Some u) e = let l = starts_length u t (longest_some p t u e).0 in omega arith

-- ---- until, over the prefixes of a string

pub until_map : {A B : Type 0} (p : B → Bool) (f : A → B) (xs : List A) → until p (map f xs) ≡ map f (until (λ x. p (f x)) xs)
until_map p f [] = refl
until_map {B = B} p f (x ∷ xs) =
    elim (p (f x)) as (λ t. cond t (f x ∷ until p (map f xs)) [] ≡ map f (cond t (x ∷ until (λ y. p (f y)) xs) []))
    [ true ↦ ap {B = List B} (λ r. f x ∷ r) (until_map p f xs) | false ↦ refl ]

-- the prefixes that pass, up to the first that does not, are those of the longest that passes
pub until_reach : (p : Str → Bool) → ((u v : Str) → p (u ++ v) ≡ true → p u ≡ true) → (t : Str) → length (until p (fronts t)) ≡ reach (longest p t)
until_reach p cut [] = elim (p []) as (λ x. length {A = Str} (cond x ([] ∷ []) []) ≡ reach (cond x (Some []) None)) [ true ↦ refl | false ↦ refl ]
until_reach p cut (b ∷ t) =
    go (p []) refl
    (ap length (until_map p (λ (u : Str). b ∷ u) (fronts t))
    ∙ length-map (until (λ u. p (b ∷ u)) (fronts t)) (λ (u : Str). b ∷ u)
    ∙ until_reach (λ u. p (b ∷ u)) (λ u v. cut (b ∷ u) v) t)
  where
    go : (x : Bool) → p [] ≡ x → length (until p (map (λ u. b ∷ u) (fronts t))) ≡ reach (longest (λ u. p (b ∷ u)) t)
        → length {A = Str} (cond x ([] ∷ until p (map (λ u. b ∷ u) (fronts t))) []) ≡ reach (further b x (longest (λ u. p (b ∷ u)) t))
    go true e ih = ap suc ih ∙ sym (reach_further b (longest (λ u. p (b ∷ u)) t))
    go false e ih =
        let n = longest_never (λ u. p (b ∷ u)) t (λ u. shut p [] (cut []) e (b ∷ u)) in
        rw n refl

-- a prefix that passes is among those that pass up to the first that does not
pub in_until : (p : Str → Bool) → ((u v : Str) → p (u ++ v) ≡ true → p u ≡ true) → (t u : Str) → starts u t ≡ true → p u ≡ true → In u (until p (fronts t))
in_until p cut [] [] h k = subst (λ (xs : List Str). In [] xs) (sym (cond-true (p []) ([] ∷ []) [] k)) (inl refl)
in_until p cut [] (a ∷ u) h k = absurd (both_ways false refl h)
in_until p cut (b ∷ t) [] h k =
    subst (λ (xs : List Str). In [] xs) (sym (cond-true (p []) ([] ∷ until p (map (λ v. b ∷ v) (fronts t))) [] k)) (inl refl)
in_until p cut (b ∷ t) (a ∷ u) h k =
    let h' = and_parts (beq a b) (starts u t) h in
    let q = beq_same a b h'.0 in
    let k' : p (b ∷ u) ≡ true = rw q at k in
    let on = in_map (λ (v : Str). b ∷ v) u (until (λ v. p (b ∷ v)) (fronts t)) (in_until (λ v. p (b ∷ v)) (λ v w. cut (b ∷ v) w) t u h'.1 k') in
    let on' = subst (λ (xs : List Str). In (b ∷ u) xs) (sym (until_map p (λ (v : Str). b ∷ v) (fronts t))) on in
    subst (λ (xs : List Str). In (a ∷ u) xs) (sym (cond-true (p []) ([] ∷ until p (map (λ v. b ∷ v) (fronts t))) [] (cut [] (a ∷ u) k)))
    (inr (subst (λ (c : Bool). In (c ∷ u) (until p (map (λ v. b ∷ v) (fronts t)))) (sym q) on'))

-- ---- the source nodes of a search
module _ (has : Str → Str → Bool) (cut : (P u v : Str) → has P (u ++ v) ≡ true → has P u ≡ true) (d : Str) where
  -- some prefix of d has a source node for u
  abbrev pub there : Str → Bool
  there u = is_there (deepest has d u)

  pub there_some : (u : Str) → there u ≡ true → (A : Str) × (deepest has d u ≡ Some A)
  there_some u h = go (deepest has d u) refl
    where
      go : (o : Option Str) → deepest has d u ≡ o → (A : Str) × (deepest has d u ≡ Some A)
      go None e = absurd (both_ways (there u) (ap is_there e) h)
      go (Some A) e = (A, e)

  pub there_cut : (u v : Str) → there (u ++ v) ≡ true → there u ≡ true
  there_cut u v h = let m = there_some (u ++ v) h in ap is_there (deepest_cut has cut d u v m.0 m.1).1

  -- a walk from the deepest node of u has a node for each bit that a source node is there for
  walk_reach : (r u D : Str) (test : Str → Bool) → ((v : Str) → test v ≡ there (u ++ v)) → deepest has d u ≡ Some D → length (walk has D u r) ≡ reach (longest test r)
  walk_reach [] u D test same e =
      let t : test [] ≡ true = same [] ∙ ap there (append-nil u) ∙ ap is_there e in
      sym (ap reach (cond-true (test []) (Some []) None t))
  walk_reach (b ∷ r) u D test same e =
      let t : test [] ≡ true = same [] ∙ ap there (append-nil u) ∙ ap is_there e in
      ap (λ (o : Option Str). suc (length (rest has (snoc u b) r o))) (step has cut d u D b e)
      ∙ ap suc (go (deepest has d (snoc u b)) refl (λ A. walk_reach r (snoc u b) A (λ v. test (b ∷ v)) same'))
      ∙ sym (reach_further b (longest (λ v. test (b ∷ v)) r))
      ∙ ap (λ x. reach (further b x (longest (λ v. test (b ∷ v)) r))) (sym t)
    where
      same' : (v : Str) → test (b ∷ v) ≡ there (snoc u b ++ v)
      same' v = same (b ∷ v) ∙ ap there (sym (append_assoc u (b ∷ []) v))

      go : (o : Option Str) → deepest has d (snoc u b) ≡ o
          → ((A : Str) → deepest has d (snoc u b) ≡ Some A → length (walk has A (snoc u b) r) ≡ reach (longest (λ v. test (b ∷ v)) r))
          → length (rest has (snoc u b) r o) ≡ reach (longest (λ v. test (b ∷ v)) r)
      go None n more =
          sym (ap reach (longest_never (λ v. test (b ∷ v)) r (λ v. same' v ∙ shut there (snoc u b) (there_cut (snoc u b)) (ap is_there n) v)))
      go (Some A) n more = more A n

  pub path_reach : (s : Str) → length (path has d s) ≡ reach (longest there s)
  path_reach s = go (deepest has d []) refl
    where
      go : (o : Option Str) → deepest has d [] ≡ o → length (rest has [] s o) ≡ reach (longest there s)
      go None e = sym (ap reach (longest_never there s (λ v. shut there [] (there_cut []) (ap is_there e) v)))
      go (Some D) e = walk_reach s [] D there (λ v. refl) e

pub visits_are : {C : Type 0} → VisitsAre C
visits_are F d s = ap₂ (λ m k. m + k) (until_reach (has_dst F) (dst_front F) d) (path_reach (has_src F) (src_front F) d s)

-- ---- against backtracking

until_count : {A : Type 0} (p : A → Bool) (xs : List A) → length (until p xs) ≤ count p xs
until_count p [] = omega arith
until_count {A = A} p (x ∷ xs) =
    let ih = until_count p xs in
    elim (p x) as (λ t. length {A = A} (cond t (x ∷ until p xs) []) ≤ cond t (suc (count p xs)) (count p xs)) [ true ↦ omega arith | false ↦ omega arith ]

pub count_more : {A : Type 0} (p q : A → Bool) → ((x : A) → p x ≡ true → q x ≡ true) → (xs : List A) → count p xs ≤ count q xs
count_more p q sub [] = omega arith
count_more p q sub (x ∷ xs) = let ih = count_more p q sub xs in go (p x) (q x) ih (sub x)
  where
    go : (a b : Bool) → count p xs ≤ count q xs → (a ≡ true → b ≡ true) → cond a (suc (count p xs)) (count p xs) ≤ cond b (suc (count q xs)) (count q xs)
    go true true ih f = omega arith
    go true false ih f = absurd (both_ways false refl (f refl))
    go false true ih f = omega arith
    go false false ih f = omega arith

count_or : {A : Type 0} (p q : A → Bool) (xs : List A) → count (λ x. p x || q x) xs ≤ count p xs + count q xs
count_or p q [] = omega arith
count_or p q (x ∷ xs) = go (p x) (q x) (count_or p q xs)
  where
    go : (a b : Bool) → count (λ y. p y || q y) xs ≤ count p xs + count q xs
        → cond (a || b) (suc (count (λ y. p y || q y) xs)) (count (λ y. p y || q y) xs)
        ≤ cond a (suc (count p xs)) (count p xs) + cond b (suc (count q xs)) (count q xs)
    go true true ih = omega arith
    go true false ih = omega arith
    go false true ih = omega arith
    go false false ih = omega arith

count_never : {A : Type 0} (xs : List A) → count (λ x. false) xs ≡ 0
count_never [] = refl
count_never (x ∷ xs) = count_never xs

-- what passes for some y is counted at least once among the counts for each y
total_any : {A B : Type 0} (g : B → A → Bool) (ys : List B) (xs : List A) → count (λ x. any (λ y. g y x) ys) xs ≤ total (λ y. count (g y) xs) ys
total_any g [] xs = let n = count_never xs in omega arith
total_any g (y ∷ ys) xs =
    let o = count_or (g y) (λ x. any (λ z. g z x) ys) xs in
    let ih = total_any g ys xs in
    omega arith

pub visits_few : {C : Type 0} → VisitsFew C
visits_few {C = C} F d s = (short, less)
  where
    short : visits F d s ≤ length d + length s + 2
    short =
        let e = visits_are F d s in
        let m = reach_short (has_dst F) d in
        let k = reach_short (λ u. is_there (deepest (has_src F) d u)) s in
        omega arith

    on_way : (v : Str) → there (has_src F) (src_front F) d v ≡ true → any (λ D. has_src F D v) (way (has_dst F) d) ≡ true
    on_way v h =
        let m = there_some (has_src F) (src_front F) d v h in
        let l = longest_some (λ P. has_src F P v) d m.0 m.1 in
        any_in (λ D. has_src F D v) m.0 (way (has_dst F) d) (in_until (has_dst F) (dst_front F) d m.0 l.0 (src_dst F m.0 v l.1)) l.1

    less : visits F d s ≤ back_visits F d s
    less =
        let p = path_reach (has_src F) (src_front F) d s in
        let u = until_reach (there (has_src F) (src_front F) d) (there_cut (has_src F) (src_front F) d) s in
        let c = until_count (there (has_src F) (src_front F) d) (fronts s) in
        let m = count_more (there (has_src F) (src_front F) d) (λ v. any (λ D. has_src F D v) (way (has_dst F) d)) on_way (fronts s) in
        let t = total_any (has_src F) (way (has_dst F) d) (fronts s) in
        omega arith
