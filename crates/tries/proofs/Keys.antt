-- The nodes that are counted are those that there are; and a grid of no filters has none.
use Rattle.std.proofs.Common.{◌≡◌, ◌+◌, Bool, true, false, ◌&&◌, List, [], ◌∷◌, map, length, None, Option, sym, refl, ap, ◌∙◌, subst, inl, inr}
use mathlib.Core.Bool.{beq}
use Rattle.std.proofs.lemmas.Bool.{both_ways, and_parts, and_from}
use Rattle.kinds.specs.Strings.{Str, starts, equal}
use Rattle.kinds.proofs.Prefixes.{beq_same, beq_refl, equal_refl, equal_same, same_equal}
use Rattle.filters.specs.Rules.{Rule, scan}
use Rattle.filters.specs.Orders.{In}
use Rattle.filters.proofs.Bests.{in_map, map_in}
use Rattle.tries.specs.Prefixes.{fronts, any}
use Rattle.tries.specs.Shape.{has_dst, has_src, dst_keys, src_keys, same_key, deepest}
use Rattle.tries.specs.Search.{way, path, kept, visits, choice}
use Rattle.tries.specs.Laws.{KeysAre, NoFilters}
use Rattle.tries.proofs.Longest.{longest_never}
use Rattle.tries.proofs.Finds.{any_in, any_out}
use Rattle.tries.proofs.Walks.{rest}
use Rattle.tries.proofs.Same.{same_bool, same_key_lem, in_flat, flat_in}

pub in_fronts : (u t : Str) → starts u t ≡ true → In u (fronts t)
in_fronts [] [] h = inl refl
in_fronts [] (b ∷ t) h = inl refl
in_fronts (a ∷ u) [] h = absurd (both_ways false refl h)
in_fronts (a ∷ u) (b ∷ t) h =
    let h' = and_parts (beq a b) (starts u t) h in
    inr
    (subst (λ (c : Bool). In (c ∷ u) (map (λ v. b ∷ v) (fronts t))) (sym (beq_same a b h'.0))
    (in_map (λ (v : Str). b ∷ v) u (fronts t) (in_fronts u t h'.1)))

pub fronts_in : (u t : Str) → In u (fronts t) → starts u t ≡ true
fronts_in u [] (inl e) = rw e refl
fronts_in u [] (inr h) = absurd h
fronts_in u (b ∷ t) (inl e) = rw e refl
fronts_in u (b ∷ t) (inr h) =
    let m = map_in (λ (v : Str). b ∷ v) u (fronts t) h in
    rw m.2 (and_from (beq b b) (starts m.0 t) (beq_refl b) (fronts_in m.0 t m.1))

module _ {C : Type 0} (F : List (Rule C)) where
  pub dst_key : (t : Str) → any (equal t) (dst_keys F) ≡ has_dst F t
  dst_key t = same_bool (any (equal t) (dst_keys F)) (has_dst F t) there back
    where
      there : any (equal t) (dst_keys F) ≡ true → has_dst F t ≡ true
      there h =
          let m = any_out (equal t) (dst_keys F) h in
          let e = equal_same t m.0 m.2 in
          let l = flat_in (λ (f : Rule C). fronts f.destination) m.0 F m.1 in
          any_in (λ (f : Rule C). starts t f.destination) l.0 F l.1 (subst (λ (x : Str). starts x l.0.destination ≡ true) (sym e) (fronts_in m.0 l.0.destination l.2))

      back : has_dst F t ≡ true → any (equal t) (dst_keys F) ≡ true
      back h =
          let m = any_out (λ (f : Rule C). starts t f.destination) F h in
          any_in (equal t) t (dst_keys F)
          (in_flat (λ (f : Rule C). fronts f.destination) m.0 t F m.1 (in_fronts t m.0.destination m.2)) (equal_refl t)

  pub src_key : (D s : Str) → any (same_key (D, s)) (src_keys F) ≡ has_src F D s
  src_key D s = same_bool (any (same_key (D, s)) (src_keys F)) (has_src F D s) there back
    where
      there : any (same_key (D, s)) (src_keys F) ≡ true → has_src F D s ≡ true
      there h =
          let m = any_out (same_key (D, s)) (src_keys F) h in
          let e = same_key_lem (D, s) m.0 m.2 in
          let l = flat_in (λ (f : Rule C). map (λ u. (f.destination, u)) (fronts f.source)) m.0 F m.1 in
          let f = l.0 in
          let k = map_in {B = Str × Str} (λ u. (f.destination, u)) m.0 (fronts f.source) l.2 in
          let q = e ∙ k.2 in
          let a : D ≡ f.destination = ap (λ (z : Str × Str). z.0) q in
          let b : s ≡ k.0 = ap (λ (z : Str × Str). z.1) q in
          any_in (λ (g : Rule C). equal D g.destination && starts s g.source) f F l.1
          (and_from (equal D f.destination) (starts s f.source) (same_equal D f.destination a)
          (subst (λ (x : Str). starts x f.source ≡ true) (sym b) (fronts_in k.0 f.source k.1)))

      back : has_src F D s ≡ true → any (same_key (D, s)) (src_keys F) ≡ true
      back h =
          let m = any_out (λ (g : Rule C). equal D g.destination && starts s g.source) F h in
          let f = m.0 in
          let p = and_parts (equal D f.destination) (starts s f.source) m.2 in
          any_in (same_key (D, s)) (f.destination, s) (src_keys F)
          (in_flat (λ (g : Rule C). map (λ u. (g.destination, u)) (fronts g.source)) f (f.destination, s) F m.1
          (in_map {B = Str × Str} (λ u. (f.destination, u)) s (fronts f.source) (in_fronts s f.source p.1)))
          (and_from (equal D f.destination) (equal s s) p.0 (equal_refl s))

pub keys_are : {C : Type 0} → KeysAre C
keys_are F t D s = (dst_key F t, src_key F D s)

pub no_filters : {C : Type 0} → NoFilters C
no_filters {C = C} lt d s = (refl, none_visited, none_chosen)
  where
    none_deep : deepest (has_src {C = C} []) d [] ≡ None
    none_deep = longest_never (λ P. false) d (λ u. refl)

    none_chosen : choice lt [] d s ≡ None
    none_chosen = ap (λ (o : Option Str). scan lt None (map (kept lt []) (rest (has_src {C = C} []) [] s o))) none_deep

    no_way : (t : Str) → length (way (has_dst {C = C} []) t) ≡ 0
    no_way [] = refl
    no_way (b ∷ t) = refl

    none_visited : visits {C = C} [] d s ≡ 0
    none_visited =
        ap (λ n. n + length (path (has_src {C = C} []) d s)) (no_way d)
        ∙ ap (λ (o : Option Str). 0 + length (rest (has_src {C = C} []) [] s o)) none_deep
