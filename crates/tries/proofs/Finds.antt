-- A search chooses what the reading of every filter chooses.
use Rattle.std.proofs.Common.{◌≡◌, Bool, true, false, ◌&&◌, List, [], ◌∷◌, ◌++◌, map, Some, None, sym, refl, subst, inl, inr}
use Rattle.std.proofs.lemmas.Bool.{both_ways, and_parts, and_from, or_cases, or_left, or_right}
use Rattle.kinds.specs.Strings.{Str, starts, equal}
use Rattle.kinds.proofs.Prefixes.{starts_refl, starts_front, starts_chain, equal_refl, equal_starts}
use Rattle.filters.specs.Rules.{Rule, matches, better, linear}
use Rattle.filters.specs.Orders.{In, Order, BestMatch}
use Rattle.filters.proofs.Bests.{AsGood, none_some, in_map, map_in, good_each, good_chain, scan_all, scan_some, best_all, best_from, good_both, ranks, linear_is_best}
use Rattle.tries.specs.Prefixes.{any}
use Rattle.tries.specs.Shape.{has_dst, has_src}
use Rattle.tries.specs.Search.{path, kept, choice}
use Rattle.tries.specs.Laws.{FindsTheBest, ChoosesTheBestMatch, PathIs}
use Rattle.tries.proofs.Longest.{longest_some, longest_has, longest_deep}
use Rattle.tries.proofs.Walks.{path_meets, path_only}

-- ---- the nodes that there are

pub any_in : {A : Type 0} (p : A → Bool) (x : A) (xs : List A) → In x xs → p x ≡ true → any p xs ≡ true
any_in p x [] h k = absurd h
any_in p x (y ∷ ys) (inl e) k = or_left (p y) (any p ys) (subst (λ z. p z ≡ true) e k)
any_in p x (y ∷ ys) (inr h) k = or_right (p y) (any p ys) (any_in p x ys h k)

pub any_out : {A : Type 0} (p : A → Bool) (xs : List A) → any p xs ≡ true → (x : A) × In x xs × (p x ≡ true)
any_out p [] h = absurd (both_ways false refl h)
any_out p (y ∷ ys) h =
    elim (or_cases (p y) (any p ys) h) [
      | inl k ↦ (y, inl refl, k)
      | inr k ↦ let m = any_out p ys k in (m.0, inr m.1, m.2)
    ]

-- a destination node has one of each shorter string
pub dst_front : {C : Type 0} (F : List (Rule C)) (u v : Str) → has_dst F (u ++ v) ≡ true → has_dst F u ≡ true
dst_front {C = C} F u v h =
    let m = any_out (λ (f : Rule C). starts (u ++ v) f.destination) F h in
    any_in (λ (f : Rule C). starts u f.destination) m.0 F m.1 (starts_front u v m.0.destination m.2)

-- a source node has one of each shorter source string
pub src_front : {C : Type 0} (F : List (Rule C)) (D u v : Str) → has_src F D (u ++ v) ≡ true → has_src F D u ≡ true
src_front {C = C} F D u v h =
    let m = any_out (λ (f : Rule C). equal D f.destination && starts (u ++ v) f.source) F h in
    let p = and_parts (equal D m.0.destination) (starts (u ++ v) m.0.source) m.2 in
    any_in (λ (f : Rule C). equal D f.destination && starts u f.source) m.0 F m.1
    (and_from (equal D m.0.destination) (starts u m.0.source) p.0 (starts_front u v m.0.source p.1))

-- a source node has the destination node of its destination string
pub src_dst : {C : Type 0} (F : List (Rule C)) (D s : Str) → has_src F D s ≡ true → has_dst F D ≡ true
src_dst {C = C} F D s h =
    let m = any_out (λ (f : Rule C). equal D f.destination && starts s f.source) F h in
    let p = and_parts (equal D m.0.destination) (starts s m.0.source) m.2 in
    any_in (λ (f : Rule C). starts D f.destination) m.0 F m.1 (equal_starts D m.0.destination p.0)

-- each filter has the source node of its two prefixes
pub own_src : {C : Type 0} (F : List (Rule C)) (f : Rule C) → In f F → has_src F f.destination f.source ≡ true
own_src {C = C} F f h =
    any_in (λ (g : Rule C). equal f.destination g.destination && starts f.source g.source) f F h
    (and_from (equal f.destination f.destination) (starts f.source f.source) (equal_refl f.destination) (starts_refl f.source))

-- ---- the choice
module _ {C : Type 0} (lt : Rule C → Rule C → Bool) (F : List (Rule C)) (d s : Str) where
  -- what is chosen is in the list and matches
  pub choice_from : (f : Rule C) → choice lt F d s ≡ Some f → In f F × (matches d s f ≡ true)
  choice_from f e =
      elim (scan_some lt None (map (kept lt F) (path (has_src F) d s)) f e) [
        | inl q ↦ absurd (none_some f q)
        | inr h ↦
            let m = map_in (kept lt F) (Some f) (path (has_src F) d s) h in
            let on = path_only (has_src F) (src_front F) d s m.0 m.1 in
            let D = m.0.0 in
            let u = m.0.1 in
            let at_d = (longest_some (λ P. has_src F P u) d D on.1).0 in
            let b = best_from lt (λ (g : Rule C). starts g.destination D && starts g.source u) F f (sym m.2) in
            let p = and_parts (starts f.destination D) (starts f.source u) b.1 in (
              b.0,
              and_from (starts f.destination d) (starts f.source s) (starts_chain f.destination D d p.0 at_d)
                  (starts_chain f.source u s p.1 on.0),
            )
      ]

  -- it is at least as good as each filter that matches
  pub choice_all : Order lt → (f : Rule C) → In f F → matches d s f ≡ true → AsGood lt (choice lt F d s) (Some f)
  choice_all ord f h t =
      let p = and_parts (starts f.destination d) (starts f.source s) t in
      let own = own_src F f h in
      let m = longest_has (λ P. has_src F P f.source) d f.destination p.0 own in
      let B = m.0 in
      let deep = longest_deep (λ P. has_src F P f.source) d B f.destination m.1 p.0 own in
      let on = path_meets (has_src F) (src_front F) d s f.source B p.1 m.1 in
      good_chain lt ord (choice lt F d s) (kept lt F (B, f.source)) (Some f)
      (scan_all lt ord None (kept lt F (B, f.source)) (map (kept lt F) (path (has_src F) d s)) (in_map (kept lt F) (B, f.source) (path (has_src F) d s) on))
      (best_all lt ord (λ (g : Rule C). starts g.destination B && starts g.source f.source) F f h
      (and_from (starts f.destination B) (starts f.source f.source) deep (starts_refl f.source)))

pub finds_the_best : {C : Type 0} → FindsTheBest C
finds_the_best lt ord F apart d s =
    good_both lt ord F apart (choice lt F d s) (linear lt F d s) (λ f e. (choice_from lt F d s f e).0) (λ f e. (best_from lt (matches d s) F f e).0)
    (good_each lt (choice lt F d s) (linear lt F d s)
    (λ f e. let m = best_from lt (matches d s) F f e in choice_all lt F d s ord f m.0 m.1))
    (good_each lt (linear lt F d s) (choice lt F d s)
    (λ f e. let m = choice_from lt F d s f e in best_all lt ord (matches d s) F f m.0 m.1))

-- and so the best match
pub chooses_the_best_match : {C : Type 0} → ChoosesTheBestMatch C
chooses_the_best_match order laws F apart d s =
    subst (λ o. BestMatch order F d s o) (sym (finds_the_best (better order) (ranks order laws) F apart d s)) (linear_is_best order laws F apart d s)

-- which source nodes a search visits
pub path_is : {C : Type 0} → PathIs C
path_is F d s D u =
    (λ h. path_only (has_src F) (src_front F) d s (D, u) h, λ h. path_meets (has_src F) (src_front F) d s u D h.0 h.1)
