-- What a finished node keeps: the best of its own, its parent's and that of the node beside it is the best of all that match.
use Rattle.std.proofs.Common.{◌≡◌, Bool, true, false, ◌⊎◌, List, [], ◌∷◌, Some, None, Option, sym, refl, ap, ◌∙◌, subst, inl, inr}
use Rattle.std.proofs.lemmas.Bool.{both_ways, cases_Bool, and_parts, and_from, or_cases}
use Rattle.kinds.specs.Strings.{Str, starts, equal, snoc}
use Rattle.kinds.proofs.Prefixes.{starts_refl, starts_chain, starts_more, equal_same, same_equal}
use Rattle.filters.specs.Rules.{Rule, matches, pick, scan, best}
use Rattle.filters.specs.Orders.{In, Apart, Order}
use Rattle.filters.proofs.Bests.{AsGood, none_some, good_chain, good_each, scan_all, scan_some, best_all, best_from, good_both}
use Rattle.tries.specs.Prefixes.{longest_proper}
use Rattle.tries.specs.Shape.{has_src}
use Rattle.tries.specs.Search.{kept}
use Rattle.tries.proofs.Finds.{own_src}
use Rattle.grid.specs.declared.node.Kept.{Kept}
use Rattle.grid.specs.Nodes.{pick_kept}
use Rattle.grid.specs.Derived.{keep}
use Rattle.grid.specs.Build.{exactly}
use Rattle.grid.proofs.Fills.{keep_better}
use Rattle.grid.proofs.Paths.{starts_snoc}
use Rattle.grid.proofs.Proper.{proper_some, proper_has}

module _ {C : Type 0} (lt : Rule C → Rule C → Bool) (ord : Order lt) (F : List (Rule C)) (apart : Apart F) where
  -- each filter that o gives is of F and matches (D, s)
  abbrev pub Fits : Str → Str → Option (Rule C) → Type 0
  Fits D s o = (f : Rule C) → o ≡ Some f → In f F × (matches D s f ≡ true)

  -- three that fit, one of which is as good as each filter that matches, make the best of all that match
  best_of_three : (D s : Str) (e a o : Option (Rule C)) → Fits D s e → Fits D s a → Fits D s o
      → ((f : Rule C) → In f F → matches D s f ≡ true → AsGood lt e (Some f) ⊎ (AsGood lt a (Some f) ⊎ AsGood lt o (Some f)))
      → pick_kept (pick_kept (keep lt F e) (keep lt F a)) (keep lt F o) ≡ keep lt F (kept lt F (D, s))
  best_of_three D s e a o fe fa fo covers =
      ap (λ (k : Option Kept). pick_kept k (keep lt F o)) (keep_better lt ord F e a (λ f q. (fe f q).0) (λ f q. (fa f q).0))
      ∙ keep_better lt ord F (pick lt e a) o (λ f q. (first_two f q).0) (λ f q. (fo f q).0)
      ∙ ap (keep lt F) same
    where
      all : List (Option (Rule C))
      all = e ∷ a ∷ o ∷ []

      three : Fits D s (scan lt None all)
      three f q =
          elim (scan_some lt None (e ∷ a ∷ o ∷ []) f q) [
            | inl z ↦ absurd (none_some f z)
            | inr (inl z) ↦ fe f (sym z)
            | inr (inr (inl z)) ↦ fa f (sym z)
            | inr (inr (inr (inl z))) ↦ fo f (sym z)
            | inr (inr (inr (inr z))) ↦ absurd z
          ]

      first_two : Fits D s (pick lt e a)
      first_two f q =
          elim (scan_some lt None (e ∷ a ∷ []) f q) [
            | inl z ↦ absurd (none_some f z)
            | inr (inl z) ↦ fe f (sym z)
            | inr (inr (inl z)) ↦ fa f (sym z)
            | inr (inr (inr z)) ↦ absurd z
          ]

      as_good : (x : Option (Rule C)) → In x (e ∷ a ∷ o ∷ []) → (f : Rule C) → AsGood lt x (Some f) → AsGood lt (scan lt None (e ∷ a ∷ o ∷ [])) (Some f)
      as_good x h f k =
          good_chain lt ord (scan lt None (e ∷ a ∷ o ∷ [])) x (Some f) (scan_all lt ord None x (e ∷ a ∷ o ∷ []) h) k

      better_than : (f : Rule C) → kept lt F (D, s) ≡ Some f → AsGood lt (scan lt None (e ∷ a ∷ o ∷ [])) (Some f)
      better_than f q =
          let m = best_from lt (matches D s) F f q in
          elim (covers f m.0 m.1) [
            | inl k ↦ as_good e (inl refl) f k
            | inr (inl k) ↦ as_good a (inr (inl refl)) f k
            | inr (inr k) ↦ as_good o (inr (inr (inl refl))) f k
          ]

      same : pick lt (pick lt e a) o ≡ kept lt F (D, s)
      same =
          good_both lt ord F apart (scan lt None (e ∷ a ∷ o ∷ [])) (kept lt F (D, s)) (λ f q. (three f q).0) (λ f q. (best_from lt (matches D s) F f q).0)
          (good_each lt (scan lt None (e ∷ a ∷ o ∷ [])) (kept lt F (D, s)) better_than)
          (good_each lt (kept lt F (D, s)) (scan lt None (e ∷ a ∷ o ∷ [])) (λ f q. let m = three f q in best_all lt ord (matches D s) F f m.0 m.1))

  -- ---- what the parent of (D, s) keeps, and the node beside it

  -- a is what the parent keeps: nothing at a root
  abbrev pub Over : Str → Str → Option (Rule C) → Type 0
  Over D s a = ((s ≡ []) × (a ≡ None)) ⊎ ((u : Str) × (b : Bool) × (s ≡ snoc u b) × (a ≡ kept lt F (D, u)))

  -- what the node of s at that destination keeps, where there is one
  abbrev pub kept_beside : Str → Option Str → Option (Rule C)
  kept_beside s None = None
  kept_beside s (Some A) = kept lt F (A, s)

  over_fits : (D s : Str) (a : Option (Rule C)) → Over D s a → Fits D s a
  over_fits D s a (inl w) f q = absurd (none_some f (sym w.1 ∙ q))
  over_fits D s a (inr w) f q =
      let u = w.0 in
      let m = best_from lt (matches D u) F f (sym w.3 ∙ q) in
      let p = and_parts (starts f.destination D) (starts f.source u) m.1 in (
        m.0,
        and_from (starts f.destination D) (starts f.source s) p.0
            (subst (λ (x : Str). starts f.source x ≡ true) (sym w.2) (starts_more f.source u (w.1 ∷ []) p.1)),
      )

  beside_fits : (D s : Str) (o : Option Str) → longest_proper (λ A. has_src F A s) D ≡ o → Fits D s (kept_beside s o)
  beside_fits D s None e f q = absurd (none_some f q)
  beside_fits D s (Some A) e f q =
      let m = best_from lt (matches A s) F f q in
      let p = and_parts (starts f.destination A) (starts f.source s) m.1 in
      let l = proper_some (λ P. has_src F P s) D A e in
      (m.0, and_from (starts f.destination D) (starts f.source s) (starts_chain f.destination A D p.0 l.1) p.1)

  -- a filter of a shorter source string is known to the parent
  shorter_source : (D s : Str) (a : Option (Rule C)) → Over D s a → (f : Rule C) → In f F → matches D s f ≡ true → (f.source ≡ s → ⊥) → AsGood lt a (Some f)
  shorter_source D s a (inl w) f h t ne =
      let p = and_parts (starts f.destination D) (starts f.source s) t in
      absurd (ne (empty f.source (subst (λ (x : Str). starts f.source x ≡ true) w.0 p.1) ∙ sym w.0))
    where
      empty : (x : Str) → starts x [] ≡ true → x ≡ []
      empty [] i = refl
      empty (b ∷ x) i = absurd (both_ways false refl i)
  shorter_source D s a (inr w) f h t ne =
      let p = and_parts (starts f.destination D) (starts f.source s) t in
      let u = w.0 in
      elim (or_cases (starts f.source u) (equal f.source (snoc u w.1)) (sym (starts_snoc f.source u w.1) ∙ subst (λ (x : Str). starts f.source x ≡ true) w.2 p.1)) [
        | inl i ↦ subst (λ (x : Option (Rule C)). AsGood lt x (Some f)) (sym w.3) (best_all lt ord (matches D u) F f h (and_from (starts f.destination D) (starts f.source u) p.0 i))
        | inr i ↦ absurd (ne (equal_same f.source (snoc u w.1) i ∙ sym w.2))
      ]

  -- a filter of a shorter destination string, and of just this source string, is known to the node beside
  shorter_destination : (D s : Str) (f : Rule C) → In f F → matches D s f ≡ true → f.source ≡ s → (f.destination ≡ D → ⊥)
      → AsGood lt (kept_beside s (longest_proper (λ A. has_src F A s) D)) (Some f)
  shorter_destination D s f h t e ne =
      let p = and_parts (starts f.destination D) (starts f.source s) t in
      let has = subst (λ (x : Str). has_src F f.destination x ≡ true) e (own_src F f h) in
      let m = proper_has (λ A. has_src F A s) D f.destination p.0 ne has in
      subst (λ (o : Option Str). AsGood lt (kept_beside s o) (Some f)) (sym m.1)
      (best_all lt ord (matches m.0 s) F f h (and_from (starts f.destination m.0) (starts f.source s) m.2 p.1))

  -- ---- the finished node keeps what it should

  -- e is what the node kept before: the best of the filters of just its strings, or already what it should keep
  abbrev pub Before : Str → Str → Option (Rule C) → Type 0
  Before D s e = (e ≡ best lt (exactly D s) F) ⊎ (e ≡ kept lt F (D, s))

  before_fits : (D s : Str) (e : Option (Rule C)) → Before D s e → Fits D s e
  before_fits D s e (inl w) f q =
      let m = best_from lt (exactly D s) F f (sym w ∙ q) in
      let p = and_parts (equal D f.destination) (equal s f.source) m.1 in (
        m.0,
        and_from (starts f.destination D) (starts f.source s)
            (subst (λ (x : Str). starts x D ≡ true) (equal_same D f.destination p.0) (starts_refl D))
            (subst (λ (x : Str). starts x s ≡ true) (equal_same s f.source p.1) (starts_refl s)),
      )
  before_fits D s e (inr w) f q = best_from lt (matches D s) F f (sym w ∙ q)

  before_covers : (D s : Str) (e : Option (Rule C)) → Before D s e → (f : Rule C) → In f F → matches D s f ≡ true → f.destination ≡ D → f.source ≡ s → AsGood lt e (Some f)
  before_covers D s e (inl w) f h t d z =
      subst (λ (x : Option (Rule C)). AsGood lt x (Some f)) (sym w)
      (best_all lt ord (exactly D s) F f h (and_from (equal D f.destination) (equal s f.source) (same_equal D f.destination (sym d)) (same_equal s f.source (sym z))))
  before_covers D s e (inr w) f h t d z =
      subst (λ (x : Option (Rule C)). AsGood lt x (Some f)) (sym w) (best_all lt ord (matches D s) F f h t)

  pub kept_finish : (D s : Str) (e a : Option (Rule C)) → Before D s e → Over D s a
      → pick_kept (pick_kept (keep lt F e) (keep lt F a)) (keep lt F (kept_beside s (longest_proper (λ A. has_src F A s) D))) ≡ keep lt F (kept lt F (D, s))
  kept_finish D s e a before over =
      best_of_three D s e a (kept_beside s (longest_proper (λ A. has_src F A s) D)) (before_fits D s e before) (over_fits D s a over)
      (beside_fits D s (longest_proper (λ A. has_src F A s) D) refl) covers
    where
      covers : (f : Rule C) → In f F → matches D s f ≡ true
          → AsGood lt e (Some f) ⊎ (AsGood lt a (Some f) ⊎ AsGood lt (kept_beside s (longest_proper (λ A. has_src F A s) D)) (Some f))
      covers f h t =
          elim (cases_Bool (equal f.source s)) [
            | inr n ↦ inr (inl (shorter_source D s a over f h t (λ z. both_ways (equal f.source s) n (same_equal f.source s z))))
            | inl y ↦
                elim (cases_Bool (equal f.destination D)) [
                  | inl d ↦ inl (before_covers D s e before f h t (equal_same f.destination D d) (equal_same f.source s y))
                  | inr n ↦ inr (inr (shorter_destination D s f h t (equal_same f.source s y) (λ z. both_ways (equal f.destination D) n (same_equal f.destination D z))))
                ]
          ]
