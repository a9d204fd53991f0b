-- Places that each hold a filter: they hold as many as there are places, under the same labels.
use Rattle.std.proofs.Common.{◌≡◌, ℕ, zero, suc, ◌+◌, ◌≤◌, true, false, eqb, List, [], ◌∷◌, ◌++◌, map, length, take, is_some, Some, None, Option, refl, ap, inl, inr, arith}
use Rattle.std.proofs.lemmas.Bool.{both_ways, cases_Bool}
use Rattle.kinds.specs.Strings.{Str}
use Rattle.filters.specs.Meaning.{Record}
use Rattle.filters.specs.Meaning.{held_at, rules}
use Rattle.filters.specs.Orders.{Each}
use Rattle.tables.specs.Verdict.{has}
use Rattle.book.specs.Labels.{without}
use Rattle.tables.specs.Verdict.{labels}
use Rattle.gateway.specs.Kinds.{labels_of}

-- a front is no longer than the list
pub take_short : {X : Type 0} (n : ℕ) (xs : List X) → length (take n xs) ≤ length xs
take_short zero xs = omega arith
take_short (suc n) [] = omega arith
take_short (suc n) (x ∷ xs) = let h = take_short n xs in omega arith

-- a list loses one element with a label that it has
pub without_length : {X : Type 0} (label : X → ℕ) (n : ℕ) (xs : List X) → has n (map label xs) ≡ true → length (without label n xs) + 1 ≡ length xs
without_length label n [] h = absurd (both_ways false refl h)
without_length label n (x ∷ xs) h =
    elim (cases_Bool (eqb (label x) n)) [
      | inl e ↦ rw e (omega arith)
      | inr e ↦
          let k : has n (map label xs) ≡ true = rw e at h in
          let m = without_length label n xs k in
          rw e (omega arith)
    ]

module _ {D S P C : Type 0} (dst : D → Str) (src : S → Str) (reads : P → Option C) where
  -- places hold at most one filter each
  pub rules_few : (rs : List (Record D S P)) → length (rules dst src reads rs) ≤ length rs
  rules_few [] = omega arith
  rules_few (r ∷ rs) =
      let h = rules_few rs in
      elim (reads r.cost) as (λ o. length (held_at dst src reads r o ++ rules dst src reads rs) ≤ suc (length rs)) [
        | None ↦ omega arith
        | Some c ↦ omega arith
      ]

  labels_at : (r : Record D S P) (rs : List (Record D S P)) (o : Option C) → length (held_at dst src reads r o ++ rules dst src reads rs) ≡ suc (length rs)
      → (length (rules dst src reads rs) ≡ length rs → labels rs ≡ labels_of (rules dst src reads rs))
      → r.label ∷ labels rs ≡ labels_of (held_at dst src reads r o ++ rules dst src reads rs)
  labels_at r rs None e more = let h = rules_few rs in absurd (omega arith)
  labels_at r rs (Some c) e more = ap {B = List ℕ} (λ ls. r.label ∷ ls) (more (omega arith))

  -- where every place holds a filter, the filters have the labels of the places
  pub whole_labels : (rs : List (Record D S P)) → length (rules dst src reads rs) ≡ length rs → labels rs ≡ labels_of (rules dst src reads rs)
  whole_labels [] e = refl
  whole_labels (r ∷ rs) e = labels_at r rs (reads r.cost) e (whole_labels rs)

  -- places whose costs all read hold a filter each
  pub all_read : (rs : List (Record D S P)) → Each (λ r. is_some (reads r.cost) ≡ true) rs → length (rules dst src reads rs) ≡ length rs
  all_read [] h = refl
  all_read (r ∷ rs) h =
      elim (reads r.cost) as (λ o. is_some o ≡ true → length (held_at dst src reads r o ++ rules dst src reads rs) ≡ suc (length rs)) [
        | None ↦ λ e. absurd (both_ways false refl e)
        | Some c ↦ λ e. ap suc (all_read rs h.1)
      ] h.0

  -- the prefixes of filters are no longer than what their addresses spell
  pub rules_short : (wd ws : ℕ) → ((x : D) → length (dst x) ≤ wd) → ((x : S) → length (src x) ≤ ws) → (rs : List (Record D S P))
      → Each (λ f. (length f.destination ≤ wd) × (length f.source ≤ ws)) (rules dst src reads rs)
  rules_short wd ws hd hs [] = tt
  rules_short wd ws hd hs (r ∷ rs) =
      let a = take_short r.destination.length (dst r.destination.address) in
      let b = hd r.destination.address in
      let c = take_short r.source.length (src r.source.address) in
      let d = hs r.source.address in
      let more = rules_short wd ws hd hs rs in
      elim (reads r.cost) as (λ o. Each (λ f. (length f.destination ≤ wd) × (length f.source ≤ ws)) (held_at dst src reads r o ++ rules dst src reads rs)) [
        | None ↦ more
        | Some k ↦ ((omega arith, omega arith), more)
      ]
