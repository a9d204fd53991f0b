-- The rules that a book's places hold, as places are put in and taken out.
use Rattle.std.proofs.Common.{◌≡◌, ℕ, ◌+◌, ◌<◌, true, false, not, ◌&&◌, eqb, List, [], ◌∷◌, ◌++◌, map, length, take, set, Some, None, Option, sym, refl, ap, ◌∙◌, subst, inl, inr}
use Rattle.std.proofs.lemmas.List.{take_more_set, append-nil}
use Rattle.std.proofs.lemmas.Bool.{and_parts, or_from, or_parts, not-true, eqb-true, eqb-false, cases_Bool}
use Rattle.kinds.specs.Strings.{Str}
use Rattle.filters.specs.declared.filter.Filter.{Filter}
use Rattle.filters.specs.Meaning.{Record}
use Rattle.filters.specs.Meaning.{record_of, rule_of, prefix_of, held, held_at, rules}
use Rattle.filters.specs.Orders.{Each, Apart}
use Rattle.filters.specs.Rules.{Rule}
use Rattle.filters.proofs.Reading.{rules_append}
use Rattle.tables.specs.Verdict.{has}
use Rattle.book.specs.Labels.{apart, without}
use Rattle.tables.specs.Verdict.{labels}

-- a list without a label loses nothing when it is taken out
pub without_none : {X : Type 0} (label : X → ℕ) (n : ℕ) (xs : List X) → has n (map label xs) ≡ false → without label n xs ≡ xs
without_none label n [] h = refl
without_none {X} label n (x ∷ xs) h =
    let p = or_parts (eqb (label x) n) (has n (map label xs)) h in
    rw p.0 (ap {B = List X} (λ ys. x ∷ ys) (without_none label n xs p.1))

-- ---- given what patterns spell and read as
module _ {D S P C : Type 0} (dst : D → Str) (src : S → Str) (reads : P → Option C) where
  -- the labels of the rules are among those of the places
  pub fewer_labels : (n : ℕ) (rs : List (Record D S P)) → has n (labels rs) ≡ false → has n (map (λ f. f.label) (rules dst src reads rs)) ≡ false
  fewer_labels n [] h = refl
  fewer_labels n (r ∷ rs) h =
      let p = or_parts (eqb r.label n) (has n (labels rs)) h in
      elim (reads r.cost) as (λ o. has n (map (λ f. f.label) (held_at dst src reads r o ++ rules dst src reads rs)) ≡ false) [
        | None ↦ fewer_labels n rs p.1
        | Some c ↦ or_from (eqb r.label n) (has n (map (λ f. f.label) (rules dst src reads rs))) p.0 (fewer_labels n rs p.1)
      ]

  -- the place with the label is taken out: whether it holds a rule or not, the other rules are left
  gone : (n : ℕ) (r : Record D S P) (rs : List (Record D S P)) → eqb r.label n ≡ true → has n (labels rs) ≡ false → (o : Option C) → rules dst src reads rs ≡ without (λ f. f.label) n (held_at dst src reads r o ++ rules dst src reads rs)
  gone n r rs e h None = sym (without_none (λ (f : Rule C). f.label) n (rules dst src reads rs) (fewer_labels n rs h))
  gone n r rs e h (Some c) = rw e refl

  -- a place with another label stays
  stays : (n : ℕ) (r : Record D S P) (rs ws : List (Record D S P)) → eqb r.label n ≡ false → rules dst src reads ws ≡ without (λ f. f.label) n (rules dst src reads rs) → (o : Option C) → held_at dst src reads r o ++ rules dst src reads ws ≡ without (λ f. f.label) n (held_at dst src reads r o ++ rules dst src reads rs)
  stays n r rs ws e h None = h
  stays n r rs ws e h (Some c) = rw e (ap {B = List (Rule C)} (λ F. record { label = r.label; destination = prefix_of dst r.destination; source = prefix_of src r.source; cost = c; directive = r.directive } ∷ F) h)

  -- taking a label out of the places takes it out of the rules
  pub rules_without : (n : ℕ) (rs : List (Record D S P)) → apart (labels rs) ≡ true → rules dst src reads (without (λ r. r.label) n rs) ≡ without (λ f. f.label) n (rules dst src reads rs)
  rules_without n [] a = refl
  rules_without n (r ∷ rs) a =
      let p = and_parts (not (eqb r.label 0)) (not (has r.label (labels rs)) && apart (labels rs)) a in
      let q = and_parts (not (has r.label (labels rs))) (apart (labels rs)) p.1 in
      elim (cases_Bool (eqb r.label n)) [
        | inl e ↦
            rw e (gone n r rs e (subst (λ (m : ℕ). has m (labels rs) ≡ false) (eqb-true r.label n e) (not-true (has r.label (labels rs)) q.0)) (reads r.cost))
        | inr e ↦ rw e (stays n r rs (without (λ r. r.label) n rs) e (rules_without n rs q.1) (reads r.cost))
      ]

  -- places with labels apart hold rules with labels apart
  each_other : (n : ℕ) (F : List (Rule C)) → has n (map (λ f. f.label) F) ≡ false → Each (λ g. n ≡ g.label → ⊥) F
  each_other n [] h = tt
  each_other n (f ∷ F) h =
      let p = or_parts (eqb f.label n) (has n (map (λ f. f.label) F)) h in
      ((λ e. eqb-false f.label n p.0 (sym e)), each_other n F p.1)

  apart_at : (r : Record D S P) (rs : List (Record D S P)) → has r.label (labels rs) ≡ false → Apart (rules dst src reads rs) → (o : Option C) → Apart (held_at dst src reads r o ++ rules dst src reads rs)
  apart_at r rs h a None = a
  apart_at r rs h a (Some c) = (each_other r.label (rules dst src reads rs) (fewer_labels r.label rs h), a)

  pub rules_apart : (rs : List (Record D S P)) → apart (labels rs) ≡ true → Apart (rules dst src reads rs)
  rules_apart [] a = tt
  rules_apart (r ∷ rs) a =
      let p = and_parts (not (eqb r.label 0)) (not (has r.label (labels rs)) && apart (labels rs)) a in
      let q = and_parts (not (has r.label (labels rs))) (apart (labels rs)) p.1 in
      apart_at r rs (not-true (has r.label (labels rs)) q.0) (rules_apart rs q.1) (reads r.cost)

  -- ---- a filter that is kept as its record
  module _ {A B : Type 0} (astring : A → Str) (bstring : B → Str) (apat : A → D) (bpat : B → S) (cpat : C → P) (aspelt : (x : A) → astring x ≡ dst (apat x)) (bspelt : (x : B) → bstring x ≡ src (bpat x)) (again : (x : C) → reads (cpat x) ≡ Some x) where
    -- the place of a filter holds the filter's rule
    pub held_record : (f : Filter A B C) → held dst src reads (record_of apat bpat cpat f) ≡ rule_of astring bstring f ∷ []
    held_record f =
        ap (held_at dst src reads (record_of apat bpat cpat f)) (again f.cost)
        ∙ (λ i. record { label = f.label; destination = take f.destination.length (sym (aspelt f.destination.address) i); source = take f.source.length (sym (bspelt f.source.address) i); cost = f.cost; directive = f.directive } ∷ [])

    pub rules_added : (xs ys : List (Record D S P)) (u : ℕ) (f : Filter A B C) → u < length xs → ys ≡ set xs u (record_of apat bpat cpat f) → rules dst src reads (take (u + 1) ys) ≡ rules dst src reads (take u xs) ++ rule_of astring bstring f ∷ []
    rules_added xs ys u f h e =
        ap (λ (ws : List (Record D S P)). rules dst src reads (take (u + 1) ws)) e
        ∙ ap (rules dst src reads) (take_more_set xs u (record_of apat bpat cpat f) h)
        ∙ rules_append dst src reads (take u xs) (record_of apat bpat cpat f ∷ [])
        ∙ ap (λ (F : List (Rule C)). rules dst src reads (take u xs) ++ F) (append-nil (held dst src reads (record_of apat bpat cpat f)) ∙ held_record f)
