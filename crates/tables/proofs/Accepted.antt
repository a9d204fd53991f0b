-- What acceptance says of each record, and lawful records are accepted.
use Rattle.std.proofs.Common.{◌≡◌, ℕ, suc, ◌+◌, Bool, true, false, cond, not, ◌||◌, eqb, ltb, List, [], ◌∷◌, ◌++◌, length, Ok, Err, Result, sym, refl, ap, ◌∙◌, arith}
use Rattle.std.proofs.lemmas.List.{length_push}
use Rattle.std.proofs.lemmas.Bool.{eqb-false, ne_eqb, and_parts, and_from, or_parts, not-true, not_from_false, or_from}
use Rattle.kinds.specs.Strings.{bits}
use Rattle.kinds.specs.declared.written.PatternFault.TheVariants.{Unlawful}
use Rattle.filters.specs.declared.fault.FilterFault.TheVariants.{ZeroLabel, LongPrefix, StrayBit, BadDirective}
use Rattle.filters.specs.Directives.{lawful}
use Rattle.filters.specs.Orders.{Each}
use Rattle.filters.specs.Refusals.{stray, then_used}
use Rattle.tables.specs.declared.fault.RecordFault.{RecordFault}
use Rattle.tables.specs.declared.fault.RecordFault.TheVariants.{Filter, Pattern}
use Rattle.tables.specs.declared.fault.LoadFault.{LoadFault}
use Rattle.tables.specs.Format.{Kind, Entry}
use Rattle.tables.specs.Laws.{distinct}
use Rattle.tables.specs.Verdict.{layered, has, labels, onward, entry_verdict, entries_verdict}

-- an acceptance is no refusal
never : {X : Type 0} {E : Type 0} (e : E) → Err e ≡ Ok (tt {0}) → X
never e h = let z : ◌≡◌ {A = ℕ} 0 1 = cc in absurd (omega arith)

-- the tests of a record, as they come
pub passed : (a b c d e used : Bool) → cond a (Err (Filter ZeroLabel)) (cond b (layered (then_used used (cond c (Err LongPrefix) (cond d (Err StrayBit) (cond e (Ok tt) (Err BadDirective)))))) (Err (Pattern Unlawful))) ≡ Ok tt → (a ≡ false) × (b ≡ true) × (c ≡ false) × (d ≡ false) × (e ≡ true) × (used ≡ false)
passed true b c d e used h = never (Filter ZeroLabel) h
passed false false c d e used h = never (Pattern Unlawful) h
passed false true true d e used h = never (Filter LongPrefix) h
passed false true false true e used h = never (Filter StrayBit) h
passed false true false false false used h = never (Filter BadDirective) h
passed false true false false true true h = never _ h
passed false true false false true false h = (refl, refl, refl, refl, refl, refl)

module _ (D S C : Kind) (pass : ℕ → Bool) where
  -- what is known of a record that is accepted
  pub entry_passed : (used : Bool) (r : Entry) → entry_verdict D S C pass used r ≡ Ok tt → ((ltb D.size r.destination.length || ltb S.size r.source.length) ≡ false) × (lawful r.directive ≡ true) × (eqb r.label 0 ≡ false) × (used ≡ false) × (pass r.cost ≡ true)
  entry_passed used r h =
      let p = passed (eqb r.label 0) (pass r.cost) (ltb D.size r.destination.length || ltb S.size r.source.length) (stray r.destination.length (bits D.size r.destination.address) || stray r.source.length (bits S.size r.source.address)) (lawful r.directive) used h in
      (p.2, p.4, p.0, p.5, p.1)

  onward_parts : (k m : ℕ) (v : Result (Unit {0}) RecordFault) (rest : Result ℕ LoadFault) → onward k v rest ≡ Ok m → (v ≡ Ok tt) × (rest ≡ Ok m)
  onward_parts k m (Ok x) rest h = (refl, h)
  onward_parts k m (Err e) rest h = let z : ◌≡◌ {A = ℕ} 0 1 = cc in absurd (omega arith)

  -- all directives of an accepted table are lawful
  pub all_lawful : (seen : List ℕ) (rs : List Entry) (m : ℕ) → entries_verdict D S C pass seen rs ≡ Ok m → Each (λ r. lawful r.directive ≡ true) rs
  all_lawful seen [] m h = tt
  all_lawful seen (r ∷ rs) m h =
      let p = onward_parts (suc (length seen)) m (entry_verdict D S C pass (has r.label seen) r) (entries_verdict D S C pass (seen ++ r.label ∷ []) rs) h in
      ((entry_passed (has r.label seen) r p.0).1, all_lawful (seen ++ r.label ∷ []) rs m p.1)

-- ---- looking for labels
push_parts : (n m : ℕ) (ms : List ℕ) → has n (ms ++ m ∷ []) ≡ false → (has n ms ≡ false) × (eqb m n ≡ false)
push_parts n m [] h = (refl, (or_parts (eqb m n) false h).0)
push_parts n m (k ∷ ms) h =
    let p = or_parts (eqb k n) (has n (ms ++ m ∷ [])) h in
    let q = push_parts n m ms p.1 in
    (or_from (eqb k n) (has n ms) p.0 q.0, q.1)

-- labels that come behind n are not n
behind_apart : (n : ℕ) (seen : List ℕ) (rs : List Entry) → Each (λ r. (eqb r.label 0 ≡ false) × (has r.label (seen ++ n ∷ []) ≡ false)) rs → Each (λ r. (eqb r.label 0 ≡ false) × (has r.label seen ≡ false)) rs × (has n (labels rs) ≡ false)
behind_apart n seen [] h = (tt, refl)
behind_apart n seen (r ∷ rs) h =
    let p = push_parts r.label n seen h.0.1 in
    let q = behind_apart n seen rs h.1 in
    let e : eqb r.label n ≡ false = ne_eqb r.label n (λ z. eqb-false n r.label p.1 (sym z)) in
    (((h.0.0, p.0), q.0), or_from (eqb r.label n) (has n (labels rs)) e q.1)

-- the labels of an accepted table are not 0, and no label stands twice
pub labels_passed : (D S C : Kind) (pass : ℕ → Bool) (seen : List ℕ) (rs : List Entry) (m : ℕ) → entries_verdict D S C pass seen rs ≡ Ok m → Each (λ r. (eqb r.label 0 ≡ false) × (has r.label seen ≡ false)) rs × (distinct (labels rs) ≡ true)
labels_passed D S C pass seen [] m h = (tt, refl)
labels_passed D S C pass seen (r ∷ rs) m h =
    let p = onward_parts D S C pass (suc (length seen)) m (entry_verdict D S C pass (has r.label seen) r) (entries_verdict D S C pass (seen ++ r.label ∷ []) rs) h in
    let q = labels_passed D S C pass (seen ++ r.label ∷ []) rs m p.1 in
    let b = behind_apart r.label seen rs q.0 in
    let e = entry_passed D S C pass (has r.label seen) r p.0 in
    (((e.2, e.3), b.0), and_from (not (has r.label (labels rs))) (distinct (labels rs)) (not_from_false (has r.label (labels rs)) b.1) q.1)

-- and their costs passed
pub costs_passed : (D S C : Kind) (pass : ℕ → Bool) (seen : List ℕ) (rs : List Entry) (m : ℕ) → entries_verdict D S C pass seen rs ≡ Ok m → Each (λ r. pass r.cost ≡ true) rs
costs_passed D S C pass seen [] m h = tt
costs_passed D S C pass seen (r ∷ rs) m h =
    let p = onward_parts D S C pass (suc (length seen)) m (entry_verdict D S C pass (has r.label seen) r) (entries_verdict D S C pass (seen ++ r.label ∷ []) rs) h in
    ((entry_passed D S C pass (has r.label seen) r p.0).4, costs_passed D S C pass (seen ++ r.label ∷ []) rs m p.1)

has_push : (n m : ℕ) (ms : List ℕ) → has n ms ≡ false → eqb m n ≡ false → has n (ms ++ m ∷ []) ≡ false
has_push n m [] h e = or_from (eqb m n) false e refl
has_push n m (k ∷ ms) h e = let p = or_parts (eqb k n) (has n ms) h in or_from (eqb k n) (has n (ms ++ m ∷ [])) p.0 (has_push n m ms p.1 e)

-- labels that are not among those seen, and are apart from the next, are not among those seen then
unseen_push : (n : ℕ) (seen : List ℕ) (rs : List Entry) → Each (λ r. has r.label seen ≡ false) rs → has n (labels rs) ≡ false → Each (λ r. has r.label (seen ++ n ∷ []) ≡ false) rs
unseen_push n seen [] u h = tt
unseen_push n seen (r ∷ rs) u h =
    let p = or_parts (eqb r.label n) (has n (labels rs)) h in
    let e : eqb n r.label ≡ false = ne_eqb n r.label (λ z. eqb-false r.label n p.0 (sym z)) in
    (has_push r.label n seen u.0 e, unseen_push n seen rs u.1 p.1)

pub unseen_none : (rs : List Entry) → Each (λ r. has r.label [] ≡ false) rs
unseen_none [] = tt
unseen_none (r ∷ rs) = (refl, unseen_none rs)

-- lawful records with distinct labels are accepted
pub accept : (D S C : Kind) (pass : ℕ → Bool) (seen : List ℕ) (rs : List Entry) → Each (λ r. entry_verdict D S C pass false r ≡ Ok tt) rs → Each (λ r. has r.label seen ≡ false) rs → distinct (labels rs) ≡ true → entries_verdict D S C pass seen rs ≡ Ok (length seen + length rs)
accept D S C pass seen [] v u d = ap Ok (omega arith)
accept D S C pass seen (r ∷ rs) v u d =
    let p = and_parts (not (has r.label (labels rs))) (distinct (labels rs)) d in
    let rest = entries_verdict D S C pass (seen ++ r.label ∷ []) rs in
    let n : length (seen ++ r.label ∷ []) + length rs ≡ length seen + suc (length rs) = omega (arith, length_push seen r.label) in
    ap (λ (t : Bool). onward (suc (length seen)) (entry_verdict D S C pass t r) rest) u.0
    ∙ ap (λ (z : Result (Unit {0}) RecordFault). onward (suc (length seen)) z rest) v.0
    ∙ accept D S C pass (seen ++ r.label ∷ []) rs v.1 (unseen_push r.label seen rs u.1 (not-true _ p.0)) p.1
    ∙ ap Ok n
