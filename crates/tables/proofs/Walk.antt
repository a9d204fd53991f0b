-- The verdict on a table's records, record by record.
use Rattle.std.proofs.Common.{◌≡◌, ℕ, suc, ◌+◌, ◌<◌, Bool, List, [], ◌∷◌, ◌++◌, length, get_or, take, drop, IfOk, Ok, Err, Result, sym, refl, ap, ◌∙◌, subst, arith}
use Rattle.std.proofs.lemmas.List.{at_drop_more, at_drop_all, map_more, length-map, length-take-le}
use Rattle.tables.specs.declared.fault.RecordFault.{RecordFault}
use Rattle.tables.specs.declared.fault.InRecord.{InRecord}
use Rattle.tables.specs.declared.fault.LoadFault.{LoadFault}
use Rattle.tables.specs.declared.fault.LoadFault.TheVariants.{Record}
use Rattle.tables.specs.Format.{Kind, Entry}
use Rattle.tables.specs.Verdict.{has, labels, counted, onward, entry_verdict, entries_verdict}

-- a record that passes, passes with its number
pub counted_passed : (k : ℕ) (a : Result (Unit {0}) RecordFault) (r : Result (Unit {0}) InRecord) (v w : Result (Unit {0}) RecordFault) → r ≡ counted k a → w ≡ v → IfOk a (λ _. v ≡ Ok tt) → IfOk r (λ _. w ≡ Ok tt)
counted_passed k (Ok x) r v w e f h = subst (λ (z : Result (Unit {0}) InRecord). IfOk z (λ _. w ≡ Ok tt)) (sym e) (f ∙ h)
counted_passed k (Err x) r v w e f h = subst (λ (z : Result (Unit {0}) InRecord). IfOk z (λ _. w ≡ Ok tt)) (sym e) tt

-- a record that passes leaves the answer to the rest, and one that does not is the answer
pub onward_ok : (k m : ℕ) (v : Result (Unit {0}) RecordFault) (x : Unit {0}) (rest : Result ℕ LoadFault) → Ok x ≡ counted k v → onward m v rest ≡ rest
onward_ok k m (Ok y) x rest h = refl
onward_ok k m (Err e) x rest h = let z : ◌≡◌ {A = ℕ} 0 1 = cc in absurd (omega arith)

pub onward_passed : (m : ℕ) (v : Result (Unit {0}) RecordFault) (rest : Result ℕ LoadFault) → v ≡ Ok tt → onward m v rest ≡ rest
onward_passed m v rest e = ap (λ (z : Result (Unit {0}) RecordFault). onward m z rest) e

pub onward_err : (k : ℕ) (v : Result (Unit {0}) RecordFault) (e : InRecord) (rest : Result ℕ LoadFault) → Err e ≡ counted k v → Err (Record e) ≡ onward k v rest
onward_err k (Ok y) e rest h = let z : ◌≡◌ {A = ℕ} 0 1 = cc in absurd (omega arith)
onward_err k (Err f) e rest h = let p : e ≡ record { «record» = k; fault = f } = cc in ap (λ (z : InRecord). Err (Record z)) p

module _ (D S C : Kind) (pass : ℕ → Bool) where
  -- one entry on
  pub entries_more : (rs : List Entry) (i : ℕ) (d : Entry) → i < length rs → entries_verdict D S C pass (labels (take i rs)) (drop i rs) ≡ onward (i + 1) (entry_verdict D S C pass (has (get_or rs i d).label (labels (take i rs))) (get_or rs i d)) (entries_verdict D S C pass (labels (take (i + 1) rs)) (drop (i + 1) rs))
  entries_more rs i d h =
      let n : suc (length (labels (take i rs))) ≡ i + 1 = omega (arith, length-map (take i rs) (λ (r : Entry). r.label), length-take-le i rs (omega arith)) in
      let r = get_or rs i d in
      let v = entry_verdict D S C pass (has r.label (labels (take i rs))) r in
      at_drop_more (entries_verdict D S C pass (labels (take i rs))) rs i d h
      ∙ ap (λ (k : ℕ). onward k v (entries_verdict D S C pass (labels (take i rs) ++ r.label ∷ []) (drop (i + 1) rs))) n
      ∙ ap (λ (ls : List ℕ). onward (i + 1) v (entries_verdict D S C pass ls (drop (i + 1) rs))) (sym (map_more (λ (z : Entry). z.label) rs i d h))

  -- all entries passed
  pub entries_all : (rs : List Entry) (i : ℕ) → i ≡ length rs → entries_verdict D S C pass (labels (take i rs)) (drop i rs) ≡ Ok i
  entries_all rs i e =
      at_drop_all (entries_verdict D S C pass (labels (take i rs))) rs i (omega arith)
      ∙ ap Ok (omega (arith, length-map (take i rs) (λ (r : Entry). r.label), length-take-le i rs (omega arith)))

  -- one record on, by what was answered of it
  pub one_more : (es : List Entry) (n i m : ℕ) (r d : Entry) (used : Bool) (v : Result (Unit {0}) RecordFault) → i ≡ n → m ≡ i + 1 → i < length es → d ≡ get_or es i d → r ≡ d → used ≡ has r.label (labels (take i es)) → v ≡ entry_verdict D S C pass used r → entries_verdict D S C pass (labels (take n es)) (drop n es) ≡ onward (i + 1) v (entries_verdict D S C pass (labels (take m es)) (drop m es))
  one_more es n i m r d used v e f h at same u k =
      let seen = labels (take i es) in
      let rest = λ (j : ℕ). entries_verdict D S C pass (labels (take j es)) (drop j es) in
      ap rest (sym e)
      ∙ entries_more es i d h
      ∙ ap (λ (z : Entry). onward (i + 1) (entry_verdict D S C pass (has z.label seen) z) (rest (i + 1))) (sym (same ∙ at))
      ∙ ap (λ (b : Bool). onward (i + 1) (entry_verdict D S C pass b r) (rest (i + 1))) (sym u)
      ∙ ap (λ (z : Result (Unit {0}) RecordFault). onward (i + 1) z (rest (i + 1))) (sym k)
      ∙ ap (λ (j : ℕ). onward (i + 1) v (rest j)) (sym f)
