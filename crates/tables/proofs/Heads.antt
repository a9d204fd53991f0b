-- What an accepted head says of its table.
use Rattle.std.proofs.Common.{◌≡◌, ℕ, ◌≤◌, Bool, true, false, cond, eqb, ltb, List, [], length, drop, Ok, Err, Result, sym, refl, ap, ◌∙◌, arith}
use Rattle.std.proofs.lemmas.Bool.{eqb-true, ltb-false}
use Rattle.tables.specs.declared.fault.HeadFault.{HeadFault}
use Rattle.tables.specs.declared.fault.HeadFault.TheVariants.{Short, Kind as OtherKind, Length, Full}
use Rattle.tables.specs.Format.{Kind, head_fields, filter_count, table_size, decode_records}
use Rattle.tables.specs.Verdict.{same_kinds, head_verdict, table_verdict, behind_head, entries_verdict}

-- the four tests of a head, as they come
abbrev pub tested : Bool → Bool → Bool → Bool → ℕ → Result ℕ HeadFault
tested a b c d m = cond a (Err Short) (cond b (cond c (cond d (Err Full) (Ok m)) (Err Length)) (Err OtherKind))

never : {X : Type 0} (n : ℕ) (e : HeadFault) → Ok n ≡ Err e → X
never n e h = let z : ◌≡◌ {A = ℕ} 0 1 = cc in absurd (omega arith)

pub tested_ok : (a b c d : Bool) (n m : ℕ) → Ok n ≡ tested a b c d m → (a ≡ false) × (b ≡ true) × (c ≡ true) × (d ≡ false) × (n ≡ m)
tested_ok true b c d n m h = never n Short h
tested_ok false false c d n m h = never n OtherKind h
tested_ok false true false d n m h = never n Length h
tested_ok false true true true n m h = never n Full h
tested_ok false true true false n m h = let e : n ≡ m = cc in (refl, refl, refl, refl, e)

pub head_ok : (D S C : Kind) (capacity : ℕ) (bytes : List ℕ) (n : ℕ) → Ok n ≡ head_verdict D S C capacity bytes → (same_kinds D S C (head_fields bytes) ≡ true) × (length bytes ≡ table_size D S C n) × (n ≤ capacity) × (n ≡ filter_count bytes)
head_ok D S C capacity bytes n h =
    let t = tested_ok (ltb (length bytes) 4) (same_kinds D S C (head_fields bytes)) (eqb (length bytes) (table_size D S C (filter_count bytes))) (ltb capacity (filter_count bytes)) n (filter_count bytes) h in
    let e = t.4 in (
      t.1,
      eqb-true _ _ t.2 ∙ ap (table_size D S C) (sym e),
      omega (arith, ltb-false capacity (filter_count bytes) t.3),
      e,
    )

pub behind_ok : (D S C : Kind) (pass : ℕ → Bool) (capacity : ℕ) (bytes : List ℕ) (n : ℕ) → Ok n ≡ head_verdict D S C capacity bytes → table_verdict D S C pass capacity bytes ≡ entries_verdict D S C pass [] (decode_records D S C n (drop 4 bytes))
behind_ok D S C pass capacity bytes n h =
    ap (λ (v : Result ℕ HeadFault). behind_head v (entries_verdict D S C pass [] (decode_records D S C (filter_count bytes) (drop 4 bytes)))) (sym h)
    ∙ ap (λ (k : ℕ). entries_verdict D S C pass [] (decode_records D S C k (drop 4 bytes))) (sym (head_ok D S C capacity bytes n h).3)

pub count_small : (bytes : List ℕ) → filter_count bytes ≤ 4095
count_small bytes = omega arith
