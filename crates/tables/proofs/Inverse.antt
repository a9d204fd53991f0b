-- A table written and read back, and an accepted table written again.
use Rattle.std.proofs.Common.{◌≡◌, ℕ, ◌+◌, ◌*◌, ◌/◌, ◌^◌, ◌<◌, ◌≤◌, Bool, true, false, cond, ◌&&◌, eqb, ltb, List, [], ◌∷◌, ◌++◌, map, length, take, drop, Ok, Err, Result, sym, refl, ap, ◌∙◌, arith}
use Rattle.std.proofs.ByRecursion.{All-drop}
use Rattle.std.proofs.lemmas.List.{drop_at, take-append-drop, length-append, length-drop, length-map}
use Rattle.std.proofs.lemmas.Bool.{eq-eqb, le-ltb, ltb-false, and_from, or_parts}
use Rattle.kinds.specs.Strings.{Str, bits}
use Rattle.kinds.specs.declared.written.PatternFault.TheVariants.{Unlawful}
use Rattle.filters.specs.declared.fault.FilterFault.{FilterFault}
use Rattle.filters.specs.declared.fault.FilterFault.TheVariants.{ZeroLabel}
use Rattle.filters.specs.declared.filter.Filter.{Filter}
use Rattle.filters.specs.Meaning.{respelt}
use Rattle.filters.specs.Orders.{Each}
use Rattle.filters.specs.Refusals.{body_verdict, filter_verdict, then_used}
use Rattle.tables.specs.declared.fault.RecordFault.TheVariants.{Filter as OfFilter, Pattern}
use Rattle.tables.specs.declared.fault.HeadFault.{HeadFault}
use Rattle.tables.specs.declared.fault.LoadFault.{LoadFault}
use Rattle.tables.specs.Bytes.{pack, nth}
use Rattle.tables.specs.Format.{Kind, Entry, head_widths, head_of, head_fields, filter_count, record_size, table_size, encode_head, encode_records, encode, decode_records, decode}
use Rattle.tables.specs.Laws.{distinct, filed, ReadsBack, WritesBack}
use Rattle.tables.specs.Memory.{Labelled}
use Rattle.tables.specs.Verdict.{layered, has, labels, same_kinds, behind_head, head_verdict, entry_verdict, entries_verdict, table_verdict}
use Rattle.tables.proofs.Words.{length_spelt}
use Rattle.tables.proofs.Tables.{length_records}
use Rattle.tables.proofs.Heads.{tested, head_ok}
use Rattle.tables.proofs.Places.{length_encoded}
use Rattle.tables.proofs.Round.{Sound, head_fields_lem, head_back, records_back, records_again}
use Rattle.tables.proofs.Accepted.{entry_passed, all_lawful, labels_passed, accept, unseen_none}
use Rattle.tables.proofs.Verdicts.{body_same}

each_first : (P Q : Entry → Type 0) (rs : List Entry) → Each (λ r. P r × Q r) rs → Each P rs
each_first P Q [] h = tt
each_first P Q (r ∷ rs) h = (h.0.0, each_first P Q rs h.1)

module _ (D S C : Kind) where
  pub length_table : (rs : List Entry) → length (encode D S C rs) ≡ table_size D S C (length rs)
  length_table rs = length-append (encode_head D S C (length rs)) (encode_records D S C rs) ∙ omega (arith, length_spelt 4 (pack head_widths (head_of D S C (length rs))), length_encoded D S C rs)

  module _ (hd : D.code < 16) (hs : S.code < 16) (hc : C.code < 16) where
    heads : (rs : List Entry) → length rs ≤ 4095 → head_fields (encode D S C rs) ≡ head_of D S C (length rs)
    heads rs h = head_fields_lem D S C (length rs) (encode_records D S C rs) hd hs hc h

    count_back : (rs : List Entry) → length rs ≤ 4095 → filter_count (encode D S C rs) ≡ length rs
    count_back rs h = ap (λ (fs : List ℕ). nth fs 4) (heads rs h)

    kinds_back : (rs : List Entry) → length rs ≤ 4095 → same_kinds D S C (head_fields (encode D S C rs)) ≡ true
    kinds_back rs h =
        ap (same_kinds D S C) (heads rs h)
        ∙ and_from (eqb D.code D.code) (eqb S.code S.code && eqb C.code C.code) (eq-eqb D.code D.code refl)
        (and_from (eqb S.code S.code) (eqb C.code C.code) (eq-eqb S.code S.code refl) (eq-eqb C.code C.code refl))

    head_accepts : (rs : List Entry) (capacity : ℕ) → length rs ≤ 4095 → length rs ≤ capacity → head_verdict D S C capacity (encode D S C rs) ≡ Ok (length rs)
    head_accepts rs capacity h l =
        let n = count_back rs h in
        let a : ltb (length (encode D S C rs)) 4 ≡ false = le-ltb (length (encode D S C rs)) 4 (omega (arith, length_table rs)) in
        let b = kinds_back rs h in
        let c : eqb (length (encode D S C rs)) (table_size D S C (filter_count (encode D S C rs))) ≡ true = eq-eqb _ _ (length_table rs ∙ ap (table_size D S C) (sym n)) in
        let d : ltb capacity (filter_count (encode D S C rs)) ≡ false = le-ltb capacity _ (omega (arith, n)) in
        λ i. tested (a i) (b i) (c i) (d i) (n i)

    decode_back : (rs : List Entry) → length rs ≤ 4095 → Each (Sound D S C) rs → decode D S C (encode D S C rs) ≡ rs
    decode_back rs h s =
        ap (λ (k : ℕ). decode_records D S C k (drop 4 (encode D S C rs))) (count_back rs h)
        ∙ ap (decode_records D S C (length rs)) (drop_at (encode_head D S C (length rs)) (encode_records D S C rs) 4 (length_spelt 4 _))
        ∙ records_back D S C rs s

    -- sound entries that are lawful and have distinct labels, with room for them
    pub table_back : (pass : ℕ → Bool) (capacity : ℕ) (rs : List Entry) → length rs ≤ 4095 → length rs ≤ capacity → Each (Sound D S C) rs → Each (λ r. entry_verdict D S C pass false r ≡ Ok tt) rs → distinct (labels rs) ≡ true → (table_verdict D S C pass capacity (encode D S C rs) ≡ Ok (length rs)) × (decode D S C (encode D S C rs) ≡ rs)
    table_back pass capacity rs h l s v d =
        let e = decode_back rs h s in (
          ap (λ (z : Result ℕ HeadFault). behind_head z (entries_verdict D S C pass [] (decode D S C (encode D S C rs)))) (head_accepts rs capacity h l)
              ∙ ap (entries_verdict D S C pass []) e
              ∙ accept D S C pass [] rs v (unseen_none rs) d
              ∙ ap Ok (omega arith),
          e,
        )

  -- an accepted table was accepted by head and records
  pub behind_parts : (v : Result ℕ HeadFault) (w : Result ℕ LoadFault) (n : ℕ) → behind_head v w ≡ Ok n → ((k : ℕ) × (Ok k ≡ v)) × (w ≡ Ok n)
  behind_parts (Ok k) w n h = ((k, refl), h)
  behind_parts (Err e) w n h = let z : ◌≡◌ {A = ℕ} 0 1 = cc in absurd (omega arith)

  -- the labels of an accepted table
  pub table_labels : (pass : ℕ → Bool) (capacity : ℕ) (bytes : List ℕ) (n : ℕ) → table_verdict D S C pass capacity bytes ≡ Ok n → Labelled (decode D S C bytes)
  table_labels pass capacity bytes n h =
      let p = behind_parts (head_verdict D S C capacity bytes) (entries_verdict D S C pass [] (decode D S C bytes)) n h in
      let q = labels_passed D S C pass [] (decode D S C bytes) n p.1 in
      (each_first (λ r. eqb r.label 0 ≡ false) (λ r. has r.label [] ≡ false) (decode D S C bytes) q.0, q.1)

  -- an accepted table written again has the same bytes
  pub written_back : (pass : ℕ → Bool) → WritesBack D S C pass
  written_back pass capacity n bytes u h =
      let p = behind_parts (head_verdict D S C capacity bytes) (entries_verdict D S C pass [] (decode D S C bytes)) n h in
      let k = head_ok D S C capacity bytes p.0.0 p.0.1 in
      let m = filter_count bytes in
      let len : length bytes ≡ 4 + m * record_size D S C = k.1 ∙ ap (table_size D S C) k.3 in
      ap (λ (j : ℕ). encode_head D S C j ++ encode_records D S C (decode D S C bytes)) (length_records D S C m (drop 4 bytes))
      ∙ ap (λ (z : List ℕ). z ++ encode_records D S C (decode D S C bytes)) (head_back D S C bytes u (omega arith) k.0)
      ∙ ap (λ (z : List ℕ). take 4 bytes ++ z) (records_again D S C m (drop 4 bytes) (All-drop (λ (b : ℕ). b < 256) 4 bytes u) (omega (arith, length-drop 4 bytes)) (all_lawful D S C pass [] (decode D S C bytes) n p.1))
      ∙ take-append-drop 4 bytes

-- ---- filters
layered_cond : (t : Bool) (x : Result (Unit {0}) FilterFault) → layered (cond t (Err ZeroLabel) x) ≡ cond t (Err (OfFilter ZeroLabel)) (layered x)
layered_cond true x = refl
layered_cond false x = refl

each_map : {X Y : Type 0} (f : X → Y) (P : Y → Type 0) (Q R : X → Type 0) → ((x : X) → Q x → R x → P (f x)) → (xs : List X) → Each Q xs → Each R xs → Each P (map f xs)
each_map f P Q R step [] q r = tt
each_map f P Q R step (x ∷ xs) q r = (step x q.0 r.0, each_map f P Q R step xs q.1 r.1)

module _ {D S C P Q R : Type 0} (KD KS KC : Kind) (pass : ℕ → Bool) (dst : D → Str) (src : S → Str) (wd ws : ℕ) (pd : D → P) (ps : S → Q) (pc : C → R) (nd : P → ℕ) (ns : Q → ℕ) (nc : R → ℕ)
    (ed : wd ≡ KD.size) (es : ws ≡ KS.size) (xd : (x : D) → dst x ≡ bits KD.size (nd (pd x))) (xs : (x : S) → src x ≡ bits KS.size (ns (ps x)))
    (fd : (x : D) → nd (pd x) < 256 ^ (KD.size / 8)) (fs : (x : S) → ns (ps x) < 256 ^ (KS.size / 8)) (fc : (x : C) → nc (pc x) < 256 ^ (KC.size / 8))
    (sd : KD.size ≤ 128) (ss : KS.size ≤ 128) (lc : (x : C) → pass (nc (pc x)) ≡ true) where
  -- a record is refused as its filter is
  entry_verdict_lem : (used : Bool) (f : Filter D S C) → entry_verdict KD KS KC pass used (filed pd ps pc nd ns nc f) ≡ layered (filter_verdict dst src wd ws used f)
  entry_verdict_lem used f =
      ap (λ (t : Bool). cond (eqb f.label 0) (Err (OfFilter ZeroLabel)) (cond t (layered (then_used used (body_verdict (bits KD.size) (bits KS.size) KD.size KS.size (respelt nd (respelt pd f.destination)) (respelt ns (respelt ps f.source)) f.directive))) (Err (Pattern Unlawful)))) (lc f.cost)
      ∙ ap (λ (z : Result (Unit {0}) FilterFault). cond (eqb f.label 0) (Err (OfFilter ZeroLabel)) (layered (then_used used z)))
      (sym (body_same dst src (bits KD.size) (bits KS.size) wd ws KD.size KS.size f.destination f.source (respelt nd (respelt pd f.destination)) (respelt ns (respelt ps f.source)) f.directive ed es refl refl (xd f.destination.address) (xs f.source.address)))
      ∙ sym (layered_cond (eqb f.label 0) (then_used used (body_verdict dst src wd ws f.destination f.source f.directive)))

  entry_ok : (f : Filter D S C) → filter_verdict dst src wd ws false f ≡ Ok tt → entry_verdict KD KS KC pass false (filed pd ps pc nd ns nc f) ≡ Ok tt
  entry_ok f h = entry_verdict_lem false f ∙ ap layered h

  entry_sound : (f : Filter D S C) → f.label < 65536 → filter_verdict dst src wd ws false f ≡ Ok tt → Sound KD KS KC (filed pd ps pc nd ns nc f)
  entry_sound f l h =
      let p = entry_passed KD KS KC pass false (filed pd ps pc nd ns nc f) (entry_ok f h) in
      let q = or_parts (ltb KD.size f.destination.length) (ltb KS.size f.source.length) p.0 in
      record {
        label_fits = l;
        destination_length = omega (arith, ltb-false KD.size f.destination.length q.0);
        destination_address = fd f.destination.address;
        source_length = omega (arith, ltb-false KS.size f.source.length q.1);
        source_address = fs f.source.address;
        cost_fits = fc f.cost;
        directive_lawful = p.1;
      }

  labels_filed : (gs : List (Filter D S C)) → labels (map (filed pd ps pc nd ns nc) gs) ≡ map (λ (f : Filter D S C). f.label) gs
  labels_filed [] = refl
  labels_filed (f ∷ gs) = ap (λ (z : List ℕ). f.label ∷ z) (labels_filed gs)

  -- a table written and read back is the same list of filters
  pub read_back : KD.code < 16 → KS.code < 16 → KC.code < 16 → ReadsBack KD KS KC pass dst src wd ws (filed pd ps pc nd ns nc)
  read_back cd cs cc' capacity gs h =
      let n : length (map (filed pd ps pc nd ns nc) gs) ≡ length gs = length-map gs (filed pd ps pc nd ns nc) in
      let t = table_back KD KS KC cd cs cc' pass capacity (map (filed pd ps pc nd ns nc) gs) (omega (arith, h.counted)) (omega (arith, h.room))
      (each_map (filed pd ps pc nd ns nc) (Sound KD KS KC) (λ f. f.label < 65536) (λ f. filter_verdict dst src wd ws false f ≡ Ok tt) entry_sound gs h.small h.lawful)
      (each_map (filed pd ps pc nd ns nc) (λ r. entry_verdict KD KS KC pass false r ≡ Ok tt) (λ f. f.label < 65536) (λ f. filter_verdict dst src wd ws false f ≡ Ok tt) (λ f l v. entry_ok f v) gs h.small h.lawful)
      (ap distinct (labels_filed gs) ∙ h.apart) in
      (t.0 ∙ ap Ok n, t.1)
