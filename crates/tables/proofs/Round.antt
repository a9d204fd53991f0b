-- Reading and writing undo each other: directives, records, the head.
use Rattle.std.proofs.Common.{◌≡◌, ℕ, zero, suc, ◌+◌, ◌*◌, ◌/◌, ◌^◌, ◌<◌, ◌≤◌, Bool, true, false, cond, ◌&&◌, eqb, leb, List, [], ◌∷◌, ◌++◌, length, take, drop, sym, refl, ap, ◌∙◌, subst, mod-eq_of_lt, suc-mul, zero-mul, arith}
use Rattle.std.specs.Int.Digits.{AllBelowBase}
use Rattle.std.proofs.ByRecursion.{All-take, All-drop}
use Rattle.std.proofs.lemmas.List.{take_at, drop_at, take-append-drop, length-take-le, length-drop, nil_from_length}
use Rattle.std.proofs.lemmas.Bool.{eqb-true, leb-true, and_parts, true≢false}
use Rattle.filters.specs.declared.directive.Directive.{Directive}
use Rattle.filters.specs.declared.directive.Directive.TheVariants.{Block, Line, Reserve}
use Rattle.filters.specs.Directives.{lawful}
use Rattle.filters.specs.Orders.{Each}
use Rattle.tables.specs.Bytes.{word, spelt, spell, fields, pack, nth}
use Rattle.tables.specs.Directives.{broken, directive_widths, directive_fields, directive_number, directive_by, directive_of}
use Rattle.tables.specs.Format.{Kind, Entry, head_widths, head_of, head_fields, filter_count, record_parts, record_size, entry_numbers, entry_by, encode_head, encode_record, encode_records, decode_record, decode_records}
use Rattle.tables.specs.Verdict.{same_kinds}
use Rattle.tables.proofs.Words.{length_spelt}
use Rattle.tables.proofs.Packing.{Fit, word_lt, word_spelt, numbers_spell, spelt_part, spell_numbers, pack_lt, fields_pack, pack_fields}
use Rattle.tables.proofs.Places.{length_record}

-- ---- directives
line_small : (n : ℕ) → lawful (Line n) ≡ true → n ≤ 63
line_small n h = leb-true n 63 (and_parts (leb 1 n) (leb n 63) h).1

fields_fit : (a : Directive) → lawful a ≡ true → Fit 2 directive_widths (directive_fields a)
fields_fit Block h = (omega arith, (omega arith, (omega arith, tt)))
fields_fit (Line n) h = (omega arith, (omega (arith, line_small n h), (omega arith, tt)))
fields_fit (Reserve n r) h =
    let p = and_parts (lawful (Line n)) (leb 1 r && leb r 16777215) h in
    let q = leb-true r 16777215 (and_parts (leb 1 r) (leb r 16777215) p.1).1 in
    (omega arith, (omega (arith, line_small n p.0), (omega arith, tt)))

abbrev by_list : List ℕ → Directive
by_list fs = directive_by (nth fs 0) (nth fs 1) (nth fs 2)

by_fields : (a : Directive) → by_list (directive_fields a) ≡ a
by_fields Block = refl
by_fields (Line n) = refl
by_fields (Reserve n r) = refl

pub directive_back : (a : Directive) → lawful a ≡ true → directive_of (directive_number a) ≡ a
directive_back a h = ap by_list (fields_pack directive_widths (directive_fields a) (fields_fit a h)) ∙ by_fields a

never : {X : Type 0} → lawful broken ≡ true → X
never h = absurd (true≢false (sym h))

-- the fields of the directive of lawful fields, by the tests
fields_at : (b0 b1 b2 bl br : Bool) (form line rate : ℕ) → eqb form 0 ≡ b0 → eqb form 1 ≡ b1 → eqb form 2 ≡ b2 → eqb line 0 ≡ bl → eqb rate 0 ≡ br → lawful (cond b0 (cond (bl && br) Block broken) (cond b1 (cond br (Line line) broken) (cond b2 (Reserve line rate) broken))) ≡ true → directive_fields (cond b0 (cond (bl && br) Block broken) (cond b1 (cond br (Line line) broken) (cond b2 (Reserve line rate) broken))) ≡ form ∷ line ∷ rate ∷ []
fields_at true b1 b2 true true form line rate f0 f1 f2 fl fr h =
    let x = sym (eqb-true form 0 f0) in let y = sym (eqb-true line 0 fl) in let z = sym (eqb-true rate 0 fr) in λ i. x i ∷ y i ∷ z i ∷ []
fields_at true b1 b2 true false form line rate f0 f1 f2 fl fr h = never h
fields_at true b1 b2 false br form line rate f0 f1 f2 fl fr h = never h
fields_at false true b2 bl true form line rate f0 f1 f2 fl fr h =
    let x = sym (eqb-true form 1 f1) in let z = sym (eqb-true rate 0 fr) in λ i. x i ∷ line ∷ z i ∷ []
fields_at false true b2 bl false form line rate f0 f1 f2 fl fr h = never h
fields_at false false true bl br form line rate f0 f1 f2 fl fr h =
    let x = sym (eqb-true form 2 f2) in λ i. x i ∷ line ∷ rate ∷ []
fields_at false false false bl br form line rate f0 f1 f2 fl fr h = never h

pub number_back : (n : ℕ) → n < 2 ^ 32 → lawful (directive_of n) ≡ true → directive_number (directive_of n) ≡ n
number_back n s h =
    ap (pack directive_widths) (fields_at _ _ _ _ _ (nth (fields directive_widths n) 0) (nth (fields directive_widths n) 1) (nth (fields directive_widths n) 2) refl refl refl refl refl h)
    ∙ pack_fields directive_widths n
    ∙ mod-eq_of_lt s

-- ---- the head
module _ (D S C : Kind) where
  pub head_fields_lem : (n : ℕ) (rest : List ℕ) → D.code < 16 → S.code < 16 → C.code < 16 → n ≤ 4095 → head_fields (encode_head D S C n ++ rest) ≡ head_of D S C n
  head_fields_lem n rest hd hs hc hn =
      ap (λ (z : List ℕ). fields head_widths (word z)) (take_at (encode_head D S C n) rest 4 (length_spelt 4 (pack head_widths (head_of D S C n))))
      ∙ ap (fields head_widths) (word_spelt 4 (pack head_widths (head_of D S C n)) ∙ mod-eq_of_lt (pack_lt head_widths (head_of D S C n)))
      ∙ fields_pack head_widths (head_of D S C n) (omega arith, (hd, (hs, (hc, (omega arith, tt)))))

  -- the kinds of an accepted head
  kinds_are : (fs : List ℕ) → same_kinds D S C fs ≡ true → (nth fs 0 ≡ 1) × (nth fs 1 ≡ D.code) × (nth fs 2 ≡ S.code) × (nth fs 3 ≡ C.code)
  kinds_are fs h =
      let p = and_parts (eqb (nth fs 0) 1) _ h in
      let q = and_parts (eqb (nth fs 1) D.code) _ p.1 in
      let r = and_parts (eqb (nth fs 2) S.code) _ q.1 in
      (eqb-true _ _ p.0, eqb-true _ _ q.0, eqb-true _ _ r.0, eqb-true _ _ r.1)

  pub head_back : (bytes : List ℕ) → AllBelowBase 256 bytes → 4 ≤ length bytes → same_kinds D S C (head_fields bytes) ≡ true → encode_head D S C (filter_count bytes) ≡ take 4 bytes
  head_back bytes u l h =
      let k = kinds_are (head_fields bytes) h in
      let a = sym k.0 in
      let b = sym k.1 in
      let c = sym k.2 in
      let d = sym k.3 in
      let w : word (take 4 bytes) < 2 ^ 32 = subst (λ (z : ℕ). word (take 4 bytes) < 256 ^ z) (length-take-le 4 bytes l) (word_lt (take 4 bytes) (All-take (λ (z : ℕ). z < 256) 4 bytes u)) in
      ap (λ (fs : List ℕ). spelt 4 (pack head_widths fs)) (λ i. a i ∷ b i ∷ c i ∷ d i ∷ filter_count bytes ∷ [])
      ∙ ap (spelt 4) (pack_fields head_widths (word (take 4 bytes)) ∙ mod-eq_of_lt w)
      ∙ spelt_part 4 bytes u l

  -- ---- a record
  -- an entry whose numbers have room in their parts, and whose directive is lawful
  pub record Sound (r : Entry) : Type 0 where
    pub label_fits : r.label < 65536
    pub destination_length : r.destination.length < 256
    pub destination_address : r.destination.address < 256 ^ (D.size / 8)
    pub source_length : r.source.length < 256
    pub source_address : r.source.address < 256 ^ (S.size / 8)
    pub cost_fits : r.cost < 256 ^ (C.size / 8)
    pub directive_lawful : lawful r.directive ≡ true

  pub record_back : (r : Entry) (rest : List ℕ) → Sound r → decode_record D S C (encode_record D S C r ++ rest) ≡ r
  unfolding decode_record
  record_back r rest h =
      let a = directive_back r.directive h.directive_lawful in
      ap (entry_by D S C) (numbers_spell (record_parts D S C) (entry_numbers D S C r) rest (h.label_fits, (h.destination_length, (h.destination_address, (h.source_length, (h.source_address, (h.cost_fits, (pack_lt directive_widths (directive_fields r.directive), tt))))))))
      ∙ (λ i. record { label = r.label; destination = r.destination; source = r.source; cost = r.cost; directive = a i })

  pub record_again : (xs : List ℕ) → AllBelowBase 256 xs → record_size D S C ≤ length xs → lawful (decode_record D S C xs).directive ≡ true → encode_record D S C (decode_record D S C xs) ≡ take (record_size D S C) xs
  unfolding decode_record
  record_again xs u l h =
      let ds = D.size / 8 in
      let ss = S.size / 8 in
      let cs = C.size / 8 in
      let ys = drop cs (drop ss (drop 1 (drop ds (drop 1 (drop 2 xs))))) in
      let v : AllBelowBase 256 ys = All-drop (λ (z : ℕ). z < 256) cs _ (All-drop (λ (z : ℕ). z < 256) ss _ (All-drop (λ (z : ℕ). z < 256) 1 _ (All-drop (λ (z : ℕ). z < 256) ds _ (All-drop (λ (z : ℕ). z < 256) 1 _ (All-drop (λ (z : ℕ). z < 256) 2 xs u))))) in
      let m : 4 ≤ length ys = omega (arith, length-drop cs (drop ss (drop 1 (drop ds (drop 1 (drop 2 xs))))), length-drop ss (drop 1 (drop ds (drop 1 (drop 2 xs)))), length-drop 1 (drop ds (drop 1 (drop 2 xs))), length-drop ds (drop 1 (drop 2 xs)), length-drop 1 (drop 2 xs), length-drop 2 xs) in
      let w : word (take 4 ys) < 2 ^ 32 = subst (λ (z : ℕ). word (take 4 ys) < 256 ^ z) (length-take-le 4 ys m) (word_lt (take 4 ys) (All-take (λ (z : ℕ). z < 256) 4 ys v)) in
      let n = number_back (word (take 4 ys)) w h in
      ap (λ (z : ℕ). spell (record_parts D S C) (word (take 2 xs) ∷ word (take 1 (drop 2 xs)) ∷ word (take ds (drop 1 (drop 2 xs))) ∷ word (take 1 (drop ds (drop 1 (drop 2 xs)))) ∷ word (take ss (drop 1 (drop ds (drop 1 (drop 2 xs))))) ∷ word (take cs (drop ss (drop 1 (drop ds (drop 1 (drop 2 xs)))))) ∷ z ∷ [])) n
      ∙ spell_numbers (record_parts D S C) xs u l

  -- ---- records
  pub records_back : (rs : List Entry) → Each Sound rs → decode_records D S C (length rs) (encode_records D S C rs) ≡ rs
  records_back [] h = refl
  records_back (r ∷ rs) h =
      let a = record_back r (encode_records D S C rs) h.0 in
      let b : decode_records D S C (length rs) (drop (record_size D S C) (encode_record D S C r ++ encode_records D S C rs)) ≡ rs = ap (decode_records D S C (length rs)) (drop_at (encode_record D S C r) (encode_records D S C rs) (record_size D S C) (length_record D S C r)) ∙ records_back rs h.1 in
      λ i. a i ∷ b i

  pub records_again : (n : ℕ) (xs : List ℕ) → AllBelowBase 256 xs → length xs ≡ n * record_size D S C → Each (λ r. lawful r.directive ≡ true) (decode_records D S C n xs) → encode_records D S C (decode_records D S C n xs) ≡ xs
  records_again zero xs u l h = sym (nil_from_length xs (l ∙ zero-mul (record_size D S C)))
  records_again (suc n) xs u l h =
      let m : length xs ≡ n * record_size D S C + record_size D S C = l ∙ suc-mul n (record_size D S C) in
      ap (λ (z : List ℕ). z ++ encode_records D S C (decode_records D S C n (drop (record_size D S C) xs))) (record_again xs u (omega arith) h.0)
      ∙ ap (λ (z : List ℕ). take (record_size D S C) xs ++ z) (records_again n (drop (record_size D S C) xs) (All-drop (λ (z : ℕ). z < 256) (record_size D S C) xs u) (omega (arith, length-drop (record_size D S C) xs)) h.1)
      ∙ take-append-drop (record_size D S C) xs
