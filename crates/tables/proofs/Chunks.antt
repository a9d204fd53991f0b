-- Records as the chunks of a slice.
use Rattle.std.proofs.Common.{◌≡◌, ℕ, zero, suc, ◌+◌, ◌-◌, ◌*◌, ◌/◌, ◌<◌, ◌≤◌, List, [], ◌∷◌, ◌++◌, length, get_or, take, drop, Some, None, Option, sym, refl, ap, ◌∙◌, subst, suc-mul, arith}
use Rattle.std.proofs.Math.Nat.{div-eq_of_lt, add-div_left, div-mul-le_self}
use Rattle.std.proofs.lemmas.Nat.{div-mul-add}
use Rattle.std.proofs.lemmas.List.{take-take, drop-take, take_at, drop_at, drop-drop, get_or-drop, length-append, length-drop, length-take-le, take_rest}
use Rattle.std.proofs.lemmas.Iterator.{YieldsList}
use Rattle.std.proofs.lemmas.Iterator.Splits.{YieldsList-from_shown_while}
use Rattle.std.specs.Iterator.Adapters.{enumerate_source, enumerate_count, enumerate_steps}
use Rattle.std.specs.declared.iter.Enumerate.{Enumerate}
use Rattle.std.specs.declared.slice.ChunksExact.{ChunksExact}
use denote.Ref.{Bor}
use Rattle.std.specs.Slice.Iter.{chunks_exact_steps, chunks_exact_rest, chunks_exact_size}
use Rattle.tables.specs.Bytes.{word, total, numbers}
use Rattle.tables.specs.Format.{Kind, Entry, record_parts, record_size, table_size, entry_by, decode_record, decode_records, entries}
use Rattle.tables.proofs.Tables.{length_records, row_below, take_records}

-- parts of a byte string are those of its front
numbers_front : (ks : List ℕ) (k : ℕ) (xs : List ℕ) → total ks ≤ k → numbers ks (take k xs) ≡ numbers ks xs
numbers_front [] k xs h = refl
numbers_front (p ∷ ks) k xs h =
    let e : k ≡ p + (k - p) = omega arith in
    let t : take p (take k xs) ≡ take p xs = take-take p k xs (omega arith) in
    let d : drop p (take k xs) ≡ take (k - p) (drop p xs) = ap (λ (j : ℕ). drop p (take j xs)) e ∙ drop-take p (k - p) xs in
    ap (λ (ys : List ℕ). word ys ∷ numbers ks (drop p (take k xs))) t
    ∙ ap (λ (ys : List ℕ). word (take p xs) ∷ numbers ks ys) d
    ∙ ap (λ (ns : List ℕ). word (take p xs) ∷ ns) (numbers_front ks (k - p) (drop p xs) (omega arith))

module _ (D S C : Kind) where
  decode_front : (k : ℕ) (xs : List ℕ) → record_size D S C ≤ k → decode_record D S C (take k xs) ≡ decode_record D S C xs
  unfolding decode_record
  decode_front k xs h = ap (entry_by D S C) (numbers_front (record_parts D S C) k xs h)

  -- the first records are those of the front
  records_front : (i k : ℕ) (xs : List ℕ) → i * record_size D S C ≤ k → decode_records D S C i (take k xs) ≡ decode_records D S C i xs
  records_front zero k xs h = refl
  records_front (suc i) k xs h =
      let s = record_size D S C in
      let m = suc-mul i s in
      let e : k ≡ s + (k - s) = omega arith in
      let d : drop s (take k xs) ≡ take (k - s) (drop s xs) = ap (λ (j : ℕ). drop s (take j xs)) e ∙ drop-take s (k - s) xs in
      ap (λ (r : Entry). r ∷ decode_records D S C i (drop s (take k xs))) (decode_front k xs (omega arith))
      ∙ ap (λ (ys : List ℕ). decode_record D S C xs ∷ decode_records D S C i ys) d
      ∙ ap (λ (rs : List Entry). decode_record D S C xs ∷ rs) (records_front i (k - s) (drop s xs) (omega arith))

  -- one record, and those behind it
  entries_cons : (xs x rest : List ℕ) → xs ≡ x ++ rest → length x ≡ record_size D S C → entries D S C xs ≡ decode_record D S C x ∷ entries D S C rest
  entries_cons xs x rest e l =
      let s = record_size D S C in
      let n : length xs / s ≡ suc (length rest / s) = ap (λ (ys : List ℕ). length ys / s) e ∙ ap (λ (k : ℕ). k / s) (length-append x rest ∙ ap (λ (k : ℕ). k + length rest) l) ∙ add-div_left (length rest) (omega arith) ∙ omega arith in
      ap (λ (k : ℕ). decode_records D S C k xs) n
      ∙ ap (λ (ys : List ℕ). decode_records D S C (suc (length rest / s)) ys) e
      ∙ ap (λ (r : Entry). r ∷ decode_records D S C (length rest / s) (drop s (x ++ rest))) (sym (decode_front s (x ++ rest) (omega arith)) ∙ ap (decode_record D S C) (take_at x rest s l))
      ∙ ap (λ (ys : List ℕ). decode_record D S C x ∷ decode_records D S C (length rest / s) ys) (drop_at x rest s l)

  entries_short : (xs : List ℕ) → length xs < record_size D S C → entries D S C xs ≡ []
  entries_short xs h = ap (λ (k : ℕ). decode_records D S C k xs) (div-eq_of_lt h)

  -- the records of a part of the front
  pub entries_front : (i : ℕ) (xs : List ℕ) → i * record_size D S C ≤ length xs → entries D S C (take (i * record_size D S C) xs) ≡ decode_records D S C i xs
  entries_front i xs h =
      let s = record_size D S C in
      let n : length (take (i * s) xs) / s ≡ i = ap (λ (k : ℕ). k / s) (length-take-le (i * s) xs h ∙ omega arith) ∙ div-mul-add i s 0 (omega arith) in
      ap (λ (k : ℕ). decode_records D S C k (take (i * s) xs)) n ∙ records_front i (i * s) xs (omega arith)

  -- a slice's chunks give its records
  pub entries_yield : {s : _} (xs : List ℕ) → chunks_exact_rest s ≡ xs → chunks_exact_size s ≡ record_size D S C → YieldsList (chunks_exact_steps {A = ℕ}) (λ x. decode_record D S C x.now) s (entries D S C xs)
  entries_yield {s} xs e z =
      subst (YieldsList (chunks_exact_steps {A = ℕ}) (λ x. decode_record D S C x.now) s) (ap (entries D S C) e)
      (YieldsList-from_shown_while (chunks_exact_steps {A = ℕ}) (λ x. decode_record D S C x.now) (λ t. entries D S C (chunks_exact_rest t)) (λ t. chunks_exact_size t ≡ record_size D S C)
      (λ t u h k. ap length (entries_short (chunks_exact_rest t) (omega arith)))
      (λ t x u h k. (k.0 ∙ h, entries_cons (chunks_exact_rest t) x.now (chunks_exact_rest u) k.1.0 (k.1.1 ∙ h)))
      s z)

  -- the entries behind the head of a table of n records
  pub table_entries : (bytes : List ℕ) (n : ℕ) → length bytes ≡ table_size D S C n → entries D S C (take (length bytes - 4) (drop 4 bytes)) ≡ decode_records D S C n (drop 4 bytes)
  table_entries bytes n h =
      let s = record_size D S C in
      let l : length (drop 4 bytes) ≡ n * s + 0 = omega (arith, length-drop 4 bytes) in
      ap (entries D S C) (take_rest bytes 4)
      ∙ ap (λ (k : ℕ). decode_records D S C k (drop 4 bytes)) (ap (λ (k : ℕ). k / s) l ∙ div-mul-add n s 0 (omega arith))

  -- a record is inside the slice
  pub inside : (xs : List ℕ) (i : ℕ) → i < length (entries D S C xs) → i * record_size D S C + record_size D S C ≤ length xs
  inside xs i h =
      let s = record_size D S C in
      let n = length_records D S C (length xs / s) xs in
      let m = div-mul-le_self (length xs) s in
      omega (arith, row_below i (length xs / s) s (omega arith))

  -- the records before one
  pub before : (xs : List ℕ) (i size : ℕ) → size ≡ record_size D S C → i < length (entries D S C xs) → entries D S C (take (i * size) xs) ≡ take i (entries D S C xs)
  before xs i size e h =
      let n = length_records D S C (length xs / record_size D S C) xs in
      ap (λ (k : ℕ). entries D S C (take (i * k) xs)) e
      ∙ entries_front i xs (omega (arith, inside xs i h))
      ∙ sym (take_records D S C (length xs / record_size D S C) i xs (omega arith))

  -- a loop over a slice's chunks, counted: how many records have come, and what is left
  pub record Chunked (xs : List ℕ) (t : Enumerate (ChunksExact ℕ)) : Type 0 where
    pub size : chunks_exact_size (enumerate_source t) ≡ record_size D S C
    pub left : entries D S C (chunks_exact_rest (enumerate_source t)) ≡ drop (enumerate_count t) (entries D S C xs)
    pub few : enumerate_count t ≤ length (entries D S C xs)

  -- the next chunk is the next record
  pub record Turned (xs : List ℕ) (i : ℕ) (x : List ℕ) (t : Enumerate (ChunksExact ℕ)) : Type 0 where
    pub whole : length x ≡ record_size D S C
    pub below : i < length (entries D S C xs)
    pub here : decode_record D S C x ≡ get_or (entries D S C xs) i (decode_record D S C x)
    pub count : enumerate_count t ≡ i + 1
    pub then : Chunked xs t

  pub turned : (xs : List ℕ) (s t : Enumerate (ChunksExact ℕ)) (r : Option (ℕ × Bor (List ℕ))) (p : ℕ × Bor (List ℕ)) → Chunked xs s → r ≡ Some p → enumerate_steps (chunks_exact_steps {A = ℕ}) s r t → (p.0 ≡ enumerate_count s) × Turned xs p.0 p.1.now t
  turned xs s t r p k e h =
      let m = subst (λ o. enumerate_steps (chunks_exact_steps {A = ℕ}) s o t) e h in
      let es = entries D S C xs in
      let n = enumerate_count s in
      let x = p.1.now in
      let z = m.0.1.1 ∙ k.size in
      let d = sym k.left ∙ entries_cons (chunks_exact_rest (enumerate_source s)) x (chunks_exact_rest (enumerate_source t)) m.0.1.0 z in
      let few : n < length es = omega (arith, ap length d, length-drop n es) in
      let i : p.0 ≡ n = m.1 in
      let at : get_or es n (decode_record D S C x) ≡ decode_record D S C x = ap (λ (j : ℕ). get_or es j (decode_record D S C x)) (omega arith) ∙ sym (get_or-drop n es 0 (decode_record D S C x)) ∙ ap (λ (rs : List Entry). get_or rs 0 (decode_record D S C x)) d in
      let left : entries D S C (chunks_exact_rest (enumerate_source t)) ≡ drop (n + 1) es = sym (ap (drop 1) d) ∙ drop-drop 1 n es in (
        i,
        record {
          whole = z;
          below = omega arith;
          here = sym (ap (λ (j : ℕ). get_or es j (decode_record D S C x)) i ∙ at);
          count = m.2 ∙ ap (λ (j : ℕ). j + 1) (sym i);
          then = record { size = m.0.0 ∙ k.size; left = left ∙ ap (λ (j : ℕ). drop j es) (sym m.2); few = omega (arith, m.2) };
        },
      )

  pub ended : (xs : List ℕ) (s t : Enumerate (ChunksExact ℕ)) (r : Option (ℕ × Bor (List ℕ))) → Chunked xs s → r ≡ None → enumerate_steps (chunks_exact_steps {A = ℕ}) s r t → enumerate_count s ≡ length (entries D S C xs)
  ended xs s t r k e h =
      let m = subst (λ o. enumerate_steps (chunks_exact_steps {A = ℕ}) s o t) e h in
      let es = entries D S C xs in
      let n = enumerate_count s in
      let d = sym k.left ∙ entries_short (chunks_exact_rest (enumerate_source s)) (omega (arith, m.0.1.0, k.size)) in
      omega (arith, ap length d, length-drop n es, k.few)
