-- The records of a table, by their places.
use Rattle.std.proofs.Common.{◌≡◌, ℕ, zero, suc, ◌+◌, ◌*◌, ◌<◌, ◌≤◌, Bool, ◌||◌, eqb, List, [], ◌∷◌, length, get_or, take, drop, sym, refl, ap, ◌∙◌, mul-le-mul_right, suc-mul, zero-mul, arith}
use Rattle.std.proofs.lemmas.List.{drop-drop, get_or-map, length-map}
use Rattle.std.specs.List.{list_any}
use Rattle.tables.specs.Bytes.{word}
use Rattle.tables.specs.Format.{Kind, Entry, record_size, decode_record, decode_records}
use Rattle.tables.specs.Verdict.{has, labels}

-- the rows before the n-th end before it
pub row_below : (i n s : ℕ) → i < n → i * s + s ≤ n * s
row_below i n s h =
    let e : suc i * s ≡ i * s + s = suc-mul i s in
    let l : suc i * s ≤ n * s = mul-le-mul_right s h in
    omega arith

module _ (D S C : Kind) where
  pub length_records : (n : ℕ) (xs : List ℕ) → length (decode_records D S C n xs) ≡ n
  length_records zero xs = refl
  length_records (suc n) xs = ap suc (length_records n (drop (record_size D S C) xs))

  -- the record at a place
  pub get_d_records : (n : ℕ) (xs : List ℕ) (i : ℕ) (d : Entry) → i < n → get_or (decode_records D S C n xs) i d ≡ decode_record D S C (drop (i * record_size D S C) xs)
  get_d_records zero xs i d h = absurd (omega arith)
  get_d_records (suc n) xs zero d h = ap (λ (k : ℕ). decode_record D S C (drop k xs)) (sym (zero-mul (record_size D S C)))
  get_d_records (suc n) xs (suc i) d h =
      let e : record_size D S C + i * record_size D S C ≡ suc i * record_size D S C = omega (arith, suc-mul i (record_size D S C)) in
      get_d_records n (drop (record_size D S C) xs) i d (omega arith)
      ∙ ap (decode_record D S C) (drop-drop (i * record_size D S C) (record_size D S C) xs ∙ ap (λ (k : ℕ). drop k xs) e)

  -- fewer records are the first of them
  pub take_records : (n i : ℕ) (xs : List ℕ) → i ≤ n → take i (decode_records D S C n xs) ≡ decode_records D S C i xs
  take_records n zero xs h = refl
  take_records zero (suc i) xs h = absurd (omega arith)
  take_records (suc n) (suc i) xs h = ap (λ (rs : List Entry). decode_record D S C xs ∷ rs) (take_records n i (drop (record_size D S C) xs) (omega arith))

  -- a record begins with its label
  pub label_is : (xs : List ℕ) → (decode_record D S C xs).label ≡ word (take 2 xs)
  unfolding decode_record
  label_is xs = refl

  pub length_labels : (n : ℕ) (xs : List ℕ) → length (labels (decode_records D S C n xs)) ≡ n
  length_labels n xs = length-map (decode_records D S C n xs) (λ (r : Entry). r.label) ∙ length_records n xs

  pub get_d_labels : (n : ℕ) (xs : List ℕ) (i : ℕ) → i < n → get_or (labels (decode_records D S C n xs)) i 0 ≡ word (take 2 (drop (i * record_size D S C) xs))
  get_d_labels n xs i h =
      get_or-map (λ (r : Entry). r.label) (decode_records D S C n xs) i (decode_record D S C []) 0 (omega (arith, length_records n xs))
      ∙ ap (λ (r : Entry). r.label) (get_d_records n xs i (decode_record D S C []) h)
      ∙ label_is (drop (i * record_size D S C) xs)

-- looking for a label among records
pub has_any : (n : ℕ) (rs : List Entry) → list_any (λ r. eqb r.label n) rs ≡ has n (labels rs)
has_any n [] = refl
has_any n (r ∷ rs) = ap (λ (b : Bool). eqb r.label n || b) (has_any n rs)
