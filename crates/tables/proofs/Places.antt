-- What loading leaves in the places, and writing in the buffer, record by record.
use Rattle.std.proofs.Common.{◌≡◌, ℕ, ◌+◌, ◌*◌, ◌<◌, List, [], ◌∷◌, ◌++◌, map, length, get_or, take, drop, set, sym, refl, ap, ◌∙◌, suc-mul, add-mul, one-mul, zero-mul, arith}
use borrow.Rule.Slice.PartMut.{put_mid}
use Rattle.std.proofs.lemmas.List.{drop-drop, drop-set-lt, take_more, take_more_set, map_push, map_more, append_assoc, append-nil, length-append, length-map, length-take-le, take_at, drop_at}
use Rattle.tables.specs.Format.{Kind, Entry, record_parts, record_size, table_size, encode_head, encode_record, encode_records, encode, entry_numbers}
use Rattle.tables.proofs.Words.{length_spell}

-- one place more is loaded
pub load_more : {R : Type 0} (entry : R → Entry) (es : List Entry) (n i m : ℕ) (old ps qs : List R) (r : R) (e : Entry) → i ≡ n → m ≡ i + 1 → i < length ps → i < length es → qs ≡ set ps i r → entry r ≡ e → e ≡ get_or es i e → map entry (take n ps) ≡ take n es → drop n ps ≡ drop n old → (map entry (take m qs) ≡ take m es) × (drop m qs ≡ drop m old)
load_more {R} entry es n i m old ps qs r e same next h k w f at l o = (
  ap (λ (j : ℕ). map entry (take j qs)) next
      ∙ ap (λ (ys : List R). map entry (take (i + 1) ys)) w
      ∙ ap (map entry) (take_more_set ps i r h)
      ∙ map_push entry (take i ps) r
      ∙ ap (λ (j : ℕ). map entry (take j ps) ++ entry r ∷ []) same
      ∙ ap (λ (z : List Entry). z ++ entry r ∷ []) l
      ∙ ap (λ (j : ℕ). take j es ++ entry r ∷ []) (sym same)
      ∙ ap (λ (z : Entry). take i es ++ z ∷ []) (f ∙ at)
      ∙ sym (take_more es i e k)
      ∙ ap (λ (j : ℕ). take j es) (sym next),
  ap (λ (j : ℕ). drop j qs) next
      ∙ ap (drop (i + 1)) w
      ∙ drop-set-lt (i + 1) ps i r (omega arith)
      ∙ sym (drop-drop 1 i ps)
      ∙ ap (λ (j : ℕ). drop 1 (drop j ps)) same
      ∙ ap (drop 1) o
      ∙ ap (λ (j : ℕ). drop 1 (drop j old)) (sym same)
      ∙ drop-drop 1 i old
      ∙ ap (λ (j : ℕ). drop j old) (sym next),
)

module _ (D S C : Kind) where
  -- a record has its size
  pub length_record : (r : Entry) → length (encode_record D S C r) ≡ record_size D S C
  length_record r = length_spell (record_parts D S C) (entry_numbers D S C r) refl

  pub length_encoded : (rs : List Entry) → length (encode_records D S C rs) ≡ length rs * record_size D S C
  length_encoded [] = sym (zero-mul (record_size D S C))
  length_encoded (r ∷ rs) =
      length-append (encode_record D S C r) (encode_records D S C rs)
      ∙ omega (arith, length_record r, length_encoded rs, suc-mul (length rs) (record_size D S C))

  pub encode_append : (rs ss : List Entry) → encode_records D S C (rs ++ ss) ≡ encode_records D S C rs ++ encode_records D S C ss
  encode_append [] ss = refl
  encode_append (r ∷ rs) ss =
      ap (λ (z : List ℕ). encode_record D S C r ++ z) (encode_append rs ss)
      ∙ sym (append_assoc (encode_record D S C r) (encode_records D S C rs) (encode_records D S C ss))

  pub encode_push : (rs : List Entry) (r : Entry) → encode_records D S C (rs ++ r ∷ []) ≡ encode_records D S C rs ++ encode_record D S C r
  encode_push rs r = encode_append rs (r ∷ []) ∙ ap (λ (z : List ℕ). encode_records D S C rs ++ z) (append-nil (encode_record D S C r))

  -- one record more is written
  pub put_more : {R : Type 0} (entry : R → Entry) (ps : List R) (d x y z : List ℕ) (i a k : ℕ) (r : R) → i < length ps → a ≡ i * record_size D S C → k ≡ record_size D S C → r ≡ get_or ps i r → x ≡ encode_records D S C (map entry (take i ps)) ++ drop (i * record_size D S C) d → z ≡ encode_record D S C (entry r) → y ≡ put_mid a k x z → y ≡ encode_records D S C (map entry (take (i + 1) ps)) ++ drop ((i + 1) * record_size D S C) d
  put_more {R} entry ps d x y z i a k r h ea ek g f w e =
      let s = record_size D S C in
      let rs = map entry (take i ps) in
      let es = encode_records D S C rs in
      let n : length es ≡ i * s = length_encoded rs ∙ ap (λ (j : ℕ). j * s) (length-map (take i ps) entry ∙ length-take-le i ps (omega arith)) in
      let m : i * s + s ≡ (i + 1) * s = omega (arith, add-mul i 1 s, one-mul s) in
      let u : map entry (take (i + 1) ps) ≡ rs ++ entry r ∷ [] = map_more entry ps i r h ∙ ap (λ (q : R). rs ++ entry q ∷ []) (sym g) in
      e
      ∙ ap (λ (j : ℕ). put_mid j k x z) ea
      ∙ ap (λ (j : ℕ). put_mid (i * s) j x z) ek
      ∙ ap (λ (xs : List ℕ). put_mid (i * s) s xs z) f
      ∙ ap (λ (xs : List ℕ). xs ++ (z ++ drop s (drop (i * s) (es ++ drop (i * s) d)))) (take_at es (drop (i * s) d) (i * s) n)
      ∙ ap (λ (xs : List ℕ). es ++ (z ++ drop s xs)) (drop_at es (drop (i * s) d) (i * s) n)
      ∙ ap (λ (xs : List ℕ). es ++ (z ++ xs)) (drop-drop s (i * s) d ∙ ap (λ (j : ℕ). drop j d) m)
      ∙ sym (append_assoc es z (drop ((i + 1) * s) d))
      ∙ ap (λ (xs : List ℕ). (es ++ xs) ++ drop ((i + 1) * s) d) w
      ∙ ap (λ (xs : List ℕ). xs ++ drop ((i + 1) * s) d) (sym (ap (encode_records D S C) u ∙ encode_push rs (entry r)))

  -- head and records are the table
  pub written_is : (rs : List Entry) (n m : ℕ) (d back x y : List ℕ) → n ≡ length rs → m ≡ table_size D S C n → back ≡ drop 4 d → x ≡ encode_head D S C n → y ≡ encode_records D S C rs ++ drop (n * record_size D S C) back → x ++ y ≡ encode D S C rs ++ drop m d
  written_is rs n m d back x y e l b f k =
      let t = encode_records D S C rs in
      let r : drop (n * record_size D S C) back ≡ drop m d = ap (drop (n * record_size D S C)) b ∙ drop-drop (n * record_size D S C) 4 d ∙ ap (λ (j : ℕ). drop j d) (sym l) in
      ap (λ (xs : List ℕ). xs ++ y) f
      ∙ ap (λ (xs : List ℕ). encode_head D S C n ++ xs) (k ∙ ap (λ (xs : List ℕ). t ++ xs) r)
      ∙ sym (append_assoc (encode_head D S C n) t (drop m d))
      ∙ ap (λ (j : ℕ). (encode_head D S C j ++ t) ++ drop m d) e
