-- Loading and writing one after the other.
use Rattle.std.proofs.Common.{◌≡◌, ℕ, Bool, true, false, cond, ◌||◌, ltb, List, [], ◌∷◌, ◌++◌, map, length, take, drop, Ok, Err, Result, sym, refl, ap, ◌∙◌, subst, arith}
use Rattle.std.specs.Int.Digits.{AllBelowBase}
use Rattle.std.proofs.lemmas.List.{length-map, length-take-le, take_at}
use Rattle.std.proofs.lemmas.Simd.{map-map}
use Rattle.filters.specs.Meaning.{Record}
use Rattle.tables.specs.declared.fault.LoadFault.{LoadFault}
use Rattle.tables.specs.declared.fault.WriteFault.{WriteFault}
use Rattle.tables.specs.declared.fault.WriteFault.TheVariants.{Short}
use Rattle.tables.specs.declared.turn.TurnFault.TheVariants.{Load}
use Rattle.tables.specs.Format.{Kind, Entry, entry_of, filter_count, table_size, encode, decode}
use Rattle.tables.specs.Memory.{Loaded, write_verdict}
use Rattle.tables.specs.Turn.{write_turn, load_turn, write_load}
use Rattle.tables.specs.Verdict.{table_verdict}
use Rattle.tables.proofs.Tables.{length_records}
use Rattle.tables.proofs.Inverse.{written_back, length_table}

-- what is written has the size of its table
wrote : (t : Bool) (n m : ℕ) → Ok m ≡ cond t (Err Short) (Ok n) → m ≡ n
wrote true n m h = let z : ◌≡◌ {A = ℕ} 0 1 = cc in absurd (omega arith)
wrote false n m h = cc

pub wrote_size : (D S C : Kind) (n room m : ℕ) → Ok m ≡ write_verdict D S C n room → m ≡ table_size D S C n
wrote_size D S C n room m h = wrote (ltb 4095 n || ltb room (table_size D S C n)) (table_size D S C n) m h

-- a table that was loaded is written with the same bytes
pub rewritten : (D S C : Kind) (pass : ℕ → Bool) {R : Type 0} (entry : R → Entry) (capacity n m room : ℕ) (bytes before after : List ℕ) (rs : List R) → AllBelowBase 256 bytes → table_verdict D S C pass capacity bytes ≡ Ok n → map entry rs ≡ decode D S C bytes → Ok m ≡ write_verdict D S C (length rs) room → after ≡ encode D S C (map entry rs) ++ drop m before → (m ≡ length bytes) × (after ≡ bytes ++ drop m before)
rewritten D S C pass entry capacity n m room bytes before after rs u h l w k =
    let e : encode D S C (map entry rs) ≡ bytes = ap (encode D S C) l ∙ written_back D S C pass capacity n bytes u h in (
      wrote_size D S C (length rs) room m w
          ∙ ap (table_size D S C) (sym (length-map rs entry))
          ∙ sym (length_table D S C (map entry rs))
          ∙ ap length e,
      k ∙ ap (λ (z : List ℕ). z ++ drop m before) e,
    )

-- an accepted load goes on to the writing
pub turn_on : (v : Result ℕ LoadFault) (write : ℕ → Result ℕ WriteFault) (n : ℕ) (a : Result ℕ WriteFault) → Ok n ≡ v → a ≡ write n → write_turn a ≡ load_turn v write
turn_on v write n a e f = ap write_turn f ∙ ap (λ (z : Result ℕ LoadFault). load_turn z write) e

pub turn_back : (v : Result ℕ LoadFault) (write : ℕ → Result ℕ WriteFault) (e : LoadFault) → Err e ≡ v → Err (Load e) ≡ load_turn v write
turn_back v write e h = ap (λ (z : Result ℕ LoadFault). load_turn z write) h

-- as many places are loaded as the head announces
pub placed : (D S C : Kind) {R : Type 0} (entry : R → Entry) (bytes : List ℕ) (n : ℕ) (before after : List R) → length after ≡ length before → Loaded entry (decode D S C bytes) before after (Ok n) → Loaded entry (decode D S C bytes) before after (Ok (filter_count bytes))
placed D S C entry bytes n before after l m =
    let k : n ≡ filter_count bytes =
    sym (length-take-le n after (omega (arith, m.0)))
    ∙ sym (length-map (take n after) entry)
    ∙ ap length m.1
    ∙ length_records D S C (filter_count bytes) (drop 4 bytes)
    in
    subst (λ (j : ℕ). Loaded entry (decode D S C bytes) before after (Ok j)) k m

-- ---- writing, then loading
-- the part of the buffer that was written
pub written_part : (D S C : Kind) {R : Type 0} (entry : R → Entry) (rs : List R) (room n : ℕ) (before after : List ℕ) → Ok n ≡ write_verdict D S C (length rs) room → after ≡ encode D S C (map entry rs) ++ drop n before → take n after ≡ encode D S C (map entry rs)
written_part D S C entry rs room n before after h e =
    let l : n ≡ length (encode D S C (map entry rs)) = wrote_size D S C (length rs) room n h ∙ ap (table_size D S C) (sym (length-map rs entry)) ∙ sym (length_table D S C (map entry rs)) in
    ap (take n) e ∙ take_at (encode D S C (map entry rs)) (drop n before) n (sym l)

-- what was written of filters is read as their places
pub read_again : (D S C : Kind) (pass : ℕ → Bool) {R X : Type 0} (entry : R → Entry) (record_of : X → R) (rs : List R) (fs : List X) (capacity : ℕ) (bytes : List ℕ) → bytes ≡ encode D S C (map entry rs) → rs ≡ map record_of fs
    → (table_verdict D S C pass capacity (encode D S C (map (λ (f : X). entry (record_of f)) fs)) ≡ Ok (length fs)) × (decode D S C (encode D S C (map (λ (f : X). entry (record_of f)) fs)) ≡ map (λ (f : X). entry (record_of f)) fs)
    → (table_verdict D S C pass capacity bytes ≡ Ok (length fs)) × (decode D S C bytes ≡ map entry rs)
read_again D S C pass {R} {X} entry record_of rs fs capacity bytes e p b =
    let m : map entry rs ≡ map (λ (f : X). entry (record_of f)) fs = ap (map entry) p ∙ map-map entry record_of fs in
    let t = e ∙ ap (encode D S C) m in
    (ap (table_verdict D S C pass capacity) t ∙ b.0, ap (decode D S C) t ∙ b.1 ∙ sym m)

pub write_load_ok : (w : Result ℕ WriteFault) (v : Result ℕ LoadFault) (n m : ℕ) → Ok n ≡ w → Ok m ≡ v → Ok m ≡ write_load w v
write_load_ok w v n m e f = λ i. write_load (e i) (f i)

pub write_load_err : (w : Result ℕ WriteFault) (v : Result ℕ LoadFault) (n : ℕ) (x : LoadFault) → Ok n ≡ w → Err x ≡ v → Err (Load x) ≡ write_load w v
write_load_err w v n x e f = λ i. write_load (e i) (f i)

-- an entry says all of its place, where numbers say all of their patterns
entry_same : {P Q R : Type 0} (nd : P → ℕ) (ns : Q → ℕ) (nc : R → ℕ) → ((a b : P) → nd a ≡ nd b → a ≡ b) → ((a b : Q) → ns a ≡ ns b → a ≡ b) → ((a b : R) → nc a ≡ nc b → a ≡ b) → (x y : Record P Q R) → entry_of nd ns nc x ≡ entry_of nd ns nc y → x ≡ y
entry_same nd ns nc jd js jc x y e =
    let l = ap (λ (z : Entry). z.label) e in
    let a = jd x.destination.address y.destination.address (ap (λ (z : Entry). z.destination.address) e) in
    let b = ap (λ (z : Entry). z.destination.length) e in
    let c = js x.source.address y.source.address (ap (λ (z : Entry). z.source.address) e) in
    let d = ap (λ (z : Entry). z.source.length) e in
    let f = jc x.cost y.cost (ap (λ (z : Entry). z.cost) e) in
    let g = ap (λ (z : Entry). z.directive) e in
    λ i. record { label = l i; destination = record { address = a i; length = b i }; source = record { address = c i; length = d i }; cost = f i; directive = g i }

cons_parts : {X : Type 0} (x y : X) (xs ys : List X) → x ∷ xs ≡ y ∷ ys → (x ≡ y) × (xs ≡ ys)
cons_parts x y xs ys e = (cc, cc)

map_same : {X Y : Type 0} (f : X → Y) → ((x y : X) → f x ≡ f y → x ≡ y) → (xs ys : List X) → map f xs ≡ map f ys → xs ≡ ys
map_same f j [] [] e = refl
map_same f j [] (y ∷ ys) e = let z : ◌≡◌ {A = ℕ} 0 1 = cc in absurd (omega arith)
map_same f j (x ∷ xs) [] e = let z : ◌≡◌ {A = ℕ} 0 1 = cc in absurd (omega arith)
map_same f j (x ∷ xs) (y ∷ ys) e =
    let p = cons_parts (f x) (f y) (map f xs) (map f ys) e in
    let a = j x y p.0 in
    let b = map_same f j xs ys p.1 in
    λ i. a i ∷ b i

pub places_same : {P Q R : Type 0} (nd : P → ℕ) (ns : Q → ℕ) (nc : R → ℕ) → ((a b : P) → nd a ≡ nd b → a ≡ b) → ((a b : Q) → ns a ≡ ns b → a ≡ b) → ((a b : R) → nc a ≡ nc b → a ≡ b) → (xs ys : List (Record P Q R)) → map (entry_of nd ns nc) xs ≡ map (entry_of nd ns nc) ys → xs ≡ ys
places_same nd ns nc jd js jc = map_same (entry_of nd ns nc) (entry_same nd ns nc jd js jc)

pub ok_same : (n m : ℕ) → ◌≡◌ {A = Result ℕ LoadFault} (Ok n) (Ok m) → n ≡ m
ok_same n m e = cc

pub not_refused : {X : Type 0} (n : ℕ) (x : LoadFault) → Err x ≡ Ok n → X
not_refused n x e = let z : ◌≡◌ {A = ℕ} 0 1 = cc in absurd (omega arith)
