-- Bytes and numbers, fields and numbers: each way undoes the other.
use Rattle.std.proofs.Common.{◌≡◌, ℕ, zero, suc, ◌+◌, ◌*◌, ◌/◌, ◌%◌, ◌^◌, ◌<◌, ◌≤◌, List, [], ◌∷◌, ◌++◌, length, take, drop, sym, refl, ap, ◌∙◌, subst, mod-lt, mod-eq_of_lt, mul_assoc, add-mul, pow-suc, zero-add, arith, take-add, pow-add}
use native.Mathlib.Nat.{mod-mod, mod-one, mul-add-div_right, mul-add-mod_self_right, one-le-pow}
use lib.Arith.{mod-mul, digits_div, digits_lt}
use Rattle.std.specs.Int.Digits.{number_from_digits, number_from_digits_after, AllBelowBase}
use Rattle.std.proofs.lemmas.Nat.{pow_pos}
use Rattle.std.proofs.lemmas.Int.Digits.{number_lt}
use Rattle.std.proofs.ByRecursion.{All-take, All-drop}
use Rattle.std.proofs.lemmas.List.{take_at, drop_at, append_assoc, length-take-le, length-drop}
use Rattle.tables.specs.Bytes.{word, spelt, total, numbers, spell, fields, pack}
use Rattle.tables.proofs.Words.{length_spelt}

pow256_pos : (k : ℕ) → 0 < 256 ^ k
pow256_pos k = one-le-pow k 256 (omega arith)

-- ---- a number in bytes
after_shift : (n : ℕ) (bs : List ℕ) → number_from_digits_after 256 n bs ≡ n * 256 ^ length bs + number_from_digits 256 bs
after_shift n [] = omega arith
after_shift n (b ∷ bs) =
    let p : 256 ^ suc (length bs) ≡ 256 ^ length bs * 256 = pow-suc 256 (length bs) in
    let e : (n * 256 + b) * 256 ^ length bs ≡ n * 256 * 256 ^ length bs + b * 256 ^ length bs = add-mul (n * 256) b (256 ^ length bs) in
    let f : n * (256 ^ length bs * 256) ≡ n * 256 * 256 ^ length bs = omega (arith, mul_assoc n 256 (256 ^ length bs)) in
    let g : n * 256 ^ suc (length bs) ≡ n * (256 ^ length bs * 256) = ap (λ (z : ℕ). n * z) p in
    after_shift (n * 256 + b) bs ∙ omega (arith, after_shift (0 * 256 + b) bs)

pub word_cons : (b : ℕ) (bs : List ℕ) → word (b ∷ bs) ≡ b * 256 ^ length bs + word bs
unfolding word
word_cons b bs = after_shift (0 * 256 + b) bs ∙ ap (λ (z : ℕ). z * 256 ^ length bs + number_from_digits 256 bs) (zero-add b)

pub word_lt : (bs : List ℕ) → AllBelowBase 256 bs → word bs < 256 ^ length bs
unfolding word
word_lt bs h = number_lt 256 bs h

-- the number of the lowest bytes
pub word_spelt : (k n : ℕ) → word (spelt k n) ≡ n % 256 ^ k
unfolding word spelt
word_spelt zero n = sym (mod-one n)
word_spelt (suc k) n =
    word_cons (n / 256 ^ k % 256) (spelt k n)
    ∙ ap (λ (j : ℕ). n / 256 ^ k % 256 * 256 ^ j + word (spelt k n)) (length_spelt k n)
    ∙ ap (λ (z : ℕ). n / 256 ^ k % 256 * 256 ^ k + z) (word_spelt k n)
    ∙ sym (mod-mul n {m = 256} {c = 256 ^ k} (omega arith) (pow256_pos k))
    ∙ ap (λ (z : ℕ). n % z) (omega (arith, pow-suc 256 k))

-- higher bytes do not matter
pub spelt_low : (k h n : ℕ) → spelt k (h * 256 ^ k + n) ≡ spelt k n
unfolding spelt
spelt_low zero h n = refl
spelt_low (suc k) h n =
    let e : h * 256 ^ suc k ≡ h * 256 * 256 ^ k = ap (λ (z : ℕ). h * z) (pow-suc 256 k ∙ omega arith) ∙ sym (mul_assoc h 256 (256 ^ k)) in
    let d : (h * 256 ^ suc k + n) / 256 ^ k ≡ h * 256 + n / 256 ^ k = ap (λ (z : ℕ). (z + n) / 256 ^ k) e ∙ mul-add-div_right (pow256_pos k) (h * 256) n in
    let m : (h * 256 ^ suc k + n) / 256 ^ k % 256 ≡ n / 256 ^ k % 256 = ap (λ (z : ℕ). z % 256) d ∙ mul-add-mod_self_right h 256 (n / 256 ^ k) in
    let t : spelt k (h * 256 ^ suc k + n) ≡ spelt k n = ap (λ (z : ℕ). spelt k (z + n)) e ∙ spelt_low k (h * 256) n in
    λ i. m i ∷ t i

-- the bytes of the number that bytes spell
pub spelt_word : (bs : List ℕ) → AllBelowBase 256 bs → spelt (length bs) (word bs) ≡ bs
unfolding word spelt
spelt_word [] h = refl
spelt_word (b ∷ bs) h =
    let w = word_cons b bs in
    let l : word bs < 256 ^ length bs = word_lt bs h.1 in
    let d : word (b ∷ bs) / 256 ^ length bs % 256 ≡ b = ap (λ (z : ℕ). z / 256 ^ length bs % 256) w ∙ ap (λ (z : ℕ). z % 256) (digits_div b l) ∙ mod-eq_of_lt h.0 in
    let t : spelt (length bs) (word (b ∷ bs)) ≡ bs = ap (spelt (length bs)) w ∙ spelt_low (length bs) b (word bs) ∙ spelt_word bs h.1 in
    λ i. d i ∷ t i

-- ---- a byte string in parts
-- each number is small enough for its part
abbrev pub Fit : ℕ → List ℕ → List ℕ → Type 0
Fit base [] [] = Unit {0}
Fit base [] (n ∷ ns) = ⊥
Fit base (k ∷ ks) [] = ⊥
Fit base (k ∷ ks) (n ∷ ns) = (n < base ^ k) × Fit base ks ns

pub numbers_spell : (ks ns rest : List ℕ) → Fit 256 ks ns → numbers ks (spell ks ns ++ rest) ≡ ns
numbers_spell [] [] rest h = refl
numbers_spell [] (n ∷ ns) rest h = absurd h
numbers_spell (k ∷ ks) [] rest h = absurd h
numbers_spell (k ∷ ks) (n ∷ ns) rest h =
    let e : (spelt k n ++ spell ks ns) ++ rest ≡ spelt k n ++ (spell ks ns ++ rest) = append_assoc (spelt k n) (spell ks ns) rest in
    let t : take k ((spelt k n ++ spell ks ns) ++ rest) ≡ spelt k n = ap (take k) e ∙ take_at (spelt k n) (spell ks ns ++ rest) k (length_spelt k n) in
    let d : drop k ((spelt k n ++ spell ks ns) ++ rest) ≡ spell ks ns ++ rest = ap (drop k) e ∙ drop_at (spelt k n) (spell ks ns ++ rest) k (length_spelt k n) in
    let w : word (take k ((spelt k n ++ spell ks ns) ++ rest)) ≡ n = ap word t ∙ word_spelt k n ∙ mod-eq_of_lt h.0 in
    let r : numbers ks (drop k ((spelt k n ++ spell ks ns) ++ rest)) ≡ ns = ap (numbers ks) d ∙ numbers_spell ks ns rest h.1 in
    λ i. w i ∷ r i

pub spelt_part : (k : ℕ) (bs : List ℕ) → AllBelowBase 256 bs → k ≤ length bs → spelt k (word (take k bs)) ≡ take k bs
spelt_part k bs u h =
    ap (λ (j : ℕ). spelt j (word (take k bs))) (sym (length-take-le k bs h))
    ∙ spelt_word (take k bs) (All-take (λ (b : ℕ). b < 256) k bs u)

pub spell_numbers : (ks bs : List ℕ) → AllBelowBase 256 bs → total ks ≤ length bs → spell ks (numbers ks bs) ≡ take (total ks) bs
spell_numbers [] bs u h = refl
spell_numbers (k ∷ ks) bs u h =
    ap (λ (z : List ℕ). z ++ spell ks (numbers ks (drop k bs))) (spelt_part k bs u (omega arith))
    ∙ ap (λ (z : List ℕ). take k bs ++ z) (spell_numbers ks (drop k bs) (All-drop (λ (b : ℕ). b < 256) k bs u) (omega (arith, length-drop k bs)))
    ∙ sym (take-add k (total ks) bs)

-- ---- a number in fields
shift_up : (h w t : ℕ) → h * 2 ^ (w + t) ≡ h * 2 ^ w * 2 ^ t
shift_up h w t = ap (λ (z : ℕ). h * z) (pow-add 2 w t) ∙ sym (mul_assoc h (2 ^ w) (2 ^ t))

-- higher bits do not matter
pub fields_low : (ws : List ℕ) (h n : ℕ) → fields ws (h * 2 ^ total ws + n) ≡ fields ws n
fields_low [] h n = refl
fields_low (w ∷ ws) h n =
    let e = shift_up h w (total ws) in
    let d : (h * 2 ^ (w + total ws) + n) / 2 ^ total ws ≡ h * 2 ^ w + n / 2 ^ total ws = ap (λ (z : ℕ). (z + n) / 2 ^ total ws) e ∙ mul-add-div_right (pow_pos (total ws)) (h * 2 ^ w) n in
    let m : (h * 2 ^ (w + total ws) + n) / 2 ^ total ws % 2 ^ w ≡ n / 2 ^ total ws % 2 ^ w = ap (λ (z : ℕ). z % 2 ^ w) d ∙ mul-add-mod_self_right h (2 ^ w) (n / 2 ^ total ws) in
    let t : fields ws (h * 2 ^ (w + total ws) + n) ≡ fields ws n = ap (λ (z : ℕ). fields ws (z + n)) e ∙ fields_low ws (h * 2 ^ w) n in
    λ i. m i ∷ t i

pub pack_lt : (ws vs : List ℕ) → pack ws vs < 2 ^ total ws
pack_lt [] vs = omega arith
pack_lt (w ∷ ws) [] = pow_pos (w + total ws)
pack_lt (w ∷ ws) (v ∷ vs) =
    subst (λ (z : ℕ). v % 2 ^ w * 2 ^ total ws + pack ws vs < z) (sym (pow-add 2 w (total ws))) (digits_lt (mod-lt v (pow_pos w)) (pack_lt ws vs))

pub fields_pack : (ws vs : List ℕ) → Fit 2 ws vs → fields ws (pack ws vs) ≡ vs
fields_pack [] [] h = refl
fields_pack [] (v ∷ vs) h = absurd h
fields_pack (w ∷ ws) [] h = absurd h
fields_pack (w ∷ ws) (v ∷ vs) h =
    let d : (v % 2 ^ w * 2 ^ total ws + pack ws vs) / 2 ^ total ws % 2 ^ w ≡ v = ap (λ (z : ℕ). z % 2 ^ w) (digits_div (v % 2 ^ w) (pack_lt ws vs)) ∙ mod-mod v (2 ^ w) ∙ mod-eq_of_lt h.0 in
    let t : fields ws (v % 2 ^ w * 2 ^ total ws + pack ws vs) ≡ vs = fields_low ws (v % 2 ^ w) (pack ws vs) ∙ fields_pack ws vs h.1 in
    λ i. d i ∷ t i

pub pack_fields : (ws : List ℕ) (n : ℕ) → pack ws (fields ws n) ≡ n % 2 ^ total ws
pack_fields [] n = sym (mod-one n)
pack_fields (w ∷ ws) n =
    ap (λ (z : ℕ). z * 2 ^ total ws + pack ws (fields ws n)) (mod-mod (n / 2 ^ total ws) (2 ^ w))
    ∙ ap (λ (z : ℕ). n / 2 ^ total ws % 2 ^ w * 2 ^ total ws + z) (pack_fields ws n)
    ∙ sym (mod-mul n {m = 2 ^ w} {c = 2 ^ total ws} (pow_pos w) (pow_pos (total ws)))
    ∙ ap (λ (z : ℕ). n % z) (sym (pow-add 2 w (total ws)))
