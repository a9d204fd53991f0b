-- Numbers in bytes: reading and writing them byte by byte.
use Rattle.std.proofs.Common.{◌≡◌, ℕ, zero, suc, ◌+◌, ◌*◌, ◌/◌, ◌%◌, ◌^◌, ◌<◌, ◌≤◌, List, [], ◌∷◌, length, get_or, take, drop, sym, refl, ap, ◌∙◌, subst, mod-eq_of_lt, pow-suc, add-one, arith, pow-add}
use native.Mathlib.Nat.{pow-le-pow_right}
use lib.Bits.{bit_or}
use Rattle.std.proofs.lemmas.Nat.{or_shifted}
use Rattle.std.proofs.lemmas.Int.Digits.{number_more}
use Rattle.std.proofs.lemmas.List.{length-append}
use Rattle.std.specs.Int.{bytes_high_first}
use Rattle.tables.specs.Bytes.{word, spelt, spell, total}

pub word_none : word [] ≡ 0
unfolding word
word_none = refl

-- one byte more
pub word_more : (bs : List ℕ) (i : ℕ) → i < length bs → word (take (i + 1) bs) ≡ word (take i bs) * 256 + get_or bs i 0
unfolding word
word_more bs i h = number_more 256 bs i h

-- a byte is moved in from the right
pub move_in : (n b i : ℕ) → n < 256 ^ i → i < 16 → b < 256 → bit_or (n * 256 % 2 ^ 128) b ≡ n * 256 + b
move_in n b i h l k =
    let p : 256 ^ i ≤ 256 ^ 15 = let l15 : i ≤ 15 = omega arith in pow-le-pow_right (omega arith) l15 in
    let small : n * 256 < 2 ^ 128 = omega arith in
    let e : n * 256 % 2 ^ 128 ≡ n * 256 = mod-eq_of_lt small in
    ap (λ (m : ℕ). bit_or m b) e ∙ or_shifted n 8 b k

-- and the number stays small
pub move_in_lt : (n b i : ℕ) → n < 256 ^ i → b < 256 → n * 256 + b < 256 ^ (i + 1)
move_in_lt n b i h k =
    let e : 256 ^ (i + 1) ≡ 256 ^ i * 256 = ap (λ (m : ℕ). 256 ^ m) (add-one i) ∙ pow-suc 256 i in
    omega arith

-- the number of the bytes read so far, one byte on
pub read_more : (bs : List ℕ) (i n : ℕ) → i < length bs → i < 16 → n ≡ word (take i bs) → n < 256 ^ i → get_or bs i 0 < 256 → (bit_or (n * 256 % 2 ^ 128) (get_or bs i 0) ≡ word (take (i + 1) bs)) × (bit_or (n * 256 % 2 ^ 128) (get_or bs i 0) < 256 ^ (i + 1))
read_more bs i n h l e s k =
    let m = move_in n (get_or bs i 0) i s l k in (
      m ∙ ap (λ (z : ℕ). z * 256 + get_or bs i 0) e ∙ sym (word_more bs i h),
      subst (λ (z : ℕ). z < 256 ^ (i + 1)) (sym m) (move_in_lt n (get_or bs i 0) i s k),
    )

pub length_spelt : (k n : ℕ) → length (spelt k n) ≡ k
unfolding spelt
length_spelt zero n = refl
length_spelt (suc k) n = ap suc (length_spelt k n)

-- the library's bytes of a number are these
pub bytes_spelt : (k n : ℕ) → bytes_high_first k n ≡ spelt k n
unfolding spelt
bytes_spelt zero n = refl
bytes_spelt (suc zero) n = ap {B = List ℕ} (λ b. b ∷ []) (omega arith)
bytes_spelt (suc (suc k)) n = ap {B = List ℕ} (λ bs. n / 256 ^ suc k % 256 ∷ bs) (bytes_spelt (suc k) n)

-- the last of them
pub drop_spelt : (j k m n : ℕ) → m ≡ j + k → drop j (spelt m n) ≡ spelt k n
unfolding spelt
drop_spelt zero k m n e = ap (λ (z : ℕ). spelt z n) (omega arith)
drop_spelt (suc j) k zero n e = absurd (omega arith)
drop_spelt (suc j) k (suc m) n e = drop_spelt j k m n (omega arith)

-- a byte is eight bits
pub bytes_pow : (k : ℕ) → 2 ^ (8 * k) ≡ 256 ^ k
bytes_pow zero = refl
bytes_pow (suc k) =
    let e : 8 * suc k ≡ 8 * k + 8 = omega arith in
    ap (λ (j : ℕ). 2 ^ j) e ∙ pow-add 2 (8 * k) 8 ∙ ap (λ (j : ℕ). j * 256) (bytes_pow k) ∙ sym (pow-suc 256 k)

pub size_pow : (size : ℕ) → size % 8 ≡ 0 → 256 ^ (size / 8) ≡ 2 ^ size
size_pow size h = let e : 8 * (size / 8) ≡ size = omega arith in sym (bytes_pow (size / 8)) ∙ ap (λ (j : ℕ). 2 ^ j) e

-- a number of as many bytes as a kind has fits the plain number that keeps it
pub narrow_same : (n size span : ℕ) → size % 8 ≡ 0 → size ≤ span → n < 256 ^ (size / 8) → n % 2 ^ span ≡ n
narrow_same n size span h l s =
    let e = size_pow size h in
    let p : 2 ^ size ≤ 2 ^ span = pow-le-pow_right (omega arith) l in
    mod-eq_of_lt (omega arith)

-- a byte string of parts is as long as they are together
pub length_spell : (ks ns : List ℕ) → length ks ≡ length ns → length (spell ks ns) ≡ total ks
length_spell [] ns h = refl
length_spell (k ∷ ks) [] h = absurd (omega arith)
length_spell (k ∷ ks) (n ∷ ns) h =
    let e = length_spell ks ns (omega arith) in
    length-append (spelt k n) (spell ks ns) ∙ omega (arith, length_spelt k n)
