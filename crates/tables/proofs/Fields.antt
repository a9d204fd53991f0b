-- Fields of bits: shifts and masks take them out and put them together.
use Rattle.std.proofs.Common.{◌≡◌, ℕ, ◌+◌, ◌*◌, ◌%◌, ◌^◌, ◌<◌, [], ◌∷◌, sym, refl, ap, ◌∙◌, mul_assoc, add-mul, arith, pow-add}
use lib.Bits.{bit_or, bit_and}
use Rattle.std.proofs.lemmas.Nat.{or_shifted, and_mask, shl_below}
use Rattle.tables.specs.Bytes.{pack}
use Rattle.tables.specs.Format.{head_widths}

-- a field of w bits, k bits from the right, set beside what stands left of it
pub join : (x y h v w k : ℕ) → x ≡ h * 2 ^ (w + k) → y ≡ v * 2 ^ k → v < 2 ^ w → bit_or x y ≡ (h * 2 ^ w + v) * 2 ^ k
join x y h v w k e f l =
    ap (λ (z : ℕ). bit_or z y) e
    ∙ ap (bit_or (h * 2 ^ (w + k))) f
    ∙ or_shifted h (w + k) (v * 2 ^ k) (shl_below v w k l)
    ∙ ap (λ (z : ℕ). h * z + v * 2 ^ k) (pow-add 2 w k)
    ∙ ap (λ (z : ℕ). z + v * 2 ^ k) (sym (mul_assoc h (2 ^ w) (2 ^ k)))
    ∙ sym (add-mul (h * 2 ^ w) v (2 ^ k))

-- the head's five fields
pub pack_five : (a b c d e : ℕ) → a < 256 → b < 16 → c < 16 → d < 16 → e < 4096 → bit_or (bit_or (bit_or (bit_or (a * 2 ^ 24 % 2 ^ 32) (b * 2 ^ 20 % 2 ^ 32)) (c * 2 ^ 16 % 2 ^ 32)) (d * 2 ^ 12 % 2 ^ 32)) e ≡ (((a * 16 + b) * 16 + c) * 16 + d) * 4096 + e
pack_five a b c d e ha hb hc hd he =
    let o1 = join (a * 2 ^ 24 % 2 ^ 32) (b * 2 ^ 20 % 2 ^ 32) a b 4 20 (omega arith) (omega arith) hb in
    let o2 = join _ (c * 2 ^ 16 % 2 ^ 32) (a * 16 + b) c 4 16 o1 (omega arith) hc in
    let o3 = join _ (d * 2 ^ 12 % 2 ^ 32) ((a * 16 + b) * 16 + c) d 4 12 o2 (omega arith) hd in
    ap (λ (z : ℕ). bit_or z e) o3 ∙ or_shifted (((a * 16 + b) * 16 + c) * 16 + d) 12 e he

pub pack_head : (a b c d e : ℕ) → a < 256 → bit_or (bit_or (bit_or (bit_or (a * 2 ^ 24 % 2 ^ 32) (bit_and b 15 * 2 ^ 20 % 2 ^ 32)) (bit_and c 15 * 2 ^ 16 % 2 ^ 32)) (bit_and d 15 * 2 ^ 12 % 2 ^ 32)) (bit_and e 4095) ≡ pack head_widths (a ∷ b ∷ c ∷ d ∷ e ∷ [])
pack_head a b c d e h =
    let mb : bit_and b 15 ≡ b % 16 = and_mask b 4 in
    let mc : bit_and c 15 ≡ c % 16 = and_mask c 4 in
    let md : bit_and d 15 ≡ d % 16 = and_mask d 4 in
    let me : bit_and e 4095 ≡ e % 4096 = and_mask e 12 in
    let p = pack_five a (bit_and b 15) (bit_and c 15) (bit_and d 15) (bit_and e 4095) h (omega arith) (omega arith) (omega arith) (omega arith) in
    p ∙ omega arith

-- a directive's three fields
pub pack_two : (h line : ℕ) → h < 4 → bit_or (h * 2 ^ 30) (bit_and line 63 * 2 ^ 24 % 2 ^ 32) ≡ (h * 64 + line % 64) * 2 ^ 24
pack_two h line l =
    let m : bit_and line 63 ≡ line % 64 = and_mask line 6 in
    join (h * 2 ^ 30) (bit_and line 63 * 2 ^ 24 % 2 ^ 32) h (line % 64) 6 24 refl (omega arith) (omega arith)

pub pack_three : (h line rate : ℕ) → h < 4 → bit_or (bit_or (h * 2 ^ 30) (bit_and line 63 * 2 ^ 24 % 2 ^ 32)) (bit_and rate 16777215) ≡ (h * 64 + line % 64) * 2 ^ 24 + rate % 2 ^ 24
pack_three h line rate l =
    let m : bit_and rate 16777215 ≡ rate % 2 ^ 24 = and_mask rate 24 in
    ap (λ (z : ℕ). bit_or z (bit_and rate 16777215)) (pack_two h line l)
    ∙ ap (bit_or ((h * 64 + line % 64) * 2 ^ 24)) m
    ∙ or_shifted (h * 64 + line % 64) 24 (rate % 2 ^ 24) (omega arith)
