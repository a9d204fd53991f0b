-- The string of a number's bits, place by place.
use Rattle.std.specs.Prelude.{◌≡◌, ℕ, zero, suc, ◌+◌, ◌-◌, ◌/◌, ◌%◌, ◌^◌, ◌<◌, ◌≤◌, ◌==◌, false, length, slice_index_or, refl}
use Rattle.std.proofs.Common.{ap, sym, subst, ◌∙◌, zero-add, arith}
use Rattle.std.proofs.Math.Pow.{pow_mono}
use Rattle.std.proofs.lemmas.Nat.{shr_below}
use Rattle.std.proofs.lemmas.List.{get_or_past}
use Rattle.kinds.specs.Strings.{bits, weighs}

pub length_bits : (w n : ℕ) → length (bits w n) ≡ w
unfolding bits
length_bits zero n = refl
length_bits (suc w) n = ap suc (length_bits w n)

pub bits_at : (w n i : ℕ) → i < w → slice_index_or (bits w n) i false ≡ weighs n (w - 1 - i)
unfolding bits
bits_at zero n i h = absurd (omega arith)
bits_at (suc w) n zero h = let e : w ≡ suc w - 1 - 0 = omega arith in ap (weighs n) e
bits_at (suc w) n (suc i) h = let e : w - 1 - i ≡ suc w - 1 - suc i = omega arith in bits_at w n i (omega arith) ∙ ap (weighs n) e

pub bits_past : (w n i : ℕ) → w ≤ i → false ≡ slice_index_or (bits w n) i false
bits_past w n i h = let e = length_bits w n in let k : length (bits w n) ≤ i = omega arith in rw get_or_past

-- a number of 128 bits has no bit of a larger weight
pub weighs_past : (n w : ℕ) → n < 2 ^ 128 → 128 ≤ w → false ≡ weighs n w
weighs_past n w h k =
    let m = pow_mono k in
    let j : n < 2 ^ (0 + w) = subst (λ (v : ℕ). n < 2 ^ v) (sym (zero-add w)) (omega arith) in
    let q = shr_below n 0 w j in
    let e : n / 2 ^ w ≡ 0 = omega arith in
    ap (λ (v : ℕ). v % 2 == 1) (sym e)
