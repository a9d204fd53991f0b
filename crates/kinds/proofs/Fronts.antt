-- A string of bits begins another where the fronts of their numbers are the same.
use Rattle.std.proofs.Common.{◌≡◌, ℕ, zero, suc, ◌+◌, ◌*◌, ◌-◌, ◌/◌, ◌%◌, ◌^◌, ◌<◌, ◌==◌, ◌&&◌, Bool, min, take, inl, inr, sym, ap, subst, ◌∙◌, zero-add, arith}
use mathlib.Core.Bool.{beq}
use Rattle.std.proofs.lemmas.Bool.{eqb-true, eq-eqb, cases_lt, cond_below, cond_above}
use Rattle.std.proofs.lemmas.Nat.{shr_below, shr-shr, mod-pow-add, mod_below, pow_pos}
use Rattle.std.proofs.lemmas.List.{take_min}
use Rattle.std.proofs.Math.Nat.{mod-eq_of_lt}
use Rattle.std.proofs.Math.Pow.{pow_mono}
use Rattle.std.specs.Cmp.{both_ways}
use Rattle.std.specs.Prelude.{if◌then◌else◌, nat_lt}
use Rattle.kinds.specs.Strings.{Str, starts, bits, weighs}
use Rattle.kinds.specs.Bits.{length_bits}

-- numbers below 2 * m are the same where their digits of weight m and their rests are
same_digits : (x y m u v : ℕ) → x < 2 → y < 2 → u < m → v < m → (beq (x == 1) (y == 1) && (u == v)) ≡ (x * m + u == y * m + v)
same_digits zero zero m u v hx hy hu hv = both_ways _ _ (λ e. eq-eqb _ _ (let f = eqb-true u v e in omega arith)) (λ e. eq-eqb _ _ (let f = eqb-true _ _ e in omega arith))
same_digits zero (suc zero) m u v hx hy hu hv = grind arith
same_digits (suc zero) zero m u v hx hy hu hv = grind arith
same_digits (suc zero) (suc zero) m u v hx hy hu hv = grind arith
same_digits (suc (suc x)) y m u v hx hy hu hv = absurd (omega arith)
same_digits zero (suc (suc y)) m u v hx hy hu hv = absurd (omega arith)
same_digits (suc zero) (suc (suc y)) m u v hx hy hu hv = absurd (omega arith)

-- one more of a number's lowest bits is a digit before them
next_digit : (n x : ℕ) → x % 2 ^ suc n ≡ (x / 2 ^ n % 2) * 2 ^ n + x % 2 ^ n
next_digit n x = let e : suc n ≡ 1 + n = omega arith in ap (λ (v : ℕ). x % 2 ^ v) e ∙ mod-pow-add x 1 n

-- the first n of w bits are the lowest n of the number without its other bits, the last k
lowest : (n k w p a : ℕ) → k + n ≡ w → (p / 2 ^ k % 2 ^ n == a / 2 ^ k % 2 ^ n) ≡ starts (take n (bits w p)) (bits w a)
unfolding bits
lowest zero k w p a h = eq-eqb _ _ (omega arith)
lowest (suc n) k zero p a h = absurd (omega arith)
lowest (suc n) k (suc w) p a h =
    let e : w ≡ k + n = omega arith in
    let x : p / 2 ^ w ≡ p / 2 ^ k / 2 ^ n = ap (λ (v : ℕ). p / 2 ^ v) e ∙ sym (shr-shr p k n) in
    let y : a / 2 ^ w ≡ a / 2 ^ k / 2 ^ n = ap (λ (v : ℕ). a / 2 ^ v) e ∙ sym (shr-shr a k n) in
    let tail = ap (λ (t : Bool). beq (weighs p w) (weighs a w) && t) (lowest n k w p a (sym e)) in
    rw (next_digit n (p / 2 ^ k), next_digit n (a / 2 ^ k), ← x, ← y)
    (sym (same_digits _ _ _ _ _ (omega arith) (omega arith) (mod_below _ _ (pow_pos n)) (mod_below _ _ (pow_pos n))) ∙ tail)

-- the first bits of a number of w bits begin another where the two are the same without the rest; past w none are left
pub starts_by_front : (l w p a : ℕ) → p < 2 ^ w → a < 2 ^ w → (p / 2 ^ (w - min l w) == a / 2 ^ (w - min l w)) ≡ starts (take l (bits w p)) (bits w a)
starts_by_front l w p a hp ha =
    let n = min l w in
    let k = w - n in
    let e : n + k ≡ w = omega arith in
    let x : p / 2 ^ k % 2 ^ n ≡ p / 2 ^ k = mod-eq_of_lt (shr_below p n k (subst (λ (v : ℕ). p < 2 ^ v) (sym e) hp)) in
    let y : a / 2 ^ k % 2 ^ n ≡ a / 2 ^ k = mod-eq_of_lt (shr_below a n k (subst (λ (v : ℕ). a < 2 ^ v) (sym e) ha)) in
    let cut : take n (bits w p) ≡ take l (bits w p) = ap (λ (v : ℕ). take (min l v) (bits w p)) (sym (length_bits w p)) ∙ take_min l (bits w p) in
    let h : (p / 2 ^ k % 2 ^ n == a / 2 ^ k % 2 ^ n) ≡ starts (take n (bits w p)) (bits w a) = lowest n k w p a (omega arith) in
    rw (x, y) at h ∙ ap (λ (s : Str). starts s (bits w a)) cut

-- a number of 128 bits shifted right is divided by the power of two, past all its bits too
pub shifted_out : (n w : ℕ) → n < 2 ^ 128 → (if nat_lt w 128 then n / 2 ^ w else 0) ≡ n / 2 ^ w
shifted_out n w h = elim (cases_lt w 128) [
  | inl k ↦ sym (cond_below w 128 _ _ k)
  | inr k ↦
      let m = pow_mono k in
      let j : n < 2 ^ (0 + w) = subst (λ (v : ℕ). n < 2 ^ v) (sym (zero-add w)) (omega arith) in
      let q = shr_below n 0 w j in
      sym (cond_above w 128 _ _ _ k (omega arith))
]
