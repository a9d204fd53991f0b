-- Numbers that fit are not changed by being cut.
use Rattle.std.proofs.Common.{◌≡◌, ℕ, ◌%◌, ◌<◌}
use Rattle.std.proofs.Math.Nat.{mod-eq_of_lt}

pub cut_small : (n m : ℕ) → n < m → n % m ≡ n
cut_small n m h = mod-eq_of_lt h
