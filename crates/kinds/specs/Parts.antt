-- The fields of a packed number are small enough for their bits.
use Rattle.std.specs.Prelude.{◌≡◌, ℕ, ◌+◌, ◌*◌, ◌/◌, ◌%◌, ◌^◌, ◌<◌}
use Rattle.std.proofs.Common.{arith}

pub hall_fits : (n : ℕ) → n < 2 ^ 16 → n / 4096 < 16
hall_fits n h = omega arith

pub row_fits : (n : ℕ) → n / 64 % 64 < 64
row_fits n = omega arith

pub socket_fits : (n : ℕ) → n % 64 < 64
socket_fits n = omega arith

pub class_fits : (n : ℕ) → n < 10 * 2 ^ 28 → n / 2 ^ 28 < 10
class_fits n h = omega arith

pub price_fits : (n : ℕ) → n % 2 ^ 28 < 2 ^ 28
price_fits n = omega arith

-- and a packed number gives its fields back
pub packed_hall : (h r s : ℕ) → r < 64 → s < 64 → (h * 4096 + r * 64 + s) / 4096 ≡ h
packed_hall h r s j k = omega arith

pub packed_row : (h r s : ℕ) → r < 64 → s < 64 → (h * 4096 + r * 64 + s) / 64 % 64 ≡ r
packed_row h r s j k = omega arith

pub packed_socket : (h r s : ℕ) → s < 64 → (h * 4096 + r * 64 + s) % 64 ≡ s
packed_socket h r s k = omega arith

pub packed_below : (h r s : ℕ) → h < 16 → r < 64 → s < 64 → h * 4096 + r * 64 + s < 2 ^ 16
packed_below h r s i j k = omega arith

pub priced_class : (c p : ℕ) → p < 2 ^ 28 → (c * 2 ^ 28 + p) / 2 ^ 28 ≡ c
priced_class c p j = omega arith

pub priced_price : (c p : ℕ) → p < 2 ^ 28 → (c * 2 ^ 28 + p) % 2 ^ 28 ≡ p
priced_price c p j = omega arith

pub priced_below : (c p : ℕ) → c < 10 → p < 2 ^ 28 → c * 2 ^ 28 + p < 10 * 2 ^ 28
priced_below c p i j = omega arith
