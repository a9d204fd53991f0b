-- Sockets and tariffs are determined by their fields, and packed and taken apart without loss.
use Rattle.std.proofs.Common.{◌≡◌, ℕ, ◌+◌, ◌*◌, ◌/◌, ◌%◌, ◌^◌, ◌<◌, ◌≤◌, Ok, Err, ap, ◌∙◌, arith}
use Rattle.std.specs.Prelude.{Result, MatchResult}
use Rattle.std.specs.Option.{ok_or}
use Rattle.kinds.specs.declared.written.PatternFault.{PatternFault}
use Rattle.kinds.specs.declared.written.PatternFault.TheVariants.{Unlawful}
use Rattle.kinds.specs.Patterns.{below}
use lib.Bits.{bit_or}
use Rattle.std.proofs.lemmas.Nat.{or_shifted}
use Rattle.kinds.specs.declared.socket.Socket.{Socket}
use Rattle.kinds.specs.declared.tariff.Tariff.{Tariff}
use Rattle.kinds.specs.Parts.{hall_fits, row_fits, socket_fits, class_fits, price_fits, packed_hall, packed_row, packed_socket, packed_below, priced_class, priced_price, priced_below}
use Rattle.kinds.specs.Packed.{same_two, same_three, reads_packed, reads_past}

abbrev pub socket : (h r s : ℕ) → h < 16 → r < 64 → s < 64 → Socket
socket h r s i j k = record { hall = h; row = r; socket = s; halls = i; rows = j; sockets = k }

pub same_socket : {h r s h' r' s' : ℕ} → h ≡ h' → r ≡ r' → s ≡ s' → (i : h < 16) (j : r < 64) (k : s < 64) (i' : h' < 16) (j' : r' < 64) (k' : s' < 64) → socket h r s i j k ≡ socket h' r' s' i' j' k'
same_socket d e f i j k i' j' k' = same_three socket d e f i j k i' j' k'

-- the socket that a number reads as
abbrev pub socket_of : (n : ℕ) → n < 2 ^ 16 → Socket
socket_of n h = socket (n / 4096) (n / 64 % 64) (n % 64) (hall_fits n h) (row_fits n) (socket_fits n)

abbrev pub packed : Socket → ℕ
packed x = x.hall * 4096 + x.row * 64 + x.socket

pub packed_fits : (x : Socket) → packed x < 2 ^ 16
packed_fits x = packed_below x.hall x.row x.socket x.halls x.rows x.sockets

pub socket_again : (x : Socket) (h : packed x < 2 ^ 16) → socket_of (packed x) h ≡ x
socket_again x h = same_socket (packed_hall x.hall x.row x.socket x.rows x.sockets) (packed_row x.hall x.row x.socket x.rows x.sockets) (packed_socket x.hall x.row x.socket x.sockets) _ _ _ _ _ _

pub socket_back : (n : ℕ) (h : n < 2 ^ 16) → packed (socket_of n h) ≡ n
socket_back n h = omega arith

abbrev pub tariff : (c p : ℕ) → c < 10 → p < 2 ^ 28 → Tariff
tariff c p i j = record { class = c; price = p; classes = i; prices = j }

pub same_tariff : {c p c' p' : ℕ} → c ≡ c' → p ≡ p' → (i : c < 10) (j : p < 2 ^ 28) (i' : c' < 10) (j' : p' < 2 ^ 28) → tariff c p i j ≡ tariff c' p' i' j'
same_tariff d e i j i' j' = same_two tariff d e i j i' j'

-- the tariff that a number reads as
abbrev pub tariff_of : (n : ℕ) → n < 10 * 2 ^ 28 → Tariff
tariff_of n h = tariff (n / 2 ^ 28) (n % 2 ^ 28) (class_fits n h) (price_fits n)

abbrev pub priced : Tariff → ℕ
priced x = x.class * 2 ^ 28 + x.price

pub priced_fits : (x : Tariff) → priced x < 10 * 2 ^ 28
priced_fits x = priced_below x.class x.price x.classes x.prices

pub tariff_again : (x : Tariff) (h : priced x < 10 * 2 ^ 28) → tariff_of (priced x) h ≡ x
tariff_again x h = same_tariff (priced_class x.class x.price x.prices) (priced_price x.class x.price x.prices) _ _ _ _

pub tariff_back : (n : ℕ) (h : n < 10 * 2 ^ 28) → priced (tariff_of n h) ≡ n
tariff_back n h = omega arith

-- class and price shifted to their places and joined are the packed number
pub priced_or : (x : Tariff) → bit_or (x.class * 268435456 % 4294967296) x.price ≡ priced x
priced_or x =
    let a : x.class * 268435456 % 4294967296 ≡ x.class * 268435456 = omega arith in
    rw (a, or_shifted x.class 28 x.price x.prices)

-- an answer that is the tariff of a number, or the refusal of a number over the limit, is what reading answers
pub tariff_read : (n : ℕ) (r : Result Tariff PatternFault) → MatchResult r (λ x. priced x ≡ n) (λ e. (e ≡ Unlawful) × (10 * 2 ^ 28 ≤ n)) → r ≡ ok_or (below (10 * 2 ^ 28) tariff_of n) Unlawful
tariff_read n (Ok x) h = reads_packed (10 * 2 ^ 28) tariff_of priced priced_fits tariff_again n x h
tariff_read n (Err e) h = ap {B = Result Tariff PatternFault} Err h.0 ∙ reads_past (10 * 2 ^ 28) tariff_of n h.1
