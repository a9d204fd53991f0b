-- What RFC 791 promises of headers, over the definitions by which the reader answers.
use Rattle.std.specs.Prelude.{◌≡◌, ℕ, ◌+◌, ◌-◌, ◌*◌, ◌/◌, ◌%◌, ◌^◌, ◌<◌, ◌≤◌, cond, List, [], ◌∷◌, length, Ok, Err, Result, ◌==◌, slice_set}
use Rattle.packets.specs.declared.fault.PacketFault.{PacketFault}
use Rattle.packets.specs.Header.{part, octet, word, word_sum, ones_complement}
use Rattle.packets.specs.Datagram.{Datagram, version, header_words, header_length, total_length, datagram, fields}

-- every element is a byte
abbrev pub Bytes : List ℕ → Type 0
Bytes b = (i : ℕ) → octet b i < 256

-- the four bytes of a 32-bit number, the most significant first
abbrev pub octets : ℕ → List ℕ
octets n = n / 2 ^ 24 ∷ n / 2 ^ 16 % 256 ∷ n / 2 ^ 8 % 256 ∷ n % 256 ∷ []

-- an accepted packet's source address is its bytes 12 to 15, and its destination address its bytes 16 to 19
abbrev pub AddressFields : Type 0
AddressFields = (b : List ℕ) (d : Datagram) → Bytes b → datagram b ≡ Ok d → (octets d.source ≡ part 12 16 b) × (octets d.destination ≡ part 16 20 b)

-- the header's 16-bit numbers added up with the checksum field, bytes 10 and 11, taken as zero
abbrev pub rest_sum : List ℕ → ℕ
rest_sum b = word_sum (slice_set (slice_set b 10 0) 11 0) (header_words b * 2)

-- each bit of a 16-bit number turned
abbrev pub complement : ℕ → ℕ
complement n = 65535 - n

-- a header whose checksum field is the complement of the rest, all else being in order, is accepted
abbrev pub ComplementAccepted : Type 0
ComplementAccepted = (b : List ℕ) → 20 ≤ length b → version b ≡ 4 → 5 ≤ header_words b → header_length b ≤ total_length b → total_length b ≤ length b → word b 10 ≡ complement (ones_complement (rest_sum b)) → datagram b ≡ Ok (fields b)

-- n with its bit of weight 2 ^ k changed
abbrev pub changed : ℕ → ℕ → ℕ
changed k n = cond (n / 2 ^ k % 2 == 1) (n - 2 ^ k) (n + 2 ^ k)

-- an answer that is a refusal
abbrev pub Refused : Result Datagram PacketFault → Type 0
Refused r = (e : PacketFault) × (r ≡ Err e)

-- an accepted packet with one bit of its header changed, but for the four bits of the header length, is refused
abbrev pub ChangedBitRefused : Type 0
ChangedBitRefused = (b : List ℕ) (d : Datagram) (i k : ℕ) → datagram b ≡ Ok d → i < header_length b → k < 8 → (i ≡ 0 → 4 ≤ k) → Refused (datagram (slice_set b i (changed k (octet b i))))
