-- What bytes say by RFC 791: a datagram, or the first refusal that applies.
use Rattle.std.specs.Prelude.{ℕ, ◌*◌, ◌/◌, ◌%◌, Bool, cond, not, ◌&&◌, ◌||◌, List, [], ◌∷◌, length, Some, None, Ok, Err, Option, Result, ◌==◌, nat_lt}
use Rattle.packets.specs.declared.fault.PacketFault.{PacketFault}
use Rattle.packets.specs.declared.fault.PacketFault.TheVariants.{Short, Version, HeaderLength, TotalLength, Checksum}
use Rattle.packets.specs.declared.packet.Packet.{Packet}
use Rattle.packets.specs.declared.packet.Ports.{Ports}
use Rattle.packets.specs.Header.{part, number, octet, word, word_sum}

-- the version: the upper half of the first byte
abbrev pub version : List ℕ → ℕ
version b = octet b 0 / 16

-- the header's length in words of 32 bits: the lower half of the first byte
abbrev pub header_words : List ℕ → ℕ
header_words b = octet b 0 % 16

-- the header's length in bytes
abbrev pub header_length : List ℕ → ℕ
header_length b = header_words b * 4

-- the length of header and payload in bytes
abbrev pub total_length : List ℕ → ℕ
total_length b = word b 2

-- the sum of the header's 16-bit numbers
abbrev pub header_sum : List ℕ → ℕ
header_sum b = word_sum b (header_words b * 2)

-- a sum whose ones' complement form is all ones: a multiple of 65535, and not 0
abbrev pub all_ones : ℕ → Bool
all_ones n = nat_lt 0 n && n % 65535 == 0

-- the checks in their order: when each refuses, and how
abbrev pub checks : List ℕ → List (Bool × PacketFault)
checks b =
    (nat_lt (length b) 20, Short)
    ∷ (not (version b == 4), Version)
    ∷ (nat_lt (header_words b) 5, HeaderLength)
    ∷ (nat_lt (total_length b) (header_length b) || nat_lt (length b) (total_length b), TotalLength)
    ∷ (not (all_ones (header_sum b)), Checksum)
    ∷ []

-- the first refusal that applies, or the value where none does
abbrev pub unless : {A : Type 0} → List (Bool × PacketFault) → A → Result A PacketFault
unless [] x = Ok x
unless (check ∷ more) x = cond check.0 (Err check.1) (unless more x)

-- what a datagram carries
pub record Datagram : Type 0 where
  pub source : ℕ
  pub destination : ℕ
  pub protocol : ℕ
  pub payload : List ℕ
  pub ports : Option Ports

-- TCP is protocol 6, and UDP 17
abbrev pub has_ports : ℕ → List ℕ → Bool
has_ports protocol payload = (protocol == 6 || protocol == 17) && not (nat_lt (length payload) 4)

-- the first two 16-bit numbers of a payload that has ports
abbrev pub ports_of : ℕ → List ℕ → Option Ports
ports_of protocol payload =
    cond (has_ports protocol payload)
    (Some (record { source = number (part 0 2 payload); destination = number (part 2 4 payload) }))
    None

-- the payload: from the header's end to the total length
abbrev pub payload_of : List ℕ → List ℕ
payload_of b = part (header_length b) (total_length b) b

-- the fields of a datagram by their places
abbrev pub fields : List ℕ → Datagram
fields b = record {
  source = number (part 12 16 b);
  destination = number (part 16 20 b);
  protocol = octet b 9;
  payload = payload_of b;
  ports = ports_of (octet b 9) (payload_of b);
}

-- what the bytes say
abbrev pub datagram : List ℕ → Result Datagram PacketFault
datagram b = unless (checks b) (fields b)

-- a packet that was read, by its values
abbrev pub carried : Packet → Datagram
carried p = record {
  source = p.source.number;
  destination = p.destination.number;
  protocol = p.protocol;
  payload = p.payload.now;
  ports = p.ports;
}

-- an answer of the reader, by its values
abbrev pub answered : Result Packet PacketFault → Result Datagram PacketFault
answered (Ok p) = Ok (carried p)
answered (Err e) = Err e
