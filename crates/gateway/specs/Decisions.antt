-- What a decision answers: the lookup of a packet's destination with its source address, or with the socket it came in by.
use Rattle.std.specs.Prelude.{◌≡◌, Ok, Err, Result}
use Rattle.kinds.specs.Strings.{Str, bits}
use Rattle.packets.specs.declared.fault.PacketFault.{PacketFault}
use Rattle.packets.specs.Datagram.{Datagram}
use Rattle.gateway.specs.Assurance.{Answer}

-- what is answered of a packet: its refusal, or what the lookup answers
abbrev pub decided : (Datagram → Answer) → Result Datagram PacketFault → Result Answer PacketFault
decided look (Ok p) = Ok (look p)
decided look (Err e) = Err e

-- the string of a packet's destination, and of its source
abbrev pub goal : Datagram → Str
goal p = bits 32 p.destination

abbrev pub origin : Datagram → Str
origin p = bits 32 p.source

-- what is promised of a decision: an accepted packet's answer is as `right` says, and a refused packet gives its fault
abbrev pub Decides : (Datagram → Answer → Type 0) → Result Datagram PacketFault → Result Answer PacketFault → Type 0
Decides right (Ok p) (Ok a) = right p a
Decides right (Ok p) (Err e) = ⊥
Decides right (Err e) (Ok a) = ⊥
Decides right (Err e) (Err f) = f ≡ e
