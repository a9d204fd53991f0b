-- The numbers by which refusals of a packet are told.
use Rattle.std.specs.Prelude.{ℕ}
use Rattle.packets.specs.declared.fault.PacketFault.{PacketFault}
use Rattle.packets.specs.declared.fault.PacketFault.TheVariants.{Short, Version, HeaderLength, TotalLength, Checksum}

-- each refusal and its number
abbrev pub number_of : PacketFault → ℕ
number_of Short = 10
number_of Version = 11
number_of HeaderLength = 12
number_of TotalLength = 13
number_of Checksum = 14
