-- The line that each item is told by.
use Rattle.std.specs.Prelude.{ℕ, zero, suc, ◌/◌, ◌%◌, ◌^◌, cond, List, [], ◌∷◌, ◌++◌, length, Some, None, Ok, Err, codes, decimal, Option, Result}
use Rattle.packets.specs.declared.fault.PacketFault.{PacketFault}
use Rattle.packets.specs.declared.packet.Packet.{Packet}
use Rattle.packets.specs.declared.packet.Ports.{Ports}
use Rattle.packets.specs.Datagram.{Datagram, datagram, carried}
use Rattle.packets.specs.Refusals.{number_of}
use Rattle.report.specs.declared.lines.Line.{Line}
use Rattle.report.specs.declared.lines.LineFault.{LineFault}
use Rattle.report.specs.declared.lines.LineFault.TheVariants.{Denied, TooLong, CutShort}
use Rattle.report.specs.declared.items.ItemFault.{ItemFault}
use Rattle.report.specs.declared.items.ItemFault.TheVariants.{Long, Short}
use Rattle.report.specs.Items.{Front, whole, long, short, end, front, goes_on, behind}

-- what is told of an item
pub data Told : Type 0 where
  answer : Result Datagram PacketFault → Told
  too_long : Told
  cut_short : Told

-- a packet is told by what it says or why it is refused; the end of the input is not told
abbrev pub told_of : Front → Option Told
told_of (whole socket packet) = Some (answer (datagram packet))
told_of long = Some too_long
told_of short = Some cut_short
told_of end = None

-- the four bytes of an address in decimal, with points between
abbrev pub dotted : ℕ → List ℕ
dotted n = decimal (n / 2 ^ 24) ++ (codes "." ++ (decimal (n / 2 ^ 16 % 256) ++ (codes "." ++ (decimal (n / 2 ^ 8 % 256) ++ (codes "." ++ decimal (n % 256))))))

-- the two ports, where there are any
abbrev pub ports_text : Option Ports → List ℕ
ports_text None = []
ports_text (Some p) = codes " ports " ++ (decimal p.source ++ (codes " " ++ decimal p.destination))

-- the words of a line
abbrev pub text : Told → List ℕ
text (answer (Ok d)) =
    codes "packet " ++ (dotted d.source ++ (codes " " ++ (dotted d.destination
    ++ (codes " protocol " ++ (decimal d.protocol ++ (codes " payload " ++ (decimal (length d.payload) ++ ports_text d.ports)))))))
text (answer (Err e)) = codes "denied " ++ decimal (number_of e)
text too_long = codes "long"
text cut_short = codes "short"

-- how a fault of an item is told
abbrev pub fault_of : ItemFault → LineFault
fault_of Long = TooLong
fault_of Short = CutShort

-- a fault, by its values
abbrev pub said_of_fault : LineFault → Told
said_of_fault (Denied e) = answer (Err e)
said_of_fault TooLong = too_long
said_of_fault CutShort = cut_short

-- a packet or a fault, by its values
abbrev pub outcome : Result Packet LineFault → Told
outcome (Ok p) = answer (Ok (carried p))
outcome (Err e) = said_of_fault e

-- a line, by its values
abbrev pub said : Line → Told
said l = outcome l.0

-- a line that may be missing, by its values
abbrev pub said_of : Option Line → Option Told
said_of (Some l) = Some (said l)
said_of None = None

-- a line, its byte 10, and the lines behind it; where nothing is told, no line follows
abbrev pub before : Option Told → List ℕ → List ℕ
before None more = []
before (Some told) more = text told ++ (10 ∷ more)

-- the lines of an input of which at most n items are read
unfoldable pub lines : ℕ → List ℕ → List ℕ
lines zero b = []
lines (suc n) b = before (told_of (front b)) (cond (goes_on (front b)) (lines n (behind b)) [])
