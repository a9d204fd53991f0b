use Rattle.std.proofs.Common.{◌≡◌, ◌^◌, ◌<◌, take}
use Rattle.tables.specs.Bytes.{word}
use Rattle.tables.proofs.number.number_of.Given as goal

-- the number of the bytes that were read
abbrev pub invariant-loop-byte : goal.invariant-loop-byte
invariant-loop-byte l = (l.n ≡ word (take l.byte-index l.bytes)) × (l.n < 256 ^ l.byte-index)
