use Rattle.std.proofs.Common.{arith}
use Rattle.std.proofs.lemmas.List.{take_all}
use Rattle.tables.specs.Format.{decode_record}
use Rattle.tables.proofs.record.read_record.Goals as goal

pub returns : goal.returns
unfolding decode_record
returns g c =
    let four = take_all 4 c.split_at-6.result.1.now (omega (arith, c.requires, c.bytes_of.ensures.size, c.bytes_of-2.ensures.size, c.bytes_of-3.ensures.size)) in
    cc
