use Rattle.std.proofs.Common.{arith}
use Rattle.tables.proofs.Fields.{pack_head}
use Rattle.tables.proofs.field.U32FromHead.from.Goals as goal

pub returns : goal.returns
returns c = pack_head c.args.head.edition c.args.head.destination c.args.head.source c.args.head.cost c.args.head.count (omega arith)
