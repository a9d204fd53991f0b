use Rattle.std.proofs.Common.{sym, arith}
use Rattle.tables.proofs.Words.{word_none, read_more}
use Rattle.tables.proofs.number.number_of.Goals as goal

pub loop-byte-init : goal.loop-byte-init
loop-byte-init c = (sym word_none, omega arith)

pub loop-byte-preserved : goal.loop-byte-preserved
loop-byte-preserved c = read_more c.args.bytes.now c.loop-byte.byte-index c.loop-byte.n (omega arith) (omega arith) c.loop-byte.invariant.0 c.loop-byte.invariant.1 (c.type_inv.bytes _).fits
