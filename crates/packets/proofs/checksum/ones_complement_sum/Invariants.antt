use Rattle.std.proofs.Common.{◌≡◌}
use Rattle.packets.specs.Header.{word_sum, ones_complement}
use Rattle.packets.proofs.checksum.ones_complement_sum.Given as goal

-- the sum so far is that of the pairs read
abbrev pub invariant-loop-pair : goal.invariant-loop-pair
invariant-loop-pair l = l.sum ≡ ones_complement (word_sum l.fn.bytes l.pair-index)
