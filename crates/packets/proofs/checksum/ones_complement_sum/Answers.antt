use Rattle.std.proofs.Common.{ℕ, ◌*◌, ◌/◌, length, List, arith}
use Rattle.packets.specs.Header.{word_sum, word}
use Rattle.packets.proofs.Sums.{sum_more, carry_more, pair_at}
use Rattle.packets.proofs.checksum.ones_complement_sum.Goals as goal

pub loop-pair-preserved : goal.loop-pair-preserved
loop-pair-preserved c =
    let b : List ℕ = c.args.bytes.now in
    let i : ℕ = c.loop-pair.pair-index in
    let pair = pair_at b (length b / 2) i (omega arith) in
    let step = sum_more b i in
    let carried = carry_more (word_sum b i) (word b (2 * i)) in
    cc
