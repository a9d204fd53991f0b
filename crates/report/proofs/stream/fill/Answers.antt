use Rattle.std.proofs.Common.{rules, ◌-◌, length, subst}
use Rattle.std.specs.Io.KnownBytes.{Consumes}
use Rattle.report.proofs.Streams.{consumes_both, take_filled}
use Rattle.report.proofs.stream.fill.Goals as goal

pub loop-filled-preserved : goal.loop-filled-preserved
loop-filled-preserved g c =
    let room = length c.loop-filled.bytes - c.loop-filled.filled in
    let both = consumes_both _ _ _ _ _ c.loop-filled.invariant.1 c.in_ok-got.ensures.bytes.0 in
    (search rules, subst (Consumes _ _) (take_filled c.loop-filled.filled room c.in_ok-got.got c.loop-filled.bytes c.read.new.buf c.loop-filled.invariant.0 c.in_ok-got.ensures.bound.0) both)
