use Rattle.std.proofs.Common.{◌≡◌, ◌+◌, string_bytes, sym, arith}
use Rattle.std.specs.Iterator.Adapters.{take_count, take_source}
use Rattle.report.specs.Lines.{said}
use Rattle.report.proofs.Texts.{step_taken, step_told, step_over}
use Rattle.report.proofs.lines.report.Goals as goal

pub loop-line-preserved : goal.loop-line-preserved
loop-line-preserved c =
    let pushed = c.in_ok-push_str.ensures.bytes in
    let value = c.as_str.ensures.value in
    let made = c.in_ok-format.ensures.ok in
    let more = step_told (take_count c.loop-line.items) (take_count c.next.new.self) (take_source c.loop-line.items).rest.now (take_source c.next.new.self).rest.now c.next.result (said c.in-Some.line) (string_bytes c.loop-line.text) _ c.next.ensures.steps
    (sym c.in-Some.ensures) c.loop-line.invariant in
    cc

pub loop-line-smaller : goal.loop-line-smaller
loop-line-smaller c =
    let taken : take_count c.next.new.self + 1 ≡ take_count c.loop-line.items =
    step_taken _ _ (take_source c.loop-line.items).rest.now (take_source c.next.new.self).rest.now c.next.result (said c.in-Some.line) c.next.ensures.steps (sym c.in-Some.ensures) in
    omega arith

pub returns : goal.returns
returns c =
    step_over (take_count c.loop-line.items) (take_count c.next.new.self) (take_source c.loop-line.items).rest.now (take_source c.next.new.self).rest.now c.next.result (string_bytes c.loop-line.text) _ c.next.ensures.steps
    (sym c.in_default.ensures) c.loop-line.invariant
