use Rattle.std.proofs.Common.{◌≡◌, ◌+◌, ◌-◌, ◌<◌, [], ◌∷◌, ◌++◌, sym, ap, ◌∙◌, arith}
use Rattle.report.specs.Items.{front}
use Rattle.report.specs.Lines.{said, text}
use Rattle.report.proofs.Texts.{ends}
use Rattle.report.proofs.Prints.{printed_all, end_read, printed_more, printed_last}
use Rattle.report.proofs.lines.print_report.Goals as goal

pub loop-preserved : goal.loop-preserved
loop-preserved g c =
    let words : c.as_bytes.result.now ≡ text (said c.in-Some.line) ++ (10 ∷ []) = cc (c.in_ok-shown.ensures) in
    printed_more (65536 - c.loop.counter) (65536 - (c.loop.counter + 1)) _ _ _ _ _ _ _ c.next-item.result (said c.in-Some.line) _ (omega arith) c.loop.invariant
    c.in_ok-next_item.ensures.consumed c.in_ok-next_item.ensures.whole (c.next-item.ensures.steps.0 ∙ ap front c.new.ensures) c.in-Some.ensures words c.in_ok-write_all.ensures.bytes (sym c.if-not-goes_on.ensures)

pub returns-after-loop : goal.returns-after-loop
returns-after-loop g c = printed_all (65536 - c.loop.counter) _ _ _ _ c.loop.invariant (λ (h : 0 < 65536 - c.loop.counter). absurd (let no : ⊥ = omega arith in no))

pub returns-in_default : goal.returns-in_default
returns-in_default g c =
    printed_all (65536 - c.loop.counter) _ _ _ _ c.loop.invariant
    (λ h. end_read _ _ c.in_ok-next_item.ensures.whole (ends _ (sym c.in_default.ensures) ∙ (c.next-item.ensures.steps.0 ∙ ap front c.new.ensures)))

pub returns-then-not-goes_on : goal.returns-then-not-goes_on
returns-then-not-goes_on g c =
    let words : c.as_bytes.result.now ≡ text (said c.in-Some.line) ++ (10 ∷ []) = cc (c.in_ok-shown.ensures) in
    printed_last (65536 - c.loop.counter) (65536 - (c.loop.counter + 1)) _ _ _ _ _ _ c.next-item.result (said c.in-Some.line) _ (omega arith) c.loop.invariant
    c.in_ok-next_item.ensures.whole (c.next-item.ensures.steps.0 ∙ ap front c.new.ensures) c.in-Some.ensures words c.in_ok-write_all.ensures.bytes (sym c.if-not-goes_on.ensures)
