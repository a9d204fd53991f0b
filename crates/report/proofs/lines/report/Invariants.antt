use Rattle.std.proofs.Common.{◌≡◌, ◌++◌, string_bytes}
use Rattle.std.specs.Iterator.Adapters.{take_count, take_source}
use Rattle.report.specs.Lines.{lines}
use Rattle.report.proofs.lines.report.Given as goal

-- the text so far and the lines of what is left are the lines of the input
abbrev pub invariant-loop-line : goal.invariant-loop-line
invariant-loop-line l = string_bytes l.text ++ lines (take_count l.items) (take_source l.items).rest.now ≡ lines 65536 l.fn.input

-- as many items as may still be read
abbrev pub decreases-loop-line : goal.decreases-loop-line
decreases-loop-line l = take_count l.items
