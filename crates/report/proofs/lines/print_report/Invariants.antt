use Rattle.std.proofs.Common.{◌-◌}
use Rattle.report.proofs.Prints.{Printed}
use Rattle.report.proofs.lines.print_report.Given as goal

-- what was printed so far, and the lines of what is left, are the lines of the input
abbrev pub invariant-loop : goal.invariant-loop
invariant-loop g l = Printed (65536 - l.counter) (g.R.Read.remaining l.initial.input) (g.R.Read.remaining l.input) (g.W.Write.contents l.initial.out) (g.W.Write.contents l.out)
