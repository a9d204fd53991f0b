use Rattle.std.proofs.Common.{◌≡◌}
use Rattle.grid.specs.Finish.{trek}
use Rattle.grid.proofs.finish.finish_path.Given as goal

-- what is left of the path goes on from here
abbrev pub invariant-loop-bit : goal.invariant-loop-bit
invariant-loop-bit g l = trek (l.nodes, l.trek) l.bit-iterator ≡ trek (l.initial.nodes, l.initial.trek) l.initial.bit-iterator
