use Rattle.std.proofs.Common.{◌≡◌}
use Rattle.filters.specs.Meaning.{rules}
use Rattle.grid.specs.Finish.{finish_below}
use Rattle.grid.proofs.finish.finish_all.Given as goal

-- all shorter destinations are finished
abbrev pub invariant-loop-size : goal.invariant-loop-size
invariant-loop-size g l = l.nodes ≡ finish_below l.size l.initial.nodes (rules g.D.Address.spells g.S.Address.spells g.C.Written.reads l.records)
