use Rattle.std.proofs.Common.{◌≡◌, drop}
use Rattle.filters.specs.Meaning.{rules}
use Rattle.grid.specs.Finish.{finish_length}
use Rattle.grid.proofs.finish.finish_length.Given as goal

-- what is left of the places goes on from here
abbrev pub invariant-loop-place : goal.invariant-loop-place
invariant-loop-place g l =
    finish_length l.size l.nodes (rules g.D.Address.spells g.S.Address.spells g.C.Written.reads (drop l.place-index l.records))
    ≡ finish_length l.size l.initial.nodes (rules g.D.Address.spells g.S.Address.spells g.C.Written.reads l.records)
