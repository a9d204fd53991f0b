use Rattle.std.proofs.Common.{◌≡◌, ◌+◌, ◌≤◌, drop}
use Rattle.filters.specs.Meaning.{rules, standing_of}
use Rattle.filters.proofs.search.standing.Given as goal

-- those counted and those to come are all; and no more are counted than places were read
abbrev pub invariant-loop-place : goal.invariant-loop-place
invariant-loop-place g l =
    (l.better + standing_of g.C.Cost.order (rules g.D.Address.spells g.S.Address.spells g.C.Written.reads (drop l.place-index l.places)) l.cost l.label
    ≡ standing_of g.C.Cost.order (rules g.D.Address.spells g.S.Address.spells g.C.Written.reads l.places) l.cost l.label)
    × (l.better ≤ l.place-index)
