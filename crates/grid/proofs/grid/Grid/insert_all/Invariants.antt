use Rattle.std.proofs.Common.{◌≡◌, ◌+◌, ◌*◌, ◌≤◌, length, take}
use Rattle.filters.specs.Rules.{better}
use Rattle.filters.specs.Meaning.{rules}
use Rattle.grid.specs.Build.{Filled}
use Rattle.grid.proofs.grid.Grid.insert_all.Given as goal

-- the filters of the places up to here are inserted
abbrev pub invariant-loop-place : goal.invariant-loop-place
invariant-loop-place g l =
    (length l.self.nodes.now ≡ length l.initial.self.nodes.now)
    × (l.self.used ≤ 1 + l.place-index * (g.D.Address.WIDTH + g.S.Address.WIDTH + 1))
    × Filled (better g.C.Cost.order) (rules g.D.Address.spells g.S.Address.spells g.C.Written.reads l.records)
    (rules g.D.Address.spells g.S.Address.spells g.C.Written.reads (take l.place-index l.records)) l.self.nodes.now l.self.used
