use Rattle.std.proofs.Common.{◌≡◌, ◌+◌, ◌<◌, ◌≤◌, map, length, None}
use Rattle.std.proofs.lemmas.List.Edits.{sets}
use Rattle.grid.specs.Steps.{along, trace, stepped, visited}
use Rattle.grid.proofs.search.follow.Given as goal

-- the walk is inside the memory, and the bits that are left lead from it to the end and to the notes of the whole walk
abbrev pub invariant-loop-bit : goal.invariant-loop-bit
invariant-loop-bit g l =
    let step = stepped g.H.Half.leads g.H.Half.keeps l.nodes in
    let start = visited g.H.Half.keeps l.nodes None l.before l.start in
    (goal.iterator-loop-bit g).can_next l.bit-iterator
    × (goal.iterator-loop-bit g).is_finite l.bit-iterator
    × (l.walk.at < length l.nodes)
    × (l.walk.visits + length l.bit-iterator ≤ l.before + 1 + g.A.Address.WIDTH)
    × (along step l.walk l.bit-iterator ≡ along step start (g.A.Address.string l.address))
    × (sets l.trail l.walk.visits (map (λ v. v.at) (trace step l.walk l.bit-iterator))
    ≡ sets l.initial.trail (l.before + 1) (map (λ v. v.at) (trace step start (g.A.Address.string l.address))))
