use Rattle.std.proofs.Common.{◌≡◌, ◌+◌, ◌<◌, length, drop}
use Rattle.gateway.specs.Kinds.{kinds_of}
use Rattle.gateway.proofs.Reached.{Reached}
use Rattle.gateway.proofs.history.replay.Given as goal

-- the gateway stands as the calls made so far leave it, and a trail with too few places is as it was
abbrev pub invariant-loop-call : goal.invariant-loop-call
invariant-loop-call g l =
    Reached (kinds_of g.D.Address g.D.Written g.D.Pattern.Plain g.S.Address g.S.Written g.S.Pattern.Plain g.C.Cost g.C.Written g.C.Pattern.Plain) l.initial.gateway l.gateway l.calls (drop l.call-index l.calls)
    × (length l.trail ≡ length l.initial.trail)
    × (length l.initial.trail < g.D.Address.WIDTH + g.S.Address.WIDTH + 2 → l.trail ≡ l.initial.trail)
