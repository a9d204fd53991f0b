use Rattle.std.proofs.Common.{◌+◌, length, sym, ◌∙◌, ap, arith, rules}
use Rattle.filters.specs.Rules.{better}
use Rattle.filters.proofs.Bests.{ranks}
use Rattle.grid.specs.Nodes.{within}
use Rattle.grid.proofs.Sound.{sound_more, within_lt}
use Rattle.grid.proofs.Alongs.{root_is_inside}
use Rattle.grid.proofs.Found.{of_none, of_descent, of_walk}
use Rattle.grid.proofs.grid.Grid.lookup.Goals as goal

pub follow-down-requires-clause-linked : goal.follow-down-requires-clause-linked
follow-down-requires-clause-linked g c = let grid = c.args.self.now in sound_more grid.used (length grid.nodes.now) grid.fits grid.nodes.now grid.linked

pub follow-walk-requires-clause-linked : goal.follow-walk-requires-clause-linked
follow-walk-requires-clause-linked g c = let grid = c.args.self.now in sound_more grid.used (length grid.nodes.now) grid.fits grid.nodes.now grid.linked

pub follow-walk-requires-clause-inside : goal.follow-walk-requires-clause-inside
follow-walk-requires-clause-inside g c =
    let grid = c.args.self.now in
    let N = grid.nodes.now in
    within_lt (length N) c.in-Some.root c.follow-down.result.kept
    (ap (λ w. within (length N) w.kept) c.follow-down.ensures.end
    ∙ root_is_inside N (sound_more grid.used (length N) grid.fits N grid.linked) (g.D.Address.string c.args.destination.now)) (sym c.in-Some.is)

pub returns-then-self-eq0 : goal.returns-then-self-eq0
returns-then-self-eq0 g c =
    let r =
    of_none (better g.C.Cost.order) c.args.self.now.nodes.now c.args.self.now.used (g.D.Address.string c.args.destination.now) (g.S.Address.string c.args.source.now)
    (g.D.Address.WIDTH + g.S.Address.WIDTH + 2) c.args.trail.now c.if-self-eq0.true in
    search rules

pub returns-in-None : goal.returns-in-None
returns-in-None g c =
    let few = c.follow-down.ensures.few in
    let r =
    of_descent (better g.C.Cost.order) c.args.self.now.nodes.now c.args.self.now.used (g.D.Address.string c.args.destination.now) (g.S.Address.string c.args.source.now)
    (g.D.Address.WIDTH + g.S.Address.WIDTH + 2) c.args.trail.now
    (ranks g.C.Cost.order (record { exchange = g.met.C.Cost.exchange; chain = g.met.C.Cost.chain })) (omega arith)
    c.follow-down.result c.follow-down.ensures.end c.follow-down.new.trail c.follow-down.ensures.notes c.in-None.is (omega arith) in
    search rules

pub returns-in-Some : goal.returns-in-Some
returns-in-Some g c =
    let few = c.follow-down.ensures.few in
    let more = c.follow-walk.ensures.few in
    let r =
    of_walk (better g.C.Cost.order) c.args.self.now.nodes.now c.args.self.now.used (g.D.Address.string c.args.destination.now) (g.S.Address.string c.args.source.now)
    (g.D.Address.WIDTH + g.S.Address.WIDTH + 2) c.args.trail.now
    (ranks g.C.Cost.order (record { exchange = g.met.C.Cost.exchange; chain = g.met.C.Cost.chain })) (omega arith)
    c.follow-down.result c.follow-down.ensures.end c.follow-down.new.trail c.follow-down.ensures.notes c.in-Some.root c.in-Some.is
    c.follow-walk.result c.follow-walk.ensures.end c.follow-walk.new.trail c.follow-walk.ensures.notes (omega arith) in
    search rules
