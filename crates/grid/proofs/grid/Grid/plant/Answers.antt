use Rattle.grid.proofs.Paths.{plant_new}
use Rattle.grid.proofs.Safety.{safe_first}
use Rattle.grid.proofs.grid.Grid.plant.Goals as goal

pub invariant_of-self : goal.invariant_of-self
invariant_of-self g c =
    let self = c.args.self.now in
    let s = safe_first self.used self.nodes.now (record { fits = self.fits; linked = self.linked; rest = self.rest }) c.if-used-eq0.true c.requires.room in
    record { fits = s.fits; linked = s.linked; rest = s.rest }

pub returns-then-used-eq0-clause-grid : goal.returns-then-used-eq0-clause-grid
returns-then-used-eq0-clause-grid g c =
    let self = c.args.self.now in
    λ own keys st. plant_new own keys self.nodes.now self.used st c.if-used-eq0.true c.requires.room
