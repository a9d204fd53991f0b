use Rattle.std.proofs.Common.{length, ap, ◌∙◌, rules}
use Rattle.grid.specs.Nodes.{sound, bare}
use Rattle.grid.proofs.Built.{emptied}
use Rattle.grid.proofs.Wiped.{sound_wiped, bare_wiped}
use Rattle.grid.proofs.grid.Grid.clear.Goals as goal

pub invariant_of-self : goal.invariant_of-self
invariant_of-self g c =
    let self = c.args.self.now in
    let n = length self.nodes.now in
    let e = emptied self.used self.nodes.now c.empty_first.new.nodes self.fits self.rest c.empty_first.ensures in
    record { fits = search rules; linked = ap (sound 0) e ∙ sound_wiped 0 n; rest = ap bare e ∙ bare_wiped n }

pub returns-clause-memory : goal.returns-clause-memory
returns-clause-memory g c =
    let self = c.args.self.now in emptied self.used self.nodes.now c.empty_first.new.nodes self.fits self.rest c.empty_first.ensures
