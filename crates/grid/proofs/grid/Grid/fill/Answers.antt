use Rattle.std.proofs.Common.{◌+◌, List, length, refl, ap, ◌∙◌}
use Rattle.std.proofs.lemmas.List.{length-replicate}
use Rattle.filters.specs.Rules.{better}
use Rattle.filters.specs.Meaning.{rules}
use Rattle.filters.proofs.Bests.{ranks}
use Rattle.grid.specs.declared.node.Node.{Node}
use Rattle.grid.specs.declared.node.Node.TheVariants.{Empty}
use Rattle.grid.specs.Build.{Safe}
use Rattle.grid.proofs.Spelling.{spells_wide}
use Rattle.grid.proofs.Built.{rules_short, built_safe, built_count, built_grid}
use Rattle.grid.proofs.grid.Grid.fill.Goals as goal

pub invariant_of-self : goal.invariant_of-self
invariant_of-self g c =
    let D = g.D.Address.spells in
    let w = g.D.Address.WIDTH in
    let lt = better g.C.Cost.order in
    let ord = ranks g.C.Cost.order (record { exchange = g.met.C.Cost.exchange; chain = g.met.C.Cost.chain }) in
    let F = rules D g.S.Address.spells g.C.Written.reads c.args.records.now in
    let self = c.insert_all.new.self in
    let short = rules_short D g.S.Address.spells g.C.Written.reads w (spells_wide D g.D.Written.number w g.met.D.Address.first) c.args.records.now in
    let s = built_safe lt ord F self.nodes.now c.finish_first.new.nodes self.used (record { fits = self.fits; linked = self.linked; rest = self.rest }) c.insert_all.ensures.grid
    (w + 1) short c.finish_first.auto.nodes c.finish_first.ensures in
    record { fits = s.fits; linked = s.linked; rest = s.rest }

pub returns : goal.returns
returns g c =
    let D = g.D.Address.spells in
    let w = g.D.Address.WIDTH in
    let lt = better g.C.Cost.order in
    let ord = ranks g.C.Cost.order (record { exchange = g.met.C.Cost.exchange; chain = g.met.C.Cost.chain }) in
    let F = rules D g.S.Address.spells g.C.Written.reads c.args.records.now in
    let self = c.insert_all.new.self in
    let short = rules_short D g.S.Address.spells g.C.Written.reads w (spells_wide D g.D.Written.number w g.met.D.Address.first) c.args.records.now in
    let safe : Safe self.used self.nodes.now = record { fits = self.fits; linked = self.linked; rest = self.rest } in
    record {
      answer = refl;
      count = built_count lt ord F self.nodes.now c.finish_first.new.nodes self.used safe c.insert_all.ensures.grid (w + 1) short c.finish_first.auto.nodes c.finish_first.ensures;
      places =
          c.finish_first.auto.nodes ∙ c.insert_all.ensures.places ∙ ap (λ (N : List Node). length N) c.clear.ensures.memory
          ∙ length-replicate {A = Node} (length c.args.self.now.nodes.now) Empty;
      grid = built_grid lt ord F self.nodes.now c.finish_first.new.nodes self.used safe c.insert_all.ensures.grid (w + 1) short c.finish_first.auto.nodes c.finish_first.ensures;
    }
