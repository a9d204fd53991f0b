use Rattle.std.proofs.Common.{min, sym, ap, ◌∙◌}
use Rattle.grid.proofs.Spelling.{spells_wide, prefix_long}
use Rattle.grid.proofs.finish.bits_of.Goals as goal

pub returns : goal.returns
returns g c =
    let w = g.A.Address.WIDTH in
    c.min.ensures ∙ ap (min c.args.kept.now.length) c.WIDTH.ensures
    ∙ sym (prefix_long g.A.Address.spells w (spells_wide g.A.Address.spells g.A.Written.number w g.met.A.Address.first) c.args.kept.now)
