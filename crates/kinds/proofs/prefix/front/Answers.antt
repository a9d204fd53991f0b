use Rattle.kinds.proofs.Fronts.{shifted_out}
use Rattle.kinds.proofs.prefix.front.Goals as goal

pub returns : goal.returns
returns g c =
    let plain = g.met.W.Written.plain c.write.result in
    let whole = shifted_out c.wide.result c.args.behind c.wide.type_inv in
    cc
