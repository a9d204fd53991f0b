use Rattle.std.proofs.Common.{◌≡◌, ◌-◌, min, arith}
use Rattle.kinds.proofs.Fronts.{starts_by_front}
use Rattle.kinds.proofs.prefix.is_prefix.Goals as goal

pub returns : goal.returns
returns g c =
    let x = c.args.prefix.now in
    let y = c.args.address.now in
    let p = g.A.Written.pattern x in
    let a = g.A.Written.pattern y in
    let w = g.A.Written.SIZE in
    let span = g.met.A.Address.span in
    let behind : c.WIDTH.result - c.min.result ≡ w - min c.args.length w = omega arith in
    let fronts = starts_by_front c.args.length w (g.A.Written.number p) (g.A.Written.number a) (g.met.A.Written.fits x) (g.met.A.Written.fits y) in
    cc (g.met.A.Address.spelt x, g.met.A.Address.spelt y, g.met.A.Address.first p, g.met.A.Address.first a)
