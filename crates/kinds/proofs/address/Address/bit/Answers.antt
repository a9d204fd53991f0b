use Rattle.std.proofs.Common.{◌≡◌, ◌-◌, false, get_or, sym, ap, ◌∙◌, arith}
use Rattle.kinds.specs.Strings.{Str, weighs}
use Rattle.kinds.specs.Bits.{bits_at}
use Rattle.kinds.proofs.address.Address.bit.Goals as goal

pub returns-then-i-WIDTH : goal.returns-then-i-WIDTH
returns-then-i-WIDTH g c =
    let x = c.args.self.now in
    let p = g.Self.Written.pattern x in
    let w = g.Self.Address.WIDTH in
    let n = g.Self.Written.number p in
    let string = g.met.Self.Address.spelt x ∙ g.met.Self.Address.first p in
    let place : c.WIDTH-then-i-WIDTH.result - 1 - c.args.i ≡ w - 1 - c.args.i = omega arith in
    c.weighs.ensures ∙ ap (weighs n) place ∙ sym (bits_at w n c.args.i (omega arith)) ∙ ap (λ (t : Str). get_or t c.args.i false) (sym string)
