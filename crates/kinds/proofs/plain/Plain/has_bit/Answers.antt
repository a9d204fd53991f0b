use Rattle.std.proofs.Common.{◌^◌, ◌<◌, ◌∙◌, subst, ℕ}
use Rattle.std.proofs.lemmas.Bool.{le-ltb}
use Rattle.kinds.specs.Bits.{weighs_past}
use Rattle.kinds.proofs.plain.Plain.has_bit.Goals as goal

pub returns-else-weight-lt128 : goal.returns-else-weight-lt128
returns-else-weight-lt128 g c =
    let n = g.Self.Plain.number c.args.self in
    let below : n < 2 ^ 128 = subst (λ (m : ℕ). m < 2 ^ 128) c.wide-number.ensures c.wide-number.type_inv in
    le-ltb c.args.weight 128 c.if-weight-lt128.false ∙ weighs_past n c.args.weight below c.if-weight-lt128.false
