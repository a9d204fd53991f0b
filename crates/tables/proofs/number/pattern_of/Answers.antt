use Rattle.std.proofs.Common.{ℕ, ◌^◌, ◌<◌, ◌∙◌, subst}
use Rattle.tables.proofs.Words.{narrow_same}
use Rattle.tables.proofs.number.pattern_of.Goals as goal

pub returns : goal.returns
returns g c =
    let s = subst (λ (k : ℕ). c.number_of.result < 256 ^ k) c.requires c.number_of.ensures.fits in
    g.met.W.Written.plain c.narrow.result
    ∙ c.narrow.ensures
    ∙ narrow_same c.number_of.result g.W.Written.SIZE g.W.Pattern.Plain.span g.met.W.Written.bytes g.met.W.Written.held s
    ∙ c.number_of.ensures.value
