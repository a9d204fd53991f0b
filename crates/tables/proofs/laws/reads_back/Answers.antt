use Rattle.std.proofs.Common.{ℕ, ◌<◌, is_some, sym, ap, ◌∙◌, subst}
use Rattle.kinds.specs.Strings.{bits}
use Rattle.tables.specs.Format.{kind}
use Rattle.tables.proofs.Inverse.{read_back}
use Rattle.tables.proofs.Words.{size_pow}
use Rattle.tables.proofs.laws.reads_back.Goals as goal

pub returns : goal.returns
returns g c pass tells =
    read_back (kind g.D.Written.CODE g.D.Written.SIZE) (kind g.S.Written.CODE g.S.Written.SIZE) (kind g.C.Written.CODE g.C.Written.SIZE) pass g.D.Address.string g.S.Address.string g.D.Address.WIDTH g.S.Address.WIDTH g.D.Written.pattern g.S.Written.pattern g.C.Written.pattern g.D.Written.number g.S.Written.number g.C.Written.number
    g.met.D.Address.span g.met.S.Address.span
    (λ x. g.met.D.Address.spelt x ∙ g.met.D.Address.first (g.D.Written.pattern x) ∙ ap (λ (w : ℕ). bits w (g.D.Written.number (g.D.Written.pattern x))) g.met.D.Address.span)
    (λ x. g.met.S.Address.spelt x ∙ g.met.S.Address.first (g.S.Written.pattern x) ∙ ap (λ (w : ℕ). bits w (g.S.Written.number (g.S.Written.pattern x))) g.met.S.Address.span)
    (λ x. subst (λ (z : ℕ). g.D.Written.number (g.D.Written.pattern x) < z) (sym (size_pow g.D.Written.SIZE g.met.D.Written.bytes)) (g.met.D.Written.fits x))
    (λ x. subst (λ (z : ℕ). g.S.Written.number (g.S.Written.pattern x) < z) (sym (size_pow g.S.Written.SIZE g.met.S.Written.bytes)) (g.met.S.Written.fits x))
    (λ x. subst (λ (z : ℕ). g.C.Written.number (g.C.Written.pattern x) < z) (sym (size_pow g.C.Written.SIZE g.met.C.Written.bytes)) (g.met.C.Written.fits x))
    g.met.D.Written.short g.met.S.Written.short
    (λ x. sym (tells (g.C.Written.pattern x)) ∙ ap is_some (g.met.C.Written.again x))
    g.met.D.Written.low g.met.S.Written.low g.met.C.Written.low
