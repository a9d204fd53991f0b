-- What the verdict on a record's prefixes goes by.
use Rattle.std.proofs.Common.{◌≡◌, ℕ, cond, ◌||◌, ltb, Ok, Err}
use Rattle.kinds.specs.Strings.{Str}
use Rattle.filters.specs.declared.directive.Directive.{Directive}
use Rattle.filters.specs.declared.fault.FilterFault.TheVariants.{LongPrefix, StrayBit, BadDirective}
use Rattle.filters.specs.declared.filter.Prefix.{Prefix}
use Rattle.filters.specs.Directives.{lawful}
use Rattle.filters.specs.Refusals.{body_verdict, stray}

-- the verdict on two prefixes goes by their lengths, the widths and the strings alone
pub body_same : {D S E T : Type 0} (dst : D → Str) (src : S → Str) (dst' : E → Str) (src' : T → Str) (wd ws vd vs : ℕ) (p : Prefix D) (q : Prefix S) (p' : Prefix E) (q' : Prefix T) (a : Directive) → wd ≡ vd → ws ≡ vs → p.length ≡ p'.length → q.length ≡ q'.length → dst p.address ≡ dst' p'.address → src q.address ≡ src' q'.address → body_verdict dst src wd ws p q a ≡ body_verdict dst' src' vd vs p' q' a
body_same dst src dst' src' wd ws vd vs p q p' q' a ed es el em ex ey =
    λ i.
    cond (ltb (ed i) (el i) || ltb (es i) (em i)) (Err LongPrefix)
    (cond (stray (el i) (ex i) || stray (em i) (ey i)) (Err StrayBit)
    (cond (lawful a) (Ok tt) (Err BadDirective)))
