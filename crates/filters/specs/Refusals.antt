-- When a filter is refused, and by which number.
use Rattle.std.specs.Prelude.{ℕ, Bool, cond, ◌||◌, drop, Ok, Err, Result, ◌==◌, nat_lt}
use Rattle.std.specs.List.{list_any}
use Rattle.kinds.specs.Strings.{Str}
use Rattle.filters.specs.declared.directive.Directive.{Directive}
use Rattle.filters.specs.declared.fault.FilterFault.{FilterFault}
use Rattle.filters.specs.declared.fault.FilterFault.TheVariants.{ZeroLabel, LongPrefix, StrayBit, BadDirective, LabelInUse}
use Rattle.filters.specs.declared.filter.Prefix.{Prefix}
use Rattle.filters.specs.declared.filter.Filter.{Filter}
use Rattle.filters.specs.Directives.{lawful}

-- the number of each refusal of a filter
abbrev pub filter_number : FilterFault → ℕ
filter_number ZeroLabel = 1
filter_number LongPrefix = 2
filter_number StrayBit = 3
filter_number BadDirective = 4
filter_number LabelInUse = 5

-- some bit behind the first n is 1
abbrev pub stray : ℕ → Str → Bool
stray n t = list_any (λ b. b) (drop n t)

-- the label's check follows those of the body
abbrev pub then_used : Bool → Result (Unit {0}) FilterFault → Result (Unit {0}) FilterFault
then_used used (Err e) = Err e
then_used used (Ok x) = cond used (Err LabelInUse) (Ok tt)

-- the first refusal of two prefixes, given the strings and the widths of their kinds, and of a directive: a length over its
-- width in either, then a bit set behind the length in either, then the directive
module _ {D S : Type 0} (dst : D → Str) (src : S → Str) (wd ws : ℕ) where
  abbrev pub body_verdict : Prefix D → Prefix S → Directive → Result (Unit {0}) FilterFault
  body_verdict p q a =
      cond (nat_lt wd p.length || nat_lt ws q.length) (Err LongPrefix)
      (cond (stray p.length (dst p.address) || stray q.length (src q.address)) (Err StrayBit)
      (cond (lawful a) (Ok tt) (Err BadDirective)))

  -- the first refusal of a filter, label first; `used` says whether the label is in use already
  abbrev pub filter_verdict : {C : Type 0} → Bool → Filter D S C → Result (Unit {0}) FilterFault
  filter_verdict used f =
      cond (f.label == 0) (Err ZeroLabel) (then_used used (body_verdict f.destination f.source f.directive))
