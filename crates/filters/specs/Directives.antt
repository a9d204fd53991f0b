-- Which directives are lawful, and how a choice names a filter.
use Rattle.std.specs.Prelude.{ℕ, Bool, true, ◌&&◌, Some, None, Option, nat_le}
use Rattle.filters.specs.declared.directive.Directive.{Directive}
use Rattle.filters.specs.declared.directive.Directive.TheVariants.{Block, Line, Reserve}
use Rattle.filters.specs.Rules.{Rule}

-- n is from low to high
abbrev pub within : ℕ → ℕ → ℕ → Bool
within low high n = nat_le low n && nat_le n high

-- block; a line from 1 to 63; a reserve on such a line at 1 to 16,777,215 kbit/s
abbrev pub lawful : Directive → Bool
lawful Block = true
lawful (Line n) = within 1 63 n
lawful (Reserve n r) = within 1 63 n && within 1 16777215 r

-- a choice is none, or the label and the directive of a filter
abbrev pub named : {C : Type 0} → Option (Rule C) → Option (ℕ × Directive)
named None = None
named (Some f) = Some (f.label, f.directive)
