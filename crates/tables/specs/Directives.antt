-- A directive as a number of 32 bits: form 2 bits, line 6, rate 24.
use Rattle.std.specs.Prelude.{ℕ, cond, ◌&&◌, List, [], ◌∷◌, ◌==◌}
use Rattle.filters.specs.declared.directive.Directive.{Directive}
use Rattle.filters.specs.declared.directive.Directive.TheVariants.{Block, Line, Reserve}
use Rattle.tables.specs.Bytes.{fields, pack, nth}

-- the widths of form, line and rate
abbrev pub directive_widths : List ℕ
directive_widths = 2 ∷ 6 ∷ 24 ∷ []

-- form, line and rate of a directive: form 0 is block, 1 is line, 2 is reserve, and what a form does not use is 0
abbrev pub directive_fields : Directive → List ℕ
directive_fields Block = 0 ∷ 0 ∷ 0 ∷ []
directive_fields (Line line) = 1 ∷ line ∷ 0 ∷ []
directive_fields (Reserve line rate) = 2 ∷ line ∷ rate ∷ []

-- the number of a directive
abbrev pub directive_number : Directive → ℕ
directive_number a = pack directive_widths (directive_fields a)

-- what fields that break the rules of their form stand for: line 0, which is no lawful directive
abbrev pub broken : Directive
broken = Line 0

-- the directive of a form, a line and a rate
abbrev pub directive_by : ℕ → ℕ → ℕ → Directive
directive_by form line rate =
    cond (form == 0) (cond (line == 0 && rate == 0) Block broken)
    (cond (form == 1) (cond (rate == 0) (Line line) broken)
    (cond (form == 2) (Reserve line rate) broken))

-- the directive of a number
abbrev pub directive_of : ℕ → Directive
directive_of n = directive_by (nth (fields directive_widths n) 0) (nth (fields directive_widths n) 1) (nth (fields directive_widths n) 2)
