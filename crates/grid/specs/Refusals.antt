-- Why a grid is not built, and why a trail is not written.
use Rattle.std.specs.Prelude.{ℕ, ◌+◌, Bool, cond, Ok, Err, Option, Result, nat_lt}
use Rattle.filters.specs.declared.directive.Directive.{Directive}
use Rattle.tries.specs.Shape.{need}
use Rattle.grid.specs.declared.build.BuildFault.{BuildFault}
use Rattle.grid.specs.declared.build.BuildFault.TheVariants.{Places}
use Rattle.grid.specs.declared.trail.TrailFault.{TrailFault}
use Rattle.grid.specs.declared.trail.TrailFault.TheVariants as trails

-- the number of the refusal of a build
abbrev pub build_number : BuildFault → ℕ
build_number Places = 8

-- the node places are fewer than n filters may need, wd and ws being the widths of destination and source
abbrev pub too_few : ℕ → ℕ → ℕ → ℕ → Bool
too_few places n wd ws = nat_lt places (need n wd ws)

-- the number of the refusal of a trail
abbrev pub trail_number : TrailFault → ℕ
trail_number trails.Places = 9

-- what a trail of so many places answers: it is refused where a search may visit more nodes, wd and ws being the widths of destination and source
abbrev pub trail_verdict : ℕ → ℕ → ℕ → Option (ℕ × Directive) × ℕ → Result (Option (ℕ × Directive) × ℕ) TrailFault
trail_verdict places wd ws pair = cond (nat_lt places (wd + ws + 2)) (Err trails.Places) (Ok pair)
