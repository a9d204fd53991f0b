use Rattle.std.proofs.Common.{ℕ, take, sym, ap, ◌∙◌}
use Rattle.report.specs.Items.{front, needed}
use Rattle.report.proofs.Splits.{enough}
use Rattle.report.proofs.items.wanted.Goals as goal

pub returns : goal.returns
returns c = record { value = c.item_size.ensures; enough = λ b e. ap (λ (n : ℕ). front (take n b)) (c.item_size.ensures ∙ ap needed (sym e)) ∙ enough b }
