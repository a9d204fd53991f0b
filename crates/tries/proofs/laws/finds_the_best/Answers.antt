use Rattle.tries.proofs.Finds.{finds_the_best}
use Rattle.tries.proofs.laws.finds_the_best.Goals as goal

pub returns : goal.returns
returns g c = finds_the_best
