use Rattle.tries.proofs.Finds.{chooses_the_best_match}
use Rattle.tries.proofs.laws.chooses_the_best_match.Goals as goal

pub returns : goal.returns
returns g c = chooses_the_best_match
