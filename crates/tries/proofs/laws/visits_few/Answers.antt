use Rattle.tries.proofs.Visits.{visits_few}
use Rattle.tries.proofs.laws.visits_few.Goals as goal

pub returns : goal.returns
returns g c = visits_few
