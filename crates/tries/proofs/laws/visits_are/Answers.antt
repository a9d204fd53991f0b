use Rattle.tries.proofs.Visits.{visits_are}
use Rattle.tries.proofs.laws.visits_are.Goals as goal

pub returns : goal.returns
returns g c = visits_are
