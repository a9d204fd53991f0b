use Rattle.tries.proofs.Standings.{standings_decide}
use Rattle.tries.proofs.laws.standings_decide.Goals as goal

pub returns : goal.returns
returns g c = standings_decide
