use Rattle.tries.proofs.Standings.{standings_differ}
use Rattle.tries.proofs.laws.standings_differ.Goals as goal

pub returns : goal.returns
returns g c = standings_differ
