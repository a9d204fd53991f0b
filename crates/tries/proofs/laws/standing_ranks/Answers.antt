use Rattle.tries.proofs.Standings.{standing_ranks}
use Rattle.tries.proofs.laws.standing_ranks.Goals as goal

pub returns : goal.returns
returns g c = standing_ranks
