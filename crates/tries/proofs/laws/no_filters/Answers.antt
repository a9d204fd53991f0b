use Rattle.tries.proofs.Keys.{no_filters}
use Rattle.tries.proofs.laws.no_filters.Goals as goal

pub returns : goal.returns
returns g c = no_filters
