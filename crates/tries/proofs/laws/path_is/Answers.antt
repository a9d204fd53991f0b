use Rattle.tries.proofs.Finds.{path_is}
use Rattle.tries.proofs.laws.path_is.Goals as goal

pub returns : goal.returns
returns g c = path_is
