use Rattle.tries.proofs.Keys.{keys_are}
use Rattle.tries.proofs.laws.keys_are.Goals as goal

pub returns : goal.returns
returns g c = keys_are
