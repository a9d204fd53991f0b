use Rattle.tries.proofs.Nodes.{nodes_few}
use Rattle.tries.proofs.laws.nodes_few.Goals as goal

pub returns : goal.returns
returns g c = nodes_few
