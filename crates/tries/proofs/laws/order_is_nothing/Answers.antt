use Rattle.tries.proofs.Same.{order_is_nothing}
use Rattle.tries.proofs.laws.order_is_nothing.Goals as goal

pub returns : goal.returns
returns g c = order_is_nothing
