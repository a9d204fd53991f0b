use Rattle.tries.proofs.Worked.{worked_searches}
use Rattle.tries.proofs.laws.worked_searches.Goals as goal

pub returns : goal.returns
returns c = worked_searches
