use Rattle.packets.proofs.Changes.{complement_accepted}
use Rattle.packets.proofs.facts.complement_accepted.Goals as goal

pub returns : goal.returns
returns c = complement_accepted
