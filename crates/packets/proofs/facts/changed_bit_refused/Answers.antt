use Rattle.packets.proofs.Changes.{changed_bit_refused}
use Rattle.packets.proofs.facts.changed_bit_refused.Goals as goal

pub returns : goal.returns
returns c = changed_bit_refused
