use Rattle.packets.proofs.Changes.{address_fields}
use Rattle.packets.proofs.facts.address_fields.Goals as goal

pub returns : goal.returns
returns c = address_fields
