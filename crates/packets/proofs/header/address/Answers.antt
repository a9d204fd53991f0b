use Rattle.std.proofs.Common.{sym, ◌∙◌}
use Rattle.packets.proofs.Sums.{number_four}
use Rattle.packets.proofs.header.address.Goals as goal

pub returns : goal.returns
returns c = c.new.ensures ∙ c.from_be_bytes.ensures ∙ sym (number_four c.args.bytes.now c.args.place c.requires)
