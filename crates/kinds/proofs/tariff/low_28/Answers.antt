use Rattle.std.proofs.lemmas.Nat.{and_mask}
use Rattle.kinds.proofs.tariff.low_28.Goals as goal

pub returns : goal.returns
returns c = and_mask c.args.n 28
