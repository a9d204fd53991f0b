use Rattle.std.proofs.lemmas.Nat.{and_mask}
use Rattle.kinds.proofs.socket.low_six.Goals as goal

pub returns : goal.returns
returns c = and_mask c.args.n 6
