use Rattle.std.proofs.Common.{◌≡◌, ◌*◌, ◌%◌, arith}
use Rattle.std.proofs.lemmas.Nat.{or_shifted}
use Rattle.kinds.proofs.socket.join.Goals as goal

pub returns : goal.returns
returns c =
    let e : c.args.before * 64 % 65536 ≡ c.args.before * 64 = omega (arith, c.requires.0) in
    rw (e, or_shifted c.args.before 6 c.args.field c.requires.1)
