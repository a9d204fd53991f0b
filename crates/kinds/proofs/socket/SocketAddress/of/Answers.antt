use Rattle.std.proofs.Common.{◌^◌}
use Rattle.kinds.proofs.Fields.{socket_of, packed, packed_fits, socket_again}
use Rattle.kinds.specs.Packed.{below_packed}
use Rattle.kinds.proofs.socket.SocketAddress.of.Goals as goal

pub returns-clause-lawful : goal.returns-clause-lawful
returns-clause-lawful c = λ h. below_packed (2 ^ 16) socket_of packed packed_fits socket_again c.args.from c.from.result c.from.ensures
