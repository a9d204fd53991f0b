use Rattle.std.proofs.Common.{◌^◌}
use Rattle.kinds.proofs.Fields.{socket_of, packed, packed_fits, socket_again}
use Rattle.kinds.specs.Packed.{reads_packed}
use Rattle.kinds.proofs.socket.SocketWritten.read.Goals as goal

pub returns : goal.returns
returns c = reads_packed (2 ^ 16) socket_of packed packed_fits socket_again c.args.from c.from.result c.from.ensures
