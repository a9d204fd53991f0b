use Rattle.kinds.proofs.Fields.{tariff_read}
use Rattle.kinds.proofs.tariff.TariffWritten.read.Goals as goal

pub returns : goal.returns
returns c = tariff_read c.args.from c.try_from.result c.try_from.ensures
