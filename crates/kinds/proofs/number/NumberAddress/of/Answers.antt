use Rattle.std.proofs.Common.{◌^◌, ap}
use Rattle.std.proofs.Math.Bridge.{le_prop}
use Rattle.kinds.specs.Packed.{fitting_written}
use Rattle.kinds.proofs.number.NumberAddress.of.Goals as goal

pub returns-clause-lawful : goal.returns-clause-lawful
returns-clause-lawful g c =
    λ h.
    fitting_written g.P.Plain.number (2 ^ g.P.Whole.BITS) (λ p k. record { number = p; kind = record {}; fits = k }) (λ x. x.number) (λ x. x.fits)
    (λ x k. ap (λ f. record { number = x.number; kind = record {}; fits = f }) (le_prop k x.fits)) c.args.from c.new.result c.new.ensures
