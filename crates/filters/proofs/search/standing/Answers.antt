use Rattle.std.proofs.Common.{ltb, sym, ◌∙◌, arith}
use Rattle.filters.specs.Rules.{Rule, by_cost}
use Rattle.filters.proofs.Reading.{counted, count_step}
use Rattle.filters.proofs.search.standing.Goals as goal

pub loop-place-preserved : goal.loop-place-preserved
loop-place-preserved g c =
    let k = counted c.is_ahead.result c.from-better.result _ c.from-better.ensures c.is_ahead.ensures in (
      sym (count_step g.D.Address.spells g.S.Address.spells g.C.Written.reads (λ (r : Rule g.row.C.Denot). by_cost (g.C.Cost.order r.cost c.args.cost.now) (ltb r.label c.args.label)) c.loop-place.better c.from-better.result c.args.places.now c.loop-place.place-index c.place-item.result c.loop-place-test.true c.place-item.is k.0)
          ∙ c.loop-place.invariant.0,
      omega (arith, k.1, c.loop-place.invariant.1),
    )
