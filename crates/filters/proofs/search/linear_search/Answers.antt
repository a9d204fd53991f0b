use Rattle.std.proofs.Common.{◌≡◌, ◌+◌, List, map, drop, Option, sym, ap, ◌∙◌, subst}
use Rattle.std.specs.Option.{option_map}
use Rattle.std.proofs.lemmas.List.{at_drop_all}
use Rattle.filters.specs.Meaning.{Record}
use Rattle.filters.specs.Rules.{Rule, linear, better, only, matches, scan}
use Rattle.filters.specs.Orders.{BestMatch}
use Rattle.filters.specs.Meaning.{rule_of, rules}
use Rattle.filters.proofs.Bests.{linear_is_best}
use Rattle.filters.proofs.Reading.{read_step}
use Rattle.filters.proofs.search.linear_search.Goals as goal

pub loop-place-preserved : goal.loop-place-preserved
loop-place-preserved g c =
    ap
    (λ (o : Option (Rule g.row.C.Denot)). scan (better g.C.Cost.order) o (map (only (better g.C.Cost.order) (matches (g.D.Address.string c.args.destination.now) (g.S.Address.string c.args.source.now))) (rules g.D.Address.spells g.S.Address.spells g.C.Written.reads (drop (c.loop-place.place-index + 1) c.args.places.now))))
    c.consider-best.ensures
    ∙ sym (read_step g.D.Address.spells g.S.Address.spells g.C.Written.reads (better g.C.Cost.order) (matches (g.D.Address.string c.args.destination.now) (g.S.Address.string c.args.source.now)) (option_map (rule_of g.D.Address.string g.S.Address.string) c.loop-place.best) c.args.places.now c.loop-place.place-index c.place-item.result c.loop-place-test.true c.place-item.is)
    ∙ c.loop-place.invariant

pub returns : goal.returns
returns g c =
    let e : option_map (rule_of g.D.Address.string g.S.Address.string) c.loop-place.best ≡ linear (better g.C.Cost.order) (rules g.D.Address.spells g.S.Address.spells g.C.Written.reads c.args.places.now) (g.D.Address.string c.args.destination.now) (g.S.Address.string c.args.source.now) =
    sym (at_drop_all (λ (ys : List (Record g.row.D-Pattern.Denot g.row.S-Pattern.Denot g.row.C-Pattern.Denot)). scan (better g.C.Cost.order) (option_map (rule_of g.D.Address.string g.S.Address.string) c.loop-place.best) (map (only (better g.C.Cost.order) (matches (g.D.Address.string c.args.destination.now) (g.S.Address.string c.args.source.now))) (rules g.D.Address.spells g.S.Address.spells g.C.Written.reads ys))) c.args.places.now c.loop-place.place-index c.loop-place-test.false)
    ∙ c.loop-place.invariant
    in
    record {
      answer = e;
      best = λ a.
          subst (BestMatch g.C.Cost.order (rules g.D.Address.spells g.S.Address.spells g.C.Written.reads c.args.places.now) (g.D.Address.string c.args.destination.now) (g.S.Address.string c.args.source.now)) (sym e)
          (linear_is_best g.C.Cost.order (record { exchange = g.met.C.Cost.exchange; chain = g.met.C.Cost.chain }) (rules g.D.Address.spells g.S.Address.spells g.C.Written.reads c.args.places.now) a (g.D.Address.string c.args.destination.now) (g.S.Address.string c.args.source.now));
    }
