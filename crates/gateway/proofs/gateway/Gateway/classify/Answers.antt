use Rattle.std.proofs.Common.{◌≡◌, sym, subst}
use Rattle.gateway.specs.Assurance.{Right, Answer, After, answer_of}
use Rattle.gateway.specs.History.{Left}
use Rattle.gateway.specs.Kinds.{kinds_of}
use Rattle.gateway.proofs.Assured.{answer_right}
use Rattle.gateway.proofs.gateway.Gateway.classify.Goals as goal

pub returns : goal.returns
returns g c =
    let K = kinds_of g.D.Address g.D.Written g.D.Pattern.Plain g.S.Address g.S.Written g.S.Pattern.Plain g.C.Cost g.C.Written g.C.Pattern.Plain in
    let d = g.D.Address.string c.args.destination.now in
    let s = g.S.Address.string c.args.source.now in
    let same : (l : Left g.row.C.Denot) → After K l c.args.self.now → c.classify.result ≡ answer_of K l.built d s =
    λ l h i. (c.classify.ensures.best l.built h.apart h.derived i, c.classify.ensures.visits l.built h.derived i) in
    record {
      answer = same;
      right = λ l h.
          subst (λ (a : Answer). Right g.C.Cost.order g.D.Address.WIDTH g.S.Address.WIDTH l.built d s a) (sym (same l h))
          (answer_right g.C.Cost.order (record { exchange = g.met.C.Cost.exchange; chain = g.met.C.Cost.chain }) l.built h.apart d s
          g.D.Address.WIDTH g.S.Address.WIDTH (g.met.D.Address.long c.args.destination.now) (g.met.S.Address.long c.args.source.now));
    }
