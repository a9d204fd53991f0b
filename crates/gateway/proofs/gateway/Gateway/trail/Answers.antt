use Rattle.std.proofs.Common.{◌+◌, ◌<◌, length, Result, sym, subst, MatchResult}
use Rattle.grid.specs.declared.trail.TrailFault.{TrailFault}
use Rattle.grid.specs.Trails.{Trailed}
use Rattle.gateway.specs.Assurance.{Answer, Right, answer_of}
use Rattle.gateway.specs.Kinds.{kinds_of}
use Rattle.gateway.proofs.Assured.{answer_right, verdict_cases, refused_same}
use Rattle.gateway.proofs.gateway.Gateway.trail.Goals as goal

pub returns : goal.returns
returns g c =
    let K = kinds_of g.D.Address g.D.Written g.D.Pattern.Plain g.S.Address g.S.Written g.S.Pattern.Plain g.C.Cost g.C.Written g.C.Pattern.Plain in
    let d = g.D.Address.string c.args.destination.now in
    let s = g.S.Address.string c.args.source.now in
    let wd = g.D.Address.WIDTH in
    let ws = g.S.Address.WIDTH in
    let n = length c.args.trail.now in
    record {
      answer = λ l h. c.trail.ensures.answer l.built h.apart h.derived;
      right = λ l h.
          subst (λ (r : Result Answer TrailFault). MatchResult r (λ a. Right g.C.Cost.order wd ws l.built d s a) (λ _. n < wd + ws + 2))
          (sym (c.trail.ensures.answer l.built h.apart h.derived))
          (verdict_cases (λ a. Right g.C.Cost.order wd ws l.built d s a) n wd ws (answer_of K l.built d s)
          (answer_right g.C.Cost.order (record { exchange = g.met.C.Cost.exchange; chain = g.met.C.Cost.chain }) l.built h.apart d s wd ws
          (g.met.D.Address.long c.args.destination.now) (g.met.S.Address.long c.args.source.now)));
      memory = λ l h.
          subst (λ (r : Result Answer TrailFault). Trailed h.derived.keys l.built d s c.args.trail.now c.trail.new.trail r)
          (c.trail.ensures.answer l.built h.apart h.derived) (c.trail.ensures.memory l.built h.derived);
      same = refused_same c.trail.result (wd + ws + 2) n c.args.trail.now c.trail.new.trail c.trail.ensures.refused;
    }
