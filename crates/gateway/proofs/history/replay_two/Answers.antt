use Rattle.std.proofs.Common.{length}
use Rattle.book.specs.Books.{capacity_of}
use Rattle.gateway.specs.History.{past}
use Rattle.gateway.specs.Kinds.{kinds_of}
use Rattle.gateway.proofs.Reached.{agree}
use Rattle.gateway.proofs.history.replay_two.Goals as goal

pub returns : goal.returns
returns g c =
    let K = kinds_of g.D.Address g.D.Written g.D.Pattern.Plain g.S.Address g.S.Written g.S.Pattern.Plain g.C.Cost g.C.Written g.C.Pattern.Plain in
    record {
      assurance =
          agree K (record { exchange = g.met.C.Cost.exchange; chain = g.met.C.Cost.chain })
          (past K (capacity_of (length c.args.places.now)) (length c.args.nodes.now) c.args.calls.now)
          (past K (capacity_of (length c.args.other_places.now)) (length c.args.other_nodes.now) c.args.other_calls.now)
          (g.D.Address.string c.args.destination.now) (g.S.Address.string c.args.source.now)
          (length c.args.trail.now) (length c.args.other_trail.now) c.replay-first.result c.replay-second.result
          c.replay-first.ensures.assured c.replay-second.ensures.assured;
      same = c.replay-first.ensures.same;
      other = c.replay-second.ensures.same;
      marked = c.replay-first.ensures.marked;
      other_marked = c.replay-second.ensures.marked;
    }
