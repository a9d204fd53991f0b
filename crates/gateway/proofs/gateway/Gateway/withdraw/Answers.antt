use Rattle.std.proofs.Common.{length, refl, ap}
use Rattle.book.specs.Books.{capacity_of}
use Rattle.gateway.specs.Calls.{Withdraws}
use Rattle.gateway.specs.Kinds.{kinds_of}
use Rattle.gateway.proofs.Standing.{withdraws_leaves, withdraws_room}
use Rattle.gateway.proofs.gateway.Gateway.withdraw.Goals as goal

pub returns : goal.returns
returns g c =
    let K = kinds_of g.D.Address g.D.Written g.D.Pattern.Plain g.S.Address g.S.Written g.S.Pattern.Plain g.C.Cost g.C.Written g.C.Pattern.Plain in
    let b = c.args.self.now.book.now in
    let w = c.args.self.now.grid.now in
    let a : Withdraws K c.args.label c.withdraw.result b c.withdraw.new.self =
    record { answer = c.withdraw.ensures.answer; memory = c.withdraw.ensures.memory; count = c.withdraw.ensures.count } in
    record {
      book = a;
      grid = refl;
      history =
          record {
            room = ap capacity_of (withdraws_room K b c.withdraw.new.self c.args.label c.withdraw.result a);
            places = refl;
            leaves = λ l h. withdraws_leaves K l b w h (length w.nodes.now) c.withdraw.new.self c.args.label c.withdraw.result a c.withdraw.ensures.meaning;
          };
    }
