use Rattle.std.proofs.Common.{length, refl, ap}
use Rattle.book.specs.Books.{capacity_of}
use Rattle.gateway.specs.Calls.{Adds}
use Rattle.gateway.specs.Kinds.{kinds_of}
use Rattle.gateway.proofs.Standing.{adds_leaves, adds_room}
use Rattle.gateway.proofs.gateway.Gateway.add.Goals as goal

pub returns : goal.returns
returns g c =
    let K = kinds_of g.D.Address g.D.Written g.D.Pattern.Plain g.S.Address g.S.Written g.S.Pattern.Plain g.C.Cost g.C.Written g.C.Pattern.Plain in
    let b = c.args.self.now.book.now in
    let w = c.args.self.now.grid.now in
    let a : Adds K c.args.filter.now c.add.result b c.add.new.self =
    record { answer = c.add.ensures.answer; memory = c.add.ensures.memory; count = c.add.ensures.count } in
    record {
      book = a;
      grid = refl;
      history =
          record {
            room = ap capacity_of (adds_room K b c.add.new.self c.args.filter.now c.add.result a);
            places = refl;
            leaves = λ l h. adds_leaves K l b w h (length w.nodes.now) c.add.new.self c.args.filter.now c.add.result a c.add.ensures.meaning;
          };
    }
