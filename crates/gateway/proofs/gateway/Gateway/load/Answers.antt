use Rattle.std.proofs.Common.{length, refl, ap}
use Rattle.book.specs.Books.{capacity_of}
use Rattle.gateway.specs.Calls.{Loads}
use Rattle.gateway.specs.Kinds.{kinds_of}
use Rattle.gateway.proofs.Standing.{loads_leaves, loads_room}
use Rattle.gateway.proofs.gateway.Gateway.load.Goals as goal

pub returns : goal.returns
returns g c =
    let K = kinds_of g.D.Address g.D.Written g.D.Pattern.Plain g.S.Address g.S.Written g.S.Pattern.Plain g.C.Cost g.C.Written g.C.Pattern.Plain in
    let b = c.args.self.now.book.now in
    let w = c.args.self.now.grid.now in
    let a : Loads K c.args.table.now c.load.result b c.load.new.self =
    record { answer = c.load.ensures.answer; memory = c.load.ensures.memory; count = c.load.ensures.count } in
    record {
      book = a;
      grid = refl;
      history =
          record {
            room = ap capacity_of (loads_room K b c.load.new.self c.args.table.now c.load.result a);
            places = refl;
            leaves = λ l h. loads_leaves K l b w h (length w.nodes.now) c.load.new.self c.args.table.now c.load.result a c.load.ensures.meaning;
          };
    }
