use Rattle.std.proofs.Common.{length, refl}
use Rattle.book.specs.Books.{capacity_of}
use Rattle.gateway.specs.Calls.{Builds}
use Rattle.gateway.specs.Kinds.{kinds_of}
use Rattle.gateway.proofs.Standing.{builds_leaves}
use Rattle.gateway.proofs.Assured.{spells_short}
use Rattle.gateway.proofs.gateway.Gateway.build.Goals as goal

pub returns : goal.returns
returns g c =
    let K = kinds_of g.D.Address g.D.Written g.D.Pattern.Plain g.S.Address g.S.Written g.S.Pattern.Plain g.C.Cost g.C.Written g.C.Pattern.Plain in
    let b = c.args.self.now.book.now in
    let w = c.args.self.now.grid.now in
    let a : Builds K c.build.result b w c.build.new.self =
    record { answer = c.build.ensures.answer; memory = c.build.ensures.memory; count = c.build.ensures.count } in
    record {
      grid = a;
      book = refl;
      history =
          record {
            room = refl;
            places = c.build.ensures.places;
            leaves = λ l h.
                builds_leaves K l b w h (spells_short g.D.Address.spells g.D.Written.number g.D.Address.WIDTH g.met.D.Address.first)
                (spells_short g.S.Address.spells g.S.Written.number g.S.Address.WIDTH g.met.S.Address.first)
                (capacity_of (length b.places.now)) c.build.new.self c.build.result a;
          };
    }
