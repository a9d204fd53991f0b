use Rattle.std.proofs.Common.{Ok, Err, Result, sym, ap, ◌∙◌, subst}
use Rattle.std.proofs.lemmas.Result.{err_from_is_err_and}
use Rattle.book.specs.Books.{capacity_of}
use Rattle.gateway.specs.declared.fault.InstallFault.{InstallFault}
use Rattle.gateway.specs.declared.gateway.Installed.{Installed}
use Rattle.gateway.specs.Calls.{Loads, Builds, Installs}
use Rattle.gateway.specs.Kinds.{kinds_of}
use Rattle.gateway.proofs.Standing.{loads_room, installed_leaves}
use Rattle.gateway.proofs.Installing.{load_and_build}
use Rattle.gateway.proofs.Assured.{spells_short}
use Rattle.gateway.proofs.gateway.Gateway.install.Goals as goal

pub returns-in_err-nodes : goal.returns-in_err-nodes
returns-in_err-nodes g c =
    let K = kinds_of g.D.Address g.D.Written g.D.Pattern.Plain g.S.Address g.S.Written g.S.Pattern.Plain g.C.Cost g.C.Written g.C.Pattern.Plain in
    let bytes = c.args.table.now in
    let b = c.args.self.now.book.now in
    let b' = c.load.new.self in
    let w = c.args.self.now.grid.now in
    let w' = c.build.new.self in
    let loaded = c.in_ok-filters.ensures in
    let built = c.in_err-nodes.ensures in
    let n = c.in_ok-filters.filters in
    let L : Loads K bytes (Ok n) b b' = record { answer = loaded.answer; memory = loaded.memory; count = loaded.count } in
    let p = err_from_is_err_and c.from_residual-in_err-nodes.result c.from_residual-in_err-nodes.ensures.1 in
    let B : Builds K (Err c.in_err-nodes.field-0.0) b' w w' = record { answer = built.answer; memory = built.memory; count = built.count } in
    record {
      leaves = subst (λ (z : Result Installed InstallFault). Installs K bytes z b b' w w') (sym (p.1 ∙ ap Err p.2)) (load_and_build K bytes b b' w w' n L loaded.meaning (Err c.in_err-nodes.field-0.0) B);
      history =
          record {
            room = ap capacity_of (loads_room K b b' bytes (Ok n) L);
            places = built.places;
            leaves = λ l h.
                installed_leaves K l b b' w h bytes (spells_short g.D.Address.spells g.D.Written.number g.D.Address.WIDTH g.met.D.Address.first)
                (spells_short g.S.Address.spells g.S.Written.number g.S.Address.WIDTH g.met.S.Address.first)
                n L loaded.meaning w' (Err c.in_err-nodes.field-0.0) B;
          };
    }

pub returns : goal.returns
returns g c =
    let K = kinds_of g.D.Address g.D.Written g.D.Pattern.Plain g.S.Address g.S.Written g.S.Pattern.Plain g.C.Cost g.C.Written g.C.Pattern.Plain in
    let bytes = c.args.table.now in
    let b = c.args.self.now.book.now in
    let b' = c.load.new.self in
    let w = c.args.self.now.grid.now in
    let w' = c.build.new.self in
    let loaded = c.in_ok-filters.ensures in
    let built = c.in_ok-nodes.ensures in
    let n = c.in_ok-filters.filters in
    let L : Loads K bytes (Ok n) b b' = record { answer = loaded.answer; memory = loaded.memory; count = loaded.count } in
    let B : Builds K (Ok c.in_ok-nodes.nodes) b' w w' = record { answer = built.answer; memory = built.memory; count = built.count } in
    record {
      leaves = load_and_build K bytes b b' w w' n L loaded.meaning (Ok c.in_ok-nodes.nodes) B;
      history =
          record {
            room = ap capacity_of (loads_room K b b' bytes (Ok n) L);
            places = built.places;
            leaves = λ l h.
                installed_leaves K l b b' w h bytes (spells_short g.D.Address.spells g.D.Written.number g.D.Address.WIDTH g.met.D.Address.first)
                (spells_short g.S.Address.spells g.S.Written.number g.S.Address.WIDTH g.met.S.Address.first)
                n L loaded.meaning w' (Ok c.in_ok-nodes.nodes) B;
          };
    }
