use Rattle.std.proofs.Common.{List, take, sym, subst}
use Rattle.filters.specs.Meaning.{Record, rules}
use Rattle.filters.specs.Orders.{Apart}
use Rattle.filters.specs.Rules.{better}
use Rattle.book.proofs.Means.{rules_apart}
use Rattle.grid.specs.Derived.{Derived}
use Rattle.grid.proofs.grid.Grid.build.Goals as goal

pub returns-clause-memory : goal.returns-clause-memory
returns-clause-memory g c =
    let D = g.D.Address.spells in
    let S = g.S.Address.spells in
    let R = g.C.Written.reads in
    let self = c.fill.new.self in
    let is = c.records-records.ensures in
    let apart = rules_apart D S R (take c.args.book.now.used c.args.book.now.places.now) c.args.book.now.lawful in
    subst (λ (xs : List (Record g.row.D-Pattern.Denot g.row.S-Pattern.Denot g.row.C-Pattern.Denot)). Derived (better g.C.Cost.order) (rules D S R xs) self.nodes.now self.used) is
    (c.fill.ensures.grid (subst (λ (xs : List (Record g.row.D-Pattern.Denot g.row.S-Pattern.Denot g.row.C-Pattern.Denot)). Apart (rules D S R xs)) (sym is) apart))
