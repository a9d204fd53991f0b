use Rattle.std.proofs.Common.{◌≡◌, ltb, List, [], ◌∷◌, ◌++◌, take, Option, sym, refl, ap, ◌∙◌, subst, inl, arith, rules as goal_rules}
use Rattle.std.proofs.lemmas.List.{append-nil}
use Rattle.kinds.specs.declared.written.PatternFault.TheVariants.{Unlawful}
use Rattle.kinds.specs.Strings.{Str}
use Rattle.filters.specs.Rules.{Rule, by_cost, better}
use Rattle.filters.specs.Meaning.{prefix_of, held, held_at, rules}
use Rattle.filters.specs.Orders.{In}
use Rattle.filters.proofs.Bests.{ranks}
use Rattle.grid.specs.declared.node.Kept.{Kept}
use Rattle.grid.specs.Build.{Filled, Inserted, own_of}
use Rattle.grid.proofs.Fills.{count_few, filled_more, kept_as, read_some, read_none}
use Rattle.grid.proofs.grid.Grid.insert_record.Goals as goal

pub returns-in_default : goal.returns-in_default
returns-in_default g c =
    let F = rules g.D.Address.spells g.S.Address.spells g.C.Written.reads c.args.records.now in
    let none = read_none (g.C.Written.reads c.args.place.now.cost) Unlawful c.in_default.field-0 c.in_default.ensures in
    record {
      most = omega arith;
      places = refl;
      grid = λ G sub own fill.
          subst (λ (H : List (Rule g.row.C.Denot)). Filled (better g.C.Cost.order) F H c.args.self.now.nodes.now c.args.self.now.used)
          (sym (ap (λ (o : Option g.row.C.Denot). G ++ held_at g.D.Address.spells g.S.Address.spells g.C.Written.reads c.args.place.now o) none ∙ append-nil G)) fill;
    }

pub overflow_cast-kept : goal.overflow_cast-kept
overflow_cast-kept g c =
    let few = count_few g.D.Address.spells g.S.Address.spells g.C.Written.reads
    (λ (r : Rule g.row.C.Denot). by_cost (g.C.Cost.order r.cost c.in-Ok.cost) (ltb r.label c.args.place.now.label)) c.args.records.now in
    let is = c.standing-rank.ensures in
    let h = c.requires.few in
    search goal_rules

pub returns : goal.returns
returns g c =
    let D = g.D.Address.spells in
    let S = g.S.Address.spells in
    let R = g.C.Written.reads in
    let lt = better g.C.Cost.order in
    let F = rules D S R c.args.records.now in
    let x = c.args.place.now in
    let f : Rule g.row.C.Denot = record { label = x.label; destination = prefix_of D x.destination; source = prefix_of S x.source; cost = c.in-Ok.cost; directive = x.directive } in
    let reads_as = read_some (R x.cost) c.in-Ok.cost Unlawful c.in-Ok.ensures in
    let holds : held D S R x ≡ f ∷ [] = ap (held_at D S R x) reads_as in
    let ord = ranks g.C.Cost.order (record { exchange = g.met.C.Cost.exchange; chain = g.met.C.Cost.chain }) in
    let rank = c.standing-rank.ensures in
    let N = c.insert.new.self.nodes.now in
    let u = c.insert.new.self.used in
    record {
      most = c.insert.ensures.most;
      places = c.insert.ensures.places;
      grid = λ G sub own fill.
          let ins = c.insert.ensures.grid (own_of lt F G) fill.keys fill.state in
          let to : prefix_of g.D.Address.string c.of-to.result ≡ prefix_of D x.destination = λ i. take (c.of-to.ensures.length i) (c.of-to.ensures.string i) in
          let from : prefix_of g.S.Address.string c.of-from.result ≡ prefix_of S x.source = λ i. take (c.of-from.ensures.length i) (c.of-from.ensures.string i) in
          let k : Kept = record { label = x.label; standing = c.standing-rank.result; directive = x.directive } in
          let kept : k ≡ kept_as lt ord F f = λ i. record { label = x.label; standing = rank i; directive = x.directive } in
          subst (λ (H : List (Rule g.row.C.Denot)). Filled lt F (G ++ H) N u) (sym holds)
          (filled_more lt ord F G f c.args.self.now.nodes.now c.args.self.now.used N u sub (own f (subst (λ (H : List (Rule g.row.C.Denot)). In f H) (sym holds) (inl refl))) fill
          (subst (λ (z : Str × Str × Kept). Inserted (own_of lt F G) fill.keys z.0 z.1 z.2 N u) (λ i. (to i, from i, kept i)) ins));
    }
