use Rattle.std.proofs.Common.{List, [], length, sym, refl, ap, ◌∙◌, subst, rules}
use Rattle.filters.specs.Rules.{better}
use Rattle.grid.specs.declared.node.Node.{Node}
use Rattle.grid.specs.Nodes.{sound, bare}
use Rattle.grid.specs.Derived.{Derived}
use Rattle.grid.proofs.Wiped.{wiped_all, sound_wiped, bare_wiped, derived_wiped}
use Rattle.grid.proofs.grid.Grid.new.Goals as goal

pub invariant_of-result : goal.invariant_of-result
invariant_of-result g c =
    let n = length c.args.nodes.now in
    let e = wiped_all c.args.nodes.now c.empty_first.new.nodes c.empty_first.ensures in
    record { fits = search rules; linked = ap (sound 0) e ∙ sound_wiped 0 n; rest = ap bare e ∙ bare_wiped n }

pub returns : goal.returns
returns g c =
    let n = length c.args.nodes.now in
    let e = wiped_all c.args.nodes.now c.empty_first.new.nodes c.empty_first.ensures in
    record {
      count = refl;
      memory = e;
      grid = subst (λ (N : List Node). Derived (better g.C.Cost.order) [] N 0) (sym e) (derived_wiped (better g.C.Cost.order) n);
    }
