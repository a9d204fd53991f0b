use Rattle.std.proofs.Common.{◌≡◌, ℕ, ◌+◌, List, sym, ap, ◌∙◌, add-one, arith}
use Rattle.filters.specs.Rules.{Rule}
use Rattle.filters.specs.Meaning.{rules}
use Rattle.grid.specs.declared.node.Node.{Node}
use Rattle.grid.specs.Finish.{finish_length, finish_below}
use Rattle.grid.proofs.finish.finish_all.Goals as goal

-- one length more
below_more : {C : Type 0} (n : ℕ) (N M L : List Node) (F : List (Rule C)) → L ≡ finish_length n M F → M ≡ finish_below n N F → L ≡ finish_below (n + 1) N F
below_more n N M L F last before = last ∙ ap (λ (K : List Node). finish_length n K F) before ∙ ap (λ (m : ℕ). finish_below m N F) (sym (add-one n))

pub loop-size-preserved : goal.loop-size-preserved
loop-size-preserved g c =
    let F = rules g.D.Address.spells g.S.Address.spells g.C.Written.reads c.args.records.now in
    below_more c.loop-size.size c.args.nodes.now c.loop-size.nodes c.finish_length.new.nodes F c.finish_length.ensures c.loop-size.invariant

pub returns : goal.returns
returns g c = absurd (omega (arith, c.loop-size-test.false, c.loop-size.auto.size-end))

pub returns-2 : goal.returns-2
returns-2 g c =
    let F = rules g.D.Address.spells g.S.Address.spells g.C.Written.reads c.args.records.now in
    let e : c.loop-size.size + 1 ≡ g.D.Address.WIDTH + 1 = omega (arith, c.WIDTH-size-end.ensures) in
    below_more c.loop-size.size c.args.nodes.now c.loop-size.nodes c.finish_length.new.nodes F c.finish_length.ensures c.loop-size.invariant
    ∙ ap (λ (m : ℕ). finish_below m c.args.nodes.now F) e
