use Rattle.std.proofs.Common.{◌≡◌, ℕ, ◌+◌, cond, eqb, List, [], ◌∷◌, ◌++◌, length, drop, sym, refl, ap, ◌∙◌}
use Rattle.std.proofs.lemmas.List.{at_drop_more, at_drop_all}
use Rattle.filters.specs.Meaning.{Record}
use Rattle.filters.specs.Rules.{Rule}
use Rattle.filters.specs.Meaning.{rules, held}
use Rattle.grid.specs.declared.node.Node.{Node}
use Rattle.grid.specs.Finish.{finish_path, finish_length}
use Rattle.grid.proofs.finish.finish_length.Goals as goal

finish_append : {C : Type 0} (n : ℕ) (N : List Node) (F G : List (Rule C)) → finish_length n N (F ++ G) ≡ finish_length n (finish_length n N F) G
finish_append n N [] G = refl
finish_append n N (f ∷ F) G = finish_append n (cond (eqb (length f.destination) n) (finish_path N f.destination f.source) N) F G

pub loop-place-preserved : goal.loop-place-preserved
loop-place-preserved g c =
    let D = g.D.Address.spells in
    let S = g.S.Address.spells in
    let R = g.C.Written.reads in
    let n = c.args.size in
    let xs = c.args.records.now in
    let i = c.loop-place.place-index in
    let x = c.place-item.result in
    let N = c.loop-place.nodes in
    ap (λ (M : List Node). finish_length n M (rules D S R (drop (i + 1) xs))) c.finish_record.ensures
    ∙ sym (finish_append n N (held D S R x) (rules D S R (drop (i + 1) xs)))
    ∙ ap (λ (y : Record g.row.D-Pattern.Denot g.row.S-Pattern.Denot g.row.C-Pattern.Denot). finish_length n N (rules D S R (y ∷ drop (i + 1) xs))) c.place-item.is
    ∙ sym (at_drop_more (λ (ys : List (Record g.row.D-Pattern.Denot g.row.S-Pattern.Denot g.row.C-Pattern.Denot)). finish_length n N (rules D S R ys)) xs i x c.loop-place-test.true)
    ∙ c.loop-place.invariant

pub returns : goal.returns
returns g c =
    let D = g.D.Address.spells in
    let S = g.S.Address.spells in
    let R = g.C.Written.reads in
    sym (at_drop_all (λ (ys : List (Record g.row.D-Pattern.Denot g.row.S-Pattern.Denot g.row.C-Pattern.Denot)). finish_length c.args.size c.loop-place.nodes (rules D S R ys)) c.args.records.now c.loop-place.place-index c.loop-place-test.false)
    ∙ c.loop-place.invariant
