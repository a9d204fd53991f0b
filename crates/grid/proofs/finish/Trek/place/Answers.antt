use Rattle.std.proofs.Common.{◌≡◌, List, set, sym, ap, ◌∙◌}
use Rattle.std.proofs.lemmas.List.{set_past}
use Rattle.grid.specs.declared.node.Node.{Node}
use Rattle.grid.specs.declared.finish.Trek.{Trek}
use Rattle.grid.specs.Nodes.{node_at, kept_of}
use Rattle.grid.specs.Edits.{finish_in}
use Rattle.grid.proofs.finish.Trek.place.Goals as goal
use Rattle.grid.proofs.finish.Trek.place.Goals.{then-at-nodes, else-at-nodes}

pub returns : goal.returns
returns c =
    let N = c.args.nodes.now in
    let p = c.args.at in
    let node = c.finish.new.self in
    let memory : c.if-at-nodes.nodes ≡ set N p node =
    elim c.if-at-nodes.branch [
      | then-at-nodes w ↦ w.nodes-is
      | else-at-nodes w ↦ w.nodes-is ∙ sym (set_past N p node w.if-at-nodes.false)
    ] in
    let is : node ≡ finish_in (node_at N p) c.args.beside c.args.above =
    c.finish.ensures ∙ ap (λ (n : Node). finish_in n c.args.beside c.args.above) c.look-node.ensures in
    let kept = c.kept.ensures in
    ap {B = List Node × Trek} (λ (M : List Node). (M, record { at = p; beside = c.args.beside; kept = c.kept.result })) memory
    ∙ (λ i. (set N p (is i), record { at = p; beside = c.args.beside; kept = (kept ∙ ap kept_of is) i }))
