-- Nodes in the making: new nodes, links to them, what they keep, and their switches.
use Rattle.std.specs.Prelude.{ℕ, Some, None, Option}
use Rattle.grid.specs.declared.node.Kept.{Kept}
use Rattle.grid.specs.declared.node.Node.{Node}
use Rattle.grid.specs.declared.node.Node.TheVariants.{Empty, Destination, Source}
use Rattle.grid.specs.declared.edit.Way.{Way}
use Rattle.grid.specs.declared.edit.Way.TheVariants.{Down, Root}
use Rattle.grid.specs.Nodes.{links_of, no_links, link_by, link_with, child_of, next_of, root_of, kept_of, pick_kept}

-- where a node leads by a way
abbrev pub lead_of : Node → Way → Option ℕ
lead_of n (Down b) = child_of n b
lead_of n Root = root_of n

-- the node with a link to p by a way
abbrev pub leading : Node → Way → ℕ → Node
leading Empty w p = Empty
leading (Destination c r) (Down b) p = Destination (link_with c b p) r
leading (Destination c r) Root p = Destination c (Some p)
leading (Source c x k) (Down b) p = Source (link_with c b p) x k
leading (Source c x k) Root p = Source c x k

-- the node that a way leads to when it is new
abbrev pub bud_of : Node → Way → Node
bud_of Empty w = Empty
bud_of (Destination c r) (Down b) = Destination no_links None
bud_of (Destination c r) Root = Source no_links no_links None
bud_of (Source c x k) w = Source no_links no_links None

-- a source node that keeps the better of what it keeps and c
abbrev pub keep_in : Node → Kept → Node
keep_in Empty c = Empty
keep_in (Destination l r) c = Destination l r
keep_in (Source l x k) c = Source l x (pick_kept k (Some c))

-- a switch, which there is only where there is no child
abbrev pub switched : Option ℕ → Option ℕ → Option ℕ
switched None to = to
switched (Some p) to = None

-- the finished source node, from the node beside it and what its parent keeps
abbrev pub finish_in : Node → Node → Option Kept → Node
finish_in Empty beside above = Empty
finish_in (Destination c r) beside above = Destination c r
finish_in (Source c x k) beside above =
    Source c (links_of (λ b. switched (link_by c b) (next_of beside b))) (pick_kept (pick_kept k above) (kept_of beside))
