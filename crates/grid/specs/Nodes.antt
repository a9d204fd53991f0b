-- Nodes in memory: what a node's readings say, and which memory is sound.
use Rattle.std.specs.Prelude.{ℕ, Bool, true, false, cond, ◌&&◌, List, [], ◌∷◌, Some, None, Option, nat_lt, slice_index_or}
use Rattle.std.specs.Option.{option_or}
use Rattle.grid.specs.declared.node.Kept.{Kept}
use Rattle.grid.specs.declared.node.Links.{Links}
use Rattle.grid.specs.declared.node.Node.{Node}
use Rattle.grid.specs.declared.node.Node.TheVariants.{Empty, Destination, Source}

-- the node at a place; beyond the memory there is none
abbrev pub node_at : List Node → ℕ → Node
node_at N p = slice_index_or N p Empty

-- the links by bit 0 and 1
abbrev pub links_of : (Bool → Option ℕ) → Links
links_of to = record { zero = to false; one = to true }

-- no links
abbrev pub no_links : Links
no_links = links_of (λ b. None)

-- the link by a bit
abbrev pub link_by : Links → Bool → Option ℕ
link_by l b = cond b l.one l.zero

-- the links with another, to p, by a bit
abbrev pub link_with : Links → Bool → ℕ → Links
link_with l b p = record { zero = cond b l.zero (Some p); one = cond b (Some p) l.one }

-- the child of a node by a bit
abbrev pub child_of : Node → Bool → Option ℕ
child_of Empty b = None
child_of (Destination c r) b = link_by c b
child_of (Source c x k) b = link_by c b

-- the switch of a source node by a bit
abbrev pub switch_of : Node → Bool → Option ℕ
switch_of Empty b = None
switch_of (Destination c r) b = None
switch_of (Source c x k) b = link_by x b

-- where a search goes by a bit: to the child, or else along the switch
abbrev pub next_of : Node → Bool → Option ℕ
next_of n b = option_or (child_of n b) (switch_of n b)

-- the root of the source trie that a destination node leads to
abbrev pub root_of : Node → Option ℕ
root_of Empty = None
root_of (Destination c r) = r
root_of (Source c x k) = None

-- what a source node keeps
abbrev pub kept_of : Node → Option Kept
kept_of Empty = None
kept_of (Destination c r) = None
kept_of (Source c x k) = k

-- the one of the lower standing, and the first where neither is lower
abbrev pub pick_kept : Option Kept → Option Kept → Option Kept
pick_kept None y = y
pick_kept (Some g) None = Some g
pick_kept (Some g) (Some f) = cond (nat_lt f.standing g.standing) (Some f) (Some g)

-- the link leads nowhere, or to a place below used
abbrev pub within : ℕ → Option ℕ → Bool
within used None = true
within used (Some p) = nat_lt p used

-- every link of the node is below used
abbrev pub links_within : ℕ → Node → Bool
links_within used n =
    within used (child_of n false)
    && (within used (child_of n true) && (within used (switch_of n false) && (within used (switch_of n true) && within used (root_of n))))

-- every link of every node is below used
abbrev pub sound : ℕ → List Node → Bool
sound used [] = true
sound used (n ∷ N) = links_within used n && sound used N

-- the place holds no node
abbrev pub is_empty : Node → Bool
is_empty Empty = true
is_empty (Destination c r) = false
is_empty (Source c x k) = false

-- no place holds a node
abbrev pub bare : List Node → Bool
bare [] = true
bare (n ∷ N) = is_empty n && bare N
