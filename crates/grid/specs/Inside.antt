-- Where a search goes from a node, one of the node's links leads.
use Rattle.std.proofs.Common.{◌≡◌, ℕ, Bool, true, false, ◌&&◌, Some, None, Option}
use Rattle.std.proofs.lemmas.Bool.{and_parts}
use Rattle.grid.specs.declared.node.Node.{Node}
use Rattle.std.specs.Option.{option_or}
use Rattle.grid.specs.Nodes.{child_of, switch_of, next_of, root_of, within, links_within}

pub else_within : (used : ℕ) (x y : Option ℕ) → within used x ≡ true → within used y ≡ true → within used (option_or x y) ≡ true
else_within used None y h k = k
else_within used (Some p) y h k = h

module _ (used : ℕ) (n : Node) where
  behind_zero : links_within used n ≡ true → (within used (child_of n true) && (within used (switch_of n false) && (within used (switch_of n true) && within used (root_of n)))) ≡ true
  behind_zero h = (and_parts (within used (child_of n false)) _ h).1

  behind_one : links_within used n ≡ true → (within used (switch_of n false) && (within used (switch_of n true) && within used (root_of n))) ≡ true
  behind_one h = (and_parts (within used (child_of n true)) _ (behind_zero h)).1

  behind_switch : links_within used n ≡ true → (within used (switch_of n true) && within used (root_of n)) ≡ true
  behind_switch h = (and_parts (within used (switch_of n false)) _ (behind_one h)).1

  pub child_inside : (b : Bool) → links_within used n ≡ true → within used (child_of n b) ≡ true
  child_inside false h = (and_parts (within used (child_of n false)) _ h).0
  child_inside true h = (and_parts (within used (child_of n true)) _ (behind_zero h)).0

  pub switch_inside : (b : Bool) → links_within used n ≡ true → within used (switch_of n b) ≡ true
  switch_inside false h = (and_parts (within used (switch_of n false)) _ (behind_one h)).0
  switch_inside true h = (and_parts (within used (switch_of n true)) _ (behind_switch h)).0

  pub root_inside : links_within used n ≡ true → within used (root_of n) ≡ true
  root_inside h = (and_parts (within used (switch_of n true)) _ (behind_switch h)).1

  pub next_inside : (b : Bool) → links_within used n ≡ true → within used (next_of n b) ≡ true
  next_inside b h = else_within used (child_of n b) (switch_of n b) (child_inside b h) (switch_inside b h)
