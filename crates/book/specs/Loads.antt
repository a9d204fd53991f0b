-- What loading a table leaves in a book.
use Rattle.std.specs.Prelude.{ℕ, List, is_some, Ok, Err, Option, Result}
use Rattle.kinds.specs.Strings.{bits}
use Rattle.filters.specs.Rules.{Rule}
use Rattle.filters.specs.Meaning.{rules}
use Rattle.tables.specs.declared.fault.LoadFault.{LoadFault}
use Rattle.tables.specs.Format.{Kind, Entry, decode}
use Rattle.tables.specs.Verdict.{table_verdict}

-- how many filters are in the book after a load
abbrev pub count_after : Result ℕ LoadFault → ℕ → ℕ
count_after (Ok n) old = n
count_after (Err e) old = old

-- ---- given what the number of a cost reads as
module _ (D S C : Kind) {X : Type 0} (value : ℕ → Option X) where
  -- the rules that the entries of a table state
  abbrev pub entry_rules : List Entry → List (Rule X)
  entry_rules rs = rules (bits D.size) (bits S.size) value rs

  -- the rules that a table states
  abbrev pub table_rules : List ℕ → List (Rule X)
  table_rules bytes = entry_rules (decode D S C bytes)

  -- the answer of a load into a book of this capacity
  abbrev pub load_verdict : ℕ → List ℕ → Result ℕ LoadFault
  load_verdict capacity bytes = table_verdict D S C (λ n. is_some (value n)) capacity bytes
