-- What loading leaves in memory, and what writing leaves in a buffer.
use Rattle.std.specs.Prelude.{◌≡◌, ℕ, ◌≤◌, true, false, cond, ◌||◌, List, ◌++◌, map, length, take, drop, Ok, Err, Result, ◌==◌, nat_lt}
use Rattle.tables.specs.declared.fault.LoadFault.{LoadFault}
use Rattle.tables.specs.declared.fault.WriteFault.{WriteFault}
use Rattle.tables.specs.declared.fault.WriteFault.TheVariants.{Short}
use Rattle.filters.specs.Orders.{Each}
use Rattle.tables.specs.Format.{Kind, Entry, table_size}
use Rattle.tables.specs.Laws.{distinct}
use Rattle.tables.specs.Verdict.{labels}

-- a load that is accepted puts the entries into the first places and leaves those behind; a refused one leaves all
abbrev pub Loaded : {R : Type 0} → (R → Entry) → List Entry → List R → List R → Result ℕ LoadFault → Type 0
Loaded entry rs before after (Ok n) = (n ≤ length before) × (map entry (take n after) ≡ rs) × (drop n after ≡ drop n before)
Loaded entry rs before after (Err e) = after ≡ before

-- the labels of records are not 0, and no label stands twice
abbrev pub Labelled : List Entry → Type 0
Labelled rs = Each (λ r. (r.label == 0) ≡ false) rs × (distinct (labels rs) ≡ true)

-- whether n filters are written into so much room: more than the head can count are never written
abbrev pub write_verdict : Kind → Kind → Kind → ℕ → ℕ → Result ℕ WriteFault
write_verdict D S C n room = cond (nat_lt 4095 n || nat_lt room (table_size D S C n)) (Err Short) (Ok (table_size D S C n))

-- a table that is written stands at the start, and later bytes stay; else all stays
abbrev pub written : Result ℕ WriteFault → List ℕ → List ℕ → List ℕ
written (Ok n) table before = table ++ drop n before
written (Err e) table before = before
