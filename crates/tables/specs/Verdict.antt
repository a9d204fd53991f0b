-- Which tables are accepted, and which refusal another one meets at which record.
use Rattle.std.specs.Prelude.{◌≡◌, ℕ, suc, Bool, cond, ◌&&◌, List, [], ◌∷◌, ◌++◌, map, length, is_some, Ok, Err, Option, Result, ◌==◌, nat_lt}
use Rattle.std.specs.List.{list_any}
use Rattle.kinds.specs.Strings.{bits}
use Rattle.kinds.specs.declared.written.PatternFault.TheVariants.{Unlawful}
use Rattle.filters.specs.declared.fault.FilterFault.{FilterFault}
use Rattle.filters.specs.declared.fault.FilterFault.TheVariants.{ZeroLabel}
use Rattle.filters.specs.Meaning.{Record}
use Rattle.filters.specs.Refusals.{body_verdict, then_used}
use Rattle.tables.specs.declared.fault.RecordFault.{RecordFault}
use Rattle.tables.specs.declared.fault.RecordFault.TheVariants.{Filter, Pattern}
use Rattle.tables.specs.declared.fault.HeadFault.{HeadFault}
use Rattle.tables.specs.declared.fault.HeadFault.TheVariants.{Short, Kind as OtherKind, Length, Full}
use Rattle.tables.specs.declared.fault.InRecord.{InRecord}
use Rattle.tables.specs.declared.fault.LoadFault.{LoadFault}
use Rattle.tables.specs.declared.fault.LoadFault.TheVariants.{Head, Record as OfRecord}
use Rattle.tables.specs.Bytes.{nth}
use Rattle.tables.specs.Format.{Kind, Entry, head_fields, filter_count, table_size, decode}

-- `lawful` tells the numbers of lawful patterns from those of the others
abbrev pub Tells : {P X : Type 0} → (P → ℕ) → (P → Option X) → (ℕ → Bool) → Type 0
Tells {P} number reads lawful = (p : P) → is_some (reads p) ≡ lawful (number p)

-- a filter's refusal as one of its record
abbrev pub layered : Result (Unit {0}) FilterFault → Result (Unit {0}) RecordFault
layered (Ok x) = Ok tt
layered (Err e) = Err (Filter e)

-- one of the numbers is n
abbrev pub has : ℕ → List ℕ → Bool
has n ms = list_any (λ m. m == n) ms

-- what follows a record: its refusal, with the record counted from 1, or what the rest answers
abbrev pub onward : ℕ → Result (Unit {0}) RecordFault → Result ℕ LoadFault → Result ℕ LoadFault
onward i (Err e) rest = Err (OfRecord (record { «record» = i; fault = e }))
onward i (Ok x) rest = rest

-- what follows the head: its refusal, or what the records answer
abbrev pub behind_head : Result ℕ HeadFault → Result ℕ LoadFault → Result ℕ LoadFault
behind_head (Err e) rest = Err (Head e)
behind_head (Ok n) rest = rest

-- what follows n records that are checked one by one: their first refusal, or how many they are
abbrev pub behind_records : ℕ → Result (Unit {0}) InRecord → Result ℕ LoadFault
behind_records n (Err e) = Err (OfRecord e)
behind_records n (Ok x) = Ok n

-- a record's answer, with the record counted from 1
abbrev pub counted : ℕ → Result (Unit {0}) RecordFault → Result (Unit {0}) InRecord
counted i (Err e) = Err (record { «record» = i; fault = e })
counted i (Ok x) = Ok tt

-- the labels of records, in their order
abbrev pub labels : {D S P : Type 0} → List (Record D S P) → List ℕ
labels rs = map (λ r. r.label) rs

-- ---- the head
module _ (D S C : Kind) where
  -- edition 1 and these kinds
  abbrev pub same_kinds : List ℕ → Bool
  same_kinds fs = (nth fs 0) == 1 && ((nth fs 1) == D.code && ((nth fs 2) == S.code && (nth fs 3) == C.code))

  -- the first refusal of a table by its head and its length, where `capacity` filters have room, or how many filters it has
  abbrev pub head_verdict : ℕ → List ℕ → Result ℕ HeadFault
  head_verdict capacity bytes =
      cond (nat_lt (length bytes) 4) (Err Short)
      (cond (same_kinds (head_fields bytes))
      (cond (length bytes == table_size D S C (filter_count bytes))
      (cond (nat_lt capacity (filter_count bytes)) (Err Full) (Ok (filter_count bytes)))
      (Err Length))
      (Err OtherKind))

-- ---- the records
module _ (D S C : Kind) (lawful : ℕ → Bool) where
  -- the first refusal of a record: label 0; cost unlawful; the prefixes; the directive; the label in use
  abbrev pub entry_verdict : Bool → Entry → Result (Unit {0}) RecordFault
  entry_verdict used r =
      cond (r.label == 0) (Err (Filter ZeroLabel))
      (cond (lawful r.cost)
      (layered (then_used used (body_verdict (bits D.size) (bits S.size) D.size S.size r.destination r.source r.directive)))
      (Err (Pattern Unlawful)))

  -- the first refusal of records behind those with the labels `seen`, or how many there are in all
  abbrev pub entries_verdict : List ℕ → List Entry → Result ℕ LoadFault
  entries_verdict seen [] = Ok (length seen)
  entries_verdict seen (r ∷ rs) = onward (suc (length seen)) (entry_verdict (has r.label seen) r) (entries_verdict (seen ++ r.label ∷ []) rs)

  -- the first refusal of a table, or how many filters it has: the head first, then record by record
  abbrev pub table_verdict : ℕ → List ℕ → Result ℕ LoadFault
  table_verdict capacity bytes = behind_head (head_verdict D S C capacity bytes) (entries_verdict [] (decode D S C bytes))
