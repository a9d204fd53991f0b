-- Laws of the format: reading and writing are inverse.
use Rattle.std.specs.Prelude.{◌≡◌, ℕ, ◌<◌, ◌≤◌, Bool, true, false, not, ◌&&◌, List, [], ◌∷◌, map, length, Ok}
use Rattle.std.specs.Int.Digits.{AllBelowBase}
use Rattle.kinds.specs.Strings.{Str}
use Rattle.filters.specs.declared.filter.Filter.{Filter}
use Rattle.filters.specs.Meaning.{record_of}
use Rattle.filters.specs.Orders.{Each}
use Rattle.filters.specs.Refusals.{filter_verdict}
use Rattle.tables.specs.Format.{Kind, Entry, entry_of, encode, decode}
use Rattle.tables.specs.Verdict.{has, table_verdict}

-- no number stands twice
abbrev pub distinct : List ℕ → Bool
distinct [] = true
distinct (n ∷ ns) = not (has n ns) && distinct ns

-- the entry of a filter, given the patterns of its addresses and cost, and the numbers of those
abbrev pub filed : {D S C D' S' C' : Type 0} → (D → D') → (S → S') → (C → C') → (D' → ℕ) → (S' → ℕ) → (C' → ℕ) → Filter D S C → Entry
filed pd ps pc nd ns nc f = entry_of nd ns nc (record_of pd ps pc f)

-- filters that a book of this capacity can hold, given the strings and widths of its address kinds: each is lawful, no label
-- stands twice, and there is room for them
pub record Holds {D S C : Type 0} (dst : D → Str) (src : S → Str) (wd ws capacity : ℕ) (fs : List (Filter D S C)) : Type 0 where
  pub small : Each (λ f. f.label < 65536) fs
  pub lawful : Each (λ f. filter_verdict dst src wd ws false f ≡ Ok tt) fs
  pub apart : distinct (map (λ (f : Filter D S C). f.label) fs) ≡ true
  pub room : length fs ≤ capacity
  pub counted : length fs ≤ 4095

-- a table written and read back is the same list of filters
abbrev pub ReadsBack : {D S C : Type 0} → Kind → Kind → Kind → (ℕ → Bool) → (D → Str) → (S → Str) → ℕ → ℕ → (Filter D S C → Entry) → Type 0
ReadsBack {D} {S} {C} KD KS KC lawful dst src wd ws entry =
    (capacity : ℕ) (fs : List (Filter D S C)) → Holds dst src wd ws capacity fs →
    (table_verdict KD KS KC lawful capacity (encode KD KS KC (map entry fs)) ≡ Ok (length fs))
    × (decode KD KS KC (encode KD KS KC (map entry fs)) ≡ map entry fs)

-- an accepted table written again has the same bytes
abbrev pub WritesBack : Kind → Kind → Kind → (ℕ → Bool) → Type 0
WritesBack D S C lawful =
    (capacity n : ℕ) (bytes : List ℕ) → AllBelowBase 256 bytes → table_verdict D S C lawful capacity bytes ≡ Ok n →
    encode D S C (decode D S C bytes) ≡ bytes
