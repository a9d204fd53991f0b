-- The byte format of a table: a head, then records, fields packed without gaps, the most significant bit first.
-- Reading and writing are two definitions apart; that they are inverse is proved of them.
use Rattle.std.specs.Prelude.{ℕ, zero, suc, ◌+◌, ◌*◌, ◌/◌, List, [], ◌∷◌, ◌++◌, length, take, drop}
use Rattle.kinds.specs.declared.written.Written as Written
use Rattle.filters.specs.Meaning.{Record}
use Rattle.filters.specs.Meaning.{respelt}
use Rattle.tables.specs.Bytes.{word, spelt, total, numbers, spell, fields, pack, nth}
use Rattle.tables.specs.Directives.{directive_number, directive_of}

-- what a table says of a kind: its code, and how many bits a pattern has
pub record Kind : Type 0 where
  pub code : ℕ
  pub size : ℕ

abbrev pub kind : ℕ → ℕ → Kind
kind code size = record { code = code; size = size }

-- what a table says of a written kind
abbrev pub kind_of : {X P : Type 0} → Written.Ghosts X P → Kind
kind_of w = kind w.CODE w.SIZE

-- a filter as a table has it: addresses and cost are the numbers of their patterns
abbrev pub Entry : Type 0
Entry = Record ℕ ℕ ℕ

-- the entry of a place, given the numbers of its patterns
abbrev pub entry_of : {D S C : Type 0} → (D → ℕ) → (S → ℕ) → (C → ℕ) → Record D S C → Entry
entry_of dst src cost r =
    record {
      label = r.label;
      destination = respelt dst r.destination;
      source = respelt src r.source;
      cost = cost r.cost;
      directive = r.directive;
    }

-- ---- the head
-- the widths of edition, destination kind, source kind, cost kind and filter count
abbrev pub head_widths : List ℕ
head_widths = 8 ∷ 4 ∷ 4 ∷ 4 ∷ 12 ∷ []

-- the fields of the head of a table
abbrev pub head_fields : List ℕ → List ℕ
head_fields bytes = fields head_widths (word (take 4 bytes))

-- how many filters the head announces
abbrev pub filter_count : List ℕ → ℕ
filter_count bytes = nth (head_fields bytes) 4

module _ (D S C : Kind) where
  -- the fields of the head of a table of n filters: edition 1, the kinds, n
  abbrev pub head_of : ℕ → List ℕ
  head_of n = 1 ∷ D.code ∷ S.code ∷ C.code ∷ n ∷ []

  abbrev pub encode_head : ℕ → List ℕ
  encode_head n = spelt 4 (pack head_widths (head_of n))

  -- ---- a record
  -- the sizes in bytes of label, destination length, destination address, source length, source address, cost and directive
  abbrev pub record_parts : List ℕ
  record_parts = 2 ∷ 1 ∷ D.size / 8 ∷ 1 ∷ S.size / 8 ∷ C.size / 8 ∷ 4 ∷ []

  -- how many bytes a record has
  abbrev pub record_size : ℕ
  record_size = total record_parts

  -- the numbers of those parts
  abbrev pub entry_numbers : Entry → List ℕ
  entry_numbers r = r.label ∷ r.destination.length ∷ r.destination.address ∷ r.source.length ∷ r.source.address ∷ r.cost ∷ directive_number r.directive ∷ []

  -- the entry of such numbers
  abbrev pub entry_by : List ℕ → Entry
  entry_by ns =
      record {
        label = nth ns 0;
        destination = record { address = nth ns 2; length = nth ns 1 };
        source = record { address = nth ns 4; length = nth ns 3 };
        cost = nth ns 5;
        directive = directive_of (nth ns 6);
      }

  abbrev pub encode_record : Entry → List ℕ
  encode_record r = spell record_parts (entry_numbers r)

  -- the entry of the record that a byte string begins with
  unfoldable pub decode_record : List ℕ → Entry
  decode_record bytes = entry_by (numbers record_parts bytes)

  -- ---- a table
  -- how many bytes a table of n filters has
  abbrev pub table_size : ℕ → ℕ
  table_size n = 4 + n * record_size

  -- records, one behind the other
  abbrev pub encode_records : List Entry → List ℕ
  encode_records [] = []
  encode_records (r ∷ rs) = encode_record r ++ encode_records rs

  -- the entries of the first n records
  abbrev pub decode_records : ℕ → List ℕ → List Entry
  decode_records zero bytes = []
  decode_records (suc n) bytes = decode_record bytes ∷ decode_records n (drop record_size bytes)

  -- the entries of whole records, one behind the other
  abbrev pub entries : List ℕ → List Entry
  entries bytes = decode_records (length bytes / record_size) bytes

  -- the table of a list of entries
  abbrev pub encode : List Entry → List ℕ
  encode rs = encode_head (length rs) ++ encode_records rs

  -- the entries of a table
  abbrev pub decode : List ℕ → List Entry
  decode bytes = decode_records (filter_count bytes) (drop 4 bytes)
