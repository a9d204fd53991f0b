-- Numbers as byte strings, and fields of bits within a number.
use Rattle.std.specs.Prelude.{ℕ, zero, suc, ◌+◌, ◌*◌, ◌/◌, ◌%◌, ◌^◌, List, [], ◌∷◌, ◌++◌, take, drop, slice_index}
use Rattle.std.specs.Int.Digits.{number_from_digits}

-- the number that bytes spell, the most significant first
unfoldable pub word : List ℕ → ℕ
word bytes = number_from_digits 256 bytes

-- the lowest k bytes of a number, the most significant first
unfoldable pub spelt : ℕ → ℕ → List ℕ
spelt zero n = []
spelt (suc k) n = n / 256 ^ k % 256 ∷ spelt k n

-- the sum of sizes or widths
abbrev pub total : List ℕ → ℕ
total [] = 0
total (k ∷ ks) = k + total ks

-- ---- whole bytes: a byte string cut into parts
-- the numbers that the parts of these sizes spell, one behind the other
abbrev pub numbers : List ℕ → List ℕ → List ℕ
numbers [] bytes = []
numbers (k ∷ ks) bytes = word (take k bytes) ∷ numbers ks (drop k bytes)

-- the byte string whose parts of these sizes spell the numbers
abbrev pub spell : List ℕ → List ℕ → List ℕ
spell [] ns = []
spell (k ∷ ks) [] = []
spell (k ∷ ks) (n ∷ ns) = spelt k n ++ spell ks ns

-- ---- bits: a number cut into fields
-- the fields of these widths, the most significant first
abbrev pub fields : List ℕ → ℕ → List ℕ
fields [] n = []
fields (w ∷ ws) n = n / 2 ^ total ws % 2 ^ w ∷ fields ws n

-- the number that has these fields, packed without gaps; a field holds the lowest bits of its value
abbrev pub pack : List ℕ → List ℕ → ℕ
pack [] vs = 0
pack (w ∷ ws) [] = 0
pack (w ∷ ws) (v ∷ vs) = v % 2 ^ w * 2 ^ total ws + pack ws vs

-- the field at a place, counted from 0
abbrev pub nth : List ℕ → ℕ → ℕ
nth fs i = slice_index fs i
