-- The header of an IPv4 datagram as RFC 791 lays it out, over a list of bytes.
use Rattle.std.specs.Prelude.{ℕ, zero, suc, ◌+◌, ◌-◌, ◌*◌, ◌%◌, ◌^◌, cond, List, [], ◌∷◌, length, ◌==◌, slice_index, slice_range}

-- the bytes from place m up to place n
abbrev pub part : ℕ → ℕ → List ℕ → List ℕ
part m n b = slice_range b m n

-- the number that bytes stand for, the most significant first
abbrev pub number : List ℕ → ℕ
number [] = 0
number (x ∷ xs) = x * 256 ^ length xs + number xs

-- the byte at place n
abbrev pub octet : List ℕ → ℕ → ℕ
octet b n = slice_index b n

-- the 16-bit number at places n and n + 1
abbrev pub word : List ℕ → ℕ → ℕ
word b n = octet b n * 256 + octet b (n + 1)

-- the sum of the first k 16-bit numbers
unfoldable pub word_sum : List ℕ → ℕ → ℕ
word_sum b zero = 0
word_sum b (suc k) = word_sum b k + word b (2 * k)

-- what numbers of 16 bits with total n come to when each carry is added back:
-- 0 where n is 0, else the number from 1 to 65535 that leaves the same remainder by 65535 as n
abbrev pub ones_complement : ℕ → ℕ
ones_complement n = cond (n == 0) 0 ((n - 1) % 65535 + 1)
