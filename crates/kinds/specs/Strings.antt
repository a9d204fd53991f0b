-- Strings of bits, and when one is a prefix of another.
use Rattle.std.specs.Prelude.{ℕ, zero, suc, ◌/◌, ◌%◌, ◌^◌, Bool, true, false, ◌&&◌, List, [], ◌∷◌, ◌++◌, ◌==◌}
use Rattle.std.specs.Bool.{beq}

-- a list of bits, possibly empty
abbrev pub Str : Type 0
Str = List Bool

-- p is a prefix of t; a string is a prefix of itself
abbrev pub starts : Str → Str → Bool
starts [] t = true
starts (a ∷ p) [] = false
starts (a ∷ p) (b ∷ t) = beq a b && starts p t

-- the two strings are the same
abbrev pub equal : Str → Str → Bool
equal [] [] = true
equal [] (b ∷ t) = false
equal (a ∷ p) [] = false
equal (a ∷ p) (b ∷ t) = beq a b && equal p t

-- s followed by b
abbrev pub snoc : Str → Bool → Str
snoc s b = s ++ b ∷ []

-- whether 2 ^ k is among the powers of two that add up to n
abbrev pub weighs : ℕ → ℕ → Bool
weighs n k = n / 2 ^ k % 2 == 1

-- the string of the lowest w bits of n, the most significant first
unfoldable pub bits : ℕ → ℕ → Str
bits zero n = []
bits (suc w) n = weighs n w ∷ bits w n
