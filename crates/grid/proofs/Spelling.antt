-- The strings of prefixes, and loops over their bits.
use Rattle.std.proofs.Common.{◌≡◌, ℕ, ◌<◌, ◌≤◌, Bool, length, min, Some, None, Option, map-id, sym, ap, ◌∙◌, arith}
use Rattle.std.specs.Iterator.{Yields, YieldsFirst}
use Rattle.std.proofs.lemmas.List.{length-take}
use Rattle.std.proofs.lemmas.Iterator.Consumers.{YieldsList-from_first, YieldsList-end, YieldsList-turn}
use Rattle.kinds.specs.Strings.{Str, bits}
use Rattle.kinds.specs.Bits.{length_bits}
use Rattle.filters.specs.declared.filter.Prefix.{Prefix}
use Rattle.filters.specs.Meaning.{prefix_of}

-- what patterns spell is as long as their kind is wide
pub spells_wide : {A : Type 0} (spells : A → Str) (number : A → ℕ) (w : ℕ) → ((p : A) → spells p ≡ bits w (number p)) → (p : A) → length (spells p) ≡ w
spells_wide spells number w first p = ap (λ (t : Str). length t) (first p) ∙ length_bits w (number p)

-- no prefix has more bits than its kind
pub prefix_short : {A : Type 0} (string : A → Str) (w : ℕ) → ((x : A) → length (string x) ≡ w) → (p : Prefix A) → length (prefix_of string p) ≤ w
prefix_short string w long p = let l = length-take p.length (string p.address) in let k = long p.address in omega arith

-- and it has as many as its length says, where the kind has so many
pub prefix_long : {A : Type 0} (string : A → Str) (w : ℕ) → ((x : A) → length (string x) ≡ w) → (p : Prefix A) → length (prefix_of string p) ≡ min p.length w
prefix_long string w long p = let l = length-take p.length (string p.address) in let k = long p.address in omega arith

-- ---- a loop over the bits s, which has given xs and has t left
module _ (s xs t u : Str) (r : Option Bool) (y : Yields (YieldsFirst (λ z. z)) s xs t) (step : YieldsFirst (λ z. z) t r u) where
  -- where it goes on, not all bits have been given
  pub bits_turn : (p : Str) (b : Bool) → s ≡ p → r ≡ Some b → length xs < length p
  bits_turn p b e is = (YieldsList-turn (YieldsList-from_first (λ x. x) (λ z. z) p e) xs t y r u b is step).0

  -- where it ends, all have
  pub bits_end : (p : Str) → s ≡ p → r ≡ None → xs ≡ p
  bits_end p e is = sym (map-id xs) ∙ (YieldsList-end (YieldsList-from_first (λ x. x) (λ z. z) p e) xs t y r u is step).0
