-- Laws of prefixes and of equal strings.
use Rattle.std.proofs.Common.{◌≡◌, ℕ, zero, suc, ◌≤◌, Bool, true, false, ◌⊎◌, [], ◌∷◌, ◌++◌, length, take, sym, refl, ◌∙◌, inl, inr, arith}
use mathlib.Core.Bool.{beq}
use Rattle.std.proofs.lemmas.Bool.{both_ways, and_parts, and_from}
use Rattle.kinds.specs.Strings.{Str, starts, equal}

-- ---- bits

pub beq_same : (a b : Bool) → beq a b ≡ true → a ≡ b
beq_same true true h = refl
beq_same true false h = absurd (both_ways false refl h)
beq_same false true h = absurd (both_ways false refl h)
beq_same false false h = refl

pub beq_refl : (a : Bool) → beq a a ≡ true
beq_refl true = refl
beq_refl false = refl

-- where the test fails, the bits differ
pub beq_not : (a b : Bool) → beq a b ≡ false → (a ≡ b → ⊥)
beq_not a b h e = both_ways (beq a b) h (rw e (beq_refl b))

-- ---- a prefix

pub starts_refl : (t : Str) → starts t t ≡ true
starts_refl [] = refl
starts_refl (b ∷ t) = and_from (beq b b) (starts t t) (beq_refl b) (starts_refl t)

pub starts_append : (p t : Str) → starts p (p ++ t) ≡ true
starts_append [] t = refl
starts_append (a ∷ p) t = and_from (beq a a) (starts p (p ++ t)) (beq_refl a) (starts_append p t)

pub starts_chain : (p q t : Str) → starts p q ≡ true → starts q t ≡ true → starts p t ≡ true
starts_chain [] q t h k = refl
starts_chain (a ∷ p) [] t h k = absurd (both_ways false refl h)
starts_chain (a ∷ p) (b ∷ q) [] h k = absurd (both_ways false refl k)
starts_chain (a ∷ p) (b ∷ q) (c ∷ t) h k =
    let h' = and_parts (beq a b) (starts p q) h in
    let k' = and_parts (beq b c) (starts q t) k in
    and_from (beq a c) (starts p t) (rw (beq_same a b h'.0) k'.0) (starts_chain p q t h'.1 k'.1)

-- of two prefixes of one string one is a prefix of the other
pub starts_either : (p q t : Str) → starts p t ≡ true → starts q t ≡ true → (starts p q ≡ true) ⊎ (starts q p ≡ true)
starts_either [] q t h k = inl refl
starts_either (a ∷ p) [] t h k = inr refl
starts_either (a ∷ p) (b ∷ q) [] h k = absurd (both_ways false refl h)
starts_either (a ∷ p) (b ∷ q) (c ∷ t) h k =
    let h' = and_parts (beq a c) (starts p t) h in
    let k' = and_parts (beq b c) (starts q t) k in
    let e : a ≡ b = beq_same a c h'.0 ∙ sym (beq_same b c k'.0) in
    elim (starts_either p q t h'.1 k'.1) [
      | inl l ↦ inl (and_from (beq a b) (starts p q) (rw e (beq_refl b)) l)
      | inr l ↦ inr (and_from (beq b a) (starts q p) (rw e (beq_refl b)) l)
    ]

pub starts_length : (p t : Str) → starts p t ≡ true → length p ≤ length t
starts_length [] t h = omega arith
starts_length (a ∷ p) [] h = absurd (both_ways false refl h)
starts_length (a ∷ p) (b ∷ t) h = let l = starts_length p t (and_parts (beq a b) (starts p t) h).1 in omega arith

-- what is behind a prefix
pub starts_rest : (p t : Str) → starts p t ≡ true → (r : Str) × (t ≡ p ++ r)
starts_rest [] t h = (t, refl)
starts_rest (a ∷ p) [] h = absurd (both_ways false refl h)
starts_rest (a ∷ p) (b ∷ t) h =
    let h' = and_parts (beq a b) (starts p t) h in
    let m = starts_rest p t h'.1 in
    let e = beq_same a b h'.0 in
    (m.0, λ i. sym e i ∷ m.1 i)

-- a prefix that is no shorter is the string itself
pub starts_whole : (p t : Str) → starts p t ≡ true → length t ≤ length p → p ≡ t
starts_whole [] [] h l = refl
starts_whole [] (b ∷ t) h l = absurd (omega arith)
starts_whole (a ∷ p) [] h l = absurd (both_ways false refl h)
starts_whole (a ∷ p) (b ∷ t) h l =
    let h' = and_parts (beq a b) (starts p t) h in
    let e = beq_same a b h'.0 in
    let m = starts_whole p t h'.1 (omega arith) in
    λ i. e i ∷ m i

-- two strings that are prefixes of each other are one
pub starts_both : (p t : Str) → starts p t ≡ true → starts t p ≡ true → p ≡ t
starts_both p t h k = starts_whole p t h (starts_length t p k)

pub starts_more : (p t r : Str) → starts p t ≡ true → starts p (t ++ r) ≡ true
starts_more p t r h = starts_chain p t (t ++ r) h (starts_append t r)

pub starts_front : (p r t : Str) → starts (p ++ r) t ≡ true → starts p t ≡ true
starts_front p r t h = starts_chain p (p ++ r) t (starts_append p r) h

pub starts_take : (n : ℕ) (t : Str) → starts (take n t) t ≡ true
starts_take zero t = refl
starts_take (suc n) [] = refl
starts_take (suc n) (b ∷ t) = and_from (beq b b) (starts (take n t) t) (beq_refl b) (starts_take n t)

-- ---- equal strings

pub equal_same : (p t : Str) → equal p t ≡ true → p ≡ t
equal_same [] [] h = refl
equal_same [] (b ∷ t) h = absurd (both_ways false refl h)
equal_same (a ∷ p) [] h = absurd (both_ways false refl h)
equal_same (a ∷ p) (b ∷ t) h =
    let h' = and_parts (beq a b) (equal p t) h in
    let e = beq_same a b h'.0 in
    let m = equal_same p t h'.1 in
    λ i. e i ∷ m i

pub equal_refl : (t : Str) → equal t t ≡ true
equal_refl [] = refl
equal_refl (b ∷ t) = and_from (beq b b) (equal t t) (beq_refl b) (equal_refl t)

pub same_equal : (p t : Str) → p ≡ t → equal p t ≡ true
same_equal p t e = rw e (equal_refl t)

pub equal_sym : (p t : Str) → equal p t ≡ true → equal t p ≡ true
equal_sym p t h = same_equal t p (sym (equal_same p t h))

pub equal_chain : (p q t : Str) → equal p q ≡ true → equal q t ≡ true → equal p t ≡ true
equal_chain p q t h k = same_equal p t (equal_same p q h ∙ equal_same q t k)

pub equal_starts : (p t : Str) → equal p t ≡ true → starts p t ≡ true
equal_starts p t h = rw (equal_same p t h) (starts_refl t)
