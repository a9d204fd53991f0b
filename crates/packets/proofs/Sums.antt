-- Sums of 16-bit numbers, and what they come to when carries are added back.
use Rattle.std.proofs.Common.{◌≡◌, ℕ, zero, suc, ◌+◌, ◌-◌, ◌*◌, ◌/◌, ◌%◌, cond, ◌<◌, ◌≤◌, eqb, List, [], ◌∷◌, length, get_or, take, drop, set, sym, refl, ap, ◌∙◌, inl, inr, add-one, add-zero, drop-drop, arith, length-drop, length-take-le, get_or-drop, get_or-set_other, get_or-take, get_or-set_same}
use Rattle.std.proofs.lemmas.Bool.Decides.{nat_tests, leb_tells}
use Rattle.std.specs.Simd.{first_chunks}
use Rattle.packets.specs.Header.{part, number, octet, word, word_sum, ones_complement}
use Rattle.packets.specs.Datagram.{all_ones}

-- one number more
pub sum_more : (b : List ℕ) (k : ℕ) → word_sum b (k + 1) ≡ word_sum b k + word b (2 * k)
unfolding word_sum
sum_more b k = rw (add-one k) refl

-- piece i of a list that is cut into pieces
chunk_at : (n k i : ℕ) (b : List ℕ) → i < k → get_or (first_chunks n k b) i [] ≡ take n (drop (n * i) b)
chunk_at n zero i b h = absurd (let no : ⊥ = omega arith in no)
chunk_at n (suc k) zero b h = let none : 0 ≡ n * 0 = omega arith in ap (λ (m : ℕ). take n (drop m b)) none
chunk_at n (suc k) (suc i) b h = chunk_at n k i (drop n b) (omega arith) ∙ ap (take n) (drop-drop (n * i) n b ∙ ap (λ (m : ℕ). drop m b) (omega arith))

-- pair i of a list that is cut into pairs is the number at its place
pub pair_at : (b : List ℕ) (k i : ℕ) → i < k → word (get_or (first_chunks 2 k b) i []) 0 ≡ word b (2 * i)
pair_at b k i h =
    let pair : get_or (first_chunks 2 k b) i [] ≡ take 2 (drop (2 * i) b) = chunk_at 2 k i b h in
    let high : octet (take 2 (drop (2 * i) b)) 0 ≡ octet b (2 * i) = get_or-take 2 (drop (2 * i) b) 0 0 (omega arith) ∙ get_or-drop (2 * i) b 0 0 ∙ ap (octet b) (add-zero (2 * i)) in
    let low : octet (take 2 (drop (2 * i) b)) 1 ≡ octet b (2 * i + 1) = get_or-take 2 (drop (2 * i) b) 1 0 (omega arith) ∙ get_or-drop (2 * i) b 1 0 in
    rw pair (omega (arith, high, low))

-- adding to a total whose carries are added back already
pub carry_more : (n w : ℕ) → ones_complement (ones_complement n + w) ≡ ones_complement (n + w)
carry_more n w = grind (arith, nat_tests)

-- all ones is what a positive multiple of 65535 comes to
pub all_ones_lem : (n : ℕ) → eqb (ones_complement n) 65535 ≡ all_ones n
all_ones_lem n = grind (arith, nat_tests)

-- the sum over a front that is long enough is the sum
pub sum_take : (n : ℕ) (b : List ℕ) (k : ℕ) → 2 * k ≤ n → word_sum (take n b) k ≡ word_sum b k
unfolding word_sum
sum_take n b zero h = refl
sum_take n b (suc k) h =
    let high : octet (take n b) (2 * k) ≡ octet b (2 * k) = get_or-take n b (2 * k) 0 (omega arith) in
    let low : octet (take n b) (2 * k + 1) ≡ octet b (2 * k + 1) = get_or-take n b (2 * k + 1) 0 (omega arith) in
    omega (arith, sum_take n b k (omega arith))

-- the number of four bytes
pub four : (xs : List ℕ) → 4 ≤ length xs → number (take 4 xs) ≡ get_or xs 0 0 * 16777216 + get_or xs 1 0 * 65536 + get_or xs 2 0 * 256 + get_or xs 3 0
four [] h = omega arith
four (x ∷ []) h = omega arith
four (x ∷ y ∷ []) h = omega arith
four (x ∷ y ∷ z ∷ []) h = omega arith
four (x ∷ y ∷ z ∷ u ∷ xs) h = omega arith

-- the sum of a front of bytes that is as long as the header
pub sum_front : (b : List ℕ) (n k : ℕ) → n ≤ length b → n ≡ k * 4 → word_sum (take n b) (length (take n b) / 2) ≡ word_sum b (k * 2)
sum_front b n k h e =
    let half : length (take n b) / 2 ≡ k * 2 = omega (arith, length-take-le n b h) in
    ap (word_sum (take n b)) half ∙ sum_take n b (k * 2) (omega arith)

-- the number of the four bytes from place n on
pub number_four : (b : List ℕ) (n : ℕ) → n + 4 ≤ length b → number (part n (n + 4) b) ≡ octet b n * 16777216 + octet b (n + 1) * 65536 + octet b (n + 2) * 256 + octet b (n + 3)
number_four b n h =
    let size : n + 4 - n ≡ 4 = omega arith in
    let first = get_or-drop n b 0 0 in
    let second = get_or-drop n b 1 0 in
    let third = get_or-drop n b 2 0 in
    let fourth = get_or-drop n b 3 0 in
    let same : get_or b (n + 0) 0 ≡ octet b n = ap (octet b) (add-zero n) in
    let long : 4 ≤ length (drop n b) = omega (arith, length-drop n b) in
    rw size (omega (arith, four (drop n b) long))

-- a byte behind the numbers that are added changes nothing
pub sum_beyond : (b : List ℕ) (i v k : ℕ) → 2 * k ≤ i → word_sum (set b i v) k ≡ word_sum b k
unfolding word_sum
sum_beyond b i v zero h = refl
sum_beyond b i v (suc k) h =
    let high : octet (set b i v) (2 * k) ≡ octet b (2 * k) = get_or-set_other b i (2 * k) v 0 (omega arith) in
    let low : octet (set b i v) (2 * k + 1) ≡ octet b (2 * k + 1) = get_or-set_other b i (2 * k + 1) v 0 (omega arith) in
    omega (arith, sum_beyond b i v k (omega arith))

-- what a byte at place i adds, in units of its value: it is the upper one of its number, or the lower
unfoldable pub weight : ℕ → ℕ
weight i = cond (eqb (i % 2) 0) 256 1

pub weight_upper : (i : ℕ) → i % 2 ≡ 0 → weight i ≡ 256
unfolding weight
weight_upper i h = rw h refl

pub weight_lower : (i : ℕ) → i % 2 ≡ 1 → weight i ≡ 1
unfolding weight
weight_lower i h = rw h refl

-- another byte of a number that is added
pub sum_set : (b : List ℕ) (i v k : ℕ) → i < length b → i < 2 * k → word_sum (set b i v) k + octet b i * weight i ≡ word_sum b k + v * weight i
unfolding word_sum
sum_set b i v zero h l = absurd (let no : ⊥ = omega arith in no)
sum_set b i v (suc k) h l =
    elim (leb_tells (i + 1) (2 * k)) [
      | inl m ↦
          let high : octet (set b i v) (2 * k) ≡ octet b (2 * k) = get_or-set_other b i (2 * k) v 0 (omega arith) in
          let low : octet (set b i v) (2 * k + 1) ≡ octet b (2 * k + 1) = get_or-set_other b i (2 * k + 1) v 0 (omega arith) in
          omega (arith, sum_set b i v k h (omega arith))
      | inr m ↦
          let before = sum_beyond b i v k (omega arith) in
          let new : octet (set b i v) i ≡ v = get_or-set_same b i v 0 h in
          elim (leb_tells i (2 * k)) [
            | inl upper ↦
                let at : i ≡ 2 * k = omega arith in
                let low : octet (set b i v) (2 * k + 1) ≡ octet b (2 * k + 1) = get_or-set_other b i (2 * k + 1) v 0 (omega arith) in
                let there : octet (set b i v) (2 * k) ≡ v = ap (octet (set b i v)) (sym at) ∙ new in
                let old : octet b i ≡ octet b (2 * k) = ap (octet b) at in
                rw (weight_upper i (omega arith)) (omega (arith, before))
            | inr lower ↦
                let at : i ≡ 2 * k + 1 = omega arith in
                let high : octet (set b i v) (2 * k) ≡ octet b (2 * k) = get_or-set_other b i (2 * k) v 0 (omega arith) in
                let there : octet (set b i v) (2 * k + 1) ≡ v = ap (octet (set b i v)) (sym at) ∙ new in
                let old : octet b i ≡ octet b (2 * k + 1) = ap (octet b) at in
                rw (weight_lower i (omega arith)) (omega (arith, before))
          ]
    ]

-- the same for an upper byte
pub sum_high : (b : List ℕ) (j v k : ℕ) → 2 * j < length b → j < k → word_sum (set b (2 * j) v) k + octet b (2 * j) * 256 ≡ word_sum b k + v * 256
sum_high b j v k h l =
    let upper : weight (2 * j) ≡ 256 = weight_upper (2 * j) (omega arith) in
    rw upper at (sum_set b (2 * j) v k h (omega arith))

-- and for a lower one
pub sum_low : (b : List ℕ) (j v k : ℕ) → 2 * j + 1 < length b → j < k → word_sum (set b (2 * j + 1) v) k + octet b (2 * j + 1) ≡ word_sum b k + v
sum_low b j v k h l =
    let lower : weight (2 * j + 1) ≡ 1 = weight_lower (2 * j + 1) (omega arith) in
    omega (arith, rw lower at (sum_set b (2 * j + 1) v k h (omega arith)))
