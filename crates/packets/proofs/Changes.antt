-- What RFC 791 promises of headers: the proofs.
use Rattle.std.proofs.Common.{◌≡◌, ℕ, ◌+◌, ◌-◌, ◌*◌, ◌/◌, ◌%◌, ◌^◌, ◌<◌, ◌≤◌, Bool, true, false, cond, not, ◌||◌, eqb, ltb, ◌⊎◌, List, [], ◌∷◌, length, take, drop, set, Ok, Err, Result, sym, refl, ap, ◌∙◌, inl, inr, arith, length-drop, length-set, get_or-drop, get_or-set_other, get_or-set_same, pow_pos, pow_mono, pow-add, ltb-false, eq-eqb, eqb-true}
use native.Mathlib.Nat.{div-eq_of_lt}
use borrow.Author.Tests.{not-false}
use Rattle.std.proofs.lemmas.Bool.Decides.{nat_tests, leb_tells, eqb_tells}
use Rattle.packets.specs.declared.fault.PacketFault.{PacketFault}
use Rattle.packets.specs.declared.fault.PacketFault.TheVariants.{Short, Version, HeaderLength, TotalLength, Checksum}
use Rattle.packets.specs.Header.{part, number, octet, word_sum, ones_complement}
use Rattle.packets.specs.Datagram.{Datagram, version, header_words, header_length, total_length, header_sum, all_ones, datagram, fields}
use Rattle.packets.specs.Facts.{Bytes, octets, AddressFields, rest_sum, ComplementAccepted, changed, Refused, ChangedBitRefused}
use Rattle.packets.proofs.Sums.{sum_set, weight_upper, weight_lower}
use Rattle.packets.proofs.Order.{Sized, at_end}

-- a check that an accepted value passed
passed : (t : Bool) (e : PacketFault) (r : Result Datagram PacketFault) (d : Datagram) → cond t (Err e) r ≡ Ok d → (t ≡ false) × (r ≡ Ok d)
passed true e r d h = let z : ◌≡◌ {A = ℕ} 0 1 = cc in let no : ⊥ = omega arith in absurd no
passed false e r d h = (refl, h)

-- all that an accepted packet passed
pub record Accepted (b : List ℕ) (d : Datagram) : Type 0 where
  pub sized : Sized b
  pub ones : all_ones (header_sum b) ≡ true
  pub fields_are : fields b ≡ d

pub accepted : (b : List ℕ) (d : Datagram) → datagram b ≡ Ok d → Accepted b d
accepted b d h =
    let one = passed (ltb (length b) 20) Short _ d h in
    let two = passed (not (eqb (version b) 4)) Version _ d one.1 in
    let three = passed (ltb (header_words b) 5) HeaderLength _ d two.1 in
    let four = passed (ltb (total_length b) (header_length b) || ltb (length b) (total_length b)) TotalLength _ d three.1 in
    let five = passed (not (all_ones (header_sum b))) Checksum _ d four.1 in
    let bounds : (header_length b ≤ total_length b) × (total_length b ≤ length b) = grind (arith, nat_tests, four.0) in
    record {
      sized = record {
        long = ltb-false (length b) 20 one.0;
        four = eqb-true (version b) 4 (not-false _ two.0);
        words = ltb-false (header_words b) 5 three.0;
        above = bounds.0;
        within = bounds.1;
      };
      ones = not-false _ five.0;
      fields_are = let same = five.1 in cc;
    }

-- a refusal further on, or one here
stops : (t : Bool) (e : PacketFault) (r : Result Datagram PacketFault) → Refused r → Refused (cond t (Err e) r)
stops true e r h = (e, refl)
stops false e r h = h

-- a header that does not add up to all ones is refused
pub refused : (b : List ℕ) → all_ones (header_sum b) ≡ false → Refused (datagram b)
refused b h =
    let last : Refused (cond (not (all_ones (header_sum b))) (Err Checksum) (Ok (fields b))) = (Checksum, rw h refl) in
    stops (ltb (length b) 20) Short _
    (stops (not (eqb (version b) 4)) Version _
    (stops (ltb (header_words b) 5) HeaderLength _
    (stops (ltb (total_length b) (header_length b) || ltb (length b) (total_length b)) TotalLength _ last)))

-- four bytes are those of the number that they stand for
four_bytes : (xs : List ℕ) → 4 ≤ length xs → Bytes xs → octets (number (take 4 xs)) ≡ take 4 xs
four_bytes [] h w = absurd (let no : ⊥ = omega arith in no)
four_bytes (x ∷ []) h w = absurd (let no : ⊥ = omega arith in no)
four_bytes (x ∷ y ∷ []) h w = absurd (let no : ⊥ = omega arith in no)
four_bytes (x ∷ y ∷ z ∷ []) h w = absurd (let no : ⊥ = omega arith in no)
four_bytes (x ∷ y ∷ z ∷ u ∷ xs) h w =
    let n : ℕ = number (x ∷ y ∷ z ∷ u ∷ []) in
    let hx : x < 256 = w 0 in
    let hy : y < 256 = w 1 in
    let hz : z < 256 = w 2 in
    let hu : u < 256 = w 3 in
    let first : n / 2 ^ 24 ≡ x = omega arith in
    let second : n / 2 ^ 16 % 256 ≡ y = omega arith in
    let third : n / 2 ^ 8 % 256 ≡ z = omega arith in
    let fourth : n % 256 ≡ u = omega arith in
    cc

-- the bytes from a place on are bytes
bytes_drop : (b : List ℕ) (n : ℕ) → Bytes b → Bytes (drop n b)
bytes_drop b n w i = rw (get_or-drop n b i 0) (w (n + i))

pub address_fields : AddressFields
address_fields b d w h =
    let a = accepted b d h in
    let from : octets (number (part 12 16 b)) ≡ part 12 16 b = four_bytes (drop 12 b) (omega (arith, a.sized.long, length-drop 12 b)) (bytes_drop b 12 w) in
    let to : octets (number (part 16 20 b)) ≡ part 16 20 b = four_bytes (drop 16 b) (omega (arith, a.sized.long, length-drop 16 b)) (bytes_drop b 16 w) in
    (ap (λ (x : Datagram). octets x.source) (sym a.fields_are) ∙ from, ap (λ (x : Datagram). octets x.destination) (sym a.fields_are) ∙ to)

-- a total and the complement of what it comes to are all ones
complete : (n : ℕ) → ones_complement (n + (65535 - ones_complement n)) ≡ 65535
complete n = grind (arith, nat_tests)

pub complement_accepted : ComplementAccepted
complement_accepted b long four words above within field =
    let low = rw (weight_lower 11 refl) at (sum_set (set b 10 0) 11 0 (header_words b * 2) (omega (arith, length-set b 10 0)) (omega arith)) in
    let high = rw (weight_upper 10 refl) at (sum_set b 10 0 (header_words b * 2) (omega arith) (omega arith)) in
    let other : octet (set b 10 0) 11 ≡ octet b 11 = get_or-set_other b 10 11 0 0 (omega arith) in
    let all : header_sum b ≡ rest_sum b + (65535 - ones_complement (rest_sum b)) = omega arith in
    at_end b
    (record { long = long; four = four; words = words; above = above; within = within })
    (sym (eq-eqb (ones_complement (header_sum b)) 65535 (ap ones_complement all ∙ complete (rest_sum b))))

-- a changed bit adds its weight or takes it away
weighed : (k n : ℕ) → (changed k n ≡ n + 2 ^ k) ⊎ (n ≡ changed k n + 2 ^ k)
weighed k n =
    elim (eqb_tells (n / 2 ^ k % 2) 1) [
      | inl h ↦
          elim (leb_tells (2 ^ k) n) [
            | inl m ↦ inr (rw h.0 (omega arith))
            | inr m ↦ absurd (let none : n / 2 ^ k ≡ 0 = div-eq_of_lt m.1 in let no : ⊥ = omega arith in no)
          ]
      | inr h ↦ inl (rw h.0 refl)
    ]

-- next to a multiple of 65535 there is none
apart : (s t q : ℕ) → all_ones s ≡ true → 0 < q → q < 65535 → (t ≡ s + q) ⊎ (s ≡ t + q) → all_ones t ≡ false
apart s t q h low high by = grind (arith, nat_tests)

-- a header as long as before, whose sum is a little more or less, is refused
moved : (b : List ℕ) (d : Datagram) (i v q : ℕ) → datagram b ≡ Ok d → header_words (set b i v) ≡ header_words b → 0 < q → q < 65535 → (word_sum (set b i v) (header_words b * 2) ≡ header_sum b + q) ⊎ (header_sum b ≡ word_sum (set b i v) (header_words b * 2) + q) → Refused (datagram (set b i v))
moved b d i v q h same low high by =
    let t : ℕ = word_sum (set b i v) (header_words b * 2) in
    let there : header_sum (set b i v) ≡ t = ap (λ (n : ℕ). word_sum (set b i v) (n * 2)) same in
    refused (set b i v) (ap all_ones there ∙ apart (header_sum b) t q (accepted b d h).ones low high by)

-- a changed bit outside the header length leaves that length
same_words : (b : List ℕ) (i k : ℕ) → i < length b → (i ≡ 0 → 4 ≤ k) → header_words (set b i (changed k (octet b i))) ≡ header_words b
same_words b i k l h =
    elim (eqb_tells i 0) [
      | inl e ↦
          let at : octet (set b i (changed k (octet b i))) 0 ≡ changed k (octet b i) =
          ap (λ (j : ℕ). octet (set b i (changed k (octet b i))) j) (sym e.1) ∙ get_or-set_same b i (changed k (octet b i)) 0 l in
          let here : octet b i ≡ octet b 0 = ap (octet b) e.1 in
          let power : 2 ^ (4 + (k - 4)) ≡ 2 ^ 4 * 2 ^ (k - 4) = pow-add 2 4 (k - 4) in
          let exponent : 2 ^ k ≡ 2 ^ (4 + (k - 4)) = ap (λ (j : ℕ). 2 ^ j) (omega (arith, h e.1)) in
          elim (weighed k (octet b i)) [ inl m ↦ omega arith | inr m ↦ omega arith ]
      | inr e ↦
          let at : octet (set b i (changed k (octet b i))) 0 ≡ octet b 0 = get_or-set_other b i 0 (changed k (octet b i)) 0 (λ z. e.1 (sym z)) in
          omega arith
    ]

pub changed_bit_refused : ChangedBitRefused
changed_bit_refused b d i k h inside small but =
    let a = (accepted b d h).sized in
    let room : i < length b = omega (arith, a.above, a.within) in
    let v : ℕ = changed k (octet b i) in
    let least : 0 < 2 ^ k = pow_pos k in
    let most : 2 ^ k ≤ 2 ^ 7 = pow_mono {i = k} {j = 7} (omega arith) in
    let sum = sum_set b i v (header_words b * 2) room (omega arith) in
    let words = same_words b i k room but in
    elim (eqb_tells (i % 2) 0) [
      | inl e ↦
          let upper = rw (weight_upper i e.1) at sum in
          moved b d i v (2 ^ k * 256) h words (omega arith) (omega arith) (elim (weighed k (octet b i)) [ inl m ↦ inl (omega arith) | inr m ↦ inr (omega arith) ])
      | inr e ↦
          let lower = rw (weight_lower i (omega arith)) at sum in
          moved b d i v (2 ^ k) h words (omega arith) (omega arith) (elim (weighed k (octet b i)) [ inl m ↦ inl (omega arith) | inr m ↦ inr (omega arith) ])
    ]
