-- Where the reader's tests lead: past the lengths to the checksum, and past it to the fields.
use Rattle.std.proofs.Common.{◌≡◌, ℕ, ◌*◌, ◌/◌, ◌≤◌, true, false, cond, not, ◌||◌, eqb, ltb, List, length, take, Ok, Err, Option, sym, refl, ap, ◌∙◌, arith, le-ltb, eq-eqb}
use Rattle.std.proofs.lemmas.Bool.Decides.{nat_tests}
use Rattle.packets.specs.declared.packet.Ports.{Ports}
use Rattle.packets.specs.declared.fault.PacketFault.TheVariants.{Checksum}
use Rattle.packets.specs.Header.{ones_complement, number, part, octet, word_sum}
use Rattle.packets.specs.Datagram.{Datagram, version, header_words, header_length, total_length, header_sum, all_ones, datagram, fields, payload_of, ports_of}
use Rattle.packets.proofs.Sums.{all_ones_lem, sum_front}

-- the tests of version and lengths are passed
pub record Sized (b : List ℕ) : Type 0 where
  pub long : 20 ≤ length b
  pub four : version b ≡ 4
  pub words : 5 ≤ header_words b
  pub above : header_length b ≤ total_length b
  pub within : total_length b ≤ length b

-- the same by the tests' answers; w is the number of words that the reader took, and t its total length
pub sized : (b : List ℕ) (w t : ℕ) → w ≡ header_words b → t ≡ total_length b → false ≡ ltb (length b) 20 → true ≡ eqb (version b) 4 → false ≡ ltb w 5 → false ≡ (ltb t (w * 4) || ltb (length b) t) → Sized b
sized b w t words_are total_is one two three four =
    let bounds : (header_length b ≤ total_length b) × (total_length b ≤ length b) = grind (arith, nat_tests, four) in
    record {
      long = grind (arith, nat_tests, one);
      four = grind (arith, nat_tests, two);
      words = grind (arith, nat_tests, three);
      above = bounds.0;
      within = bounds.1;
    }

-- then the checksum decides
past_lengths : (b : List ℕ) → Sized b → datagram b ≡ cond (not (all_ones (header_sum b))) (Err Checksum) (Ok (fields b))
past_lengths b h =
    rw (le-ltb (length b) 20 h.long, eq-eqb (version b) 4 h.four, le-ltb (header_words b) 5 h.words, le-ltb (total_length b) (header_length b) h.above, le-ltb (length b) (total_length b) h.within) refl

pub at_sum : (b : List ℕ) → Sized b → false ≡ eqb (ones_complement (header_sum b)) 65535 → datagram b ≡ Err Checksum
at_sum b h k =
    let wrong : all_ones (header_sum b) ≡ false = sym (all_ones_lem (header_sum b)) ∙ sym k in
    past_lengths b h ∙ ap (λ t. cond (not t) (Err Checksum) (Ok (fields b))) wrong

pub at_end : (b : List ℕ) → Sized b → true ≡ eqb (ones_complement (header_sum b)) 65535 → datagram b ≡ Ok (fields b)
at_end b h k =
    let right : all_ones (header_sum b) ≡ true = sym (all_ones_lem (header_sum b)) ∙ sym k in
    past_lengths b h ∙ ap (λ t. cond (not t) (Err Checksum) (Ok (fields b))) right

-- the reader's test of a front as long as the header is that of the header's sum
front_adds : (b : List ℕ) (n : ℕ) → Sized b → n ≡ header_length b → eqb (ones_complement (word_sum (take n b) (length (take n b) / 2))) 65535 ≡ eqb (ones_complement (header_sum b)) 65535
front_adds b n h e = ap (λ (s : ℕ). eqb (ones_complement s) 65535) (sum_front b n (header_words b) (omega (arith, h.above, h.within)) e)

-- the same two by the reader's test
pub at_front_sum : (b : List ℕ) (n : ℕ) → Sized b → n ≡ header_length b → false ≡ eqb (ones_complement (word_sum (take n b) (length (take n b) / 2))) 65535 → datagram b ≡ Err Checksum
at_front_sum b n h e k = at_sum b h (k ∙ front_adds b n h e)

pub at_front : (b : List ℕ) (n : ℕ) → Sized b → n ≡ header_length b → true ≡ eqb (ones_complement (word_sum (take n b) (length (take n b) / 2))) 65535 → datagram b ≡ Ok (fields b)
at_front b n h e k = at_end b h (k ∙ front_adds b n h e)

-- a datagram with the fields of the bytes is theirs
pub same_fields : (b : List ℕ) (s d : ℕ) (l : List ℕ) (o : Option Ports) → s ≡ number (part 12 16 b) → d ≡ number (part 16 20 b) → l ≡ payload_of b → o ≡ ports_of (octet b 9) (payload_of b) → (let made : Datagram = record { source = s; destination = d; protocol = octet b 9; payload = l; ports = o } in made ≡ fields b)
same_fields b s d l o hs hd hl ho = cc
