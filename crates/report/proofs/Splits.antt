-- The first item of an input.
use Rattle.std.proofs.Common.{◌≡◌, ℕ, ◌+◌, ◌<◌, ◌≤◌, ◌⊎◌, true, List, length, take, drop, sym, ap, ◌∙◌, inl, inr, arith, length-take-le, take_all, take-take}
use Rattle.std.proofs.lemmas.Bool.Decides.{nat_tests, leb_tells}
use Rattle.std.proofs.lemmas.Slice.{between_is}
use Rattle.packets.specs.Header.{part, number}
use Rattle.report.specs.Items.{whole, long, announced, front, goes_on, needed}

-- an item that is all there
pub at_whole : (b : List ℕ) → 4 ≤ length b → announced b ≤ 1500 → 4 + announced b ≤ length b → front b ≡ whole (number (part 0 2 b)) (part 4 (4 + announced b) b)
at_whole b h small there = grind (arith, nat_tests)

-- an item that is announced as too long
pub at_long : (b : List ℕ) → 4 ≤ length b → 1500 < announced b → front b ≡ long
at_long b h large = grind (arith, nat_tests)

-- a part of a front that is long enough is that part of the whole
part_take : (m n k : ℕ) (b : List ℕ) → n ≤ k → part m n (take k b) ≡ part m n b
part_take m n k b h = between_is (take k b) m n ∙ ap (drop m) (take-take n k b h) ∙ sym (between_is b m n)

-- a front tells the first item if it holds the head, and the packet that the head announces
front_take : (k : ℕ) (b : List ℕ) → 4 ≤ k → (1500 < announced b) ⊎ (4 + announced b ≤ k) → front (take k b) ≡ front b
front_take k b low holds =
    elim (leb_tells (length b) k) [
      | inl m ↦ ap front (take_all k b m.1)
      | inr m ↦
          let size : length (take k b) ≡ k = length-take-le k b (omega arith) in
          let head_of : announced (take k b) ≡ announced b = ap number (part_take 2 4 k b low) in
          elim (leb_tells (announced b) 1500) [
            | inl small ↦
                let room : 4 + announced b ≤ k = elim holds [ inl large ↦ omega arith | inr there ↦ there ] in
                let socket : number (part 0 2 (take k b)) ≡ number (part 0 2 b) = ap number (part_take 0 2 k b (omega arith)) in
                let packet : part 4 (4 + announced b) (take k b) ≡ part 4 (4 + announced b) b = part_take 4 (4 + announced b) k b room in
                let here = at_whole b (omega arith) small.1 (omega arith) in
                let there = at_whole (take k b) (omega arith) (omega arith) (omega arith) in
                cc
            | inr large ↦ at_long (take k b) (omega arith) (omega arith) ∙ sym (at_long b (omega arith) large.1)
          ]
    ]

-- as many bytes as the first four ask for tell the first item
pub enough : (b : List ℕ) → front (take (needed (take 4 b)) b) ≡ front b
enough b =
    elim (leb_tells 4 (length b)) [
      | inl m ↦
          let size : length (take 4 b) ≡ 4 = length-take-le 4 b m.1 in
          let head_of : announced (take 4 b) ≡ announced b = ap number (part_take 2 4 4 b (omega arith)) in
          elim (leb_tells (announced b) 1500) [
            | inl small ↦
                let asked : needed (take 4 b) ≡ 4 + announced b = grind (arith, nat_tests) in
                rw asked (front_take (4 + announced b) b (omega arith) (inr (omega arith)))
            | inr large ↦
                let asked : needed (take 4 b) ≡ 4 = grind (arith, nat_tests) in
                rw asked (front_take 4 b (omega arith) (inl large.1))
          ]
      | inr m ↦
          let all : take 4 b ≡ b = take_all 4 b (omega arith) in
          let asked : needed b ≡ 4 = grind (arith, nat_tests) in
          ap front (ap (λ (n : ℕ). take n b) (ap needed all ∙ asked) ∙ all)
    ]

-- an item that another may stand behind is all there, and asks for all of it
pub asked : (b : List ℕ) → goes_on (front b) ≡ true → (needed (take 4 b) ≡ 4 + announced b) × (4 + announced b ≤ length b)
asked b h =
    let there : (4 ≤ length b) × (announced b ≤ 1500) × (4 + announced b ≤ length b) = grind (arith, nat_tests, h) in
    let size : length (take 4 b) ≡ 4 = length-take-le 4 b there.0 in
    let head_of : announced (take 4 b) ≡ announced b = ap number (part_take 2 4 4 b (omega arith)) in
    (grind (arith, nat_tests, size, head_of, there.1), there.2)
