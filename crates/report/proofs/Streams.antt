-- What reads took from an input whose bytes are known.
use Rattle.std.proofs.Common.{◌≡◌, ℕ, ◌+◌, ◌<◌, ◌≤◌, List, [], ◌++◌, length, take, drop, Some, None, Option, sym, ap, ◌∙◌, le_refl, append_assoc, drop_at, length-take-le, take-add, take_all, take_at, append-nil, inl, inr, arith, IfSome, length-append, subst, ◌-◌}
use Rattle.std.proofs.lemmas.Slice.{take-put_mid_below}
use Rattle.std.specs.Io.KnownBytes.{Consumes, IsAtEnd}
use Rattle.std.proofs.lemmas.Bool.Decides.{nat_tests, leb_tells}
use Rattle.report.specs.Items.{needed}
use borrow.Rule.Slice.PartMut.{put_mid, post_of}
use Rattle.std.proofs.lemmas.List.{take-append-le}

-- one read, and another behind it
pub consumes_both : (a b c : Option (List ℕ)) (first second : List ℕ) → Consumes a b first → Consumes b c second → Consumes a c (first ++ second)
consumes_both None b c first second p q = tt
consumes_both (Some x) None c first second p q = absurd p
consumes_both (Some x) (Some y) None first second p q = absurd q
consumes_both (Some x) (Some y) (Some z) first second p q = p ∙ ap (λ (l : List ℕ). first ++ l) q ∙ sym (append_assoc first second z)

-- the front of a buffer of which a part was written: the front before the part, and the part's front
pub take_filled : (a k n : ℕ) (xs ys : List ℕ) → a ≤ length xs → n ≤ length ys → take a xs ++ take n ys ≡ take (a + n) (put_mid a k xs ys)
take_filled a k n xs ys within fits =
    let before : take a (put_mid a k xs ys) ≡ take a xs = take-put_mid_below a k xs ys a (le_refl a) within in
    let behind : drop a (put_mid a k xs ys) ≡ ys ++ post_of a k xs = drop_at (take a xs) (ys ++ post_of a k xs) a (length-take-le a xs within) in
    let part : take n (drop a (put_mid a k xs ys)) ≡ take n ys = ap (take n) behind ∙ take-append-le n ys (post_of a k xs) fits in
    ap (λ (l : List ℕ). l ++ take n ys) (sym before) ∙ ap (λ (l : List ℕ). take a (put_mid a k xs ys) ++ l) (sym part) ∙ sym (take-add a n (put_mid a k xs ys))

-- an item takes four bytes at least
four_at_least : (b : List ℕ) → 4 ≤ needed b
four_at_least b = grind (arith, nat_tests)

-- bytes that were taken until they are as many as they ask for, or the input ends, are those that the input asks for
pub item_taken : (a c : Option (List ℕ)) (item : List ℕ) → Consumes a c item → length item ≤ needed (take 4 item) → (length item < needed (take 4 item) → IsAtEnd c) → IfSome a (λ b. item ≡ take (needed (take 4 b)) b)
item_taken None c item taken most end = tt
item_taken (Some b) None item taken most end = absurd taken
item_taken (Some b) (Some z) item taken most end =
    elim (leb_tells (needed (take 4 item)) (length item)) [
      | inl m ↦
          let size : length item ≡ needed (take 4 item) = omega (arith, m.1) in
          let head : take 4 b ≡ take 4 item = ap (take 4) taken ∙ take-append-le 4 item z (omega (arith, four_at_least (take 4 item))) in
          rw head (sym (ap (take (needed (take 4 item))) taken ∙ take_at item z (needed (take 4 item)) size))
      | inr m ↦
          let none : z ≡ [] = end (omega (arith, m.1)) in
          let all : b ≡ item = taken ∙ ap (λ (l : List ℕ). item ++ l) none ∙ append-nil item in
          rw all (sym (take_all (needed (take 4 item)) item (omega (arith, m.1))))
    ]

-- a head and what was read behind it were taken one after the other
pub item_consumed : (a b c : Option (List ℕ)) (first more k : ℕ) (front post part : List ℕ) → first ≤ length front → more ≤ length part → Consumes a b (take first front) → Consumes b c (take more part) → Consumes a c (take (first + more) (put_mid first k (front ++ post) part))
item_consumed a b c first more k front post part fits room head rest =
    let within : first ≤ length (front ++ post) = omega (arith, length-append front post) in
    let split : take first front ++ take more part ≡ take (first + more) (put_mid first k (front ++ post) part) =
    ap (λ (l : List ℕ). l ++ take more part) (sym (take-append-le first front post fits)) ∙ take_filled first k more (front ++ post) part within room in
    subst (Consumes a c) split (consumes_both a b c _ _ head rest)

-- a head of four bytes, and behind it as many bytes as it asks for or the input has, are the item
pub item_whole : (a b c : Option (List ℕ)) (first more all k : ℕ) (front post part : List ℕ) → first ≡ 4 → first ≤ length front → all ≡ needed (take first (front ++ post)) → length part ≡ all - first → more ≤ length part → Consumes a b (take first front) → Consumes b c (take more part) → (more < length part → IsAtEnd c) → IfSome a (λ x. take (first + more) (put_mid first k (front ++ post) part) ≡ take (needed (take 4 x)) x)
item_whole a b c first more all k front post part four fits asked size room head rest end =
    let within : first ≤ length (front ++ post) = omega (arith, length-append front post) in
    let item : List ℕ = take (first + more) (put_mid first k (front ++ post) part) in
    let before : List ℕ = take first (front ++ post) in
    let behind : List ℕ = take more part in
    let split : before ++ behind ≡ item = take_filled first k more (front ++ post) part within room in
    let before_size : length before ≡ 4 = length-take-le first (front ++ post) within ∙ four in
    let behind_size : length behind ≡ more = length-take-le more part room in
    let length_is : length item ≡ 4 + more = ap length (sym split) ∙ length-append before behind ∙ omega (arith, before_size, behind_size) in
    let front_is : take 4 item ≡ before = ap (take 4) (sym split) ∙ take_at before behind 4 before_size in
    let wants : needed (take 4 item) ≡ all = ap needed front_is ∙ sym asked in
    let least : 4 ≤ all = omega (arith, asked, four_at_least before) in
    item_taken a c item (item_consumed a b c first more k front post part fits room head rest)
    (omega (arith, length_is, wants, size, room, four, least))
    (λ (h : length item < needed (take 4 item)). end (omega (arith, h, length_is, wants, size, four)))
