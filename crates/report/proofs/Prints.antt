-- The lines of an input that comes by reads.
use Rattle.std.proofs.Common.{◌≡◌, ℕ, ◌+◌, ◌<◌, true, false, List, [], ◌∷◌, ◌++◌, length, take, drop, Some, None, Option, Result, IfSome, sym, refl, ap, ◌∙◌, subst, append_assoc, append-nil, drop_at, length-take-le}
use Rattle.std.specs.Io.KnownBytes.{Consumes, Appends}
use Rattle.report.specs.declared.items.Item.{Item}
use Rattle.report.specs.declared.items.ItemFault.{ItemFault}
use Rattle.report.specs.Items.{announced, end, front, goes_on, left, meant, needed}
use Rattle.report.specs.Lines.{Told, told_of, text, lines}
use Rattle.report.proofs.Splits.{enough, asked}
use Rattle.report.proofs.Texts.{all_told, complete, another}

-- where the input's bytes b were known: what was printed so far, and the lines of what is left, are the lines of b
abbrev pub Printed : ℕ → Option (List ℕ) → Option (List ℕ) → Option (List ℕ) → Option (List ℕ) → Type 0
Printed n None rest before now = Unit {0}
Printed n (Some b) None before now = ⊥
Printed n (Some b) (Some rest) before now = (so_far : List ℕ) × Appends before now so_far × (so_far ++ lines n rest ≡ lines 65536 b)

-- nothing printed
appends_none : (a : Option (List ℕ)) → Appends a a []
appends_none None = tt
appends_none (Some x) = sym (append-nil x)

-- printed one behind the other
appends_both : (a b c : Option (List ℕ)) (first second : List ℕ) → Appends a b first → Appends b c second → Appends a c (first ++ second)
appends_both None b c first second p q = tt
appends_both (Some x) None c first second p q = absurd p
appends_both (Some x) (Some y) None first second p q = absurd q
appends_both (Some x) (Some y) (Some z) first second p q = q ∙ ap (λ (l : List ℕ). l ++ second) p ∙ append_assoc x first second

pub printed_none : (a o : Option (List ℕ)) → Printed 65536 a a o o
printed_none None o = tt
printed_none (Some b) o = ([], appends_none o, refl)

-- what was read ends, so the input does
pub end_read : (rest : Option (List ℕ)) (item : List ℕ) → IfSome rest (λ b. item ≡ take (needed (take 4 b)) b) → end ≡ front item → IfSome rest (λ b. end ≡ front b)
end_read None item whole h = tt
end_read (Some rest) item whole h = h ∙ ap front whole ∙ enough rest

-- the input ends here, or no item more may be read
pub printed_all : (n : ℕ) (a rest before now : Option (List ℕ)) → Printed n a rest before now → (0 < n → IfSome rest (λ b. end ≡ front b)) → IfSome a (λ b. Appends before now (lines 65536 b))
printed_all n None rest before now p h = tt
printed_all n (Some b) None before now p h = absurd p
printed_all n (Some b) (Some rest) before now p h = subst (Appends before now) (all_told n rest p.0 (lines 65536 b) h p.2) p.1

-- what is left behind a whole item that was taken
left_behind : (b item rest : List ℕ) → b ≡ item ++ rest → item ≡ take (needed (take 4 b)) b → goes_on (front b) ≡ true → rest ≡ left b
left_behind b item rest taken whole goes =
    let wants = asked b goes in
    let size : length item ≡ 4 + announced b = ap length (whole ∙ ap (λ (n : ℕ). take n b) wants.0) ∙ length-take-le (4 + announced b) b wants.1 in
    let is : left b ≡ drop (4 + announced b) b = rw goes refl in
    sym (is ∙ ap (drop (4 + announced b)) taken ∙ drop_at item rest (4 + announced b) size)

-- a line printed more
pub printed_more : (m n : ℕ) (a old new before now after : Option (List ℕ)) (item : List ℕ) (r : Option (Result Item ItemFault)) (told : Told) (line : List ℕ) → n + 1 ≡ m → Printed m a old before now → Consumes old new item → IfSome old (λ b. item ≡ take (needed (take 4 b)) b) → meant r ≡ front item → Some told ≡ told_of (meant r) → line ≡ text told ++ (10 ∷ []) → Appends now after line → goes_on (meant r) ≡ true → Printed n a new before after
printed_more m n None old new before now after item r told line e p taken whole is tells words more goes = tt
printed_more m n (Some b) None new before now after item r told line e p taken whole is tells words more goes = absurd p
printed_more m n (Some b) (Some old) None before now after item r told line e p taken whole is tells words more goes = absurd taken
printed_more m n (Some b) (Some old) (Some new) before now after item r told line e p taken whole is tells words more goes =
    let front_is : meant r ≡ front old = is ∙ ap front whole ∙ enough old in
    let more_is : goes_on (front old) ≡ true = ap goes_on (sym front_is) ∙ goes in
    let told_is : told_of (front old) ≡ Some told = ap told_of (sym front_is) ∙ sym tells in
    (p.0 ++ (text told ++ (10 ∷ [])), appends_both before now after _ _ p.1 (subst (Appends now after) words more), another m n old new told p.0 (lines 65536 b) e told_is (left_behind old item new taken whole more_is) p.2)

-- the last line printed
pub printed_last : (m n : ℕ) (a old before now after : Option (List ℕ)) (item : List ℕ) (r : Option (Result Item ItemFault)) (told : Told) (line : List ℕ) → m ≡ n + 1 → Printed m a old before now → IfSome old (λ b. item ≡ take (needed (take 4 b)) b) → meant r ≡ front item → Some told ≡ told_of (meant r) → line ≡ text told ++ (10 ∷ []) → Appends now after line → goes_on (meant r) ≡ false → IfSome a (λ b. Appends before after (lines 65536 b))
printed_last m n None old before now after item r told line e p whole is tells words more stops = tt
printed_last m n (Some b) None before now after item r told line e p whole is tells words more stops = absurd p
printed_last m n (Some b) (Some old) before now after item r told line e p whole is tells words more stops =
    let front_is : meant r ≡ front old = is ∙ ap front whole ∙ enough old in
    let last : goes_on (front old) ≡ false = ap goes_on (sym front_is) ∙ stops in
    let told_is : told_of (front old) ≡ Some told = ap told_of (sym front_is) ∙ sym tells in
    let done : p.0 ++ (text told ++ (10 ∷ [])) ≡ lines 65536 b = complete m n old told p.0 (lines 65536 b) e told_is last p.2 in
    subst (Appends before after) done (appends_both before now after _ _ p.1 (subst (Appends now after) words more))
