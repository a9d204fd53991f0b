-- The lines of an input, item by item.
use Rattle.std.proofs.Common.{◌≡◌, ℕ, zero, suc, ◌+◌, ◌<◌, Bool, true, false, cond, List, [], ◌∷◌, ◌++◌, Some, None, Ok, Err, Option, Result, MatchOption, sym, refl, ap, ◌∙◌, append_assoc, append-nil, add-one, arith}
use Rattle.report.specs.declared.items.Item.{Item}
use Rattle.report.specs.declared.items.ItemFault.{ItemFault}
use Rattle.report.specs.declared.items.ItemFault.TheVariants.{Long, Short}
use Rattle.report.specs.Items.{Front, whole, long, short, end, front, goes_on, behind, left, meant}
use Rattle.report.specs.Lines.{Told, told_of, text, before, lines}

-- nothing left has no lines
pub lines_empty : (n : ℕ) → lines n [] ≡ []
unfolding lines
lines_empty zero = refl
lines_empty (suc n) = refl

-- the lines behind the first item are those of what is left
lines_left : (n : ℕ) (b : List ℕ) → cond (goes_on (front b)) (lines n (behind b)) [] ≡ lines n (left b)
lines_left n b = by_cases (goes_on (front b))
  where
    by_cases : (t : Bool) → cond t (lines n (behind b)) [] ≡ lines n (cond t (behind b) [])
    by_cases true = refl
    by_cases false = sym (lines_empty n)

-- the input ends here, or no item more may be read
lines_end : (n : ℕ) (b : List ℕ) → (0 < n → end ≡ front b) → lines n b ≡ []
unfolding lines
lines_end zero b h = refl
lines_end (suc n) b h = ap (λ f. before (told_of f) (cond (goes_on (front b)) (lines n (behind b)) [])) (sym (h (omega arith)))

-- the text is complete where nothing more is told
pub all_told : (n : ℕ) (b so_far all : List ℕ) → (0 < n → end ≡ front b) → so_far ++ lines n b ≡ all → so_far ≡ all
all_told n b so_far all h inv = sym (append-nil so_far) ∙ ap (λ (l : List ℕ). so_far ++ l) (sym (lines_end n b h)) ∙ inv

-- the first line, and those behind it
pub lines_more : (n : ℕ) (b : List ℕ) (told : Told) → told_of (front b) ≡ Some told → lines (n + 1) b ≡ text told ++ (10 ∷ cond (goes_on (front b)) (lines n (behind b)) [])
unfolding lines
lines_more n b told h = ap (λ (m : ℕ). lines m b) (add-one n) ∙ ap (λ o. before o (cond (goes_on (front b)) (lines n (behind b)) [])) h

-- the text is complete behind the last line
pub complete : (m n : ℕ) (b : List ℕ) (told : Told) (so_far all : List ℕ) → m ≡ n + 1 → told_of (front b) ≡ Some told → goes_on (front b) ≡ false → so_far ++ lines m b ≡ all → so_far ++ (text told ++ (10 ∷ [])) ≡ all
complete m n b told so_far all e h last inv =
    let line : lines m b ≡ text told ++ (10 ∷ []) = ap (λ (k : ℕ). lines k b) e ∙ lines_more n b told h ∙ ap (λ t. text told ++ (10 ∷ cond t (lines n (behind b)) [])) last in
    ap (λ (l : List ℕ). so_far ++ l) (sym line) ∙ inv

-- the first line, and those of what is left
lines_first : (n : ℕ) (b : List ℕ) (told : Told) → told_of (front b) ≡ Some told → lines (n + 1) b ≡ text told ++ (10 ∷ lines n (left b))
lines_first n b told h = lines_more n b told h ∙ ap (λ (l : List ℕ). text told ++ (10 ∷ l)) (lines_left n b)

-- a line of text more, and the lines of what is left
pub another : (m n : ℕ) (b rest : List ℕ) (told : Told) (so_far all : List ℕ) → n + 1 ≡ m → told_of (front b) ≡ Some told → rest ≡ left b → so_far ++ lines m b ≡ all → (so_far ++ (text told ++ (10 ∷ []))) ++ lines n rest ≡ all
another m n b rest told so_far all e h behind_is inv =
    let line : lines m b ≡ text told ++ (10 ∷ lines n rest) =
    ap (λ (k : ℕ). lines k b) (sym e) ∙ lines_first n b told h ∙ ap (λ (l : List ℕ). text told ++ (10 ∷ lines n l)) (sym behind_is) in
    append_assoc so_far (text told ++ (10 ∷ [])) (lines n rest)
    ∙ ap (λ (l : List ℕ). so_far ++ l) (append_assoc (text told) (10 ∷ []) (lines n rest) ∙ sym line)
    ∙ inv

-- where nothing is told, the input ends
pub ends : (f : Front) → told_of f ≡ None → end ≡ f
ends (whole socket packet) none = cc
ends long none = cc
ends short none = cc
ends end none = refl

-- what a step of at most n gives: nothing where the input ends, or what stands at its front and one step fewer
abbrev Step : ℕ → ℕ → List ℕ → List ℕ → Option (Result Item ItemFault) → Type 0
Step n m b rest r = MatchOption r (0 < n → (end ≡ front b) × (rest ≡ left b)) (λ item. ((meant (Some item) ≡ front b) × (rest ≡ left b)) × (m + 1 ≡ n))

-- a step that tells a line is one of those that there are
pub step_taken : (n m : ℕ) (b rest : List ℕ) (r : Option (Result Item ItemFault)) (told : Told) → Step n m b rest r → told_of (meant r) ≡ Some told → m + 1 ≡ n
step_taken n m b rest None told step tells = cc
step_taken n m b rest (Some item) told step tells = step.1

-- its line more, and the lines of what is left
pub step_told : (n m : ℕ) (b rest : List ℕ) (r : Option (Result Item ItemFault)) (told : Told) (so_far all : List ℕ) → Step n m b rest r → told_of (meant r) ≡ Some told → so_far ++ lines n b ≡ all → (so_far ++ (text told ++ (10 ∷ []))) ++ lines m rest ≡ all
step_told n m b rest None told so_far all step tells inv = cc
step_told n m b rest (Some item) told so_far all step tells inv =
    another n m b rest told so_far all step.1 (ap told_of (sym step.0.0) ∙ tells) step.0.1 inv

-- a step that tells none is behind the last line
pub step_over : (n m : ℕ) (b rest : List ℕ) (r : Option (Result Item ItemFault)) (so_far all : List ℕ) → Step n m b rest r → told_of (meant r) ≡ None → so_far ++ lines n b ≡ all → so_far ≡ all
step_over n m b rest None so_far all step none inv = all_told n b so_far all (λ h. (step h).0) inv
step_over n m b rest (Some (Ok item)) so_far all step none inv = cc
step_over n m b rest (Some (Err Long)) so_far all step none inv = cc
step_over n m b rest (Some (Err Short)) so_far all step none inv = cc
