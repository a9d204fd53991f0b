-- The prefixes of a string, and what is counted and gathered over lists.
use Rattle.std.specs.Prelude.{ℕ, suc, ◌+◌, Bool, true, false, cond, ◌||◌, List, [], ◌∷◌, ◌++◌, map, Some, None, Option}
use Rattle.kinds.specs.Strings.{Str}

-- the prefixes of t, the shortest first
abbrev pub fronts : Str → List Str
fronts [] = [] ∷ []
fronts (b ∷ t) = [] ∷ map (λ u. b ∷ u) (fronts t)

-- the longer prefix b·u where there is one, and else the empty one where it passes
abbrev pub further : Bool → Bool → Option Str → Option Str
further b here (Some u) = Some (b ∷ u)
further b true None = Some []
further b false None = None

-- the longest prefix of t, t itself left out, that passes p
abbrev pub longest_proper : (Str → Bool) → Str → Option Str
longest_proper p [] = None
longest_proper p (b ∷ t) = further b (p []) (longest_proper (λ u. p (b ∷ u)) t)

-- the longest prefix of t that passes p
abbrev pub longest : (Str → Bool) → Str → Option Str
longest p [] = cond (p []) (Some []) None
longest p (b ∷ t) = further b (p []) (longest (λ u. p (b ∷ u)) t)

-- some element passes
abbrev pub any : {A : Type 0} → (A → Bool) → List A → Bool
any p [] = false
any p (x ∷ xs) = p x || any p xs

-- the sum over the elements
abbrev pub total : {A : Type 0} → (A → ℕ) → List A → ℕ
total n [] = 0
total n (x ∷ xs) = n x + total n xs

-- the elements before the first that fails p
abbrev pub until : {A : Type 0} → (A → Bool) → List A → List A
until p [] = []
until p (x ∷ xs) = cond (p x) (x ∷ until p xs) []

-- the lists of the elements, one behind the other
abbrev pub flat : {A B : Type 0} → (A → List B) → List A → List B
flat f [] = []
flat f (x ∷ xs) = f x ++ flat f xs

-- how many different elements the list has, by the equality eq
abbrev pub distinct : {A : Type 0} → (A → A → Bool) → List A → ℕ
distinct eq [] = 0
distinct eq (x ∷ xs) = cond (any (eq x) xs) (distinct eq xs) (suc (distinct eq xs))
