-- Lists of filters as collections, what a test that ranks filters owes, and what the best match of a list is.
use Rattle.std.specs.Prelude.{◌≡◌, ◌<◌, Bool, true, false, ◌⊎◌, List, [], ◌∷◌, Some, None, Option, ◌≢◌}
use Rattle.std.specs.declared.cmp.Ordering.TheVariants.{Equal}
use Rattle.std.specs.declared.cmp.Ordering.{Ordering}
use Rattle.std.specs.Ordering.{ordering_reverse, is_le}
use Rattle.kinds.specs.Strings.{Str}
use Rattle.filters.specs.Rules.{Rule, matches}

-- x is in the list
abbrev pub In : {A : Type 0} → A → List A → Type 0
In x [] = ⊥
In x (y ∷ ys) = (x ≡ y) ⊎ In x ys

-- each element of the list is as P says
abbrev pub Each : {A : Type 0} → (A → Type 0) → List A → Type 0
Each P [] = Unit {0}
Each P (x ∷ xs) = P x × Each P xs

-- no label stands twice
abbrev pub Apart : {C : Type 0} → List (Rule C) → Type 0
Apart [] = Unit {0}
Apart (f ∷ F) = Each (λ g. f.label ≢ g.label) F × Apart F

-- the two lists have the same filters, in any order
abbrev pub Alike : {C : Type 0} → List (Rule C) → List (Rule C) → Type 0
Alike {C = C} F G = ((f : Rule C) → In f F → In f G) × ((f : Rule C) → In f G → In f F)

-- a test that ranks filters, where only filters of one label tie
pub record Order {C : Type 0} (lt : Rule C → Rule C → Bool) : Type 0 where
  pub one_way : (f g : Rule C) → lt f g ≡ true → lt g f ≡ false
  pub chain : (f g h : Rule C) → lt f g ≡ false → lt g h ≡ false → lt f h ≡ false
  pub tie : (f g : Rule C) → lt f g ≡ false → lt g f ≡ false → f.label ≡ g.label

-- what a comparison of costs owes: exchanging the two exchanges before and after, and "before or equal" passes along a chain
pub record Compares {C : Type 0} (order : C → C → Ordering) : Type 0 where
  pub exchange : (x y : C) → order y x ≡ ordering_reverse (order x y)
  pub chain : (x y z : C) → is_le (order x y) ≡ true → is_le (order y z) ≡ true → is_le (order x z) ≡ true

-- f is the best match in F of the two addresses: it matches, and every other filter that matches costs at least as much,
-- and has a larger label where it costs the same
pub record Best {C : Type 0} (order : C → C → Ordering) (F : List (Rule C)) (d s : Str) (f : Rule C) : Type 0 where
  pub stands : In f F
  pub fits : matches d s f ≡ true
  pub cheapest : (g : Rule C) → In g F → matches d s g ≡ true → is_le (order f.cost g.cost) ≡ true
  pub first : (g : Rule C) → In g F → matches d s g ≡ true → order f.cost g.cost ≡ Equal → (f ≢ g) → f.label < g.label

-- the answer is the best match in F of the two addresses, or none where no filter matches
abbrev pub BestMatch : {C : Type 0} → (C → C → Ordering) → List (Rule C) → Str → Str → Option (Rule C) → Type 0
BestMatch {C = C} order F d s None = (f : Rule C) → In f F → matches d s f ≡ false
BestMatch order F d s (Some f) = Best order F d s f
