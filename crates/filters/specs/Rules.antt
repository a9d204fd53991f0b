-- What a filter means, when it matches, and which of several is the best.
use Rattle.std.specs.Prelude.{ℕ, suc, Bool, true, false, cond, ◌&&◌, List, [], ◌∷◌, map, Some, None, Option, nat_lt}
use Rattle.std.specs.declared.cmp.Ordering.TheVariants.{Less, Equal, Greater}
use Rattle.std.specs.declared.cmp.Ordering.{Ordering}
use Rattle.kinds.specs.Strings.{Str, starts}
use Rattle.filters.specs.declared.directive.Directive.{Directive}

-- a filter as the rules mean it: its two prefixes are strings
pub record Rule (C : Type 0) : Type 0 where
  pub label : ℕ
  pub destination : Str
  pub source : Str
  pub cost : C
  pub directive : Directive

-- a filter matches two addresses when its prefixes are prefixes of their strings
abbrev pub matches : {C : Type 0} → Str → Str → Rule C → Bool
matches d s f = starts f.destination d && starts f.source s

-- where costs decide, they do; at equal costs the labels do
abbrev pub by_cost : Ordering → Bool → Bool
by_cost Less labels = true
by_cost Equal labels = labels
by_cost Greater labels = false

-- f is better than g: its cost is before g's, or equal and its label is the smaller
abbrev pub better : {C : Type 0} → (C → C → Ordering) → Rule C → Rule C → Bool
better order f g = by_cost (order f.cost g.cost) (nat_lt f.label g.label)

-- how many elements pass
abbrev pub count : {A : Type 0} → (A → Bool) → List A → ℕ
count p [] = 0
count p (x ∷ xs) = cond (p x) (suc (count p xs)) (count p xs)

-- ---- the best of a list; lt f g says that f is better than g
module _ {C : Type 0} (lt : Rule C → Rule C → Bool) where
  -- the better of two, and the first where neither is better
  abbrev pub pick : Option (Rule C) → Option (Rule C) → Option (Rule C)
  pick None y = y
  pick (Some g) None = Some g
  pick (Some g) (Some f) = cond (lt f g) (Some f) (Some g)

  -- the best of acc and the list, read from left to right
  abbrev pub scan : Option (Rule C) → List (Option (Rule C)) → Option (Rule C)
  scan acc [] = acc
  scan acc (x ∷ xs) = scan (pick acc x) xs

  abbrev pub only : (Rule C → Bool) → Rule C → Option (Rule C)
  only p f = cond (p f) (Some f) None

  -- the best of those that pass p
  abbrev pub best : (Rule C → Bool) → List (Rule C) → Option (Rule C)
  best p F = scan None (map (only p) F)

  -- what one gets who reads every filter: the best that matches
  abbrev pub linear : List (Rule C) → Str → Str → Option (Rule C)
  linear F d s = best (matches d s) F

  -- a filter's standing: how many filters of the list are better
  abbrev pub standing : List (Rule C) → Rule C → ℕ
  standing F f = count (λ g. lt g f) F
