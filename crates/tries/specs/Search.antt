-- A search of the grid: the nodes that it visits, how many they are, and what it chooses; and what backtracking visits.
use Rattle.std.specs.Prelude.{ℕ, ◌+◌, Bool, true, false, ◌&&◌, List, [], ◌∷◌, map, length, Some, None, Option}
use Rattle.kinds.specs.Strings.{Str, starts, snoc}
use Rattle.filters.specs.Rules.{Rule, count, scan, best}
use Rattle.tries.specs.Prefixes.{fronts, longest, total, until}
use Rattle.tries.specs.Shape.{has_dst, has_src, deepest, next}

-- what follows from the node that a step leads to, or nothing
abbrev pub led : Option Str → (Str → List (Str × Str)) → List (Str × Str)
led None more = []
led (Some D) more = more D

-- the source nodes that are visited from (D, s) on, where r is left of the address
abbrev pub walk : (Str → Str → Bool) → Str → Str → Str → List (Str × Str)
walk has D s [] = (D, s) ∷ []
walk has D s (b ∷ r) = (D, s) ∷ led (next has D s b) (λ A. walk has A (snoc s b) r)

-- the destination nodes that are visited
abbrev pub way : (Str → Bool) → Str → List Str
way has d = until has (fronts d)

-- the source nodes that are visited: from (D, empty) on, D being the longest prefix of d that leads to a source node
abbrev pub path : (Str → Str → Bool) → Str → Str → List (Str × Str)
path has d s = led (deepest has d []) (λ D. walk has D [] s)

-- how many nodes a search visits
abbrev pub visits : {C : Type 0} → List (Rule C) → Str → Str → ℕ
visits F d s = length (way (has_dst F) d) + length (path (has_src F) d s)

-- how many backtracking visits: the same destination nodes, and for each of them all its source nodes on the way of s
abbrev pub back_visits : {C : Type 0} → List (Rule C) → Str → Str → ℕ
back_visits F d s = length (way (has_dst F) d) + total (λ D. count (has_src F D) (fronts s)) (way (has_dst F) d)

-- ---- how far a search comes, said without its steps

-- there is such a string
abbrev pub is_there : Option Str → Bool
is_there None = false
is_there (Some u) = true

-- the nodes on the way to the string, the empty string's among them
abbrev pub reach : Option Str → ℕ
reach None = 0
reach (Some u) = length u + 1

-- the longest prefix of d that has a destination node
abbrev pub last_dst : {C : Type 0} → List (Rule C) → Str → Option Str
last_dst F d = longest (has_dst F) d

-- the longest prefix of s for which some prefix of d has a source node
abbrev pub last_src : {C : Type 0} → List (Rule C) → Str → Str → Option Str
last_src F d s = longest (λ u. is_there (deepest (has_src F) d u)) s

-- ---- what is kept and chosen; lt f g says that f is better than g
module _ {C : Type 0} (lt : Rule C → Rule C → Bool) where
  -- what the node (D, s) keeps: the best filter whose prefixes are prefixes of D and s
  abbrev pub kept : List (Rule C) → Str × Str → Option (Rule C)
  kept F k = best lt (λ f. starts f.destination k.0 && starts f.source k.1) F

  -- what a search chooses: the best of what the visited source nodes keep
  abbrev pub choice : List (Rule C) → Str → Str → Option (Rule C)
  choice F d s = scan lt None (map (kept F) (path (has_src F) d s))
