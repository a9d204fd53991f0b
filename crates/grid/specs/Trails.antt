-- The trail of a search: the places of the nodes that it visits, in order.
use Rattle.std.specs.Prelude.{◌≡◌, ℕ, List, ◌++◌, map, take, drop, Some, Option, Result, MatchResult}
use Rattle.kinds.specs.Strings.{Str}
use Rattle.filters.specs.declared.directive.Directive.{Directive}
use Rattle.filters.specs.Rules.{Rule}
use Rattle.tries.specs.Shape.{has_dst, has_src}
use Rattle.tries.specs.Search.{way, path, visits}
use Rattle.grid.specs.declared.trail.TrailFault.{TrailFault}
use Rattle.grid.specs.Derived.{Key, destination, source, place}

-- the nodes that a search visits, in order: the destination nodes on the way, then the source nodes of the path
abbrev pub visited : {C : Type 0} → List (Rule C) → Str → Str → List Key
visited F d s = map destination (way (has_dst F) d) ++ map (λ k. source k.0 k.1) (path (has_src F) d s)

-- the memory of a trail that was written: first the place of each visited node under the numbering, and then what was there before
pub record Noted {C : Type 0} (keys : List Key) (F : List (Rule C)) (d s : Str) (before after : List ℕ) : Type 0 where
  pub places : map Some (take (visits F d s) after) ≡ map (λ k. place k keys) (visited F d s)
  pub rest : drop (visits F d s) after ≡ drop (visits F d s) before

-- the memory of a trail by the answer: written where it was accepted, and as before where it was refused
abbrev pub Trailed : {C : Type 0} → List Key → List (Rule C) → Str → Str → List ℕ → List ℕ → Result (Option (ℕ × Directive) × ℕ) TrailFault → Type 0
Trailed keys F d s before after r = MatchResult r (λ _. Noted keys F d s before after) (λ _. after ≡ before)
