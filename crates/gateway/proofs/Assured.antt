-- What a lookup answers is right: the best match, in few visits.
use Rattle.std.proofs.Common.{◌≡◌, ℕ, ◌+◌, ◌<◌, ◌≤◌, Bool, cond, List, length, Some, None, Ok, Err, Option, Result, Ordering, sym, refl, ap, subst, inl, inr, arith, MatchResult}
use Rattle.std.proofs.lemmas.Bool.{cases_lt, lt-ltb, le-ltb}
use Rattle.kinds.specs.Strings.{Str, bits}
use Rattle.kinds.specs.Bits.{length_bits}
use Rattle.filters.specs.Directives.{named}
use Rattle.filters.specs.Orders.{Apart, Compares, BestMatch}
use Rattle.filters.specs.Rules.{Rule, better, linear}
use Rattle.filters.proofs.Bests.{linear_is_best}
use Rattle.tries.specs.Search.{visits}
use Rattle.tries.proofs.Visits.{visits_few}
use Rattle.grid.specs.declared.trail.TrailFault.{TrailFault}
use Rattle.grid.specs.declared.trail.TrailFault.TheVariants.{Places}
use Rattle.grid.specs.Refusals.{trail_verdict}
use Rattle.grid.specs.Derived.{Key}
use Rattle.grid.specs.Trails.{Noted, Trailed}
use Rattle.gateway.specs.Assurance.{Answer, NamesTheBest, Right}

-- what a pattern spells is as long as its kind is wide
pub spells_short : {P : Type 0} (spells : P → Str) (number : P → ℕ) (width : ℕ) → ((p : P) → spells p ≡ bits width (number p)) → (p : P) → length (spells p) ≤ width
spells_short spells number width first p =
    let e = ap length (first p) in
    let k = length_bits width (number p) in
    omega arith

-- a best match is named as one
named_best : {C : Type 0} (order : C → C → Ordering) (F : List (Rule C)) (d s : Str) (o : Option (Rule C)) → BestMatch order F d s o → NamesTheBest order F d s (named o)
named_best order F d s None h = h
named_best order F d s (Some f) h = (f, refl, h)

pub answer_right : {C : Type 0} (order : C → C → Ordering) → Compares order → (F : List (Rule C)) → Apart F → (d s : Str) (wd ws : ℕ) → length d ≡ wd → length s ≡ ws
    → Right order wd ws F d s (named (linear (better order) F d s), visits F d s)
answer_right order laws F apart d s wd ws hd hs =
    let v = visits_few F d s in
    record {
      best = named_best order F d s (linear (better order) F d s) (linear_is_best order laws F apart d s);
      visited = refl;
      few = subst (λ (n : ℕ × ℕ). visits F d s ≤ n.0 + n.1 + 2) (λ i. (hd i, hs i)) v.0;
      no_more = v.1;
    }

-- a trail is accepted with the answer of the lookup, or it has too few places
pub verdict_cases : (P : Answer → Type 0) (places wd ws : ℕ) (a : Answer) → P a → MatchResult (trail_verdict places wd ws a) P (λ _. places < wd + ws + 2)
verdict_cases P places wd ws a h =
    elim (cases_lt places (wd + ws + 2)) [
      | inl k ↦ subst (λ (t : Bool). MatchResult (cond {A = Result Answer TrailFault} t (Err Places) (Ok a)) P (λ _. places < wd + ws + 2)) (sym (lt-ltb places (wd + ws + 2) k)) k
      | inr k ↦ subst (λ (t : Bool). MatchResult (cond {A = Result Answer TrailFault} t (Err Places) (Ok a)) P (λ _. places < wd + ws + 2)) (sym (le-ltb places (wd + ws + 2) k)) h
    ]

-- a trail with too few places is refused, and stays as it was
pub refused_same : (r : Result Answer TrailFault) (n m : ℕ) (before behind : List ℕ)
    → MatchResult r (λ _. n ≤ m) (λ e. (e ≡ Places) × (m < n) × (behind ≡ before)) → m < n → behind ≡ before
refused_same (Ok a) n m before behind h k = absurd (omega arith)
refused_same (Err e) n m before behind h k = h.2

-- a trail with enough places is accepted, and holds the places of the visited nodes
pub accepted_noted : {C : Type 0} (keys : List Key) (F : List (Rule C)) (d s : Str) (before behind : List ℕ) (places wd ws : ℕ) (a : Answer) → wd + ws + 2 ≤ places
    → Trailed keys F d s before behind (trail_verdict places wd ws a) → Noted keys F d s before behind
accepted_noted keys F d s before behind places wd ws a enough h =
    subst (λ (t : Bool). Trailed keys F d s before behind (cond {A = Result Answer TrailFault} t (Err Places) (Ok a))) (le-ltb places (wd + ws + 2) enough) h
