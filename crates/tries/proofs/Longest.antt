-- The longest prefix that passes a test.
use Rattle.std.proofs.Common.{◌≡◌, Bool, true, false, cond, ◌⊎◌, [], ◌∷◌, Some, None, Option, sym, refl, ap, ◌∙◌, inl, inr}
use mathlib.Core.Bool.{beq}
use Rattle.std.proofs.lemmas.Bool.{both_ways, and_parts, and_from}
use Rattle.kinds.specs.Strings.{Str, starts}
use Rattle.kinds.proofs.Prefixes.{beq_same, beq_refl}
use Rattle.filters.proofs.Bests.{none_some, some_same}
use Rattle.tries.specs.Prefixes.{further, longest, longest_proper}

-- where there is a longest prefix, it goes on behind the bit, or it is the empty one
further_some : (b here : Bool) (o : Option Str) (u : Str) → further b here o ≡ Some u
    → ((v : Str) × (o ≡ Some v) × (u ≡ b ∷ v)) ⊎ ((o ≡ None) × (here ≡ true) × (u ≡ []))
further_some b here (Some v) u e = inl (v, refl, sym (some_same (b ∷ v) u e))
further_some b true None u e = inr (refl, refl, sym (some_same [] u e))
further_some b false None u e = absurd (none_some u e)

further_none : (b here : Bool) (o : Option Str) → further b here o ≡ None → (o ≡ None) × (here ≡ false)
further_none b here (Some v) e = absurd (none_some (b ∷ v) (sym e))
further_none b true None e = absurd (none_some {A = Str} [] (sym e))
further_none b false None e = (refl, refl)

cond_some : (here : Bool) (u : Str) → cond here (Some []) None ≡ Some u → (here ≡ true) × (u ≡ [])
cond_some true u e = (refl, sym (some_same [] u e))
cond_some false u e = absurd (none_some u e)

cond_none : (here : Bool) → ◌≡◌ {A = Option Str} (cond here (Some []) None) None → here ≡ false
cond_none true e = absurd (none_some {A = Str} [] (sym e))
cond_none false e = refl

-- it is a prefix, and it passes
pub longest_some : (p : Str → Bool) (t u : Str) → longest p t ≡ Some u → (starts u t ≡ true) × (p u ≡ true)
longest_some p [] u e = let c = cond_some (p []) u e in (rw c.1 refl, rw c.1 c.0)
longest_some p (b ∷ t) u e =
    elim (further_some b (p []) (longest (λ v. p (b ∷ v)) t) u e) [
      | inl w ↦
          let m = longest_some (λ v. p (b ∷ v)) t w.0 w.1 in
          (rw w.2 (and_from (beq b b) (starts w.0 t) (beq_refl b) m.0), rw w.2 m.1)
      | inr w ↦ (rw w.2 refl, rw w.2 w.1)
    ]

-- where there is none, no prefix passes
pub longest_none : (p : Str → Bool) (t : Str) → longest p t ≡ None → (u : Str) → starts u t ≡ true → p u ≡ false
longest_none p [] e [] h = cond_none (p []) e
longest_none p [] e (a ∷ u) h = absurd (both_ways false refl h)
longest_none p (b ∷ t) e [] h = (further_none b (p []) (longest (λ v. p (b ∷ v)) t) e).1
longest_none p (b ∷ t) e (a ∷ u) h =
    let h' = and_parts (beq a b) (starts u t) h in
    rw (beq_same a b h'.0) (longest_none (λ v. p (b ∷ v)) t (further_none b (p []) (longest (λ v. p (b ∷ v)) t) e).0 u h'.1)

-- where some prefix passes, there is a longest
pub longest_has : (p : Str → Bool) (t u : Str) → starts u t ≡ true → p u ≡ true → (v : Str) × (longest p t ≡ Some v)
longest_has p t u h k = go (longest p t) refl
  where
    go : (o : Option Str) → longest p t ≡ o → (v : Str) × (longest p t ≡ Some v)
    go None e = absurd (both_ways (p u) (longest_none p t e u h) k)
    go (Some v) e = (v, e)

-- each prefix that passes is a prefix of it
pub longest_deep : (p : Str → Bool) (t u v : Str) → longest p t ≡ Some u → starts v t ≡ true → p v ≡ true → starts v u ≡ true
longest_deep p t u [] e h k = refl
longest_deep p [] u (a ∷ v) e h k = absurd (both_ways false refl h)
longest_deep p (b ∷ t) u (a ∷ v) e h k =
    let h' = and_parts (beq a b) (starts v t) h in
    let q = beq_same a b h'.0 in
    let k' : p (b ∷ v) ≡ true = rw q at k in
    elim (further_some b (p []) (longest (λ x. p (b ∷ x)) t) u e) [
      | inl w ↦
          rw w.2 (and_from (beq a b) (starts v w.0) h'.0 (longest_deep (λ x. p (b ∷ x)) t w.0 v w.1 h'.1 k'))
      | inr w ↦ absurd (both_ways (p (b ∷ v)) (longest_none (λ x. p (b ∷ x)) t w.0 v h'.1) k')
    ]

-- none, where no prefix passes
pub longest_never : (p : Str → Bool) (t : Str) → ((u : Str) → p u ≡ false) → longest p t ≡ None
longest_never p t never = go (longest p t) refl
  where
    go : (o : Option Str) → longest p t ≡ o → o ≡ None
    go None e = refl
    go (Some u) e = absurd (both_ways (p u) (never u) (longest_some p t u e).1)

-- ---- a test q that is stricter than p

sub_none : (p q : Str → Bool) (t : Str) → ((u : Str) → q u ≡ true → p u ≡ true) → longest p t ≡ None → longest q t ≡ None
sub_none p q t sub e = go (longest q t) refl
  where
    go : (o : Option Str) → longest q t ≡ o → o ≡ None
    go None l = refl
    go (Some u) l =
        let m = longest_some q t u l in
        absurd (both_ways (p u) (longest_none p t e u m.0) (sub u m.1))

-- the longest that passes q is found within the longest that passes p
pub longest_within : (p q : Str → Bool) (t u : Str) → ((v : Str) → q v ≡ true → p v ≡ true) → longest p t ≡ Some u → longest q t ≡ longest q u
longest_within p q [] u sub e = rw (cond_some (p []) u e).1 refl
longest_within p q (b ∷ t) u sub e =
    elim (further_some b (p []) (longest (λ v. p (b ∷ v)) t) u e) [
      | inl w ↦
          rw w.2
          (ap (λ o. further b (q []) o) (longest_within (λ v. p (b ∷ v)) (λ v. q (b ∷ v)) t w.0 (λ v. sub (b ∷ v)) w.1))
      | inr w ↦
          rw w.2
          (ap (λ o. further b (q []) o) (sub_none (λ v. p (b ∷ v)) (λ v. q (b ∷ v)) t (λ v. sub (b ∷ v)) w.0) ∙ closed b (q []))
    ]
  where
    closed : (c here : Bool) → further c here None ≡ cond here (Some []) None
    closed c true = refl
    closed c false = refl

-- the longest prefix is the string itself, or the longest proper one
pub longest_or : (p : Str → Bool) (t : Str) → longest p t ≡ cond (p t) (Some t) (longest_proper p t)
longest_or p [] = refl
longest_or p (b ∷ t) = ap (λ o. further b (p []) o) (longest_or (λ u. p (b ∷ u)) t) ∙ go (p (b ∷ t))
  where
    go : (x : Bool) → further b (p []) (cond x (Some t) (longest_proper (λ u. p (b ∷ u)) t))
        ≡ cond x (Some (b ∷ t)) (further b (p []) (longest_proper (λ u. p (b ∷ u)) t))
    go true = refl
    go false = refl
