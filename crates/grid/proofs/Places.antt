-- The places of keys, and the nodes that stand there.
use Rattle.std.proofs.Common.{◌≡◌, ℕ, suc, ◌<◌, Bool, true, false, ◌||◌, List, [], ◌∷◌, ◌++◌, map, length, get_or, Some, None, Option, sym, refl, ap, ◌∙◌, subst, inl, inr, arith}
use Rattle.std.proofs.lemmas.Bool.{both_ways, cases_Bool, and_parts, and_from, or_parts, cond-true, cond-false}
use Rattle.std.proofs.lemmas.List.{get_or_append_left, length-map}
use Rattle.kinds.specs.Strings.{equal}
use Rattle.kinds.proofs.Prefixes.{equal_same, equal_refl}
use Rattle.filters.proofs.Bests.{none_some, some_same}
use Rattle.tries.specs.Prefixes.{any}
use Rattle.grid.specs.declared.node.Node.{Node}
use Rattle.grid.specs.declared.node.Node.TheVariants.{Empty}
use Rattle.grid.specs.Nodes.{node_at}
use Rattle.grid.specs.Derived.{Key, destination, source, key_eq, later, place}

pub key_same : (k l : Key) → key_eq k l ≡ true → k ≡ l
key_same (destination t) (destination u) h = ap destination (equal_same t u h)
key_same (destination t) (source E u) h = absurd (both_ways false refl h)
key_same (source D s) (destination u) h = absurd (both_ways false refl h)
key_same (source D s) (source E u) h =
    let p = and_parts (equal D E) (equal s u) h in
    let a = equal_same D E p.0 in
    let b = equal_same s u p.1 in
    λ i. source (a i) (b i)

pub key_refl : (k : Key) → key_eq k k ≡ true
key_refl (destination t) = equal_refl t
key_refl (source D s) = and_from (equal D D) (equal s s) (equal_refl D) (equal_refl s)

later_some : (o : Option ℕ) (p : ℕ) → later o ≡ Some p → (q : ℕ) × (o ≡ Some q) × (p ≡ suc q)
later_some None p e = absurd (none_some p e)
later_some (Some q) p e = (q, refl, some_same p (suc q) (sym e))

-- a key that is there has a place
pub place_has : (k : Key) (ks : List Key) → any (key_eq k) ks ≡ true → (p : ℕ) × (place k ks ≡ Some p)
place_has k [] h = absurd (both_ways false refl h)
place_has k (l ∷ ks) h =
    elim (cases_Bool (key_eq k l)) [
      | inl e ↦ (0, cond-true (key_eq k l) (Some 0) (later (place k ks)) e)
      | inr e ↦
          let m = place_has k ks (sym (ap (λ (t : Bool). t || any (key_eq k) ks) e) ∙ h) in
          (suc m.0, cond-false (key_eq k l) (Some 0) (later (place k ks)) e ∙ ap later m.1)
    ]

-- a key that is not there has none
pub place_none : (k : Key) (ks : List Key) → any (key_eq k) ks ≡ false → place k ks ≡ None
place_none k [] h = refl
place_none k (l ∷ ks) h =
    let m = or_parts (key_eq k l) (any (key_eq k) ks) h in
    cond-false (key_eq k l) (Some 0) (later (place k ks)) m.0 ∙ ap later (place_none k ks m.1)

-- what stands at the place of a key
pub place_at : {X : Type 0} (g : Key → X) (d : X) (k : Key) (ks : List Key) (p : ℕ) → place k ks ≡ Some p → (p < length ks) × (get_or (map g ks) p d ≡ g k)
place_at g d k [] p e = absurd (none_some p e)
place_at {X = X} g d k (l ∷ ks) p e =
    elim (cases_Bool (key_eq k l)) [
      | inl t ↦
          let z = some_same 0 p (sym (cond-true (key_eq k l) (Some 0) (later (place k ks)) t) ∙ e) in
          subst (λ (n : ℕ). (n < length (l ∷ ks)) × (get_or (map g (l ∷ ks)) n d ≡ g k)) z (omega arith, ap g (sym (key_same k l t)))
      | inr t ↦
          let m = later_some (place k ks) p (sym (cond-false (key_eq k l) (Some 0) (later (place k ks)) t) ∙ e) in
          let r = place_at g d k ks m.0 m.1 in
          subst (λ (n : ℕ). (n < length (l ∷ ks)) × (get_or (map g (l ∷ ks)) n d ≡ g k)) (sym m.2) (omega arith, r.1)
    ]

-- a place is the place of a key that is there
pub place_any : (k : Key) (ks : List Key) (p : ℕ) → place k ks ≡ Some p → any (key_eq k) ks ≡ true
place_any k ks p e =
    elim (cases_Bool (any (key_eq k) ks)) [
      | inl t ↦ t
      | inr t ↦ absurd (none_some p (sym (place_none k ks t) ∙ e))
    ]

-- the node at the place of a key, in memory that holds the keys' nodes and then others
pub node_at_lem : (g : Key → Node) (ks : List Key) (N rest : List Node) → N ≡ map g ks ++ rest → (k : Key) (p : ℕ) → place k ks ≡ Some p → node_at N p ≡ g k
node_at_lem g ks N rest e k p h =
    let m = place_at g Empty k ks p h in
    let l = length-map ks g in
    ap (λ (M : List Node). get_or M p Empty) e ∙ get_or_append_left (map g ks) rest Empty p (omega arith) ∙ m.1
