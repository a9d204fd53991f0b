-- Keys and their places: equal keys, the place of a key among others, and what a write at a key's place does.
use Rattle.std.proofs.Common.{◌≡◌, ℕ, suc, ◌<◌, Bool, true, false, cond, not, ◌||◌, List, [], ◌∷◌, ◌++◌, map, length, set, Some, None, Option, sym, refl, ap, ◌∙◌, subst, inl, inr, arith}
use Rattle.std.proofs.lemmas.Bool.{both_ways, cases_Bool, and_parts, and_from, or_parts, or_left, or_right, not-true, not_from_false, cond-true, cond-false}
use Rattle.filters.proofs.Bests.{none_some, some_same}
use Rattle.tries.specs.Prefixes.{any}
use Rattle.grid.specs.declared.node.Node.{Node}
use Rattle.grid.specs.Derived.{Key, key_eq, later, place, once}
use Rattle.grid.proofs.Places.{key_same, key_refl, place_has}

-- ---- equal keys

pub same_key_lem : (k l : Key) → k ≡ l → key_eq k l ≡ true
same_key_lem k l e = subst (λ (z : Key). key_eq k z ≡ true) e (key_refl k)

-- two that are not equal are not equal the other way round
pub key_apart : (k l : Key) → (k ≡ l → ⊥) → key_eq k l ≡ false
key_apart k l h = elim (cases_Bool (key_eq k l)) [ inl e ↦ absurd (h (key_same k l e)) | inr e ↦ e ]

pub key_turn : (k l : Key) → key_eq k l ≡ false → key_eq l k ≡ false
key_turn k l h = key_apart l k (λ e. both_ways (key_eq k l) h (same_key_lem k l (sym e)))

-- ---- some element

pub any_append : {A : Type 0} (p : A → Bool) (xs ys : List A) → any p (xs ++ ys) ≡ (any p xs || any p ys)
any_append p [] ys = refl
any_append p (x ∷ xs) ys = ap (λ (t : Bool). p x || t) (any_append p xs ys) ∙ or_assoc (p x) (any p xs) (any p ys)
  where
    or_assoc : (a b c : Bool) → (a || (b || c)) ≡ ((a || b) || c)
    or_assoc true b c = refl
    or_assoc false b c = refl

pub or_none : (a : Bool) → (a || false) ≡ a
or_none true = refl
or_none false = refl

pub any_push : {A : Type 0} (p : A → Bool) (xs : List A) (y : A) → any p (xs ++ y ∷ []) ≡ (any p xs || p y)
any_push p xs y = any_append p xs (y ∷ []) ∙ ap (λ (t : Bool). any p xs || t) (or_none (p y))

-- the equality of keys may be moved under `any`
pub any_same : (k l : Key) (ks : List Key) → k ≡ l → any (key_eq k) ks ≡ any (key_eq l) ks
any_same k l ks e = ap (λ (z : Key). any (key_eq z) ks) e

-- ---- places

later_some : (o : Option ℕ) (p : ℕ) → later o ≡ Some p → (q : ℕ) × (o ≡ Some q) × (p ≡ suc q)
later_some None p e = absurd (none_some p e)
later_some (Some q) p e = (q, refl, sym (some_same (suc q) p e))

pub place_first : (k l : Key) (ks : List Key) → key_eq k l ≡ true → place k (l ∷ ks) ≡ Some 0
place_first k l ks e = cond-true (key_eq k l) (Some 0) (later (place k ks)) e

pub place_later : (k l : Key) (ks : List Key) → key_eq k l ≡ false → place k (l ∷ ks) ≡ later (place k ks)
place_later k l ks e = cond-false (key_eq k l) (Some 0) (later (place k ks)) e

pub place_out : (k : Key) (ks : List Key) → place k ks ≡ None → any (key_eq k) ks ≡ false
place_out k ks e =
    elim (cases_Bool (any (key_eq k) ks))
    [ inl h ↦ let m = place_has k ks h in absurd (none_some m.0 (sym e ∙ m.1)) | inr h ↦ h ]

pub place_below : (k : Key) (ks : List Key) (p : ℕ) → place k ks ≡ Some p → p < length ks
place_below k [] p e = absurd (none_some p e)
place_below k (l ∷ ks) p e =
    elim (cases_Bool (key_eq k l)) [
      | inl h ↦ let z = some_same 0 p (sym (place_first k l ks h) ∙ e) in omega arith
      | inr h ↦
          let m = later_some (place k ks) p (sym (place_later k l ks h) ∙ e) in
          let b = place_below k ks m.0 m.1 in
          let z = m.2 in omega arith
    ]

-- a key keeps its place when others come behind
pub place_stays : (k : Key) (ks ls : List Key) (p : ℕ) → place k ks ≡ Some p → place k (ks ++ ls) ≡ Some p
place_stays k [] ls p e = absurd (none_some p e)
place_stays k (l ∷ ks) ls p e =
    elim (cases_Bool (key_eq k l)) [
      | inl h ↦ place_first k l (ks ++ ls) h ∙ sym (place_first k l ks h) ∙ e
      | inr h ↦
          let m = later_some (place k ks) p (sym (place_later k l ks h) ∙ e) in
          place_later k l (ks ++ ls) h ∙ ap later (place_stays k ks ls m.0 m.1) ∙ ap {B = Option ℕ} Some (sym m.2)
    ]

-- a new key stands behind the others
pub place_last : (k : Key) (ks : List Key) → any (key_eq k) ks ≡ false → place k (ks ++ k ∷ []) ≡ Some (length ks)
place_last k [] h = place_first k k [] (key_refl k)
place_last k (l ∷ ks) h =
    let p = or_parts (key_eq k l) (any (key_eq k) ks) h in place_later k l (ks ++ k ∷ []) p.0 ∙ ap later (place_last k ks p.1)

-- the place of any other key is as it was
pub place_other : (l k : Key) (ks : List Key) → key_eq l k ≡ false → place l (ks ++ k ∷ []) ≡ place l ks
place_other l k [] h = place_later l k [] h
place_other l k (m ∷ ks) h =
    ap (λ (o : Option ℕ). cond (key_eq l m) (Some 0) (later o)) (place_other l k ks h)

pub once_push : (k : Key) (ks : List Key) → once ks ≡ true → any (key_eq k) ks ≡ false → once (ks ++ k ∷ []) ≡ true
once_push k [] h n = refl
once_push k (l ∷ ks) h n =
    let p = and_parts (not (any (key_eq l) ks)) (once ks) h in
    let q = or_parts (key_eq k l) (any (key_eq k) ks) n in
    let none : any (key_eq l) (ks ++ k ∷ []) ≡ false =
    any_push (key_eq l) ks k ∙ ap (λ (t : Bool). t || key_eq l k) (not-true (any (key_eq l) ks) p.0) ∙ key_turn k l q.0 in
    and_from (not (any (key_eq l) (ks ++ k ∷ []))) (once (ks ++ k ∷ []))
    (not_from_false (any (key_eq l) (ks ++ k ∷ [])) none) (once_push k ks p.1 q.1)

-- ---- nodes at the places of their keys

pub map_same : (g h : Key → Node) (ks : List Key) → ((l : Key) → any (key_eq l) ks ≡ true → h l ≡ g l) → map h ks ≡ map g ks
map_same g h [] e = refl
map_same g h (l ∷ ks) e =
    let a = e l (or_left (key_eq l l) (any (key_eq l) ks) (key_refl l)) in
    let b = map_same g h ks (λ m i. e m (or_right (key_eq m l) (any (key_eq m) ks) i)) in
    λ i. a i ∷ b i

-- a write at the place of q changes the node of q alone
pub set_map : (ks : List Key) (g h : Key → Node) (q : Key) (i : ℕ) (y : Node) → place q ks ≡ Some i → once ks ≡ true → h q ≡ y
    → ((l : Key) → any (key_eq l) ks ≡ true → key_eq l q ≡ false → h l ≡ g l) → set (map g ks) i y ≡ map h ks
set_map [] g h q i y e d hy other = absurd (none_some i e)
set_map (l ∷ ks) g h q i y e d hy other =
    let p = and_parts (not (any (key_eq l) ks)) (once ks) d in
    elim (cases_Bool (key_eq q l)) [
      | inl t ↦
          let z : 0 ≡ i = some_same 0 i (sym (place_first q l ks t) ∙ e) in
          let ql = key_same q l t in
          let first : y ≡ h l = sym hy ∙ ap h ql in
          let others : map h ks ≡ map g ks =
          map_same g h ks (λ m j. other m (or_right (key_eq m l) (any (key_eq m) ks) j)
          (key_apart m q (λ s. both_ways (any (key_eq l) ks) (not-true (any (key_eq l) ks) p.0) (any_same l m ks (sym ql ∙ sym s) ∙ j)))) in
          subst (λ (n : ℕ). set (g l ∷ map g ks) n y ≡ h l ∷ map h ks) z (λ j. first j ∷ sym others j)
      | inr t ↦
          let m = later_some (place q ks) i (sym (place_later q l ks t) ∙ e) in
          let first : g l ≡ h l = sym (other l (or_left (key_eq l l) (any (key_eq l) ks) (key_refl l)) (key_turn q l t)) in
          let rest = set_map ks g h q m.0 y m.1 p.1 hy (λ v j. other v (or_right (key_eq v l) (any (key_eq v) ks) j)) in
          subst (λ (n : ℕ). set (g l ∷ map g ks) n y ≡ h l ∷ map h ks) (sym m.2) (λ j. first j ∷ rest j)
    ]
