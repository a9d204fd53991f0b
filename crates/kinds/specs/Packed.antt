-- Values that are made from a number below a limit.
use Rattle.std.specs.Prelude.{◌≡◌, ℕ, ◌<◌, ◌≤◌, Bool, true, false, T, Some, Ok, Err, Option, Result, nat_lt, refl}
use Rattle.std.proofs.Common.{sym, ap, subst, ◌∙◌, arith, ltb→lt, lt→ltb}
use Rattle.std.proofs.Math.Bridge.{le_prop}
use Rattle.std.specs.Option.{ok_or}
use Rattle.kinds.specs.declared.written.PatternFault.{PatternFault}
use Rattle.kinds.specs.declared.written.PatternFault.TheVariants.{Unlawful}
use Rattle.kinds.specs.Patterns.{below, fitting, fitting_by}

-- equal numbers make equal values, whatever the proofs that they are below the limit
pub same_made : {X : Type 0} {limit : ℕ} (make : (n : ℕ) → n < limit → X) {n m : ℕ} → n ≡ m → (h : n < limit) (k : m < limit) → make n h ≡ make m k
same_made {X} {limit} make {n} {m} e h k = subst (λ (v : ℕ). (j : v < limit) → make n h ≡ make v j) e (λ j. ap (make n) (le_prop h j)) k

-- ---- patterns whose numbers are below a limit
module _ {P X : Type 0} (number : P → ℕ) (limit : ℕ) (make : (p : P) → number p < limit → X) where
  -- such a pattern reads as what is made of it
  pub fitting_some : (p : P) (h : number p < limit) → fitting number limit make p ≡ Some (make p h)
  fitting_some p h = go (nat_lt (number p) limit) (ltb→lt (number p) limit) (lt→ltb (number p) limit h)
    where
      go : (t : Bool) (f : T t → number p < limit) → T t → fitting_by number limit make p t f ≡ Some (make p h)
      go true f x = ap {B = Option X} Some (ap (make p) (le_prop (f tt) h))
      go false f x = absurd x

  -- what is read was made of such a pattern
  pub fitting_made : (p : P) (x : X) → fitting number limit make p ≡ Some x → (h : number p < limit) × (make p h ≡ x)
  fitting_made p x = go (nat_lt (number p) limit) (ltb→lt (number p) limit)
    where
      go : (t : Bool) (f : T t → number p < limit) → fitting_by number limit make p t f ≡ Some x → (h : number p < limit) × (make p h ≡ x)
      go true f e = let i : make p (f tt) ≡ x = cc in (f tt, i)
      go false f e = let z : ◌≡◌ {A = ℕ} 0 1 = cc in absurd (omega arith)

  -- the answer of a reading where the pattern is unlawful
  pub reads_over : (p : P) → limit ≤ number p → ◌≡◌ {A = Result X PatternFault} (Err Unlawful) (ok_or (fitting number limit make p) Unlawful)
  reads_over p = go (nat_lt (number p) limit) (ltb→lt (number p) limit)
    where
      go : (t : Bool) (f : T t → number p < limit) → limit ≤ number p → ◌≡◌ {A = Result X PatternFault} (Err Unlawful) (ok_or (fitting_by number limit make p t f) Unlawful)
      go true f l = let k = f tt in absurd (omega arith)
      go false f l = refl

  -- what a lawful pattern reads as gives the pattern back, by any reading that undoes making
  pub fitting_back : (pattern : X → P) → ((p : P) (h : number p < limit) → pattern (make p h) ≡ p) → (p : P) (x : X) → fitting number limit make p ≡ Some x → pattern x ≡ p
  fitting_back pattern back p x e = let m = fitting_made p x e in ap pattern (sym m.1) ∙ back p m.0

-- ---- a kind whose values have patterns below a limit, where writing undoes making and making undoes writing
module _ {P X : Type 0} (number : P → ℕ) (limit : ℕ) (make : (p : P) → number p < limit → X) (pattern : X → P) (fits : (x : X) → number (pattern x) < limit) (again : (x : X) (h : number (pattern x) < limit) → make (pattern x) h ≡ x) where
  -- a pattern reads as the value that is written so
  pub fitting_written : (p : P) (x : X) → pattern x ≡ p → fitting number limit make p ≡ Some x
  fitting_written p x e =
      subst (λ (q : P). fitting number limit make q ≡ Some x) e (fitting_some number limit make (pattern x) (fits x) ∙ ap {B = Option X} Some (again x (fits x)))

  pub reads_written : (p : P) (x : X) → pattern x ≡ p → ◌≡◌ {A = Result X PatternFault} (Ok x) (ok_or (fitting number limit make p) Unlawful)
  reads_written p x e = ap (λ (o : Option X). ok_or {E = PatternFault} o Unlawful) (sym (fitting_written p x e))

-- ---- where patterns are numbers
pub below_some : {X : Type 0} (limit : ℕ) (make : (n : ℕ) → n < limit → X) (n : ℕ) (h : n < limit) → below limit make n ≡ Some (make n h)
below_some limit make n h = fitting_some (λ m. m) limit make n h

pub reads_past : {X : Type 0} (limit : ℕ) (make : (n : ℕ) → n < limit → X) (n : ℕ) → limit ≤ n → ◌≡◌ {A = Result X PatternFault} (Err Unlawful) (ok_or (below limit make n) Unlawful)
reads_past limit make n l = reads_over (λ m. m) limit make n l

module _ {X : Type 0} (limit : ℕ) (make : (n : ℕ) → n < limit → X) (pack : X → ℕ) (fits : (x : X) → pack x < limit) (again : (x : X) (h : pack x < limit) → make (pack x) h ≡ x) where
  -- a number reads as the value that is packed into it
  pub below_packed : (n : ℕ) (x : X) → pack x ≡ n → below limit make n ≡ Some x
  below_packed n x e = fitting_written (λ m. m) limit make pack fits again n x e

  pub reads_packed : (n : ℕ) (x : X) → pack x ≡ n → ◌≡◌ {A = Result X PatternFault} (Ok x) (ok_or (below limit make n) Unlawful)
  reads_packed n x e = reads_written (λ m. m) limit make pack fits again n x e

  -- and the number that a value is packed into reads as the value
  pub below_again : (x : X) → below limit make (pack x) ≡ Some x
  below_again x = below_packed (pack x) x refl

-- ---- values that are made of two or three numbers, each below its own limit: equal numbers make equal values
pub same_two : {X : Type 0} {l k : ℕ} (make : (a b : ℕ) → a < l → b < k → X) {a b a' b' : ℕ} → a ≡ a' → b ≡ b' → (i : a < l) (j : b < k) (i' : a' < l) (j' : b' < k) → make a b i j ≡ make a' b' i' j'
same_two make {a} {b} {a'} {b'} d e i j i' j' = same_made (λ n m. make n b m j) d i i' ∙ same_made (λ n m. make a' n i' m) e j j'

pub same_three : {X : Type 0} {l k m : ℕ} (make : (a b c : ℕ) → a < l → b < k → c < m → X) {a b c a' b' c' : ℕ} → a ≡ a' → b ≡ b' → c ≡ c' → (i : a < l) (j : b < k) (h : c < m) (i' : a' < l) (j' : b' < k) (h' : c' < m) → make a b c i j h ≡ make a' b' c' i' j' h'
same_three make {a} {b} {c} {a'} {b'} {c'} d e f i j h i' j' h' =
    same_made (λ n p. make n b c p j h) d i i' ∙ same_two (λ x y p q. make a' x y i' p q) e f j h j' h'
