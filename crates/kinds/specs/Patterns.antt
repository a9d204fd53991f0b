-- Reading a pattern: which numbers are lawful, and what they read as.
use Rattle.std.specs.Prelude.{ℕ, ◌<◌, Bool, true, false, T, Some, None, Option, nat_lt}
use Rattle.std.proofs.Common.{ltb→lt}
use Rattle.kinds.specs.declared.written.PatternFault.{PatternFault}
use Rattle.kinds.specs.declared.written.PatternFault.TheVariants.{Unlawful}

-- what a pattern reads as, by the test whether its number is below the limit
abbrev pub fitting_by : {P X : Type 0} (number : P → ℕ) (limit : ℕ) → ((p : P) → number p < limit → X) → (p : P) (t : Bool) → (T t → number p < limit) → Option X
fitting_by number limit make p true h = Some (make p (h tt))
fitting_by number limit make p false h = None

-- the patterns whose numbers are below a limit are lawful, and `make` says what each reads as
abbrev pub fitting : {P X : Type 0} (number : P → ℕ) (limit : ℕ) → ((p : P) → number p < limit → X) → P → Option X
fitting number limit make p = fitting_by number limit make p (nat_lt (number p) limit) (ltb→lt (number p) limit)

-- the same where patterns are numbers
abbrev pub below : {X : Type 0} (limit : ℕ) → ((n : ℕ) → n < limit → X) → ℕ → Option X
below limit make n = fitting (λ m. m) limit make n

-- the number of the refusal of a pattern
abbrev pub pattern_number : PatternFault → ℕ
pattern_number Unlawful = 18
