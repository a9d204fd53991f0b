-- What a history of calls leaves: the filters in the book and the built filters, from the capacity, the number of node places
-- and the calls with their arguments alone.
use Rattle.std.specs.Prelude.{ℕ, Bool, cond, List, [], ◌∷◌, ◌++◌, length, Result}
use Rattle.filters.specs.declared.filter.Filter.{Filter}
use Rattle.filters.specs.Rules.{Rule}
use Rattle.tables.specs.Verdict.{has}
use Rattle.book.specs.declared.fault.AddFault.{AddFault}
use Rattle.book.specs.declared.fault.WithdrawFault.{WithdrawFault}
use Rattle.book.specs.Books.{add_verdict, withdraw_verdict, after}
use Rattle.book.specs.Labels.{without}
use Rattle.grid.specs.Refusals.{too_few}
use Rattle.gateway.specs.declared.history.Call.{Call}
use Rattle.gateway.specs.declared.history.Call.TheVariants.{Add, Withdraw, Clear, Load, Install, Build, Classify, Trail}
use Rattle.gateway.specs.Kinds.{Kinds, labels_of, rule_in, refusal_of, loading, filters_of}

-- what a history leaves: the filters in the book, and those of the last accepted build
pub record Left (C : Type 0) : Type 0 where
  pub book : List (Rule C)
  pub built : List (Rule C)

-- the making of book and grid leaves no filters
abbrev pub made : {C : Type 0} → Left C
made = record { book = []; built = [] }

module _ {D S C D' S' C' : Type 0} (K : Kinds D S C D' S' C') (capacity places : ℕ) where
  -- the answer of adding a filter to a book of these filters
  abbrev pub adding : List (Rule C) → Filter D S C → Result (Unit {0}) AddFault
  adding B f = add_verdict capacity (length B) (refusal_of K (has f.label (labels_of B)) f)

  -- the answer of withdrawing a label from a book of these filters
  abbrev pub withdrawing : List (Rule C) → ℕ → Result (Unit {0}) WithdrawFault
  withdrawing B n = withdraw_verdict (has n (labels_of B))

  -- the node places are too few for the filters in the book
  abbrev pub crowded : List (Rule C) → Bool
  crowded B = too_few places (length B) K.dst.WIDTH K.src.WIDTH

  -- an accepted add puts its filter last
  abbrev pub added : List (Rule C) → Filter D S C → List (Rule C)
  added B f = after (adding B f) (B ++ rule_in K f ∷ []) B

  -- a withdrawal takes its label's filter out
  abbrev pub withdrawn : List (Rule C) → ℕ → List (Rule C)
  withdrawn B n = after (withdrawing B n) (without (λ f. f.label) n B) B

  -- a load puts the table's filters there instead
  abbrev pub loaded : List (Rule C) → List ℕ → List (Rule C)
  loaded B bytes = after (loading K capacity bytes) (filters_of K bytes) B

  -- a build makes the built filters those in the book
  abbrev pub rebuilt : Left C → Left C
  rebuilt l = record { book = l.book; built = cond (crowded l.book) l.built l.book }

  -- installing is loading and, once that is accepted, building
  abbrev pub installed : Left C → List ℕ → Left C
  installed l bytes = after (loading K capacity bytes) (rebuilt (record { book = filters_of K bytes; built = l.built })) l

  -- what one more call leaves; refused calls and lookups change nothing
  abbrev pub step : Left C → Call D S C → Left C
  step l (Add f) = record { book = added l.book f; built = l.built }
  step l (Withdraw n) = record { book = withdrawn l.book n; built = l.built }
  step l Clear = record { book = []; built = l.built }
  step l (Load bytes) = record { book = loaded l.book bytes.now; built = l.built }
  step l (Install bytes) = installed l bytes.now
  step l Build = rebuilt l
  step l (Classify d s) = l
  step l (Trail d s) = l

  -- what further calls leave, one after another
  abbrev pub steps : Left C → List (Call D S C) → Left C
  steps l [] = l
  steps l (c ∷ cs) = steps (step l c) cs

  -- what a history leaves
  abbrev pub past : List (Call D S C) → Left C
  past calls = steps made calls
