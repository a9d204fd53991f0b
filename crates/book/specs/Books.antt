-- What the calls of a book answer and leave.
use Rattle.std.specs.Prelude.{ℕ, min, Bool, cond, List, take, Ok, Err, Result, nat_lt}
use Rattle.kinds.specs.declared.address.Address.{Ghosts as Address}
use Rattle.kinds.specs.declared.cost.Cost.{Ghosts as Cost}
use Rattle.kinds.specs.declared.plain.Plain.{Ghosts as Plain}
use Rattle.kinds.specs.declared.written.Written.{Ghosts as Written}
use Rattle.filters.specs.declared.fault.FilterFault.{FilterFault}
use Rattle.filters.specs.Meaning.{Record}
use Rattle.filters.specs.Refusals.{filter_number}
use Rattle.book.specs.declared.book.Book.{Book}
use Rattle.book.specs.declared.fault.AddFault.{AddFault}
use Rattle.book.specs.declared.fault.AddFault.TheVariants.{Filter, Full}
use Rattle.book.specs.declared.fault.WithdrawFault.{WithdrawFault}
use Rattle.book.specs.declared.fault.WithdrawFault.TheVariants.{UnknownLabel}

-- the number of each refusal of adding: the filter's own, then 6
abbrev pub add_number : AddFault → ℕ
add_number (Filter fault) = filter_number fault
add_number Full = 6

-- the number of the refusal of withdrawing
abbrev pub withdraw_number : WithdrawFault → ℕ
withdraw_number UnknownLabel = 7

-- the places in use, in the book's order
abbrev pub in_use : {D S C D' S' C' : Type 0} {dst : Address D D'} {dst' : Written D D'} {dstp : Plain D'} {src : Address S S'} {src' : Written S S'} {srcp : Plain S'} {cost : Cost C C'} {cost' : Written C C'} {costp : Plain C'} → Book D S C D' S' C' dst dst' dstp src src' srcp cost cost' costp → List (Record D' S' C')
in_use b = take b.used b.places.now

-- a book has as many places as its memory, but at most 4,095
abbrev pub capacity_of : ℕ → ℕ
capacity_of places = min places 4095

-- adding: the filter's refusal, then a full book
abbrev pub add_verdict : ℕ → ℕ → Result (Unit {0}) FilterFault → Result (Unit {0}) AddFault
add_verdict capacity used (Err fault) = Err (Filter fault)
add_verdict capacity used (Ok x) = cond (nat_lt used capacity) (Ok tt) (Err Full)

-- withdrawing: refused where the label is not in the book
abbrev pub withdraw_verdict : Bool → Result (Unit {0}) WithdrawFault
withdraw_verdict known = cond known (Ok tt) (Err UnknownLabel)

-- the first where a call was accepted, the second where it was refused
abbrev pub after : {X A E : Type 0} → Result A E → X → X → X
after (Ok x) new old = new
after (Err e) new old = old
