-- Loading and writing one after the other.
use Rattle.std.specs.Prelude.{◌≡◌, ℕ, List, ◌++◌, length, take, drop, Ok, Err, Result}
use Rattle.tables.specs.declared.fault.LoadFault.{LoadFault}
use Rattle.tables.specs.declared.fault.WriteFault.{WriteFault}
use Rattle.tables.specs.declared.turn.TurnFault.{TurnFault}
use Rattle.tables.specs.declared.turn.TurnFault.TheVariants.{Load, Write}
use Rattle.tables.specs.Format.{Entry}
use Rattle.tables.specs.Memory.{Loaded}

-- the writing's answer
abbrev pub write_turn : Result ℕ WriteFault → Result ℕ TurnFault
write_turn (Ok n) = Ok n
write_turn (Err e) = Err (Write e)

-- the loading's refusal, or what writing so many filters answers
abbrev pub load_turn : Result ℕ LoadFault → (ℕ → Result ℕ WriteFault) → Result ℕ TurnFault
load_turn (Ok n) write = write_turn (write n)
load_turn (Err e) write = Err (Load e)

-- the places are as loading n filters leaves them, but where that was refused
abbrev pub Placed : {R : Type 0} → (R → Entry) → List Entry → List R → List R → ℕ → Result ℕ TurnFault → Type 0
Placed entry rs before after n (Ok m) = Loaded entry rs before after (Ok n)
Placed entry rs before after n (Err (Write e)) = Loaded entry rs before after (Ok n)
Placed entry rs before after n (Err (Load e)) = after ≡ before

-- the buffer begins with the same bytes, and later ones stay; refused, all stay
abbrev pub Rewritten : List ℕ → List ℕ → List ℕ → Result ℕ TurnFault → Type 0
Rewritten bytes before after (Ok n) = (n ≡ length bytes) × (after ≡ bytes ++ drop n before)
Rewritten bytes before after (Err e) = after ≡ before

-- the writing's refusal, or what loading then answers
abbrev pub write_load : Result ℕ WriteFault → Result ℕ LoadFault → Result ℕ TurnFault
write_load (Err e) load = Err (Write e)
write_load (Ok n) (Ok m) = Ok m
write_load (Ok n) (Err e) = Err (Load e)

-- the places are as loading leaves them
abbrev pub Into : {R : Type 0} → (R → Entry) → List Entry → List R → List R → Result ℕ TurnFault → Type 0
Into entry rs before after (Ok n) = Loaded entry rs before after (Ok n)
Into entry rs before after (Err e) = after ≡ before

-- the first places are the same as those written, and later ones stay; only for want of room in the buffer is it refused
abbrev pub Reloaded : {R : Type 0} → List R → List R → List R → Result ℕ TurnFault → Type 0
Reloaded places before after (Ok n) = (n ≡ length places) × (take n after ≡ places) × (drop n after ≡ drop n before)
Reloaded places before after (Err (Write e)) = after ≡ before
Reloaded places before after (Err (Load e)) = ⊥
