-- How an input falls into items: socket 16 bits, length 16 bits, and a packet of that length.
use Rattle.std.specs.Prelude.{ℕ, ◌+◌, Bool, true, false, cond, List, [], length, drop, Some, None, Ok, Err, Option, Result, ◌==◌, nat_lt}
use Rattle.std.specs.Borrow.{Bor}
use Rattle.packets.specs.Header.{part, number}
use Rattle.report.specs.declared.items.Item.{Item}
use Rattle.report.specs.declared.items.ItemFault.{ItemFault}
use Rattle.report.specs.declared.items.ItemFault.TheVariants.{Long, Short}

-- what stands at the front of an input
pub data Front : Type 0 where
  whole : ℕ → List ℕ → Front
  long : Front
  short : Front
  end : Front

-- the length that an item's head gives for its packet
abbrev pub announced : List ℕ → ℕ
announced b = number (part 2 4 b)

-- the first item: none at the end, else a head of four bytes, a packet of at most 1500 bytes, and all of it there
abbrev pub front : List ℕ → Front
front b =
    cond (length b == 0) end
    (cond (nat_lt (length b) 4) short
    (cond (nat_lt 1500 (announced b)) long
    (cond (nat_lt (length b) (4 + announced b)) short
    (whole (number (part 0 2 b)) (part 4 (4 + announced b) b)))))

-- the input goes on behind a whole item only
abbrev pub goes_on : Front → Bool
goes_on (whole socket packet) = true
goes_on long = false
goes_on short = false
goes_on end = false

-- what stands behind the first item
abbrev pub behind : List ℕ → List ℕ
behind b = cond (goes_on (front b)) (drop (4 + announced b) b) b

-- how many bytes an item takes, as far as its first bytes say
abbrev pub needed : List ℕ → ℕ
needed b = cond (nat_lt (length b) 4) 4 (cond (nat_lt 1500 (announced b)) 4 (4 + announced b))

-- what is left to read behind the first item: nothing behind a fault
abbrev pub left : List ℕ → List ℕ
left b = cond (goes_on (front b)) (behind b) []

-- what reading gave, by its values: an item, a fault, or nothing at the end
abbrev pub meant : Option (Result Item ItemFault) → Front
meant None = end
meant (Some (Ok i)) = whole i.socket i.packet.now
meant (Some (Err Long)) = long
meant (Some (Err Short)) = short

-- the same, where what stands behind the item is given with it
abbrev pub split_means : Result (Option (Item × Bor (List ℕ))) ItemFault → Front
split_means (Ok None) = end
split_means (Ok (Some p)) = meant (Some (Ok p.0))
split_means (Err e) = meant (Some (Err e))
