-- What a filter means as it comes in, and what a place of memory holds.
use Rattle.std.specs.Prelude.{ℕ, List, [], ◌∷◌, ◌++◌, take, Some, None, Option, nat_lt}
use Rattle.std.specs.declared.cmp.Ordering.{Ordering}
use Rattle.kinds.specs.Strings.{Str}
use Rattle.filters.specs.declared.filter.Prefix.{Prefix}
use Rattle.filters.specs.declared.filter.Filter.{Filter}
use Rattle.filters.specs.Rules.{Rule, by_cost, count}

-- a place keeps a filter by the patterns of its addresses and its cost
abbrev pub Record : Type 0 → Type 0 → Type 0 → Type 0
Record D S C = Filter D S C

-- a prefix is the string of the first bits of its address, as many as its length
abbrev pub prefix_of : {A : Type 0} → (A → Str) → Prefix A → Str
prefix_of string p = take p.length (string p.address)

-- the rule that a filter states, given the strings of its addresses
abbrev pub rule_of : {D S C : Type 0} → (D → Str) → (S → Str) → Filter D S C → Rule C
rule_of dst src f =
    record {
      label = f.label;
      destination = prefix_of dst f.destination;
      source = prefix_of src f.source;
      cost = f.cost;
      directive = f.directive;
    }

-- a prefix with another spelling of its address
abbrev pub respelt : {A B : Type 0} → (A → B) → Prefix A → Prefix B
respelt spell p = record { address = spell p.address; length = p.length }

-- the place that keeps a filter, given the patterns of its addresses and cost
abbrev pub record_of : {D S C D' S' C' : Type 0} → (D → D') → (S → S') → (C → C') → Filter D S C → Record D' S' C'
record_of dst src cost f =
    record {
      label = f.label;
      destination = respelt dst f.destination;
      source = respelt src f.source;
      cost = cost f.cost;
      directive = f.directive;
    }

-- ---- what places hold, given what the patterns of addresses spell and what the pattern of a cost reads as
module _ {D S P C : Type 0} (dst : D → Str) (src : S → Str) (reads : P → Option C) where
  -- the rule at a place whose cost has been read; a place whose cost is unlawful holds none
  abbrev pub held_at : Record D S P → Option C → List (Rule C)
  held_at r None = []
  held_at r (Some c) =
      record {
        label = r.label;
        destination = prefix_of dst r.destination;
        source = prefix_of src r.source;
        cost = c;
        directive = r.directive;
      }
      ∷ []

  abbrev pub held : Record D S P → List (Rule C)
  held r = held_at r (reads r.cost)

  -- the rules that places hold, in their order
  abbrev pub rules : List (Record D S P) → List (Rule C)
  rules [] = []
  rules (r ∷ rs) = held r ++ rules rs

-- how many of the filters are better than one of this cost and label
abbrev pub standing_of : {C : Type 0} → (C → C → Ordering) → List (Rule C) → C → ℕ → ℕ
standing_of order F cost label = count (λ g. by_cost (order g.cost cost) (nat_lt g.label label)) F
