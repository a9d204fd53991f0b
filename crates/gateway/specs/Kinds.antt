-- The kinds of a gateway, by what their traits say of them, and what filters and places mean by them.
use Rattle.std.specs.Prelude.{ℕ, Bool, List, map, take, Result}
use Rattle.kinds.specs.declared.address.Address as Address
use Rattle.kinds.specs.declared.cost.Cost as Cost
use Rattle.kinds.specs.declared.plain.Plain as Plain
use Rattle.kinds.specs.declared.written.Written as Written
use Rattle.filters.specs.declared.fault.FilterFault.{FilterFault}
use Rattle.filters.specs.declared.filter.Filter.{Filter}
use Rattle.filters.specs.Meaning.{Record}
use Rattle.filters.specs.Meaning.{rule_of, rules}
use Rattle.filters.specs.Refusals.{filter_verdict}
use Rattle.filters.specs.Rules.{Rule, better}
use Rattle.tables.specs.declared.fault.LoadFault.{LoadFault}
use Rattle.tables.specs.Format.{Kind, kind}
use Rattle.book.specs.declared.book.Book.{Book}
use Rattle.grid.specs.declared.grid.Grid.{Grid}
use Rattle.book.specs.Loads.{load_verdict, table_rules}

-- what the traits say of the kinds of destination, source and cost
pub record Kinds (D S C D' S' C' : Type 0) : Type 1 where
  pub dst : Address.Ghosts D D'
  pub dst_written : Written.Ghosts D D'
  pub dst_plain : Plain.Ghosts D'
  pub src : Address.Ghosts S S'
  pub src_written : Written.Ghosts S S'
  pub src_plain : Plain.Ghosts S'
  pub cost : Cost.Ghosts C C'
  pub cost_written : Written.Ghosts C C'
  pub cost_plain : Plain.Ghosts C'

abbrev pub kinds_of : {D S C D' S' C' : Type 0} → Address.Ghosts D D' → Written.Ghosts D D' → Plain.Ghosts D' → Address.Ghosts S S' → Written.Ghosts S S' → Plain.Ghosts S'
    → Cost.Ghosts C C' → Written.Ghosts C C' → Plain.Ghosts C' → Kinds D S C D' S' C'
kinds_of dst dst_written dst_plain src src_written src_plain cost cost_written cost_plain =
    record {
      dst = dst;
      dst_written = dst_written;
      dst_plain = dst_plain;
      src = src;
      src_written = src_written;
      src_plain = src_plain;
      cost = cost;
      cost_written = cost_written;
      cost_plain = cost_plain;
    }

-- a book of these kinds
abbrev pub BookOf : {D S C D' S' C' : Type 0} → Kinds D S C D' S' C' → Type 0
BookOf {D} {S} {C} {D'} {S'} {C'} K = Book D S C D' S' C' K.dst K.dst_written K.dst_plain K.src K.src_written K.src_plain K.cost K.cost_written K.cost_plain

-- a grid of these kinds
abbrev pub GridOf : {D S C D' S' C' : Type 0} → Kinds D S C D' S' C' → Type 0
GridOf {D} {S} {C} {D'} {S'} {C'} K = Grid D S C D' S' C' K.dst K.dst_written K.dst_plain K.src K.src_written K.src_plain K.cost K.cost_written K.cost_plain

-- the labels of filters, in their order
abbrev pub labels_of : {C : Type 0} → List (Rule C) → List ℕ
labels_of F = map (λ f. f.label) F

module _ {D S C D' S' C' : Type 0} (K : Kinds D S C D' S' C') where
  -- the first filter is better than the second
  abbrev pub ahead : Rule C → Rule C → Bool
  ahead = better K.cost.order

  -- the rule that a filter states
  abbrev pub rule_in : Filter D S C → Rule C
  rule_in = rule_of K.dst.string K.src.string

  -- the rules that places hold
  abbrev pub rules_in : List (Record D' S' C') → List (Rule C)
  rules_in = rules K.dst.spells K.src.spells K.cost_written.reads

  -- the rules of the filters that are in a book
  abbrev pub filters_in : BookOf K → List (Rule C)
  filters_in b = rules_in (take b.used b.places.now)

  -- the first refusal of a filter; `used` says whether its label is in use already
  abbrev pub refusal_of : Bool → Filter D S C → Result (Unit {0}) FilterFault
  refusal_of used f = filter_verdict K.dst.string K.src.string K.dst.WIDTH K.src.WIDTH used f

  -- what a table says of the three kinds
  abbrev pub dst_kind : Kind
  dst_kind = kind K.dst_written.CODE K.dst_written.SIZE

  abbrev pub src_kind : Kind
  src_kind = kind K.src_written.CODE K.src_written.SIZE

  abbrev pub cost_kind : Kind
  cost_kind = kind K.cost_written.CODE K.cost_written.SIZE

  -- the answer of loading a table where so many filters have room, and the filters that a table states
  abbrev pub loading : ℕ → List ℕ → Result ℕ LoadFault
  loading capacity bytes = load_verdict dst_kind src_kind cost_kind K.cost_written.value capacity bytes

  abbrev pub filters_of : List ℕ → List (Rule C)
  filters_of bytes = table_rules dst_kind src_kind cost_kind K.cost_written.value bytes
