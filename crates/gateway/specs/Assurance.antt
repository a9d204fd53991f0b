-- The assurance: what holds of every lookup after every history.
use Rattle.std.specs.Prelude.{◌≡◌, ℕ, ◌+◌, ◌*◌, ◌≤◌, true, false, List, map, length, take, Some, None, Option}
use Rattle.std.specs.declared.cmp.Ordering.{Ordering}
use Rattle.kinds.specs.declared.address.Address as Address
use Rattle.kinds.specs.declared.cost.Cost as Cost
use Rattle.kinds.specs.declared.plain.Plain as Plain
use Rattle.kinds.specs.declared.written.Written as Written
use Rattle.kinds.specs.Strings.{Str}
use Rattle.filters.specs.declared.directive.Directive.{Directive}
use Rattle.filters.specs.Directives.{named}
use Rattle.filters.specs.Orders.{In, Each, Apart, Alike, Best}
use Rattle.filters.specs.Rules.{Rule, linear, matches}
use Rattle.tries.specs.Shape.{nodes}
use Rattle.tries.specs.Search.{visits, back_visits}
use Rattle.book.specs.Books.{capacity_of}
use Rattle.grid.specs.Derived.{Key, key_eq, is_key, place, once, Derived}
use Rattle.grid.specs.Trails.{visited, Trailed}
use Rattle.tries.specs.Prefixes.{any}
use Rattle.grid.specs.Refusals.{trail_verdict}
use Rattle.gateway.specs.Kinds.{Kinds, kinds_of, BookOf, GridOf, ahead, filters_in}
use Rattle.gateway.specs.declared.gateway.Gateway.{Gateway}
use Rattle.gateway.specs.declared.history.Call.{Call}
use Rattle.gateway.specs.declared.history.Call.TheVariants.{Add, Withdraw, Clear, Load, Install, Build, Classify, Trail}
use Rattle.gateway.specs.declared.history.Outcome.{Outcome}
use Rattle.gateway.specs.History.{Left, step}

-- ---- what is right of a lookup of the addresses d and s, F being the built filters

-- the choice names a filter of F that matches; every other one that matches costs at least as much, and at equal cost has a
-- larger label. It names none where none matches, and only there
abbrev pub NamesTheBest : {C : Type 0} → (C → C → Ordering) → List (Rule C) → Str → Str → Option (ℕ × Directive) → Type 0
NamesTheBest {C} order F d s None = (f : Rule C) → In f F → matches d s f ≡ false
NamesTheBest {C} order F d s (Some a) = (f : Rule C) × (a ≡ (f.label, f.directive)) × Best order F d s f

-- the answer of a lookup: its choice and its visits
abbrev pub Answer : Type 0
Answer = Option (ℕ × Directive) × ℕ

-- what is promised of an answer; wd and ws are the widths
pub record Right {C : Type 0} (order : C → C → Ordering) (wd ws : ℕ) (F : List (Rule C)) (d s : Str) (a : Answer) : Type 0 where
  pub best : NamesTheBest order F d s a.0
  -- the visits are those of the definition, at most both widths plus two, and at most those of backtracking
  pub visited : a.1 ≡ visits F d s
  pub few : a.1 ≤ wd + ws + 2
  pub no_more : a.1 ≤ back_visits F d s

-- ---- a book and a grid after a history

-- the kinds of a gateway, by its type
abbrev pub kinds_in : {D S C D' S' C' : Type 0} {dst : Address.Ghosts D D'} {dst_written : Written.Ghosts D D'} {dst_plain : Plain.Ghosts D'} {src : Address.Ghosts S S'} {src_written : Written.Ghosts S S'} {src_plain : Plain.Ghosts S'} {cost : Cost.Ghosts C C'} {cost_written : Written.Ghosts C C'} {cost_plain : Plain.Ghosts C'}
    → Gateway D S C D' S' C' dst dst_written dst_plain src src_written src_plain cost cost_written cost_plain → Kinds D S C D' S' C'
kinds_in {dst} {dst_written} {dst_plain} {src} {src_written} {src_plain} {cost} {cost_written} {cost_plain} w =
    kinds_of dst dst_written dst_plain src src_written src_plain cost cost_written cost_plain

module _ {D S C D' S' C' : Type 0} (K : Kinds D S C D' S' C') where
  -- what a lookup of two addresses answers
  abbrev pub answer_of : List (Rule C) → Str → Str → Answer
  answer_of F d s = (named (linear (ahead K) F d s), visits F d s)

  -- book and grid stand as a history leaves them: each place used holds a filter of the book, and the nodes are derived from
  -- the built filters
  pub record Stands (l : Left C) (b : BookOf K) (g : GridOf K) : Type 0 where
    pub held : filters_in K b ≡ l.book
    pub whole : length l.book ≡ b.used
    pub derived : Derived (ahead K) l.built g.nodes.now g.used
    pub apart : Apart l.built
    pub short : Each (λ f. (length f.destination ≤ K.dst.WIDTH) × (length f.source ≤ K.src.WIDTH)) l.built

  -- a gateway of these kinds
  abbrev pub GatewayOf : Type 0
  GatewayOf = Gateway D S C D' S' C' K.dst K.dst_written K.dst_plain K.src K.src_written K.src_plain K.cost K.cost_written K.cost_plain

  -- a gateway stands as a history leaves it
  abbrev pub After : Left C → GatewayOf → Type 0
  After l w = Stands l w.book.now w.grid.now

  -- how many filters a gateway has room for, and its node places
  abbrev pub room_of : GatewayOf → ℕ
  room_of w = capacity_of (length w.book.now.places.now)

  abbrev pub places_of : GatewayOf → ℕ
  places_of w = length w.grid.now.nodes.now

  -- a call takes a gateway that stands as a history leaves it to one that stands as the history with this call leaves it
  pub record Follows (c : Call D S C) (w w' : GatewayOf) : Type 0 where
    pub room : room_of w' ≡ room_of w
    pub places : places_of w' ≡ places_of w
    pub leaves : (l : Left C) → After l w → After (step K (room_of w) (places_of w) l c) w'

  -- what a call leaves of the trail memory: an accepted trail writes the places of the visited nodes under the numbering of the grid
  -- that the gateway has, a refused one writes nothing, and no other call writes there
  abbrev pub Writes : Call D S C → GatewayOf → List ℕ → List ℕ → Type 0
  Writes (Add f) w t t' = t' ≡ t
  Writes (Withdraw n) w t t' = t' ≡ t
  Writes Clear w t t' = t' ≡ t
  Writes (Load bytes) w t t' = t' ≡ t
  Writes (Install bytes) w t t' = t' ≡ t
  Writes Build w t t' = t' ≡ t
  Writes (Classify d s) w t t' = t' ≡ t
  Writes (Trail d s) w t t' =
      (l : Left C) → (h : After l w)
      → Trailed h.derived.keys l.built (K.dst.string d) (K.src.string s) t t'
      (trail_verdict (length t) K.dst.WIDTH K.src.WIDTH (answer_of l.built (K.dst.string d) (K.src.string s)))

  -- ---- the assurance

  -- what holds of the lookup of d and s behind a history that leaves l, with so many trail places: it is right for the built
  -- filters and equals the reading of every one of them, an accepted trail answers the same, and the last accepted build used at
  -- most one node and, for each filter, both widths and one more
  pub record Assured (l : Left C) (d s : Str) (places : ℕ) (o : Outcome) : Type 0 where
    pub apart : Apart l.built
    pub found : Right K.cost.order K.dst.WIDTH K.src.WIDTH l.built d s o.found
    pub equals : o.found ≡ answer_of l.built d s
    pub trailed : o.trailed ≡ trail_verdict places K.dst.WIDTH K.src.WIDTH o.found
    pub counted : o.nodes ≡ nodes l.built
    pub bounded : o.nodes ≤ 1 + length l.built * (K.dst.WIDTH + K.src.WIDTH + 1)

  -- what holds of the same lookup behind two histories: both are assured, and where the built filters are the same, in any order,
  -- so are choice and visits, however memories and histories differ
  pub record Assurance (l m : Left C) (d s : Str) (n k : ℕ) (o : Outcome × Outcome) : Type 0 where
    pub first : Assured l d s n o.0
    pub second : Assured m d s k o.1
    pub same : Alike l.built m.built → (o.0.found ≡ o.1.found) × (o.0.nodes ≡ o.1.nodes)

-- ---- the trail memory behind a history

-- the memory of an accepted trail of d and s, F being the built filters: there is a numbering of the nodes, each once and no others,
-- and the first places hold the numbers of the visited nodes, in order
pub record Marked {C : Type 0} (F : List (Rule C)) (d s : Str) (t : List ℕ) : Type 0 where
  pub keys : List Key
  pub distinct : once keys ≡ true
  pub whole : (k : Key) → any (key_eq k) keys ≡ is_key F k
  pub places : map Some (take (visits F d s) t) ≡ map (λ k. place k keys) (visited F d s)
