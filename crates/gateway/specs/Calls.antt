-- What the calls of a gateway answer, and what they leave in every place of its two memories.
use Rattle.std.specs.Prelude.{◌≡◌, ℕ, ◌+◌, ◌-◌, cond, List, ◌++◌, length, take, drop, Ok, Err, Result, MatchResult, slice_set}
use Rattle.filters.specs.declared.filter.Filter.{Filter}
use Rattle.filters.specs.Meaning.{record_of}
use Rattle.tables.specs.declared.fault.LoadFault.{LoadFault}
use Rattle.tables.specs.Format.{entry_of, decode}
use Rattle.tables.specs.Memory.{Loaded}
use Rattle.tables.specs.Verdict.{has}
use Rattle.tries.specs.Shape.{nodes}
use Rattle.book.specs.declared.fault.AddFault.{AddFault}
use Rattle.book.specs.declared.fault.WithdrawFault.{WithdrawFault}
use Rattle.book.specs.Books.{capacity_of, add_verdict, withdraw_verdict, after}
use Rattle.book.specs.Labels.{without}
use Rattle.tables.specs.Verdict.{labels}
use Rattle.book.specs.Loads.{count_after}
use Rattle.grid.specs.declared.build.BuildFault.{BuildFault}
use Rattle.grid.specs.declared.build.BuildFault.TheVariants.{Places}
use Rattle.grid.specs.Derived.{Derived}
use Rattle.grid.specs.Refusals.{too_few}
use Rattle.gateway.specs.declared.fault.InstallFault.{InstallFault}
use Rattle.gateway.specs.declared.fault.InstallFault.TheVariants.{Load, Build}
use Rattle.gateway.specs.declared.gateway.Installed.{Installed}
use Rattle.gateway.specs.Kinds.{Kinds, BookOf, GridOf, ahead, refusal_of, filters_in, dst_kind, src_kind, cost_kind, loading, filters_of}

module _ {D S C D' S' C' : Type 0} (K : Kinds D S C D' S' C') where
  -- adding a filter: the answer, the place behind the last, the count
  pub record Adds (f : Filter D S C) (r : Result (Unit {0}) AddFault) (b b' : BookOf K) : Type 0 where
    pub answer : r ≡ add_verdict (capacity_of (length b.places.now)) b.used (refusal_of K (has f.label (labels (take b.used b.places.now))) f)
    pub memory : b'.places.now ≡ after r (slice_set b.places.now b.used (record_of K.dst_written.pattern K.src_written.pattern K.cost_written.pattern f)) b.places.now
    pub count : b'.used ≡ after r (b.used + 1) b.used

  -- withdrawing a label: later places move down by one, and the last one used keeps its content
  pub record Withdraws (n : ℕ) (r : Result (Unit {0}) WithdrawFault) (b b' : BookOf K) : Type 0 where
    pub answer : r ≡ withdraw_verdict (has n (labels (take b.used b.places.now)))
    pub memory : b'.places.now ≡ after r (without (λ x. x.label) n (take b.used b.places.now) ++ drop (b.used - 1) b.places.now) b.places.now
    pub count : b'.used ≡ after r (b.used - 1) b.used

  -- clearing: the memory stays
  pub record Clears (b b' : BookOf K) : Type 0 where
    pub memory : b'.places.now ≡ b.places.now
    pub count : b'.used ≡ 0

  -- loading a table: its filters are in the first places, and those behind stay
  pub record Loads (bytes : List ℕ) (r : Result ℕ LoadFault) (b b' : BookOf K) : Type 0 where
    pub answer : r ≡ loading K (capacity_of (length b.places.now)) bytes
    pub memory : Loaded (entry_of K.dst_written.number K.src_written.number K.cost_written.number) (decode (dst_kind K) (src_kind K) (cost_kind K) bytes) b.places.now b'.places.now r
    pub count : b'.used ≡ count_after r b.used

  -- building: each node is derived from the book's filters and every place behind is empty, or nothing changes
  pub record Builds (r : Result ℕ BuildFault) (b : BookOf K) (g g' : GridOf K) : Type 0 where
    pub answer : r ≡ cond (too_few (length g.nodes.now) b.used K.dst.WIDTH K.src.WIDTH) (Err Places) (Ok (nodes (filters_in K b)))
    pub memory : MatchResult r (λ _. Derived (ahead K) (filters_in K b) g'.nodes.now g'.used) (λ _. g'.nodes.now ≡ g.nodes.now)
    pub count : g'.used ≡ after r (nodes (filters_in K b)) g.used

  -- the answer of installing a table, given that of loading it: the load's refusal, or the build's, or how many filters and nodes there are
  abbrev pub installing : ℕ → List ℕ → Result ℕ LoadFault → Result Installed InstallFault
  installing places bytes (Err e) = Err (Load e)
  installing places bytes (Ok n) =
      cond (too_few places n K.dst.WIDTH K.src.WIDTH) (Err (Build Places)) (Ok (record { filters = n; nodes = nodes (filters_of K bytes) }))

  -- installing: load and then build. A refused load changes nothing; a refused build leaves the loaded book and the old grid
  pub record Installs (bytes : List ℕ) (r : Result Installed InstallFault) (b b' : BookOf K) (g g' : GridOf K) : Type 0 where
    pub answer : r ≡ installing (length g.nodes.now) bytes (loading K (capacity_of (length b.places.now)) bytes)
    pub book : Loads bytes (loading K (capacity_of (length b.places.now)) bytes) b b'
    pub grid : MatchResult r (λ _. Derived (ahead K) (filters_in K b') g'.nodes.now g'.used) (λ _. (g'.nodes.now ≡ g.nodes.now) × (g'.used ≡ g.used))
