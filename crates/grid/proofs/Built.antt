-- A build: filters inserted, and the used part finished, make the derived grid.
use Rattle.std.proofs.Common.{◌≡◌, ℕ, ◌+◌, ◌-◌, ◌<◌, ◌≤◌, Bool, true, List, [], ◌∷◌, ◌++◌, map, length, take, drop, replicate, Some, None, Option, sym, ap, ◌∙◌, subst, inl, inr, arith}
use Rattle.std.proofs.lemmas.List.{length-append, length-drop, length-map, length-take, take_at, drop_at, replicate-append-replicate}
use Rattle.kinds.specs.Strings.{Str}
use Rattle.filters.specs.Meaning.{Record}
use Rattle.filters.specs.Rules.{Rule}
use Rattle.filters.specs.Meaning.{held, held_at, rules}
use Rattle.filters.specs.Orders.{In, Apart, Order}
use Rattle.tries.specs.Shape.{nodes as nodes_of}
use Rattle.grid.specs.declared.node.Node.{Node}
use Rattle.grid.specs.declared.node.Node.TheVariants.{Empty}
use Rattle.grid.specs.Nodes.{bare}
use Rattle.grid.specs.Derived.{node_of, Derived}
use Rattle.grid.specs.Build.{Safe, raw, own_of, Filled}
use Rattle.grid.specs.Finish.{finish_below}
use Rattle.grid.proofs.Fills.{in_either}
use Rattle.grid.proofs.Finished.{all_done}
use Rattle.grid.proofs.Counts.{keys_count}
use Rattle.grid.proofs.Soundness.{sound_below, sound_take, safe_front, bare_is}

-- emptying the used places empties all
pub emptied : (u : ℕ) (N M : List Node) → u ≤ length N → bare (drop u N) ≡ true → M ≡ replicate u Empty ++ drop u N → M ≡ replicate (length N) Empty
emptied u N M fits rest e =
    let l = length-drop u N in
    let n : u + length (drop u N) ≡ length N = omega arith in
    e ∙ ap (λ (r : List Node). replicate u Empty ++ r) (bare_is (drop u N) rest) ∙ replicate-append-replicate u (length (drop u N)) Empty
    ∙ ap (λ (m : ℕ). replicate {A = Node} m Empty) n

-- no destination has more bits than its kind
pub rules_short : {D S P C : Type 0} (dst : D → Str) (src : S → Str) (reads : P → Option C) (w : ℕ) → ((p : D) → length (dst p) ≡ w)
    → (xs : List (Record D S P)) (f : Rule C) → In f (rules dst src reads xs) → length f.destination < w + 1
rules_short dst src reads w wide [] f h = absurd h
rules_short {D} {S} {P} {C} dst src reads w wide (x ∷ xs) f h =
    elim (in_either f (held dst src reads x) (rules dst src reads xs) h) [
      | inl i ↦ at (reads x.cost) i
      | inr i ↦ rules_short dst src reads w wide xs f i
    ]
  where
    at : (o : Option C) → In f (held_at dst src reads x o) → length f.destination < w + 1
    at None i = absurd i
    at (Some c) (inl e) =
        let a = ap (λ (z : Rule C). length z.destination) e in
        let b = length-take x.destination.length (dst x.destination.address) in
        let c = wide x.destination.address in
        omega arith
    at (Some c) (inr i) = absurd i

-- the memory M has the used part of N, finished, before the rest as it was
module _ {C : Type 0} (lt : Rule C → Rule C → Bool) (ord : Order lt) (F : List (Rule C)) (N M : List Node) (used : ℕ) (safe : Safe used N) (fill : Filled lt F F N used)
    (n : ℕ) (short : (f : Rule C) → In f F → length f.destination < n) (same : length M ≡ length N)
    (is : M ≡ finish_below n (take used N) F ++ drop used N) where
  front_long : length (finish_below n (take used N) F) ≡ used
  front_long =
      let a = length-append (finish_below n (take used N) F) (drop used N) in
      let b = length-drop used N in
      let c = safe.fits in
      let d = ap (λ (x : List Node). length x) is in
      omega arith

  pub built_safe : Safe used M
  built_safe =
      subst (λ (x : List Node). Safe used x) (sym is)
      (safe_front used N (finish_below n (take used N) F) safe front_long (sound_below used n F (take used N) (sound_take used used N safe.linked)))

  pub built_count : used ≡ nodes_of F
  built_count = sym fill.state.long ∙ keys_count F fill.keys fill.state.distinct fill.whole

  rest_is : drop used N ≡ replicate (length N - used) Empty
  rest_is =
      ap (drop used) fill.state.nodes
      ∙ drop_at (map (raw (own_of lt F F) fill.keys) fill.keys) (replicate (length N - used) Empty) used (length-map fill.keys (raw (own_of lt F F) fill.keys) ∙ fill.state.long)

  front_is : take used N ≡ map (raw (own_of lt F F) fill.keys) fill.keys
  front_is =
      ap (take used) fill.state.nodes
      ∙ take_at (map (raw (own_of lt F F) fill.keys) fill.keys) (replicate (length N - used) Empty) used (length-map fill.keys (raw (own_of lt F F) fill.keys) ∙ fill.state.long)

  pub built_grid : Apart F → Derived lt F M used
  built_grid apart =
      record {
        keys = fill.keys;
        long = fill.state.long;
        distinct = fill.state.distinct;
        whole = fill.whole;
        rooted = fill.state.rooted;
        nodes =
            is
            ∙ ap (λ (x : List Node). x ++ drop used N) (all_done lt ord F apart fill.keys fill.state.distinct fill.whole fill.state.rooted n short (take used N) front_is)
            ∙ ap (λ (x : List Node). map (node_of lt F fill.keys) fill.keys ++ x) rest_is
            ∙ ap (λ (k : ℕ). map (node_of lt F fill.keys) fill.keys ++ replicate (k - used) Empty) (sym same);
      }
