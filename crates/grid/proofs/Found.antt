-- What a search over the nodes of a derived grid gives: the choice of linear search, the visits of the definition, and their places
-- as notes.
use Rattle.std.proofs.Common.{◌≡◌, ℕ, ◌+◌, ◌-◌, ◌<◌, ◌≤◌, Bool, true, false, cond, List, [], ◌∷◌, ◌++◌, map, length, replicate, Some, None, Option, sym, refl, ap, ◌∙◌, subst, append-nil, arith}
use Rattle.std.proofs.lemmas.Bool.{both_ways}
use Rattle.std.proofs.lemmas.List.{nil_from_length, length-map, map-append}
use Rattle.std.proofs.lemmas.List.Edits.{sets}
use Rattle.std.proofs.lemmas.Simd.{map-map}
use Rattle.kinds.specs.Strings.{Str}
use Rattle.filters.specs.declared.directive.Directive.{Directive}
use Rattle.filters.specs.Directives.{named}
use Rattle.filters.specs.Rules.{Rule, scan, linear}
use Rattle.filters.specs.Orders.{Apart, Order}
use Rattle.filters.proofs.Bests.{none_some}
use Rattle.tries.specs.Prefixes.{any}
use Rattle.tries.specs.Shape.{has_dst, has_src, deepest}
use Rattle.tries.specs.Search.{led, walk, way, path, visits, kept, choice}
use Rattle.tries.proofs.Longest.{longest_some}
use Rattle.tries.proofs.Finds.{finds_the_best}
use Rattle.tries.proofs.Keys.{no_filters}
use Rattle.grid.specs.declared.node.Kept.{Kept}
use Rattle.grid.specs.declared.node.Node.{Node}
use Rattle.grid.specs.declared.node.Node.TheVariants.{Empty}
use Rattle.grid.specs.declared.search.Walk.{Walk}
use Rattle.std.specs.Option.{option_or}
use Rattle.grid.specs.Nodes.{node_at, root_of, kept_of}
use Rattle.grid.specs.Derived.{Key, destination, source, key_eq, later, place, Rooted, node_of, Derived}
use Rattle.grid.specs.Steps.{along, entered, step_down, places_down, met, step_on, places_on, told}
use Rattle.grid.specs.Trails.{visited, Noted}
use Rattle.grid.proofs.Places.{place_has, node_at_lem}
use Rattle.grid.proofs.Ranks.{told_keep, keep_scan}
use Rattle.grid.proofs.Walks.{Crossed, cross_is, else_none}
use Rattle.grid.proofs.Descents.{found, Fallen, fall_is}
use Rattle.grid.proofs.Trails.{sets_append, length_visited, noted_from, traced_down, traced_on}

-- ---- no filters

-- a grid without a root is that of no filters
rootless_none : {C : Type 0} (F : List (Rule C)) → has_dst F [] ≡ false → F ≡ []
rootless_none [] e = refl
rootless_none (f ∷ F) e = absurd (both_ways true e refl)

module _ {C : Type 0} (lt : Rule C → Rule C → Bool) (F : List (Rule C)) (N : List Node) (g : Derived lt F N 0) (d s : Str) where
  bare_filters : F ≡ []
  bare_filters =
      rootless_none F (sym (g.whole (destination [])) ∙ ap (λ (ks : List Key). any (key_eq (destination [])) ks) (nil_from_length g.keys g.long))

  unbuilt_best : None ≡ named (linear lt F d s)
  unbuilt_best = ap (λ (G : List (Rule C)). named (linear lt G d s)) (sym bare_filters)

  unbuilt_visits : 0 ≡ visits F d s
  unbuilt_visits = sym (ap (λ (G : List (Rule C)). visits G d s) bare_filters ∙ (no_filters lt d s).1)

-- nothing is visited, and nothing noted
module _ {C : Type 0} (lt : Rule C → Rule C → Bool) (F : List (Rule C)) (N : List Node) (used : ℕ) (g : Derived lt F N used) (none : used ≡ 0) (d s : Str) where
  unbuilt_noted : (m : List ℕ) → Noted g.keys F d s m m
  unbuilt_noted m =
      let v = unbuilt_visits lt F N (subst (λ (n : ℕ). Derived lt F N n) none g) d s in
      let empty = nil_from_length (visited F d s) (length_visited F d s ∙ sym v) in
      noted_from g.keys F d s [] m m refl (ap (map (λ k. place k g.keys)) (sym empty)) (omega arith)

-- ---- some filters

root_place : (ks : List Key) → Rooted ks → 0 < length ks → place (destination []) ks ≡ Some 0
root_place [] r h = absurd (omega arith)
root_place (k ∷ ks) r h = ap (λ (l : Key). cond (key_eq (destination []) l) (Some 0) (later (place (destination []) ks))) r

module _ {C : Type 0} (lt : Rule C → Rule C → Bool) (F : List (Rule C)) (N : List Node) (used : ℕ) (g : Derived lt F N used) (some : 0 < used) (d s : Str)
    (e : Walk ℕ) (end : e ≡ along (step_down N) (entered N None 0 0) d) where
  node_of_lem : (k : Key) (p : ℕ) → place k g.keys ≡ Some p → node_at N p ≡ node_of lt F g.keys k
  node_of_lem k p h = node_at_lem (node_of lt F g.keys) g.keys N (replicate (length N - used) Empty) g.nodes k p h

  -- the descent went down the way of d
  fallen : Fallen lt F g.keys g.whole N (replicate (length N - used) Empty) g.nodes (λ D. has_src F D []) (has_dst F) (λ D. place (source D []) g.keys) (entered N None 0 0) e None d
  fallen =
      let l = g.long in
      let p = root_place g.keys g.rooted (omega arith) in
      subst (λ (x : Walk ℕ). Fallen lt F g.keys g.whole N (replicate (length N - used) Empty) g.nodes (λ D. has_src F D []) (has_dst F) (λ D. place (source D []) g.keys) (entered N None 0 0) x None d)
      (sym end)
      (fall_is lt F g.keys g.whole N (replicate (length N - used) Empty) g.nodes d [] (λ D. has_src F D []) (has_dst F) (λ D. place (source D []) g.keys)
      (record { leads = λ u. refl; stands = λ u. refl; place_of = λ u. refl })
      (entered N None 0 0) None p (ap (λ (n : Node). option_or (root_of n) None) (node_of_lem (destination []) 0 p)))

  -- the notes are the places of the destination nodes on the way
  down_places : map Some (places_down N (entered N None 0 0) d) ≡ map (λ k. place k g.keys) (map destination (way (has_dst F) d))
  down_places =
      let l = g.long in
      traced_down lt F g.keys g.whole N (replicate (length N - used) Empty) g.nodes d [] (entered N None 0 0) (root_place g.keys g.rooted (omega arith))
      ∙ sym (map-map (λ k. place k g.keys) destination (way (has_dst F) d))

  -- and then those of the source nodes, where there are any
  then_places : (qs : List ℕ) → map Some qs ≡ map (λ k. place (source k.0 k.1) g.keys) (path (has_src F) d s)
      → map Some (places_down N (entered N None 0 0) d ++ qs) ≡ map (λ k. place k g.keys) (visited F d s)
  then_places qs h =
      map-append Some (places_down N (entered N None 0 0) d) qs
      ∙ (λ i. down_places i ++ (h ∙ sym (map-map (λ k. place k g.keys) (λ (k : Str × Str). source k.0 k.1) (path (has_src F) d s))) i)
      ∙ sym (map-append (λ k. place k g.keys) (map destination (way (has_dst F) d)) (map (λ k. source k.0 k.1) (path (has_src F) d s)))

  down_visits : e.visits ≡ length (way (has_dst F) d)
  down_visits = let v = fallen.visits in omega arith

  root_is : e.kept ≡ found (λ D. place (source D []) g.keys) (deepest (has_src F) d [])
  root_is = fallen.root ∙ else_none (found (λ D. place (source D []) g.keys) (deepest (has_src F) d []))

  -- where no source root was passed, no prefix of d has one
  no_root : e.kept ≡ None → deepest (has_src F) d [] ≡ None
  no_root h = go (deepest (has_src F) d []) refl
    where
      go : (o : Option Str) → deepest (has_src F) d [] ≡ o → deepest (has_src F) d [] ≡ None
      go None q = q
      go (Some D) q =
          let m = place_has (source D []) g.keys (g.whole (source D []) ∙ (longest_some (λ P. has_src F P []) d D q).1) in
          absurd (none_some m.0 (sym h ∙ root_is ∙ ap (found (λ D. place (source D []) g.keys)) q ∙ m.1))

  -- else the last one passed is that of the longest prefix that has one
  a_root : (n : ℕ) → e.kept ≡ Some n → (D : Str) × (deepest (has_src F) d [] ≡ Some D) × (place (source D []) g.keys ≡ Some n)
  a_root n h = go (deepest (has_src F) d []) refl
    where
      go : (o : Option Str) → deepest (has_src F) d [] ≡ o → (D : Str) × (deepest (has_src F) d [] ≡ Some D) × (place (source D []) g.keys ≡ Some n)
      go None q = absurd (none_some n (sym (ap (found (λ D. place (source D []) g.keys)) q) ∙ sym root_is ∙ h))
      go (Some D) q = (D, q, sym (ap (found (λ D. place (source D []) g.keys)) q) ∙ sym root_is ∙ h)

  -- ---- where there is no source root
  rootless_visits : e.kept ≡ None → e.visits ≡ visits F d s
  rootless_visits h =
      let v = down_visits in
      let p : length (path (has_src F) d s) ≡ 0 = ap (λ (o : Option Str). length (led o (λ D. walk (has_src F) D [] s))) (no_root h) in
      omega arith

  rootless_noted : e.kept ≡ None → (before after : List ℕ) → after ≡ sets before 0 (places_down N (entered N None 0 0) d)
      → e.visits ≤ length before → Noted g.keys F d s before after
  rootless_noted h before after notes room =
      let v = rootless_visits h in
      noted_from g.keys F d s (places_down N (entered N None 0 0) d ++ []) before after (notes ∙ ap (sets before 0) (sym (append-nil (places_down N (entered N None 0 0) d))))
      (then_places [] (ap (λ (o : Option Str). map (λ k. place (source k.0 k.1) g.keys) (led o (λ D. walk (has_src F) D [] s))) (sym (no_root h)))) (omega arith)

  rootless_best : Order lt → Apart F → e.kept ≡ None → None ≡ named (linear lt F d s)
  rootless_best ord apart h =
      ap named (sym (ap (λ (o : Option Str). scan lt None (map (kept lt F) (led o (λ D. walk (has_src F) D [] s)))) (no_root h)) ∙ finds_the_best lt ord F apart d s)

  -- ---- where there is one: the walk w from it
  module _ (n : ℕ) (h : e.kept ≡ Some n) (w : Walk Kept) (last : w ≡ along (step_on N) (met N None e.visits n) s) where
    crossed : Crossed lt F g.keys g.whole N (replicate (length N - used) Empty) g.nodes (met N None e.visits n) w None (path (has_src F) d s)
    crossed =
        let m = a_root n h in
        subst (λ (o : Option Str). Crossed lt F g.keys g.whole N (replicate (length N - used) Empty) g.nodes (met N None e.visits n) w None (led o (λ D. walk (has_src F) D [] s)))
        (sym m.1)
        (subst (λ (x : Walk Kept). Crossed lt F g.keys g.whole N (replicate (length N - used) Empty) g.nodes (met N None e.visits n) x None (walk (has_src F) m.0 [] s)) (sym last)
        (cross_is lt F g.keys g.whole N (replicate (length N - used) Empty) g.nodes s m.0 [] (met N None e.visits n) None m.2
        (ap kept_of (node_of_lem (source m.0 []) n m.2))))

    walked_visits : w.visits ≡ visits F d s
    walked_visits = let v = down_visits in let c = crossed.visits in omega arith

    walk_places : map Some (places_on N (met N None e.visits n) s) ≡ map (λ k. place (source k.0 k.1) g.keys) (path (has_src F) d s)
    walk_places =
        let m = a_root n h in
        traced_on lt F g.keys g.whole N (replicate (length N - used) Empty) g.nodes s m.0 [] (met N None e.visits n) m.2
        ∙ ap (λ (o : Option Str). map (λ k. place (source k.0 k.1) g.keys) (led o (λ D. walk (has_src F) D [] s))) (sym m.1)

    walked_noted : (before middle after : List ℕ) → middle ≡ sets before 0 (places_down N (entered N None 0 0) d)
        → after ≡ sets middle e.visits (places_on N (met N None e.visits n) s) → w.visits ≤ length before → Noted g.keys F d s before after
    walked_noted before middle after first then room =
        let ps = places_down N (entered N None 0 0) d in
        let qs = places_on N (met N None e.visits n) s in
        let v = walked_visits in
        let l : e.visits ≡ 0 + length ps =
        (let a = down_visits in
        let b = sym (length-map ps Some) ∙ ap length down_places ∙ length-map (map destination (way (has_dst F) d)) (λ k. place k g.keys) ∙ length-map (way (has_dst F) d) destination in
        omega arith) in
        noted_from g.keys F d s (ps ++ qs) before after (then ∙ (λ i. sets (first i) (l i) qs) ∙ sym (sets_append ps qs before 0)) (then_places qs walk_places) (omega arith)

    walked_best : Order lt → Apart F → told w.kept ≡ named (linear lt F d s)
    walked_best ord apart =
        ap told (crossed.best ∙ keep_scan lt F ord apart (path (has_src F) d s) None (λ f q. absurd (none_some f q)))
        ∙ told_keep lt F (choice lt F d s)
        ∙ ap named (finds_the_best lt ord F apart d s)

-- ---- what a search answers, and what it leaves of the memory of its notes, of which it may need so many places

pub record Searched {C : Type 0} (lt : Rule C → Rule C → Bool) (N : List Node) (used : ℕ) (d s : Str) (most : ℕ) (r : Option (ℕ × Directive) × ℕ)
    (before after : List ℕ) : Type 0 where
  pub best : (F : List (Rule C)) → Apart F → Derived lt F N used → r.0 ≡ named (linear lt F d s)
  pub visits : (F : List (Rule C)) → Derived lt F N used → r.1 ≡ visits F d s
  pub notes : (F : List (Rule C)) → (g : Derived lt F N used) → most ≤ length before → Noted g.keys F d s before after

module _ {C : Type 0} (lt : Rule C → Rule C → Bool) (N : List Node) (used : ℕ) (d s : Str) (most : ℕ) (before : List ℕ) where
  -- where there are no nodes
  pub of_none : used ≡ 0 → Searched lt N used d s most (None, 0) before before
  of_none none =
      let bare : (F : List (Rule C)) → Derived lt F N used → Derived lt F N 0 = λ F g. subst (λ (n : ℕ). Derived lt F N n) none g in
      record {
        best = λ F apart g. unbuilt_best lt F N (bare F g) d s;
        visits = λ F g. unbuilt_visits lt F N (bare F g) d s;
        notes = λ F g room. unbuilt_noted lt F N used g none d s before;
      }

  -- where there are some, and e is what the descent ended with
  module _ (ord : Order lt) (some : 0 < used) (e : Walk ℕ) (end : e ≡ along (step_down N) (entered N None 0 0) d) (middle : List ℕ)
      (down : middle ≡ sets before 0 (places_down N (entered N None 0 0) d)) where
    -- no source root
    pub of_descent : e.kept ≡ None → e.visits ≤ most → Searched lt N used d s most (None, e.visits) before middle
    of_descent none few =
        record {
          best = λ F apart g. rootless_best lt F N used g some d s e end ord apart none;
          visits = λ F g. rootless_visits lt F N used g some d s e end none;
          notes = λ F g room. rootless_noted lt F N used g some d s e end none before middle down (omega arith);
        }

    -- a source root, and the walk w from it
    pub of_walk : (n : ℕ) → e.kept ≡ Some n → (w : Walk Kept) → w ≡ along (step_on N) (met N None e.visits n) s
        → (after : List ℕ) → after ≡ sets middle e.visits (places_on N (met N None e.visits n) s) → w.visits ≤ most
        → Searched lt N used d s most (told w.kept, w.visits) before after
    of_walk n root w last after on few =
        record {
          best = λ F apart g. walked_best lt F N used g some d s e end n root w last ord apart;
          visits = λ F g. walked_visits lt F N used g some d s e end n root w last;
          notes = λ F g room. walked_noted lt F N used g some d s e end n root w last before middle after down on (omega arith);
        }
