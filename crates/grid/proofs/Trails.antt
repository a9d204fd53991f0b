-- The notes of a search over the nodes of a derived grid are the places of the nodes that it visits by definition.
use Rattle.std.proofs.Common.{◌≡◌, ℕ, suc, ◌+◌, ◌≤◌, Bool, true, List, [], ◌∷◌, ◌++◌, map, length, take, drop, set, Some, None, Option, sym, refl, ap, ◌∙◌, inl, inr, append_assoc, append-nil, arith}
use Rattle.std.proofs.lemmas.List.Edits.{sets, sets-eq}
use Rattle.std.specs.Option.{option_map}
use Rattle.std.proofs.lemmas.Bool.{cases_Bool}
use Rattle.std.proofs.lemmas.List.{length-map, length-append, take_at, drop_at}
use Rattle.std.proofs.lemmas.Simd.{map-map}
use Rattle.kinds.specs.Strings.{Str, snoc}
use Rattle.filters.specs.Rules.{Rule}
use Rattle.tries.specs.Prefixes.{any, fronts, until}
use Rattle.tries.specs.Shape.{has_dst, has_src, next}
use Rattle.tries.specs.Search.{led, walk, way, path, visits}
use Rattle.grid.specs.declared.node.Kept.{Kept}
use Rattle.grid.specs.declared.node.Node.{Node}
use Rattle.grid.specs.declared.search.Walk.{Walk}
use Rattle.grid.specs.Nodes.{child_of, next_of}
use Rattle.grid.specs.Derived.{Key, destination, source, key_eq, is_key, place, place_of, node_of}
use Rattle.grid.specs.Steps.{beyond, trace, entered, step_down, places_down, met, step_on, places_on}
use Rattle.grid.specs.Trails.{visited, Noted}
use Rattle.grid.proofs.Places.{place_has, place_none, place_any, node_at_lem}
use Rattle.grid.proofs.Descents.{until_none, until_first, falls}
use Rattle.grid.proofs.Walks.{next_has, leads}

-- ---- notes in memory

-- notes and further notes behind them
pub sets_append : (ps qs m : List ℕ) (i : ℕ) → sets m i (ps ++ qs) ≡ sets (sets m i ps) (i + length ps) qs
sets_append [] qs m i = let e : i ≡ i + 0 = omega arith in ap (λ (n : ℕ). sets m n qs) e
sets_append (p ∷ ps) qs m i =
    let e : suc i + length ps ≡ i + suc (length ps) = omega arith in
    sets_append ps qs (set m i p) (suc i) ∙ ap (λ (n : ℕ). sets (sets (set m i p) (suc i) ps) n qs) e

pub length_visited : {C : Type 0} (F : List (Rule C)) (d s : Str) → length (visited F d s) ≡ visits F d s
length_visited F d s =
    let a = length-append (map destination (way (has_dst F) d)) (map (λ k. source k.0 k.1) (path (has_src F) d s)) in
    let b = length-map (way (has_dst F) d) destination in
    let c = length-map (path (has_src F) d s) (λ k. source k.0 k.1) in
    omega arith

-- where ps are the places of the visited nodes, writing them from the first place on is the trail
pub noted_from : {C : Type 0} (keys : List Key) (F : List (Rule C)) (d s : Str) (ps before after : List ℕ) → after ≡ sets before 0 ps
    → map Some ps ≡ map (λ k. place k keys) (visited F d s) → visits F d s ≤ length before → Noted keys F d s before after
noted_from keys F d s ps before after e h room = record { places = first; rest = behind }
  where
    long : length ps ≡ visits F d s
    long = sym (length-map ps Some) ∙ ap length h ∙ length-map (visited F d s) (λ k. place k keys) ∙ length_visited F d s

    is : after ≡ ps ++ drop (length ps) before
    is =
        let z : 0 + length ps ≡ length ps = omega arith in
        e ∙ sets-eq ps before 0 (omega (arith, long, room)) ∙ ap (λ (n : ℕ). ps ++ drop n before) z

    first : map Some (take (visits F d s) after) ≡ map (λ k. place k keys) (visited F d s)
    first = ap (λ (m : List ℕ). map Some (take (visits F d s) m)) is ∙ ap (map Some) (take_at ps (drop (length ps) before) (visits F d s) long) ∙ h

    behind : drop (visits F d s) after ≡ drop (visits F d s) before
    behind =
        ap (λ (m : List ℕ). drop (visits F d s) m) is ∙ drop_at ps (drop (length ps) before) (visits F d s) long
        ∙ ap (λ (n : ℕ). drop n before) long

-- ---- a list of filters, keys that are just those of its grid, and memory that holds their nodes
module _ {C : Type 0} (lt : Rule C → Rule C → Bool) (F : List (Rule C)) (keys : List Key) (whole : (k : Key) → any (key_eq k) keys ≡ is_key F k)
    (N rest : List Node) (nodes : N ≡ map (node_of lt F keys) keys ++ rest) where
  -- the nodes of the strings that begin with t, along r
  abbrev pub below : Str → Str → List (Option ℕ)
  below t r = map (λ u. place (destination (t ++ u)) keys) (until (λ u. has_dst F (t ++ u)) (fronts r))

  below_here : (t : Str) (p : ℕ) → place (destination t) keys ≡ Some p → (Some p ≡ place (destination (t ++ [])) keys) × (has_dst F (t ++ []) ≡ true)
  below_here t p e =
      (sym (ap (λ (u : Str). place (destination u) keys) (append-nil t) ∙ e), ap (has_dst F) (append-nil t) ∙ sym (whole (destination t)) ∙ place_any (destination t) keys p e)

  below_more : (t : Str) (b : Bool) (r : Str) → has_dst F (t ++ []) ≡ true → place (destination (t ++ [])) keys ∷ below (snoc t b) r ≡ below t (b ∷ r)
  below_more t b r h =
      ap (λ (os : List (Option ℕ)). place (destination (t ++ [])) keys ∷ os)
      ((λ i. map (λ u. place (destination (append_assoc t (b ∷ []) u i)) keys) (until (λ u. has_dst F (append_assoc t (b ∷ []) u i)) (fronts r)))
      ∙ sym (map-map (λ u. place (destination (t ++ u)) keys) (λ (u : Str). b ∷ u) (until (λ u. has_dst F (t ++ b ∷ u)) (fronts r))))
      ∙ ap (map (λ u. place (destination (t ++ u)) keys)) (sym (until_first (λ u. has_dst F (t ++ u)) b r h))

  -- the places that a descent notes from the node of t on
  pub traced_down : (r t : Str) (w : Walk ℕ) → place (destination t) keys ≡ Some w.at → map Some (places_down N w r) ≡ below t r
  traced_down [] t w e = let h = below_here t w.at e in rw h.1 (ap (λ (o : Option ℕ). o ∷ []) h.0)
  traced_down (b ∷ r) t w e =
      let h = below_here t w.at e in
      let from : Option ℕ → List (Option ℕ) =
      λ o. map Some (map (λ (v : Walk ℕ). v.at) (beyond (option_map (entered N w.kept w.visits) o) (λ v. v ∷ trace (step_down N) v r))) in
      let on : from (place (destination (snoc t b)) keys) ≡ below (snoc t b) r =
      elim (cases_Bool (has_dst F (snoc t b))) [
        | inl y ↦
            let m = place_has (destination (snoc t b)) keys (whole (destination (snoc t b)) ∙ y) in
            ap from m.1 ∙ traced_down r (snoc t b) (entered N w.kept w.visits m.0) m.1
        | inr y ↦
            ap from (place_none (destination (snoc t b)) keys (whole (destination (snoc t b)) ∙ y))
            ∙ ap (map (λ u. place (destination (snoc t b ++ u)) keys)) (sym (until_none (λ u. has_dst F (snoc t b ++ u)) r (ap (has_dst F) (append-nil (snoc t b)) ∙ y)))
      ] in
      let link = ap (λ (n : Node). child_of n b) (node_at_lem (node_of lt F keys) keys N rest nodes (destination t) w.at e) ∙ falls lt F keys whole N rest nodes t b in
      ap (λ (o : Option ℕ). Some w.at ∷ from o) link ∙ (λ i. h.0 i ∷ on i) ∙ below_more t b r h.1

  -- the places that a walk notes from the node of (D, s) on
  pub traced_on : (r D s : Str) (w : Walk Kept) → place (source D s) keys ≡ Some w.at
      → map Some (places_on N w r) ≡ map (λ k. place (source k.0 k.1) keys) (walk (has_src F) D s r)
  traced_on [] D s w e = ap (λ (o : Option ℕ). o ∷ []) (sym e)
  traced_on (b ∷ r) D s w e =
      ap (λ (o : Option ℕ). Some w.at ∷ from o) (ap (λ (n : Node). next_of n b) (node_at_lem (node_of lt F keys) keys N rest nodes (source D s) w.at e) ∙ leads lt F keys whole D s b)
      ∙ (λ i. sym e i ∷ go (next (has_src F) D s b) refl (λ A v q. traced_on r A (snoc s b) v q) i)
    where
      from : Option ℕ → List (Option ℕ)
      from o = map Some (map (λ (v : Walk Kept). v.at) (beyond (option_map (met N w.kept w.visits) o) (λ v. v ∷ trace (step_on N) v r)))

      go : (o : Option Str) → next (has_src F) D s b ≡ o
          → ((A : Str) (v : Walk Kept) → place (source A (snoc s b)) keys ≡ Some v.at
          → map Some (places_on N v r) ≡ map (λ k. place (source k.0 k.1) keys) (walk (has_src F) A (snoc s b) r))
          → from (place_of keys (snoc s b) o) ≡ map (λ k. place (source k.0 k.1) keys) (led o (λ A. walk (has_src F) A (snoc s b) r))
      go None q more = refl
      go (Some A) q more =
          let k = source A (snoc s b) in
          let m = place_has k keys (whole k ∙ next_has (has_src F) D s A b q) in
          ap from m.1 ∙ more A (met N w.kept w.visits m.0) m.1
