-- A descent over the nodes of a derived grid visits just the destination nodes on the way, and remembers the last source root.
use Rattle.std.proofs.Common.{◌≡◌, ℕ, suc, ◌+◌, Bool, true, false, cond, List, [], ◌∷◌, ◌++◌, map, length, Some, None, Option, sym, refl, ap, ◌∙◌, subst, inl, inr, append_assoc, append-nil, arith}
use Rattle.std.specs.Option.{option_map}
use Rattle.std.proofs.lemmas.Bool.{both_ways, cases_Bool}
use Rattle.kinds.specs.Strings.{Str, snoc}
use Rattle.filters.specs.Rules.{Rule}
use Rattle.tries.specs.Prefixes.{any, fronts, until, further, longest}
use Rattle.tries.specs.Shape.{has_dst, has_src}
use Rattle.tries.proofs.Longest.{longest_some, longest_never}
use Rattle.tries.proofs.Finds.{dst_front, src_dst}
use Rattle.tries.proofs.Visits.{until_map}
use Rattle.grid.specs.declared.node.Node.{Node}
use Rattle.grid.specs.declared.search.Walk.{Walk}
use Rattle.std.specs.Option.{option_or}
use Rattle.grid.specs.Nodes.{child_of, root_of}
use Rattle.grid.specs.Derived.{Key, destination, source, key_eq, is_key, place, node_of}
use Rattle.grid.specs.Steps.{onward, along, entered, step_down}
use Rattle.grid.proofs.Places.{place_has, place_none, place_any, node_at_lem}

-- ---- prefixes

-- the prefixes that begin with b, up to the first that fails
pub until_behind : (q : Str → Bool) (b : Bool) (us : List Str) → length (until q (map (λ u. b ∷ u) us)) ≡ length (until (λ u. q (b ∷ u)) us)
until_behind q b [] = refl
until_behind q b (u ∷ us) =
    elim (cases_Bool (q (b ∷ u))) [
      | inl e ↦ rw e (ap suc (until_behind q b us))
      | inr e ↦ rw e refl
    ]

-- where the empty string fails, there are none
pub until_none : (q : Str → Bool) (t : Str) → q [] ≡ false → until q (fronts t) ≡ []
until_none q [] e = rw e refl
until_none q (b ∷ t) e = rw e refl

-- where the empty string passes, it counts, and then those behind the next bit
pub until_some : (q : Str → Bool) (b : Bool) (t : Str) → q [] ≡ true → length (until q (fronts (b ∷ t))) ≡ suc (length (until (λ u. q (b ∷ u)) (fronts t)))
until_some q b t e = rw e (ap suc (until_behind q b (fronts t)))

-- and it comes first, before those behind the next bit
pub until_first : (q : Str → Bool) (b : Bool) (t : Str) → q [] ≡ true → until q (fronts (b ∷ t)) ≡ [] ∷ map (λ u. b ∷ u) (until (λ u. q (b ∷ u)) (fronts t))
until_first q b t e = rw e (ap {B = List Str} (λ us. [] ∷ us) (until_map q (λ (u : Str). b ∷ u) (fronts t)))

-- what stands at the string, where there is one
abbrev pub found : (Str → Option ℕ) → Option Str → Option ℕ
found at None = None
found at (Some u) = at u

-- ---- a list of filters, keys that are just those of its grid, and memory that holds their nodes
module _ {C : Type 0} (lt : Rule C → Rule C → Bool) (F : List (Rule C)) (keys : List Key) (whole : (k : Key) → any (key_eq k) keys ≡ is_key F k)
    (N rest : List Node) (nodes : N ≡ map (node_of lt F keys) keys ++ rest) where
  -- the descent ended at e; w was at the node of the empty string, and acc was the last root before it
  pub record Fallen (p q : Str → Bool) (at : Str → Option ℕ) (w e : Walk ℕ) (acc : Option ℕ) (r : Str) : Type 0 where
    pub visits : e.visits + 1 ≡ w.visits + length (until q (fronts r))
    pub root : e.kept ≡ option_or (found at (longest p r)) acc

  -- p, q and at are of the strings that begin with t: whether they have a source root, a destination node, and where the root is
  pub record Under (t : Str) (p q : Str → Bool) (at : Str → Option ℕ) : Type 0 where
    pub leads : (u : Str) → p u ≡ has_src F (t ++ u) []
    pub stands : (u : Str) → q u ≡ has_dst F (t ++ u)
    pub place_of : (u : Str) → at u ≡ place (source (t ++ u) []) keys

  under_next : (t : Str) (p q : Str → Bool) (at : Str → Option ℕ) (b : Bool) → Under t p q at → Under (snoc t b) (λ u. p (b ∷ u)) (λ u. q (b ∷ u)) (λ u. at (b ∷ u))
  under_next t p q at b h =
      record {
        leads = λ u. h.leads (b ∷ u) ∙ ap (λ (x : Str). has_src F x []) (sym (append_assoc t (b ∷ []) u));
        stands = λ u. h.stands (b ∷ u) ∙ ap (has_dst F) (sym (append_assoc t (b ∷ []) u));
        place_of = λ u. h.place_of (b ∷ u) ∙ ap (λ (x : Str). place (source x []) keys) (sym (append_assoc t (b ∷ []) u));
      }

  module _ (t : Str) (p q : Str → Bool) (at : Str → Option ℕ) (h : Under t p q at) where
    at_has : (u : Str) → p u ≡ true → (n : ℕ) × (at u ≡ Some n)
    at_has u e =
        let m = place_has (source (t ++ u) []) keys (whole (source (t ++ u) []) ∙ sym (h.leads u) ∙ e) in
        (m.0, h.place_of u ∙ m.1)

    at_none : (u : Str) → p u ≡ false → at u ≡ None
    at_none u e = h.place_of u ∙ place_none (source (t ++ u) []) keys (whole (source (t ++ u) []) ∙ sym (h.leads u) ∙ e)

    -- the root of the empty string, where nothing longer has one
    at_end : at [] ≡ found at (cond (p []) (Some []) None)
    at_end = elim (cases_Bool (p [])) [ inl e ↦ rw e refl | inr e ↦ rw e (at_none [] e) ]

    at_last : (b : Bool) → at [] ≡ found at (further b (p []) None)
    at_last b = elim (cases_Bool (p [])) [ inl e ↦ rw e refl | inr e ↦ rw e (at_none [] e) ]

    at_root : at [] ≡ place (source t []) keys
    at_root = h.place_of [] ∙ ap (λ (x : Str). place (source x []) keys) (append-nil t)

    -- the node of t is there
    stands_here : (n : ℕ) → place (destination t) keys ≡ Some n → q [] ≡ true
    stands_here n e = h.stands [] ∙ ap (has_dst F) (append-nil t) ∙ sym (whole (destination t)) ∙ place_any (destination t) keys n e

    -- where there is no node t·b, no string that begins so has a root
    none_below : (b : Bool) (r : Str) → has_dst F (snoc t b) ≡ false → longest (λ u. p (b ∷ u)) r ≡ None
    none_below b r e = longest_never (λ u. p (b ∷ u)) r never
      where
        never : (u : Str) → p (b ∷ u) ≡ false
        never u =
            elim (cases_Bool (p (b ∷ u))) [
              | inl k ↦
                  let d = src_dst F (t ++ b ∷ u) [] (sym (h.leads (b ∷ u)) ∙ k) in
                  let c = dst_front F (snoc t b) u (ap (has_dst F) (append_assoc t (b ∷ []) u) ∙ d) in
                  absurd (both_ways (has_dst F (snoc t b)) e c)
              | inr k ↦ k
            ]

    -- a longer root takes the place of the last one
    root_more : (b : Bool) (r : Str) (acc root : Option ℕ) → root ≡ option_or (at []) acc
        → option_or (found (λ u. at (b ∷ u)) (longest (λ u. p (b ∷ u)) r)) root ≡ option_or (found at (longest p (b ∷ r))) acc
    root_more b r acc root k = go (longest (λ u. p (b ∷ u)) r) refl
      where
        some : (o : Option ℕ) (n : ℕ) → o ≡ Some n → option_or o root ≡ option_or o acc
        some o n e = rw e refl

        go : (o : Option Str) → longest (λ u. p (b ∷ u)) r ≡ o → option_or (found (λ u. at (b ∷ u)) o) root ≡ option_or (found at (further b (p []) o)) acc
        go None e = k ∙ ap (λ (o : Option ℕ). option_or o acc) (at_last b)
        go (Some u) e = let m = at_has (b ∷ u) (longest_some (λ v. p (b ∷ v)) r u e).1 in some (at (b ∷ u)) m.0 m.1

  -- the node of t leads by b where the definition says
  pub falls : (t : Str) (b : Bool) → child_of (node_of lt F keys (destination t)) b ≡ place (destination (snoc t b)) keys
  falls t false = refl
  falls t true = refl

  pub fall_is : (r t : Str) (p q : Str → Bool) (at : Str → Option ℕ) → Under t p q at → (w : Walk ℕ) (acc : Option ℕ)
      → place (destination t) keys ≡ Some w.at → w.kept ≡ option_or (at []) acc → Fallen p q at w (along (step_down N) w r) acc r
  fall_is [] t p q at h w acc e k =
      let here = stands_here t p q at h w.at e in
      record {
        visits = rw here refl;
        root = k ∙ ap (λ (o : Option ℕ). option_or o acc) (at_end t p q at h);
      }
  fall_is (b ∷ r) t p q at h w acc e k =
      subst (λ (o : Option ℕ). Fallen p q at w (onward (option_map (entered N w.kept w.visits) o) w (λ v. along (step_down N) v r)) acc (b ∷ r))
      (sym (ap (λ (n : Node). child_of n b) (node_at_lem (node_of lt F keys) keys N rest nodes (destination t) w.at e) ∙ falls t b))
      (elim (cases_Bool (has_dst F (snoc t b))) [
        | inl y ↦
            let m = place_has (destination (snoc t b)) keys (whole (destination (snoc t b)) ∙ y) in
            let v : Walk ℕ = entered N w.kept w.visits m.0 in
            let h' = under_next t p q at b h in
            let z = node_at_lem (node_of lt F keys) keys N rest nodes (destination (snoc t b)) m.0 m.1 in
            let c =
            fall_is r (snoc t b) (λ u. p (b ∷ u)) (λ u. q (b ∷ u)) (λ u. at (b ∷ u)) h' v w.kept m.1
            (ap (λ (n : Node). option_or (root_of n) w.kept) z
            ∙ ap (λ (o : Option ℕ). option_or o w.kept) (sym (at_root (snoc t b) (λ u. p (b ∷ u)) (λ u. q (b ∷ u)) (λ u. at (b ∷ u)) h'))) in
            let cv = c.visits in
            let more = until_some q b r (stands_here t p q at h w.at e) in
            subst (λ (o : Option ℕ). Fallen p q at w (onward (option_map (entered N w.kept w.visits) o) w (λ v. along (step_down N) v r)) acc (b ∷ r)) (sym m.1)
            (record { visits = omega arith; root = c.root ∙ root_more t p q at h b r acc w.kept k })
        | inr y ↦
            let more = until_some q b r (stands_here t p q at h w.at e) in
            let none = ap length (until_none (λ u. q (b ∷ u)) r (h.stands (b ∷ []) ∙ y)) in
            subst (λ (o : Option ℕ). Fallen p q at w (onward (option_map (entered N w.kept w.visits) o) w (λ v. along (step_down N) v r)) acc (b ∷ r))
            (sym (place_none (destination (snoc t b)) keys (whole (destination (snoc t b)) ∙ y)))
            (record {
              visits = omega arith;
              root =
                  k ∙ ap (λ (o : Option ℕ). option_or o acc) (at_last t p q at h b)
                  ∙ ap (λ (o : Option Str). option_or (found at (further b (p []) o)) acc) (sym (none_below t p q at h b r y));
            })
      ])
