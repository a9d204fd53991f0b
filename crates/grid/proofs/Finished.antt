-- When all paths have been walked, the shorter destinations first, every node is the one that the rules give.
use Rattle.std.proofs.Common.{◌≡◌, ℕ, zero, suc, ◌<◌, Bool, true, false, cond, ◌&&◌, eqb, List, [], ◌∷◌, ◌++◌, map, length, Some, None, Option, unwrap_or, sym, refl, ap, ◌∙◌, subst, inl, inr, arith}
use Rattle.std.specs.Option.{option_or}
use Rattle.std.proofs.lemmas.List.{append-nil, append_assoc}
use Rattle.std.proofs.lemmas.Bool.{both_ways, cases_Bool, cases_lt, and_parts, eqb-true, eqb-false, cond-true, cond-false}
use Rattle.kinds.specs.Strings.{Str, starts, equal, snoc}
use Rattle.kinds.proofs.Prefixes.{equal_same}
use Rattle.filters.specs.Rules.{Rule}
use Rattle.filters.specs.Orders.{In, Apart, Order}
use Rattle.tries.specs.Prefixes.{any, longest_proper}
use Rattle.tries.specs.Shape.{has_dst, has_src}
use Rattle.tries.proofs.Finds.{any_out, dst_front, src_front, src_dst, own_src}
use Rattle.grid.specs.declared.node.Node.{Node}
use Rattle.grid.specs.Nodes.{node_at, child_of, root_of}
use Rattle.grid.specs.Derived.{Key, destination, source, key_eq, is_key, place, place_of, once, Rooted, node_of}
use Rattle.grid.specs.Build.{raw, own_of}
use Rattle.grid.specs.declared.finish.Trek.{Trek}
use Rattle.grid.specs.Finish.{node_if, child_from, roots, finish_at, trek_on, trek, finish_from, finish_path, finish_length, finish_below}
use Rattle.grid.proofs.Places.{place_has, place_none}
use Rattle.grid.proofs.Numbering.{map_same}
use Rattle.grid.proofs.Paths.{root_first}
use Rattle.grid.proofs.Proper.{proper_more}
use Rattle.grid.proofs.Finishing.{mixed, mixed_at, Ready, beside_at, On, trek_first, trek_next}

module _ {C : Type 0} (lt : Rule C → Rule C → Bool) (ord : Order lt) (F : List (Rule C)) (apart : Apart F) (keys : List Key)
    (distinct : once keys ≡ true) (whole : (k : Key) → any (key_eq k) keys ≡ is_key F k) (rooted : Rooted keys) where
  -- the nodes in memory where done says which are finished
  abbrev pub Holds : (Str → Str → Bool) → List Node → Type 0
  Holds done N = N ≡ map (mixed lt ord F apart keys distinct whole done) keys

  -- ---- a whole source path

  trek_all : (done : Str → Str → Bool) (D r s : Str) (t : List Node × Trek) → Ready lt ord F apart keys distinct whole done D → has_src F D (s ++ r) ≡ true
      → On lt ord F apart keys distinct whole done D s t → On lt ord F apart keys distinct whole done D (s ++ r) (trek t r)
  trek_all done D [] s t ready has on = subst (λ (x : Str). On lt ord F apart keys distinct whole done D x t) (sym (append-nil s)) on
  trek_all done D (b ∷ r) s t ready has on =
      let e = append_assoc s (b ∷ []) r in
      let has' : has_src F D (snoc s b ++ r) ≡ true = subst (λ (x : Str). has_src F D x ≡ true) (sym e) has in
      subst (λ (x : Str). On lt ord F apart keys distinct whole done D x (trek (trek_on t b) r)) e
      (trek_all done D r (snoc s b) (trek_on t b) ready has' (trek_next lt ord F apart keys distinct whole done D s b t ready (src_front F D (snoc s b) r has') on))

  -- ---- the roots on the way down

  down_to : (done : Str → Str → Bool) (N : List Node) → Holds done N → (t : Str) (b : Bool) (p : ℕ) → place (destination t) keys ≡ Some p → has_dst F (snoc t b) ≡ true
      → place (destination (snoc t b)) keys ≡ Some (child_from N p b)
  down_to done N e t b p h has =
      let m = place_has (destination (snoc t b)) keys (whole (destination (snoc t b)) ∙ has) in
      let c : child_of (node_at N p) b ≡ place (destination (snoc t b)) keys =
      ap (λ (n : Node). child_of n b) (mixed_at lt ord F apart keys distinct whole done N e (destination t) p h) ∙ by b in
      m.1 ∙ ap (λ (o : Option ℕ). Some (unwrap_or o p)) (sym (c ∙ m.1))
    where
      by : (c : Bool) → child_of (node_of lt F keys (destination t)) c ≡ place (destination (snoc t c)) keys
      by true = refl
      by false = refl

  up_to : (t : Str) (b : Bool) → option_or (place (source t []) keys) (place_of keys [] (longest_proper (λ A. has_src F A []) t))
      ≡ place_of keys [] (longest_proper (λ A. has_src F A []) (snoc t b))
  up_to t b =
      let p : Str → Bool = λ A. has_src F A [] in
      elim (cases_Bool (has_src F t [])) [
        | inl h ↦
            let m = place_has (source t []) keys (whole (source t []) ∙ h) in
            ap (λ (o : Option ℕ). option_or o (place_of keys [] (longest_proper p t))) m.1 ∙ sym m.1
            ∙ ap (place_of keys []) (sym (proper_more p t b ∙ cond-true (has_src F t []) (Some t) (longest_proper p t) h))
        | inr h ↦
            ap (λ (o : Option ℕ). option_or o (place_of keys [] (longest_proper p t))) (place_none (source t []) keys (whole (source t []) ∙ h))
            ∙ ap (place_of keys []) (sym (proper_more p t b ∙ cond-false (has_src F t []) (Some t) (longest_proper p t) h))
      ]

  -- the root of the source trie of D, and that of the longest proper prefix that has one
  abbrev roots_of : Str → Option ℕ × Option ℕ
  roots_of D = (place (source D []) keys, place_of keys [] (longest_proper (λ A. has_src F A []) D))

  roots_from : (done : Str → Str → Bool) (N : List Node) → Holds done N → (r t : Str) (p : ℕ) → place (destination t) keys ≡ Some p → has_dst F (t ++ r) ≡ true
      → roots N p (place_of keys [] (longest_proper (λ A. has_src F A []) t)) r ≡ roots_of (t ++ r)
  roots_from done N e [] t p h has =
      ap (λ (n : Node). (root_of n, place_of keys [] (longest_proper (λ A. has_src F A []) t))) (mixed_at lt ord F apart keys distinct whole done N e (destination t) p h)
      ∙ ap roots_of (sym (append-nil t))
  roots_from done N e (b ∷ r) t p h has =
      let q = append_assoc t (b ∷ []) r in
      let has' : has_dst F (snoc t b ++ r) ≡ true = subst (λ (x : Str). has_dst F x ≡ true) (sym q) has in
      let up = ap (λ (n : Node). option_or (root_of n) (place_of keys [] (longest_proper (λ A. has_src F A []) t))) (mixed_at lt ord F apart keys distinct whole done N e (destination t) p h) ∙ up_to t b in
      ap (λ (o : Option ℕ). roots N (child_from N p b) o r) up
      ∙ roots_from done N e r (snoc t b) (child_from N p b) (down_to done N e t b p h (dst_front F (snoc t b) r has')) has'
      ∙ ap roots_of q

  some_keys : (ks : List Key) (k : Key) → any (key_eq k) ks ≡ true → 0 < length ks
  some_keys [] k h = absurd (both_ways false refl h)
  some_keys (l ∷ ks) k h = omega arith

  roots_are : (done : Str → Str → Bool) (N : List Node) → Holds done N → (D : Str) → has_dst F D ≡ true → roots N 0 None D ≡ roots_of D
  roots_are done N e D has =
      roots_from done N e D [] 0 (root_first keys rooted (some_keys keys (destination D) (whole (destination D) ∙ has))) has

  -- ---- a filter's path

  -- the memory N has, besides what was done, the path of (D, s) done
  pub record Further (done : Str → Str → Bool) (D s : Str) (N : List Node) : Type 0 where
    pub more : Str → Str → Bool
    pub nodes : Holds more N
    pub stays : (E u : Str) → done E u ≡ true → more E u ≡ true
    pub covers : (u : Str) → starts u s ≡ true → more D u ≡ true

  path_done : (done : Str → Str → Bool) (N : List Node) → Holds done N → (D s : Str) → Ready lt ord F apart keys distinct whole done D → has_src F D s ≡ true
      → Further done D s (finish_path N D s)
  path_done done N e D s ready has =
      let m = place_has (source D []) keys (whole (source D []) ∙ src_front F D [] s has) in
      let b = beside_at lt ord F apart keys distinct whole done N e D [] ready in
      let on = trek_all done D s [] (finish_at N m.0 (node_if N (place_of keys [] (longest_proper (λ A. has_src F A []) D))) None) ready has
      (trek_first lt ord F apart keys distinct whole done N e D m.0 m.1 (node_if N (place_of keys [] (longest_proper (λ A. has_src F A []) D))) b) in
      let is : finish_path N D s ≡ finish_from N (Some m.0, place_of keys [] (longest_proper (λ A. has_src F A []) D)) s =
      ap (λ (r : Option ℕ × Option ℕ). finish_from N r s)
      (roots_are done N e D (src_dst F D s has) ∙ ap {B = Option ℕ × Option ℕ} (λ (o : Option ℕ). (o, place_of keys [] (longest_proper (λ A. has_src F A []) D))) m.1) in
      record { more = on.more; nodes = is ∙ on.nodes; stays = on.stays; covers = on.covers }

  -- ---- all filters of one length of destination

  -- the memory N has, besides what was done, the paths of those filters of G done whose destination has n bits
  pub record Walked (done : Str → Str → Bool) (n : ℕ) (G : List (Rule C)) (N : List Node) : Type 0 where
    pub more : Str → Str → Bool
    pub nodes : Holds more N
    pub stays : (E u : Str) → done E u ≡ true → more E u ≡ true
    pub covers : (f : Rule C) → In f G → length f.destination ≡ n → (u : Str) → starts u f.source ≡ true → more f.destination u ≡ true

  -- all source nodes of destinations with fewer than n bits are done
  abbrev Below : ℕ → (Str → Str → Bool) → Type 0
  Below n done = (E u : Str) → length E < n → has_src F E u ≡ true → done E u ≡ true

  length_done : (n : ℕ) (G : List (Rule C)) → ((f : Rule C) → In f G → In f F) → (done : Str → Str → Bool) → Below n done → (N : List Node) → Holds done N
      → Walked done n G (finish_length n N G)
  length_done n [] sub done below N e = record { more = done; nodes = e; stays = λ E u d. d; covers = λ f h. absurd h }
  length_done n (f ∷ G) sub done below N e = go (eqb (length f.destination) n) refl (λ more b M h. length_done n G (λ g i. sub g (inr i)) more b M h)
    where
      go : (x : Bool) → eqb (length f.destination) n ≡ x
          → ((more : Str → Str → Bool) → Below n more → (M : List Node) → Holds more M → Walked more n G (finish_length n M G))
          → Walked done n (f ∷ G) (finish_length n (cond x (finish_path N f.destination f.source) N) G)
      go true q rest =
          let z = eqb-true (length f.destination) n q in
          let ready : Ready lt ord F apart keys distinct whole done f.destination = λ E u l h. below E u (omega arith) h in
          let p = path_done done N e f.destination f.source ready (own_src F f (sub f (inl refl))) in
          let w = rest p.more (λ E u l h. p.stays E u (below E u l h)) (finish_path N f.destination f.source) p.nodes in
          record {
            more = w.more;
            nodes = w.nodes;
            stays = λ E u d. w.stays E u (p.stays E u d);
            covers = covers p w;
          }
        where
          covers : (p : Further done f.destination f.source (finish_path N f.destination f.source))
              (w : Walked p.more n G (finish_length n (finish_path N f.destination f.source) G))
              (g : Rule C) → In g (f ∷ G) → length g.destination ≡ n → (u : Str) → starts u g.source ≡ true → w.more g.destination u ≡ true
          covers p w g (inl i) l u h =
              subst (λ (y : Rule C). starts u y.source ≡ true → w.more y.destination u ≡ true) (sym i) (λ k. w.stays f.destination u (p.covers u k)) h
          covers p w g (inr i) l u h = w.covers g i l u h
      go false q rest =
          let w = rest done below N e in
          record { more = w.more; nodes = w.nodes; stays = w.stays; covers = covers w }
        where
          covers : (w : Walked done n G (finish_length n N G)) (g : Rule C) → In g (f ∷ G) → length g.destination ≡ n → (u : Str) → starts u g.source ≡ true → w.more g.destination u ≡ true
          covers w g (inl i) l u h = absurd (eqb-false (length f.destination) n q (ap (λ (y : Rule C). length y.destination) (sym i) ∙ l))
          covers w g (inr i) l u h = w.covers g i l u h

  -- ---- all filters of all lengths

  below_done : (n : ℕ) (N : List Node) → Holds (λ E u. false) N → (done : Str → Str → Bool) × Holds done (finish_below n N F) × Below n done
  below_done zero N e = ((λ E u. false), e, (λ E u l h. absurd (omega arith)))
  below_done (suc n) N e =
      let m = below_done n N e in
      let w = length_done n F (λ f h. h) m.0 m.2 (finish_below n N F) m.1 in
      (w.more, w.nodes, next m.0 m.2 w)
    where
      next : (done : Str → Str → Bool) → Below n done → (w : Walked done n F (finish_length n (finish_below n N F) F)) → Below (suc n) w.more
      next done below w E u l h =
          elim (cases_lt (length E) n) [
            | inl k ↦ w.stays E u (below E u k h)
            | inr k ↦
                let m = any_out (λ (f : Rule C). equal E f.destination && starts u f.source) F h in
                let f = m.0 in
                let p = and_parts (equal E f.destination) (starts u f.source) m.2 in
                let d = equal_same E f.destination p.0 in
                let len : length f.destination ≡ length E = ap (λ (x : Str). length x) (sym d) in
                subst (λ (x : Str). w.more x u ≡ true) (sym d) (w.covers f m.1 (omega arith) u p.1)
          ]

  -- every node is the one that the rules give
  pub all_done : (n : ℕ) → ((f : Rule C) → In f F → length f.destination < n) → (N : List Node) → N ≡ map (raw (own_of lt F F) keys) keys
      → finish_below n N F ≡ map (node_of lt F keys) keys
  all_done n short N e =
      let m = below_done n N (e ∙ map_same (mixed lt ord F apart keys distinct whole (λ E u. false)) (raw (own_of lt F F) keys) keys (λ k h. first k)) in
      m.1 ∙ map_same (node_of lt F keys) (mixed lt ord F apart keys distinct whole m.0) keys (last m.0 m.2)
    where
      first : (k : Key) → raw (own_of lt F F) keys k ≡ mixed lt ord F apart keys distinct whole (λ E u. false) k
      first (destination t) = refl
      first (source D s) = refl

      last : (done : Str → Str → Bool) → Below n done → (k : Key) → any (key_eq k) keys ≡ true → mixed lt ord F apart keys distinct whole done k ≡ node_of lt F keys k
      last done below (destination t) h = refl
      last done below (source E u) h =
          let has = sym (whole (source E u)) ∙ h in
          let m = any_out (λ (f : Rule C). equal E f.destination && starts u f.source) F has in
          let p = and_parts (equal E m.0.destination) (starts u m.0.source) m.2 in
          let d = ap (λ (x : Str). length x) (equal_same E m.0.destination p.0) in
          let l = short m.0 m.1 in
          cond-true (done E u) (node_of lt F keys (source E u)) (raw (own_of lt F F) keys (source E u)) (below E u (omega arith) has)
