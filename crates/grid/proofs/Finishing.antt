-- Memory in which some source nodes are finished and the others have their children alone; finishing one more.
use Rattle.std.proofs.Common.{◌≡◌, ℕ, ◌<◌, Bool, true, false, cond, ◌&&◌, ◌||◌, List, [], ◌∷◌, map, length, set, Some, None, Option, unwrap_or, sym, refl, ap, ◌∙◌, inl, inr}
use Rattle.std.proofs.lemmas.List.{append-nil}
use Rattle.std.proofs.lemmas.Bool.{both_ways, cases_Bool, and_from, or_cases, or_left, or_right, cond-true, cond-false}
use Rattle.kinds.specs.Strings.{Str, starts, equal, snoc}
use Rattle.kinds.proofs.Prefixes.{equal_refl}
use Rattle.filters.specs.Rules.{Rule, best}
use Rattle.filters.specs.Orders.{Apart, Order}
use Rattle.tries.specs.Prefixes.{any, longest_proper}
use Rattle.tries.specs.Shape.{has_src}
use Rattle.tries.specs.Search.{kept}
use Rattle.tries.proofs.Finds.{src_front}
use Rattle.grid.specs.declared.node.Kept.{Kept}
use Rattle.grid.specs.declared.node.Links.{Links}
use Rattle.grid.specs.declared.node.Node.{Node}
use Rattle.grid.specs.declared.node.Node.TheVariants.{Empty, Source}
use Rattle.grid.specs.Nodes.{links_of, no_links, node_at, child_of, next_of, kept_of, pick_kept}
use Rattle.grid.specs.Edits.{switched, finish_in}
use Rattle.grid.specs.Derived.{Key, destination, source, key_eq, is_key, place, place_of, once, switch_place, keep, node_of}
use Rattle.grid.specs.Build.{raw, exactly, own_of}
use Rattle.grid.specs.declared.finish.Trek.{Trek}
use Rattle.grid.specs.Finish.{node_if, child_from, finish_at, trek_on}
use Rattle.grid.proofs.Places.{place_has, place_none, node_at_lem}
use Rattle.grid.proofs.Numbering.{set_map}
use Rattle.grid.proofs.Walks.{leads}
use Rattle.grid.proofs.Paths.{starts_snoc}
use Rattle.grid.proofs.Proper.{proper_some, proper_step, proper_gone}
use Rattle.grid.proofs.Merits.{Over, Before, kept_beside, kept_finish}

-- (D, s) besides those that are done
abbrev pub mark : (Str → Str → Bool) → Str → Str → Str → Str → Bool
mark done D s E u = (equal E D && equal u s) || done E u

module _ {C : Type 0} (lt : Rule C → Rule C → Bool) (ord : Order lt) (F : List (Rule C)) (apart : Apart F) (keys : List Key)
    (distinct : once keys ≡ true) (whole : (k : Key) → any (key_eq k) keys ≡ is_key F k) where
  -- the node of a key where done says which source nodes are finished
  abbrev pub mixed : (Str → Str → Bool) → Key → Node
  mixed done (destination t) = node_of lt F keys (destination t)
  mixed done (source D s) = cond (done D s) (node_of lt F keys (source D s)) (raw (own_of lt F F) keys (source D s))

  pub mixed_at : (done : Str → Str → Bool) (N : List Node) → N ≡ map (mixed done) keys → (k : Key) (p : ℕ) → place k keys ≡ Some p → node_at N p ≡ mixed done k
  mixed_at done N e k p h = node_at_lem (mixed done) keys N [] (e ∙ sym (append-nil (map (mixed done) keys))) k p h

  -- children are there from the start
  mixed_child : (done : Str → Str → Bool) (D s : Str) (b : Bool) → child_of (mixed done (source D s)) b ≡ place (source D (snoc s b)) keys
  mixed_child done D s b = go (done D s) b
    where
      go : (x c : Bool) → child_of (cond x (node_of lt F keys (source D s)) (raw (own_of lt F F) keys (source D s))) c ≡ place (source D (snoc s c)) keys
      go true true = refl
      go true false = refl
      go false true = refl
      go false false = refl

  -- the finished node of s at that destination, where there is one
  abbrev pub node_for : Str → Option Str → Node
  node_for s None = Empty
  node_for s (Some A) = node_of lt F keys (source A s)

  -- the node beside (D, s)
  abbrev pub beside_of : Str → Str → Node
  beside_of D s = node_for s (longest_proper (λ A. has_src F A s) D)

  -- the node beside leads where the switch of (D, s) should
  leads_on : (D s : Str) (b : Bool) → next_of (beside_of D s) b ≡ place_of keys (snoc s b) (longest_proper (λ A. has_src F A (snoc s b)) D)
  leads_on D s b = go (longest_proper (λ A. has_src F A s) D) refl
    where
      go : (o : Option Str) → longest_proper (λ A. has_src F A s) D ≡ o → next_of (node_for s o) b ≡ place_of keys (snoc s b) (longest_proper (λ A. has_src F A (snoc s b)) D)
      go None e = ap (place_of keys (snoc s b)) (sym (proper_gone (has_src F) (src_front F) D s b e))
      go (Some A) e = leads lt F keys whole A s b ∙ ap (place_of keys (snoc s b)) (proper_step (has_src F) (src_front F) D s A b e)

  switch_is : (D s : Str) (b : Bool) → switched (place (source D (snoc s b)) keys) (next_of (beside_of D s) b) ≡ switch_place F keys D s b
  switch_is D s b =
      let to = place_of keys (snoc s b) (longest_proper (λ A. has_src F A (snoc s b)) D) in
      elim (cases_Bool (has_src F D (snoc s b))) [
        | inl h ↦
            let m = place_has (source D (snoc s b)) keys (whole (source D (snoc s b)) ∙ h) in
            ap (λ (o : Option ℕ). switched o (next_of (beside_of D s) b)) m.1 ∙ sym (cond-true (has_src F D (snoc s b)) None to h)
        | inr h ↦
            ap (λ (o : Option ℕ). switched o (next_of (beside_of D s) b)) (place_none (source D (snoc s b)) keys (whole (source D (snoc s b)) ∙ h))
            ∙ leads_on D s b
            ∙ sym (cond-false (has_src F D (snoc s b)) None to h)
      ]

  kept_for : (s : Str) (o : Option Str) → kept_of (node_for s o) ≡ keep lt F (kept_beside lt ord F apart s o)
  kept_for s None = refl
  kept_for s (Some A) = refl

  -- a source node with its children, whatever its switches were, is finished to what it should be
  finish_any : (D s : Str) (x : Links) (e a : Option (Rule C)) → Before lt ord F apart D s e → Over lt ord F apart D s a
      → finish_in (Source (links_of (λ b. place (source D (snoc s b)) keys)) x (keep lt F e)) (beside_of D s) (keep lt F a) ≡ node_of lt F keys (source D s)
  finish_any D s x e a before over =
      let z = switch_is D s false in
      let o = switch_is D s true in
      let k = ap (λ (q : Option Kept). pick_kept (pick_kept (keep lt F e) (keep lt F a)) q) (kept_for s (longest_proper (λ A. has_src F A s) D)) ∙ kept_finish lt ord F apart D s e a before over in
      λ i. Source (links_of (λ b. place (source D (snoc s b)) keys)) (record { zero = z i; one = o i }) (k i)

  finish_mixed : (done : Str → Str → Bool) (D s : Str) (a : Option (Rule C)) → Over lt ord F apart D s a
      → finish_in (mixed done (source D s)) (beside_of D s) (keep lt F a) ≡ node_of lt F keys (source D s)
  finish_mixed done D s a over = go (done D s)
    where
      go : (x : Bool) → finish_in (cond x (node_of lt F keys (source D s)) (raw (own_of lt F F) keys (source D s))) (beside_of D s) (keep lt F a) ≡ node_of lt F keys (source D s)
      go true = finish_any D s (links_of (switch_place F keys D s)) (kept lt F (D, s)) a (inr refl) over
      go false = finish_any D s no_links (best lt (exactly D s) F) a (inl refl) over

  -- ---- one node more

  module _ (done : Str → Str → Bool) (N : List Node) (e : N ≡ map (mixed done) keys) (D s : Str) (p : ℕ) (at_p : place (source D s) keys ≡ Some p)
      (b : Node) (beside : b ≡ beside_of D s) (k : Option Kept) (a : Option (Rule C)) (above : k ≡ keep lt F a) (over : Over lt ord F apart D s a) where
    finished_is : finish_in (node_at N p) b k ≡ node_of lt F keys (source D s)
    finished_is =
        let n = mixed_at done N e (source D s) p at_p in
        ap (λ (z : Node × Node × Option Kept). finish_in z.0 z.1 z.2) (λ i. (n i, beside i, above i)) ∙ finish_mixed done D s a over

    pub finished_kept : kept_of (finish_in (node_at N p) b k) ≡ keep lt F (kept lt F (D, s))
    finished_kept = ap kept_of finished_is

    pub finished_nodes : set N p (finish_in (node_at N p) b k) ≡ map (mixed (mark done D s)) keys
    finished_nodes =
        ap (λ (n : Node). set N p n) finished_is
        ∙ ap (λ (M : List Node). set M p (node_of lt F keys (source D s))) e
        ∙ set_map keys (mixed done) (mixed (mark done D s)) (source D s) p (node_of lt F keys (source D s)) at_p distinct here other
      where
        here : mixed (mark done D s) (source D s) ≡ node_of lt F keys (source D s)
        here =
            cond-true (mark done D s D s) (node_of lt F keys (source D s)) (raw (own_of lt F F) keys (source D s))
            (or_left (equal D D && equal s s) (done D s) (and_from (equal D D) (equal s s) (equal_refl D) (equal_refl s)))

        other : (l : Key) → any (key_eq l) keys ≡ true → key_eq l (source D s) ≡ false → mixed (mark done D s) l ≡ mixed done l
        other (destination t) i h = refl
        other (source E u) i h =
            ap (λ (x : Bool). cond (x || done E u) (node_of lt F keys (source E u)) (raw (own_of lt F F) keys (source E u))) h

  -- ---- along a path

  -- all source nodes of shorter destinations are done
  abbrev pub Ready : (Str → Str → Bool) → Str → Type 0
  Ready done D = (E u : Str) → length E < length D → has_src F E u ≡ true → done E u ≡ true

  -- the node beside (D, s), as it is read
  pub beside_at : (done : Str → Str → Bool) (N : List Node) → N ≡ map (mixed done) keys → (D s : Str) → Ready done D
      → node_if N (place_of keys s (longest_proper (λ A. has_src F A s) D)) ≡ beside_of D s
  beside_at done N e D s ready = go (longest_proper (λ A. has_src F A s) D) refl
    where
      go : (o : Option Str) → longest_proper (λ A. has_src F A s) D ≡ o → node_if N (place_of keys s o) ≡ node_for s o
      go None q = refl
      go (Some A) q =
          let l = proper_some (λ P. has_src F P s) D A q in
          let m = place_has (source A s) keys (whole (source A s) ∙ l.0) in
          ap (node_if N) m.1 ∙ mixed_at done N e (source A s) m.0 m.1
          ∙ cond-true (done A s) (node_of lt F keys (source A s)) (raw (own_of lt F F) keys (source A s)) (ready A s l.2 l.0)

  -- the path of (D, s) is done, and t stands at its end
  pub record On (done : Str → Str → Bool) (D s : Str) (t : List Node × Trek) : Type 0 where
    pub more : Str → Str → Bool
    pub nodes : t.0 ≡ map (mixed more) keys
    pub stays : (E u : Str) → done E u ≡ true → more E u ≡ true
    pub covers : (u : Str) → starts u s ≡ true → more D u ≡ true
    pub here : place (source D s) keys ≡ Some t.1.at
    pub beside : t.1.beside ≡ beside_of D s
    pub kept_is : t.1.kept ≡ keep lt F (kept lt F (D, s))

  pub trek_first : (done : Str → Str → Bool) (N : List Node) → N ≡ map (mixed done) keys → (D : Str) (top : ℕ) → place (source D []) keys ≡ Some top
      → (b : Node) → b ≡ beside_of D [] → On done D [] (finish_at N top b None)
  trek_first done N e D top h b beside =
      record {
        more = mark done D [];
        nodes = finished_nodes done N e D [] top h b beside None None refl (inl (refl, refl));
        stays = λ E u d. or_right (equal E D && equal u []) (done E u) d;
        covers = covers;
        here = h;
        beside = beside;
        kept_is = finished_kept done N e D [] top h b beside None None refl (inl (refl, refl));
      }
    where
      covers : (u : Str) → starts u [] ≡ true → mark done D [] D u ≡ true
      covers [] i = or_left (equal D D && true) (done D []) (and_from (equal D D) true (equal_refl D) refl)
      covers (x ∷ u) i = absurd (both_ways false refl i)

  pub trek_next : (done : Str → Str → Bool) (D s : Str) (b : Bool) (t : List Node × Trek) → Ready done D → has_src F D (snoc s b) ≡ true
      → On done D s t → On done D (snoc s b) (trek_on t b)
  trek_next done D s b t ready has on =
      record {
        more = mark on.more D (snoc s b);
        nodes = finished_nodes on.more t.0 on.nodes D (snoc s b) child here (node_if t.0 (next_of t.1.beside b)) beside t.1.kept (kept lt F (D, s)) on.kept_is over;
        stays = λ E u d. or_right (equal E D && equal u (snoc s b)) (on.more E u) (on.stays E u d);
        covers = covers;
        here = here;
        beside = beside;
        kept_is = finished_kept on.more t.0 on.nodes D (snoc s b) child here (node_if t.0 (next_of t.1.beside b)) beside t.1.kept (kept lt F (D, s)) on.kept_is over;
      }
    where
      child : ℕ
      child = child_from t.0 t.1.at b

      over : Over lt ord F apart D (snoc s b) (kept lt F (D, s))
      over = inr (s, b, refl, refl)

      here : place (source D (snoc s b)) keys ≡ Some (child_from t.0 t.1.at b)
      here =
          let m = place_has (source D (snoc s b)) keys (whole (source D (snoc s b)) ∙ has) in
          let c = ap (λ (n : Node). child_of n b) (mixed_at on.more t.0 on.nodes (source D s) t.1.at on.here) ∙ mixed_child on.more D s b in
          m.1 ∙ ap (λ (o : Option ℕ). Some (unwrap_or o t.1.at)) (sym (c ∙ m.1))

      beside : node_if t.0 (next_of t.1.beside b) ≡ beside_of D (snoc s b)
      beside =
          ap (λ (n : Node). node_if t.0 (next_of n b)) on.beside
          ∙ ap (node_if t.0) (leads_on D s b)
          ∙ beside_at on.more t.0 on.nodes D (snoc s b) (λ E u l h. on.stays E u (ready E u l h))

      covers : (u : Str) → starts u (snoc s b) ≡ true → mark on.more D (snoc s b) D u ≡ true
      covers u i =
          elim (or_cases (starts u s) (equal u (snoc s b)) (sym (starts_snoc u s b) ∙ i)) [
            | inl j ↦ or_right (equal D D && equal u (snoc s b)) (on.more D u) (on.covers u j)
            | inr j ↦ or_left (equal D D && equal u (snoc s b)) (on.more D u) (and_from (equal D D) (equal u (snoc s b)) (equal_refl D) j)
          ]
