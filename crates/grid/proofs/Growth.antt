-- A new node: what it does to the nodes with their children alone, and to the memory that holds them.
use Rattle.std.proofs.Common.{◌≡◌, ℕ, suc, ◌+◌, ◌-◌, ◌<◌, Bool, true, false, ◌||◌, ◌⊎◌, List, [], ◌∷◌, ◌++◌, map, length, set, replicate, Some, None, Option, sym, refl, ap, ◌∙◌, inl, inr, arith}
use Rattle.std.proofs.lemmas.List.{same_from_push, length_push, length-map, length-set, set_at, set-append_left, map_push, append_assoc}
use Rattle.std.proofs.lemmas.Bool.{both_ways, cases_Bool, or_cases, or_left}
use Rattle.kinds.specs.Strings.{Str, snoc}
use Rattle.filters.proofs.Bests.{none_some}
use Rattle.tries.specs.Prefixes.{any}
use Rattle.grid.specs.declared.node.Kept.{Kept}
use Rattle.grid.specs.declared.node.Node.{Node}
use Rattle.grid.specs.declared.node.Node.TheVariants.{Empty, Destination, Source}
use Rattle.grid.specs.declared.edit.Way.{Way}
use Rattle.grid.specs.declared.edit.Way.TheVariants.{Down, Root}
use Rattle.grid.specs.Nodes.{no_links, node_at}
use Rattle.grid.specs.Edits.{lead_of, leading, bud_of}
use Rattle.grid.specs.Derived.{Key, destination, source, key_eq, place, Rooted}
use Rattle.grid.specs.Build.{reached, goes, make, own_at, raw, State, Grown}
use Rattle.grid.proofs.Places.{key_same, place_none, place_any, node_at_lem}
use Rattle.grid.proofs.Numbering.{same_key_lem, key_apart, any_push, any_same, or_none, place_out, place_below, place_last, place_other, once_push, set_map}

-- ---- ways

down_root : (b : Bool) → Down b ≡ Root → ⊥
down_root b e = let z : ◌≡◌ {A = ℕ} 0 1 = cc in omega arith

root_down : (b : Bool) → Root ≡ Down b → ⊥
root_down b e = let z : ◌≡◌ {A = ℕ} 0 1 = cc in omega arith

down_same : (a b : Bool) → Down a ≡ Down b → a ≡ b
down_same a b e = cc

-- a string with a bit behind is not empty, and no other than it
snoc_some : (s : Str) (b : Bool) → [] ≡ snoc s b → ⊥
snoc_some s b e = let l = ap (λ (x : Str). length x) e in let k = length_push s b in omega arith

snoc_longer : (s : Str) (b : Bool) → snoc s b ≡ s → ⊥
snoc_longer s b e = let l = ap (λ (x : Str). length x) e in let k = length_push s b in omega arith

dst_src : (t D s : Str) → destination t ≡ source D s → ⊥
dst_src t D s e = let z : ◌≡◌ {A = ℕ} 0 1 = cc in omega arith

dst_same : (t u : Str) → destination t ≡ destination u → t ≡ u
dst_same t u e = cc

src_same : (D s E u : Str) → source D s ≡ source E u → (D ≡ E) × (s ≡ u)
src_same D s E u e = let a : D ≡ E = cc in let b : s ≡ u = cc in (a, b)

-- a node hangs on one other node, by one way
pub reached_one : (l k : Key) (v w : Way) → goes l v ≡ true → goes k w ≡ true → reached l v ≡ reached k w → (l ≡ k) × (v ≡ w)
reached_one (destination t) (destination u) (Down a) (Down b) g h e =
    let p = same_from_push t u a b (dst_same (snoc t a) (snoc u b) e) in (ap {B = Key} destination p.0, ap {B = Way} Down p.1)
reached_one (destination t) (destination u) (Down a) Root g h e = absurd (dst_src (snoc t a) u [] e)
reached_one (destination t) (destination u) Root (Down b) g h e = absurd (dst_src (snoc u b) t [] (sym e))
reached_one (destination t) (destination u) Root Root g h e = (ap {B = Key} destination (src_same t [] u [] e).0, refl)
reached_one (destination t) (source D s) (Down a) (Down b) g h e = absurd (dst_src (snoc t a) D (snoc s b) e)
reached_one (destination t) (source D s) (Down a) Root g h e = absurd (both_ways false refl h)
reached_one (destination t) (source D s) Root (Down b) g h e = absurd (snoc_some s b (src_same t [] D (snoc s b) e).1)
reached_one (destination t) (source D s) Root Root g h e = absurd (both_ways false refl h)
reached_one (source D s) (destination u) (Down a) (Down b) g h e = absurd (dst_src (snoc u b) D (snoc s a) (sym e))
reached_one (source D s) (destination u) (Down a) Root g h e = absurd (snoc_some s a (src_same u [] D (snoc s a) (sym e)).1)
reached_one (source D s) (destination u) Root w g h e = absurd (both_ways false refl g)
reached_one (source D s) (source E u) (Down a) (Down b) g h e =
    let q = src_same D (snoc s a) E (snoc u b) e in
    let d = q.0 in
    let p = same_from_push s u a b q.1 in
    let r = p.0 in
    ((λ i. source (d i) (r i)), ap {B = Way} Down p.1)
reached_one (source D s) (source E u) (Down a) Root g h e = absurd (both_ways false refl h)
reached_one (source D s) (source E u) Root w g h e = absurd (both_ways false refl g)

-- no node hangs on itself
pub reached_other : (k : Key) (w : Way) → goes k w ≡ true → reached k w ≡ k → ⊥
reached_other (destination t) (Down b) g e = snoc_longer t b (dst_same (snoc t b) t e)
reached_other (destination t) Root g e = dst_src t t [] (sym e)
reached_other (source D s) (Down b) g e = snoc_longer s b (src_same D (snoc s b) D s e).1
reached_other (source D s) Root g e = both_ways false refl g

-- ---- the node of a key

-- a node's ways lead where its key's do
pub raw_lead : (own : Str → Str → Option Kept) (keys : List Key) (k : Key) (w : Way) → goes k w ≡ true → lead_of (raw own keys k) w ≡ place (reached k w) keys
raw_lead own keys (destination t) (Down true) g = refl
raw_lead own keys (destination t) (Down false) g = refl
raw_lead own keys (destination t) Root g = refl
raw_lead own keys (source D s) (Down true) g = refl
raw_lead own keys (source D s) (Down false) g = refl
raw_lead own keys (source D s) Root g = absurd (both_ways false refl g)

-- ways that lead alike make the same node
make_same : (k : Key) (f g : Way → Option ℕ) (o : Option Kept) → ((v : Way) → goes k v ≡ true → f v ≡ g v) → make k f o ≡ make k g o
make_same (destination t) f g o e =
    let a = e (Down false) refl in let b = e (Down true) refl in let c = e Root refl in λ i. Destination (record { zero = a i; one = b i }) (c i)
make_same (source D s) f g o e =
    let a = e (Down false) refl in let b = e (Down true) refl in λ i. Source (record { zero = a i; one = b i }) no_links o

-- with one way more
make_lead : (k : Key) (w : Way) (f g : Way → Option ℕ) (o : Option Kept) (p : ℕ) → goes k w ≡ true → f w ≡ Some p
    → ((v : Way) → goes k v ≡ true → (v ≡ w → ⊥) → f v ≡ g v) → make k f o ≡ leading (make k g o) w p
make_lead (destination t) (Down true) f g o p h e other =
    let a = other (Down false) refl (λ q. both_ways false refl (down_same false true q)) in
    let c = other Root refl (root_down true) in λ i. Destination (record { zero = a i; one = e i }) (c i)
make_lead (destination t) (Down false) f g o p h e other =
    let b = other (Down true) refl (λ q. both_ways true (down_same true false q) refl) in
    let c = other Root refl (root_down false) in λ i. Destination (record { zero = e i; one = b i }) (c i)
make_lead (destination t) Root f g o p h e other =
    let a = other (Down false) refl (down_root false) in
    let b = other (Down true) refl (down_root true) in λ i. Destination (record { zero = a i; one = b i }) (e i)
make_lead (source D s) (Down true) f g o p h e other =
    let a = other (Down false) refl (λ q. both_ways false refl (down_same false true q)) in λ i. Source (record { zero = a i; one = e i }) no_links o
make_lead (source D s) (Down false) f g o p h e other =
    let b = other (Down true) refl (λ q. both_ways true (down_same true false q) refl) in λ i. Source (record { zero = e i; one = b i }) no_links o
make_lead (source D s) Root f g o p h e other = absurd (both_ways false refl h)

-- a node that leads nowhere and keeps nothing is the new node of a way
make_bud : (k : Key) (w : Way) (f g : Way → Option ℕ) (o q : Option Kept) → goes k w ≡ true → ((v : Way) → goes (reached k w) v ≡ true → f v ≡ None) → o ≡ None
    → make (reached k w) f o ≡ bud_of (make k g q) w
make_bud (destination t) (Down b) f g o q h e n = make_same (destination (snoc t b)) f (λ v. None) o e
make_bud (destination t) Root f g o q h e n =
    make_same (source t []) f (λ v. None) o e ∙ ap (λ (z : Option Kept). Source no_links no_links z) n
make_bud (source D s) (Down b) f g o q h e n =
    make_same (source D (snoc s b)) f (λ v. None) o e ∙ ap (λ (z : Option Kept). Source no_links no_links z) n
make_bud (source D s) Root f g o q h e n = absurd (both_ways false refl h)

-- ---- a new key k·w behind the keys
module _ (own : Str → Str → Option Kept) (keys : List Key) (N : List Node) (used : ℕ) (st : State own keys N used)
    (k : Key) (w : Way) (g : goes k w ≡ true) (at' : ℕ) (at_k : place k keys ≡ Some at') (new : any (key_eq (reached k w)) keys ≡ false) where
  fresh : Key
  fresh = reached k w

  more : List Key
  more = keys ++ reached k w ∷ []

  elsewhere : (l : Key) (v : Way) → goes l v ≡ true → ((l ≡ k) × (v ≡ w) → ⊥) → place (reached l v) (keys ++ reached k w ∷ []) ≡ place (reached l v) keys
  elsewhere l v h ne =
      place_other (reached l v) (reached k w) keys (key_apart (reached l v) (reached k w) (λ e. ne (reached_one l k v w h g e)))

  -- other nodes are as they were
  raw_other : (l : Key) → key_eq l k ≡ false → raw own (keys ++ reached k w ∷ []) l ≡ raw own keys l
  raw_other l h =
      make_same l (λ v. place (reached l v) (keys ++ reached k w ∷ [])) (λ v. place (reached l v) keys) (own_at own l)
      (λ v q. elsewhere l v q (λ e. both_ways (key_eq l k) h (same_key_lem l k e.0)))

  -- its parent leads to it
  raw_parent : raw own (keys ++ reached k w ∷ []) k ≡ leading (raw own keys k) w (length keys)
  raw_parent =
      make_lead k w (λ v. place (reached k v) (keys ++ reached k w ∷ [])) (λ v. place (reached k v) keys) (own_at own k) (length keys) g
      (place_last (reached k w) keys new) (λ v q ne. elsewhere k v q (λ e. ne e.1))

  -- it leads nowhere and keeps nothing
  keeps_none : (l : Key) → any (key_eq l) keys ≡ false → own_at own l ≡ None
  keeps_none (destination t) h = refl
  keeps_none (source D s) h = st.bare D s h

  raw_new : raw own (keys ++ reached k w ∷ []) (reached k w) ≡ bud_of (raw own keys k) w
  raw_new =
      make_bud k w (λ v. place (reached (reached k w) v) (keys ++ reached k w ∷ [])) (λ v. place (reached k v) keys) (own_at own (reached k w)) (own_at own k) g
      (λ v q.
      place_other (reached (reached k w) v) (reached k w) keys
      (key_apart (reached (reached k w) v) (reached k w) (λ e. reached_other (reached k w) v q e))
      ∙ place_none (reached (reached k w) v) keys (nowhere v q))
      (keeps_none (reached k w) new)
    where
      nowhere : (v : Way) → goes (reached k w) v ≡ true → any (key_eq (reached (reached k w) v)) keys ≡ false
      nowhere v q =
          elim (cases_Bool (any (key_eq (reached (reached k w) v)) keys))
          [ inl h ↦ absurd (both_ways (any (key_eq (reached k w)) keys) new (st.closed (reached k w) v q h)) | inr h ↦ h ]

  -- ---- the memory

  -- the parent's node, as it is read
  parent_is : node_at N at' ≡ raw own keys k
  parent_is = node_at_lem (raw own keys) keys N (replicate (length N - used) Empty) st.nodes k at' at_k

  tail_split : used < length N → replicate {A = Node} (length N - used) Empty ≡ Empty ∷ replicate (length N - (used + 1)) Empty
  tail_split h = let e : length N - used ≡ suc (length N - (used + 1)) = omega arith in ap (λ (n : ℕ). replicate {A = Node} n Empty) e

  first_write : used < length N → set N used (bud_of (node_at N at') w)
      ≡ map (raw own keys) keys ++ bud_of (raw own keys k) w ∷ replicate (length N - (used + 1)) Empty
  first_write h =
      let l : length (map (raw own keys) keys) ≡ used = length-map keys (raw own keys) ∙ st.long in
      ap (λ (M : List Node). set M used (bud_of (node_at N at') w))
      (st.nodes ∙ ap (λ (tail : List Node). map (raw own keys) keys ++ tail) (tail_split h))
      ∙ ap (λ (n : Node). set (map (raw own keys) keys ++ Empty ∷ replicate (length N - (used + 1)) Empty) used (bud_of n w)) parent_is
      ∙ set_at (map (raw own keys) keys) Empty (replicate (length N - (used + 1)) Empty) (bud_of (raw own keys k) w) used l

  second_write : set (map (raw own keys) keys ++ bud_of (raw own keys k) w ∷ replicate (length N - (used + 1)) Empty) at' (leading (raw own keys k) w used)
      ≡ map (raw own (keys ++ reached k w ∷ [])) (keys ++ reached k w ∷ []) ++ replicate (length N - (used + 1)) Empty
  second_write =
      let b = place_below k keys at' at_k in
      let l = length-map keys (raw own keys) in
      let tail = replicate {A = Node} (length N - (used + 1)) Empty in
      set-append_left (map (raw own keys) keys) (bud_of (raw own keys k) w ∷ tail) at' (leading (raw own keys k) w used) (omega arith)
      ∙ ap (λ (M : List Node). M ++ bud_of (raw own keys k) w ∷ tail)
      (set_map keys (raw own keys) (raw own (keys ++ reached k w ∷ [])) k at' (leading (raw own keys k) w used) at_k st.distinct
      (raw_parent ∙ ap (leading (raw own keys k) w) st.long) (λ m i h. raw_other m h))
      ∙ ap (λ (n : Node). map (raw own (keys ++ reached k w ∷ [])) keys ++ n ∷ tail) (sym raw_new)
      ∙ sym (append_assoc (map (raw own (keys ++ reached k w ∷ [])) keys) (raw own (keys ++ reached k w ∷ []) (reached k w) ∷ []) tail)
      ∙ ap (λ (M : List Node). M ++ tail) (sym (map_push (raw own (keys ++ reached k w ∷ [])) keys (reached k w)))

  written : used < length N → set (set N used (bud_of (node_at N at') w)) at' (leading (node_at N at') w used)
      ≡ map (raw own (keys ++ reached k w ∷ [])) (keys ++ reached k w ∷ []) ++ replicate (length N - (used + 1)) Empty
  written h =
      ap (λ (M : List Node). set M at' (leading (node_at N at') w used)) (first_write h)
      ∙ ap (λ (n : Node). set (map (raw own keys) keys ++ bud_of (raw own keys k) w ∷ replicate (length N - (used + 1)) Empty) at' (leading n w used)) parent_is
      ∙ second_write

  root_stays : (ks : List Key) (p : ℕ) → place k ks ≡ Some p → Rooted ks → Rooted (ks ++ reached k w ∷ [])
  root_stays [] p e r = absurd (none_some p e)
  root_stays (l ∷ ks) p e r = r

  still_closed : (l : Key) (v : Way) → goes l v ≡ true → any (key_eq (reached l v)) (keys ++ reached k w ∷ []) ≡ true → any (key_eq l) (keys ++ reached k w ∷ []) ≡ true
  still_closed l v q h =
      any_push (key_eq l) keys (reached k w)
      ∙ or_left (any (key_eq l) keys) (key_eq l (reached k w))
      (elim (or_cases (any (key_eq (reached l v)) keys) (key_eq (reached l v) (reached k w)) (sym (any_push (key_eq (reached l v)) keys (reached k w)) ∙ h)) [
        | inl i ↦ st.closed l v q i
        | inr i ↦ any_same l k keys (reached_one l k v w q g (key_same (reached l v) (reached k w) i)).0 ∙ place_any k keys at' at_k
      ])

  still_bare : (D s : Str) → any (key_eq (source D s)) (keys ++ reached k w ∷ []) ≡ false → own D s ≡ None
  still_bare D s h =
      elim (cases_Bool (any (key_eq (source D s)) keys)) [
        | inl i ↦ absurd (both_ways (any (key_eq (source D s)) (keys ++ reached k w ∷ [])) h
            (any_push (key_eq (source D s)) keys (reached k w) ∙ or_left (any (key_eq (source D s)) keys) (key_eq (source D s) (reached k w)) i))
        | inr i ↦ st.bare D s i
      ]

  pub grown : used < length N
      → Grown own keys (λ l. key_eq l (reached k w)) (reached k w) (set (set N used (bud_of (node_at N at') w)) at' (leading (node_at N at') w used)) (used + 1) used
  grown h =
      record {
        more = keys ++ reached k w ∷ [];
        state =
            record {
              long = length_push keys (reached k w) ∙ ap (λ (n : ℕ). n + 1) st.long;
              distinct = once_push (reached k w) keys st.distinct new;
              rooted = root_stays keys at' at_k st.rooted;
              closed = still_closed;
              bare = still_bare;
              nodes =
                  written h
                  ∙ ap (λ (n : ℕ). map (raw own (keys ++ reached k w ∷ [])) (keys ++ reached k w ∷ []) ++ replicate (n - (used + 1)) Empty) (sym same_length);
            };
        here = place_last (reached k w) keys new ∙ ap {B = Option ℕ} Some st.long;
        adds = λ l. any_push (key_eq l) keys (reached k w);
      }
    where
      same_length : length (set (set N used (bud_of (node_at N at') w)) at' (leading (node_at N at') w used)) ≡ length N
      same_length = length-set (set N used (bud_of (node_at N at') w)) at' (leading (node_at N at') w used) ∙ length-set N used (bud_of (node_at N at') w)

-- a node that is there already
pub there : (own : Str → Str → Option Kept) (keys : List Key) (N : List Node) (used : ℕ) → State own keys N used
    → (k : Key) (p : ℕ) → place k keys ≡ Some p → Grown own keys (λ l. key_eq l k) k N used p
there own keys N used st k p e =
    record { more = keys; state = st; here = e; adds = λ l. same l (cases_Bool (key_eq l k)) }
  where
    same : (l : Key) → (key_eq l k ≡ true) ⊎ (key_eq l k ≡ false) → any (key_eq l) keys ≡ (any (key_eq l) keys || key_eq l k)
    same l (inl h) =
        let i : any (key_eq l) keys ≡ true = any_same l k keys (key_same l k h) ∙ place_any k keys p e in
        i ∙ sym (or_left (any (key_eq l) keys) (key_eq l k) i)
    same l (inr h) = sym (ap (λ (t : Bool). any (key_eq l) keys || t) h ∙ or_none (any (key_eq l) keys))

-- the node at a key's place
pub state_node : (own : Str → Str → Option Kept) (keys : List Key) (N : List Node) (used : ℕ) → State own keys N used
    → (k : Key) (p : ℕ) → place k keys ≡ Some p → node_at N p ≡ raw own keys k
state_node own keys N used st k p e = node_at_lem (raw own keys) keys N (replicate (length N - used) Empty) st.nodes k p e

-- a way that leads somewhere
pub extend_there : (own : Str → Str → Option Kept) (keys : List Key) (N : List Node) (used : ℕ) → State own keys N used
    → (k : Key) (w : Way) (i p : ℕ) → place k keys ≡ Some i → goes k w ≡ true → Some p ≡ lead_of (node_at N i) w
    → Grown own keys (λ l. key_eq l (reached k w)) (reached k w) N used p
extend_there own keys N used st k w i p e g lead =
    there own keys N used st (reached k w) p
    (sym (raw_lead own keys k w g) ∙ ap (λ (n : Node). lead_of n w) (sym (state_node own keys N used st k i e)) ∙ sym lead)

-- a way that leads nowhere yet
pub extend_new : (own : Str → Str → Option Kept) (keys : List Key) (N : List Node) (used : ℕ) → State own keys N used
    → (k : Key) (w : Way) (i : ℕ) → place k keys ≡ Some i → goes k w ≡ true → None ≡ lead_of (node_at N i) w → used < length N
    → Grown own keys (λ l. key_eq l (reached k w)) (reached k w) (set (set N used (bud_of (node_at N i) w)) i (leading (node_at N i) w used)) (used + 1) used
extend_new own keys N used st k w i e g lead h =
    grown own keys N used st k w g i e
    (place_out (reached k w) keys (sym (raw_lead own keys k w g) ∙ ap (λ (n : Node). lead_of n w) (sym (state_node own keys N used st k i e)) ∙ sym lead)) h
