-- Insertion along a string, at its end, and of a whole filter.
use Rattle.std.proofs.Common.{◌≡◌, ℕ, suc, ◌-◌, ◌<◌, Bool, true, false, ◌&&◌, ◌||◌, ◌⊎◌, List, [], ◌∷◌, ◌++◌, map, length, set, replicate, Some, None, Option, sym, refl, ap, ◌∙◌, subst, inl, inr, arith}
use mathlib.Core.Bool.{beq}
use Rattle.std.proofs.lemmas.List.{nil_from_length, length-map, length-set, set-append_left}
use Rattle.std.proofs.lemmas.Bool.{both_ways, and_from, or_cases, or_left, cond-true, cond-false}
use Rattle.kinds.specs.Strings.{Str, starts, equal, snoc}
use Rattle.kinds.proofs.Prefixes.{equal_refl}
use Rattle.tries.specs.Prefixes.{any}
use Rattle.grid.specs.declared.node.Kept.{Kept}
use Rattle.grid.specs.declared.node.Node.{Node}
use Rattle.grid.specs.declared.node.Node.TheVariants.{Empty, Destination}
use Rattle.grid.specs.declared.edit.Way.{Way}
use Rattle.grid.specs.declared.edit.Way.TheVariants.{Down, Root}
use Rattle.grid.specs.Nodes.{no_links, node_at, pick_kept}
use Rattle.grid.specs.Edits.{keep_in}
use Rattle.grid.specs.Derived.{Key, destination, source, key_eq, place, Rooted}
use Rattle.grid.specs.Build.{reached, goes, in_trie, above, make, own_at, raw, State, Grown, keeping, Inserted}
use Rattle.grid.proofs.Places.{key_same, place_any}
use Rattle.grid.proofs.Numbering.{same_key_lem, key_apart, any_same, or_none, place_first, place_below, set_map}
use Rattle.grid.proofs.Growth.{there, state_node}

-- ---- one bit more

beq_and : (a x y : Bool) → (a && (x || y)) ≡ ((a && x) || (a && y))
beq_and true x y = refl
beq_and false x y = refl

or_swap : (a b c : Bool) → (a || (b || c)) ≡ ((a || b) || c)
or_swap true b c = refl
or_swap false b c = refl

-- a prefix of t·b is a prefix of t, or t·b itself
pub starts_snoc : (u t : Str) (b : Bool) → starts u (snoc t b) ≡ (starts u t || equal u (snoc t b))
starts_snoc [] t b = refl
starts_snoc (a ∷ []) [] b = refl
starts_snoc (a ∷ c ∷ u) [] b = refl
starts_snoc (a ∷ u) (c ∷ t) b =
    ap (λ (x : Bool). beq a c && x) (starts_snoc u t b) ∙ beq_and (beq a c) (starts u t) (equal u (snoc t b))

pub reached_in_trie : (o : Option Str) (w : Str) (b : Bool) → reached (in_trie o w) (Down b) ≡ in_trie o (snoc w b)
reached_in_trie None w b = refl
reached_in_trie (Some D) w b = refl

pub goes_in_trie : (o : Option Str) (w : Str) (b : Bool) → goes (in_trie o w) (Down b) ≡ true
goes_in_trie None w b = refl
goes_in_trie (Some D) w b = refl

above_snoc : (o : Option Str) (w : Str) (b : Bool) (l : Key) → above (in_trie o (snoc w b)) l ≡ (above (in_trie o w) l || key_eq l (in_trie o (snoc w b)))
above_snoc None w b (destination u) = starts_snoc u w b
above_snoc None w b (source E u) = refl
above_snoc (Some D) w b (destination u) = refl
above_snoc (Some D) w b (source E u) =
    ap (λ (x : Bool). equal E D && x) (starts_snoc u w b) ∙ beq_and (equal E D) (starts u w) (equal u (snoc w b))

above_root : (o : Option Str) (l : Key) → above (in_trie o []) l ≡ key_eq l (in_trie o [])
above_root None (destination []) = refl
above_root None (destination (a ∷ u)) = refl
above_root None (source E u) = refl
above_root (Some D) (destination u) = refl
above_root (Some D) (source E []) = refl
above_root (Some D) (source E (a ∷ u)) = refl

module _ (own : Str → Str → Option Kept) (keys : List Key) where
  -- before the first bit
  pub path_none : (N : List Node) (used : ℕ) (o : Option Str) (p : ℕ) → State own keys N used → place (in_trie o []) keys ≡ Some p
      → Grown own keys (above (in_trie o [])) (in_trie o []) N used p
  path_none N used o p st e =
      let g = there own keys N used st (in_trie o []) p e in
      record {
        more = g.more;
        state = g.state;
        here = g.here;
        adds = λ l. g.adds l ∙ ap (λ (x : Bool). any (key_eq l) keys || x) (sym (above_root o l));
      }

  -- a bit more
  pub path_more : (o : Option Str) (w : Str) (b : Bool) (N : List Node) (used p : ℕ) (M : List Node) (used' q : ℕ)
      → (g : Grown own keys (above (in_trie o w)) (in_trie o w) N used p)
      → Grown own g.more (λ l. key_eq l (reached (in_trie o w) (Down b))) (reached (in_trie o w) (Down b)) M used' q
      → Grown own keys (above (in_trie o (snoc w b))) (in_trie o (snoc w b)) M used' q
  path_more o w b N used p M used' q g h =
      let e = reached_in_trie o w b in
      record {
        more = h.more;
        state = h.state;
        here = subst (λ (k : Key). place k h.more ≡ Some q) e h.here;
        adds = λ l.
            h.adds l
            ∙ ap (λ (x : Bool). x || key_eq l (reached (in_trie o w) (Down b))) (g.adds l)
            ∙ ap (λ (k : Key). (any (key_eq l) keys || above (in_trie o w) l) || key_eq l k) e
            ∙ sym (or_swap (any (key_eq l) keys) (above (in_trie o w) l) (key_eq l (in_trie o (snoc w b))))
            ∙ ap (λ (x : Bool). any (key_eq l) keys || x) (sym (above_snoc o w b l));
      }

-- ---- the root

pub root_first : (keys : List Key) → Rooted keys → 0 < length keys → place (destination []) keys ≡ Some 0
root_first [] r h = absurd (omega arith)
root_first (k ∷ ks) r h = place_first (destination []) k ks (same_key_lem (destination []) k (sym r))

-- the root of memory that has one
pub plant_there : (own : Str → Str → Option Kept) (keys : List Key) (N : List Node) (used : ℕ) → State own keys N used → 0 < used
    → Grown own keys (λ l. key_eq l (in_trie None [])) (in_trie None []) N used 0
plant_there own keys N used st h =
    let e = st.long in
    there own keys N used st (destination []) 0 (root_first keys st.rooted (omega arith))

-- the root of empty memory
pub plant_new : (own : Str → Str → Option Kept) (keys : List Key) (N : List Node) (used : ℕ) → State own keys N used → used ≡ 0 → 0 < length N
    → Grown own keys (λ l. key_eq l (in_trie None [])) (in_trie None []) (set N 0 (Destination no_links None)) 1 0
plant_new own keys N used st z h =
    record {
      more = root ∷ [];
      state =
          record {
            long = refl;
            distinct = refl;
            rooted = refl;
            closed = closed;
            bare = λ D s e. st.bare D s (ap (λ (ks : List Key). any (key_eq (source D s)) ks) none);
            nodes = nodes;
          };
      here = refl;
      adds = λ l. or_none (key_eq l root) ∙ ap (λ (ks : List Key). any (key_eq l) ks || key_eq l root) (sym none);
    }
  where
    root : Key
    root = destination []

    none : keys ≡ []
    none = let e = st.long in nil_from_length keys (omega arith)

    closed : (k : Key) (w : Way) → goes k w ≡ true → any (key_eq (reached k w)) (root ∷ []) ≡ true → any (key_eq k) (root ∷ []) ≡ true
    closed (destination t) (Down b) g e = absurd (snoc_root t b (or_cases (equal (snoc t b) []) false e))
      where
        snoc_root : (t : Str) (b : Bool) → (equal (snoc t b) [] ≡ true) ⊎ (false ≡ true) → ⊥
        snoc_root [] b (inl i) = both_ways false refl i
        snoc_root (a ∷ t) b (inl i) = both_ways false refl i
        snoc_root t b (inr i) = both_ways false refl i
    closed (destination t) Root g e = absurd (both_ways false refl e)
    closed (source D s) (Down b) g e = absurd (both_ways false refl e)
    closed (source D s) Root g e = absurd (both_ways false refl g)

    empty : N ≡ replicate (length N) Empty
    empty =
        st.nodes ∙ ap (λ (ks : List Key). map (raw own ks) ks ++ replicate (length N - used) Empty) none
        ∙ (let e : length N - used ≡ length N = omega arith in ap (λ (n : ℕ). replicate {A = Node} n Empty) e)

    split : replicate {A = Node} (length N) Empty ≡ Empty ∷ replicate (length N - 1) Empty
    split = let e : length N ≡ suc (length N - 1) = omega arith in ap (λ (n : ℕ). replicate {A = Node} n Empty) e

    raw_root : raw own (root ∷ []) root ≡ Destination no_links None
    raw_root = refl

    nodes : set N 0 (Destination no_links None) ≡ raw own (root ∷ []) root ∷ replicate (length (set N 0 (Destination no_links None)) - 1) Empty
    nodes =
        ap (λ (M : List Node). set M 0 (Destination no_links None)) (empty ∙ split)
        ∙ ap (λ (n : ℕ). Destination no_links None ∷ replicate {A = Node} (n - 1) Empty) (sym (length-set N 0 (Destination no_links None)))

-- ---- what is kept at the end

keeping_here : (own : Str → Str → Option Kept) (D s : Str) (c : Kept) → keeping own D s c D s ≡ pick_kept (own D s) (Some c)
keeping_here own D s c =
    cond-true (equal D D && equal s s) (pick_kept (own D s) (Some c)) (own D s) (and_from (equal D D) (equal s s) (equal_refl D) (equal_refl s))

keeping_other : (own : Str → Str → Option Kept) (D s : Str) (c : Kept) (l : Key) → key_eq l (source D s) ≡ false → own_at (keeping own D s c) l ≡ own_at own l
keeping_other own D s c (destination t) h = refl
keeping_other own D s c (source E u) h = cond-false (equal E D && equal u s) (pick_kept (own D s) (Some c)) (own E u) h

pub kept_more : (own : Str → Str → Option Kept) (keys : List Key) (N : List Node) (used : ℕ) (D s : Str) (c : Kept) (p : ℕ)
    → State own keys N used → place (source D s) keys ≡ Some p → State (keeping own D s c) keys (set N p (keep_in (node_at N p) c)) used
kept_more own keys N used D s c p st e =
    record {
      long = st.long;
      distinct = st.distinct;
      rooted = st.rooted;
      closed = st.closed;
      bare = λ E u n.
          keeping_other own D s c (source E u)
          (key_apart (source E u) (source D s) (λ q. both_ways (any (key_eq (source E u)) keys) n (any_same (source E u) (source D s) keys q ∙ place_any (source D s) keys p e)))
          ∙ st.bare E u n;
      nodes = written;
    }
  where
    new : Key → Node
    new = raw (keeping own D s c) keys

    same : (l : Key) → any (key_eq l) keys ≡ true → key_eq l (source D s) ≡ false → new l ≡ raw own keys l
    same l i h = ap (λ (k : Option Kept). make l (λ w. place (reached l w) keys) k) (keeping_other own D s c l h)

    here : new (source D s) ≡ keep_in (raw own keys (source D s)) c
    here = ap (λ (k : Option Kept). make (source D s) (λ w. place (reached (source D s) w) keys) k) (keeping_here own D s c)

    written : set N p (keep_in (node_at N p) c) ≡ map new keys ++ replicate (length (set N p (keep_in (node_at N p) c)) - used) Empty
    written =
        let b = place_below (source D s) keys p e in
        let l = length-map keys (raw own keys) in
        ap (λ (n : Node). set N p (keep_in n c)) (state_node own keys N used st (source D s) p e)
        ∙ ap (λ (M : List Node). set M p (keep_in (raw own keys (source D s)) c)) st.nodes
        ∙ set-append_left (map (raw own keys) keys) (replicate (length N - used) Empty) p (keep_in (raw own keys (source D s)) c) (omega arith)
        ∙ ap (λ (M : List Node). M ++ replicate (length N - used) Empty)
        (set_map keys (raw own keys) new (source D s) p (keep_in (raw own keys (source D s)) c) e st.distinct here same)
        ∙ ap (λ (n : ℕ). map new keys ++ replicate (n - used) Empty) (sym (length-set N p (keep_in (node_at N p) c)))

-- ---- a whole filter

-- both tries' roots are on the paths
absorbs : (k a b c d : Bool) → (a ≡ true → b ≡ true) → (c ≡ true → d ≡ true) → ((((k || a) || b) || c) || d) ≡ (k || (b || d))
absorbs true a b c d h i = refl
absorbs false true b c d h i = sym (or_left b d (h refl))
absorbs false false true c d h i = refl
absorbs false false false true d h i = sym (i refl)
absorbs false false false false d h i = refl

root_above : (o : Option Str) (w : Str) (l : Key) → key_eq l (in_trie o []) ≡ true → above (in_trie o w) l ≡ true
root_above None w l h = subst (λ (k : Key). above (destination w) k ≡ true) (sym (key_same l (destination []) h)) refl
root_above (Some D) w l h =
    subst (λ (k : Key). above (source D w) k ≡ true) (sym (key_same l (source D []) h)) (and_from (equal D D) true (equal_refl D) refl)

pub inserted : (own : Str → Str → Option Kept) (keys : List Key) (D s : Str) (c : Kept)
    (N1 : List Node) (u1 : ℕ) (N2 : List Node) (u2 : ℕ) (leaf : ℕ) (N3 : List Node) (u3 : ℕ) (root : ℕ) (N4 : List Node) (u4 : ℕ) (end : ℕ)
    → (g1 : Grown own keys (λ l. key_eq l (in_trie None [])) (in_trie None []) N1 u1 0)
    → (g2 : Grown own g1.more (above (in_trie None D)) (in_trie None D) N2 u2 leaf)
    → (g3 : Grown own g2.more (λ l. key_eq l (reached (in_trie None D) Root)) (reached (in_trie None D) Root) N3 u3 root)
    → (g4 : Grown own g3.more (above (in_trie (Some D) s)) (in_trie (Some D) s) N4 u4 end)
    → Inserted own keys D s c (set N4 end (keep_in (node_at N4 end) c)) u4
inserted own keys D s c N1 u1 N2 u2 leaf N3 u3 root N4 u4 end g1 g2 g3 g4 =
    record {
      more = g4.more;
      state = kept_more own g4.more N4 u4 D s c end g4.state g4.here;
      adds = λ l.
          g4.adds l
          ∙ ap (λ (x : Bool). x || above (source D s) l) (g3.adds l)
          ∙ ap (λ (x : Bool). (x || key_eq l (source D [])) || above (source D s) l) (g2.adds l)
          ∙ ap (λ (x : Bool). ((x || above (destination D) l) || key_eq l (source D [])) || above (source D s) l) (g1.adds l)
          ∙ absorbs (any (key_eq l) keys) (key_eq l (destination [])) (above (destination D) l) (key_eq l (source D [])) (above (source D s) l)
          (root_above None D l) (root_above (Some D) s l);
    }
