-- Every link stays below the used places, and every place behind stays empty.
use Rattle.std.proofs.Common.{◌≡◌, ℕ, zero, suc, ◌+◌, ◌-◌, ◌<◌, ◌≤◌, true, false, ◌&&◌, List, [], ◌∷◌, length, drop, set, replicate, Some, None, Option, sym, refl, subst, arith}
use Rattle.std.proofs.lemmas.List.{length-set, drop-drop, drop-set-lt}
use Rattle.std.proofs.lemmas.Bool.{and_parts, and_from, lt-ltb}
use Rattle.grid.specs.declared.node.Kept.{Kept}
use Rattle.grid.specs.declared.node.Node.{Node}
use Rattle.grid.specs.declared.node.Node.TheVariants.{Empty, Destination, Source}
use Rattle.grid.specs.declared.edit.Way.{Way}
use Rattle.grid.specs.declared.edit.Way.TheVariants.{Down, Root}
use Rattle.grid.specs.Nodes.{no_links, link_with, node_at, child_of, switch_of, next_of, root_of, within, links_within, sound, is_empty, bare}
use Rattle.grid.specs.Edits.{lead_of, leading, bud_of, keep_in, switched, finish_in}
use Rattle.grid.specs.Build.{Safe}
use Rattle.grid.proofs.Wiped.{sound_wiped, bare_wiped}
use Rattle.grid.specs.Inside.{next_inside}
use Rattle.grid.proofs.Sound.{links, links_more, sound_at, sound_more}

-- ---- a node's links

pub links_from : (u : ℕ) (n : Node) → within u (child_of n false) ≡ true → within u (child_of n true) ≡ true → within u (switch_of n false) ≡ true
    → within u (switch_of n true) ≡ true → within u (root_of n) ≡ true → links_within u n ≡ true
links_from u n a b c d e =
    and_from (within u (child_of n false)) (within u (child_of n true) && (within u (switch_of n false) && (within u (switch_of n true) && within u (root_of n)))) a
    (and_from (within u (child_of n true)) (within u (switch_of n false) && (within u (switch_of n true) && within u (root_of n))) b
    (and_from (within u (switch_of n false)) (within u (switch_of n true) && within u (root_of n)) c
    (and_from (within u (switch_of n true)) (within u (root_of n)) d e)))

pub lead_within : (u : ℕ) (n : Node) (w : Way) → links_within u n ≡ true → within u (lead_of n w) ≡ true
lead_within u n (Down b) h = (links u n h).child b
lead_within u n Root h = (links u n h).root

pub links_leading : (u : ℕ) (n : Node) (w : Way) (p : ℕ) → p < u → links_within u n ≡ true → links_within u (leading n w p) ≡ true
links_leading u Empty w p l h = refl
links_leading u (Destination c r) (Down true) p l h =
    let q = links u (Destination c r) h in links_from u (Destination (link_with c true p) r) (q.child false) (lt-ltb p u l) refl refl q.root
links_leading u (Destination c r) (Down false) p l h =
    let q = links u (Destination c r) h in links_from u (Destination (link_with c false p) r) (lt-ltb p u l) (q.child true) refl refl q.root
links_leading u (Destination c r) Root p l h =
    let q = links u (Destination c r) h in links_from u (Destination c (Some p)) (q.child false) (q.child true) refl refl (lt-ltb p u l)
links_leading u (Source c x k) (Down true) p l h =
    let q = links u (Source c x k) h in links_from u (Source (link_with c true p) x k) (q.child false) (lt-ltb p u l) (q.switch false) (q.switch true) refl
links_leading u (Source c x k) (Down false) p l h =
    let q = links u (Source c x k) h in links_from u (Source (link_with c false p) x k) (lt-ltb p u l) (q.child true) (q.switch false) (q.switch true) refl
links_leading u (Source c x k) Root p l h = h

pub links_bud : (u : ℕ) (n : Node) (w : Way) → links_within u (bud_of n w) ≡ true
links_bud u Empty w = refl
links_bud u (Destination c r) (Down b) = refl
links_bud u (Destination c r) Root = refl
links_bud u (Source c x k) w = refl

pub links_keep : (u : ℕ) (n : Node) (c : Kept) → links_within u n ≡ true → links_within u (keep_in n c) ≡ true
links_keep u Empty c h = h
links_keep u (Destination l r) c h = h
links_keep u (Source l x k) c h = h

switched_within : (u : ℕ) (child to : Option ℕ) → within u to ≡ true → within u (switched child to) ≡ true
switched_within u None to h = h
switched_within u (Some p) to h = refl

pub links_finish : (u : ℕ) (n beside : Node) (above : Option Kept) → links_within u n ≡ true → links_within u beside ≡ true → links_within u (finish_in n beside above) ≡ true
links_finish u Empty beside above h k = h
links_finish u (Destination c r) beside above h k = h
links_finish u (Source c x e) beside above h k =
    let q = links u (Source c x e) h in
    links_from u (finish_in (Source c x e) beside above) (q.child false) (q.child true) (switched_within u c.zero (next_of beside false) (next_inside u beside false k))
    (switched_within u c.one (next_of beside true) (next_inside u beside true k)) refl

-- ---- all nodes

pub sound_set : (u : ℕ) (N : List Node) (i : ℕ) (n : Node) → sound u N ≡ true → links_within u n ≡ true → sound u (set N i n) ≡ true
sound_set u [] i n h l = refl
sound_set u (m ∷ N) zero n h l = and_from (links_within u n) (sound u N) l (and_parts (links_within u m) (sound u N) h).1
sound_set u (m ∷ N) (suc i) n h l =
    let p = and_parts (links_within u m) (sound u N) h in and_from (links_within u m) (sound u (set N i n)) p.0 (sound_set u N i n p.1 l)

-- ---- the places behind

bare_drop : (n : ℕ) (N : List Node) → bare N ≡ true → bare (drop n N) ≡ true
bare_drop zero N h = h
bare_drop (suc n) [] h = h
bare_drop (suc n) (m ∷ N) h = bare_drop n N (and_parts (is_empty m) (bare N) h).1

pub bare_more : (u v : ℕ) (N : List Node) → u ≤ v → bare (drop u N) ≡ true → bare (drop v N) ≡ true
bare_more u v N l h =
    let e : u + (v - u) ≡ v = omega arith in
    subst (λ (n : ℕ). bare (drop n N) ≡ true) e (subst (λ (M : List Node). bare M ≡ true) (drop-drop (v - u) u N) (bare_drop (v - u) (drop u N) h))

-- ---- writes

-- below the used places
pub safe_set : (u : ℕ) (N : List Node) (i : ℕ) (n : Node) → Safe u N → i < u → links_within u n ≡ true → Safe u (set N i n)
safe_set u N i n s l h =
    let e = length-set N i n in
    let f = s.fits in
    record {
      fits = omega arith;
      linked = sound_set u N i n s.linked h;
      rest = subst (λ (M : List Node). bare M ≡ true) (sym (drop-set-lt u N i n l)) s.rest;
    }

-- at the first place behind, which comes into use
pub safe_push : (u : ℕ) (N : List Node) (n : Node) → Safe u N → u < length N → links_within (u + 1) n ≡ true → Safe (u + 1) (set N u n)
safe_push u N n s l h =
    let e = length-set N u n in
    let j : u < u + 1 = omega arith in
    record {
      fits = omega arith;
      linked = sound_set (u + 1) N u n (sound_more u (u + 1) (omega arith) N s.linked) h;
      rest = subst (λ (M : List Node). bare M ≡ true) (sym (drop-set-lt (u + 1) N u n j)) (bare_more u (u + 1) N (omega arith) s.rest);
    }

-- a new node at the first place behind, and a link to it
pub safe_grown : (u : ℕ) (N : List Node) (i : ℕ) (w : Way) → Safe u N → u < length N → i < u
    → Safe (u + 1) (set (set N u (bud_of (node_at N i) w)) i (leading (node_at N i) w u))
safe_grown u N i w s l k =
    safe_set (u + 1) (set N u (bud_of (node_at N i) w)) i (leading (node_at N i) w u)
    (safe_push u N (bud_of (node_at N i) w) s l (links_bud (u + 1) (node_at N i) w)) (omega arith)
    (links_leading (u + 1) (node_at N i) w u (omega arith) (links_more u (u + 1) (omega arith) (node_at N i) (sound_at u N i s.linked)))

-- the first node of all
pub safe_first : (u : ℕ) (N : List Node) → Safe u N → u ≡ 0 → 0 < length N → Safe 1 (set N 0 (Destination no_links None))
safe_first u N s z l =
    safe_push 0 N (Destination no_links None) (subst (λ (n : ℕ). Safe n N) z s) l refl

-- empty memory
pub safe_none : (u : ℕ) (N : List Node) → u ≡ 0 → N ≡ replicate (length N) Empty → Safe u N
safe_none u N z e =
    record {
      fits = omega arith;
      linked = subst (λ (M : List Node). sound u M ≡ true) (sym e) (sound_wiped u (length N));
      rest = subst (λ (n : ℕ). bare (drop n N) ≡ true) (sym z) (subst (λ (M : List Node). bare M ≡ true) (sym e) (bare_wiped (length N)));
    }
