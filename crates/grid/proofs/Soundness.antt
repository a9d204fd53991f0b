-- The finishing keeps every link below the used places, whatever the memory holds.
use Rattle.std.proofs.Common.{◌≡◌, ℕ, zero, suc, Bool, true, false, cond, eqb, List, [], ◌∷◌, ◌++◌, length, take, drop, replicate, Some, None, Option, sym, refl, ap, subst, arith}
use Rattle.std.proofs.lemmas.List.{length-append, length-drop, drop_at}
use Rattle.std.proofs.lemmas.Bool.{both_ways, and_parts, and_from}
use Rattle.kinds.specs.Strings.{Str}
use Rattle.filters.specs.Rules.{Rule}
use Rattle.grid.specs.declared.node.Kept.{Kept}
use Rattle.grid.specs.declared.node.Node.{Node}
use Rattle.grid.specs.declared.node.Node.TheVariants.{Empty, Destination, Source}
use Rattle.grid.specs.Nodes.{node_at, next_of, links_within, sound, bare}
use Rattle.grid.specs.Edits.{finish_in}
use Rattle.grid.specs.Build.{Safe}
use Rattle.grid.specs.declared.finish.Trek.{Trek}
use Rattle.grid.specs.Finish.{node_if, child_from, roots, finish_at, trek_on, trek, finish_from, finish_path, finish_length, finish_below}
use Rattle.grid.proofs.Sound.{sound_at}
use Rattle.grid.proofs.Safety.{links_finish, sound_set}

module _ (u : ℕ) where
  links_if : (N : List Node) (o : Option ℕ) → sound u N ≡ true → links_within u (node_if N o) ≡ true
  links_if N None h = refl
  links_if N (Some p) h = sound_at u N p h

  sound_node : (N : List Node) (p : ℕ) (b : Node) (a : Option Kept) → sound u N ≡ true → links_within u b ≡ true → sound u (finish_at N p b a).0 ≡ true
  sound_node N p b a h k = sound_set u N p (finish_in (node_at N p) b a) h (links_finish u (node_at N p) b a (sound_at u N p h) k)

  sound_trek : (s : Str) (t : List Node × Trek) → sound u t.0 ≡ true → links_within u t.1.beside ≡ true → sound u (trek t s).0 ≡ true
  sound_trek [] t h k = h
  sound_trek (b ∷ s) t h k =
      let l = links_if t.0 (next_of t.1.beside b) h in
      sound_trek s (trek_on t b) (sound_node t.0 (child_from t.0 t.1.at b) (node_if t.0 (next_of t.1.beside b)) t.1.kept h l) l

  sound_from : (N : List Node) (o up : Option ℕ) (s : Str) → sound u N ≡ true → sound u (finish_from N (o, up) s) ≡ true
  sound_from N None up s h = h
  sound_from N (Some top) up s h =
      let l = links_if N up h in sound_trek s (finish_at N top (node_if N up) None) (sound_node N top (node_if N up) None h l) l

  sound_path : (N : List Node) (D s : Str) → sound u N ≡ true → sound u (finish_path N D s) ≡ true
  sound_path N D s h = sound_from N (roots N 0 None D).0 (roots N 0 None D).1 s h

  sound_length : {C : Type 0} (n : ℕ) (F : List (Rule C)) (N : List Node) → sound u N ≡ true → sound u (finish_length n N F) ≡ true
  sound_length n [] N h = h
  sound_length n (f ∷ F) N h = sound_length n F (cond (eqb (length f.destination) n) (finish_path N f.destination f.source) N) (go (eqb (length f.destination) n))
    where
      go : (x : Bool) → sound u (cond x (finish_path N f.destination f.source) N) ≡ true
      go true = sound_path N f.destination f.source h
      go false = h

  pub sound_below : {C : Type 0} (n : ℕ) (F : List (Rule C)) (N : List Node) → sound u N ≡ true → sound u (finish_below n N F) ≡ true
  sound_below zero F N h = h
  sound_below (suc n) F N h = sound_length n F (finish_below n N F) (sound_below n F N h)

  -- ---- the used part and the rest

  pub sound_take : (n : ℕ) (N : List Node) → sound u N ≡ true → sound u (take n N) ≡ true
  sound_take zero N h = refl
  sound_take (suc n) [] h = refl
  sound_take (suc n) (m ∷ N) h =
      let p = and_parts (links_within u m) (sound u N) h in and_from (links_within u m) (sound u (take n N)) p.0 (sound_take n N p.1)

  sound_drop : (n : ℕ) (N : List Node) → sound u N ≡ true → sound u (drop n N) ≡ true
  sound_drop zero N h = h
  sound_drop (suc n) [] h = h
  sound_drop (suc n) (m ∷ N) h = sound_drop n N (and_parts (links_within u m) (sound u N) h).1

  sound_append : (M N : List Node) → sound u M ≡ true → sound u N ≡ true → sound u (M ++ N) ≡ true
  sound_append [] N h k = k
  sound_append (m ∷ M) N h k =
      let p = and_parts (links_within u m) (sound u M) h in and_from (links_within u m) (sound u (M ++ N)) p.0 (sound_append M N p.1 k)

  -- another used part
  pub safe_front : (N front : List Node) → Safe u N → length front ≡ u → sound u front ≡ true → Safe u (front ++ drop u N)
  safe_front N front s l h =
      let a = length-append front (drop u N) in
      let b = length-drop u N in
      record {
        fits = omega arith;
        linked = sound_append front (drop u N) h (sound_drop u N s.linked);
        rest = subst (λ (M : List Node). bare M ≡ true) (sym (drop_at front (drop u N) u l)) s.rest;
      }

-- memory without a node is empty throughout
pub bare_is : (N : List Node) → bare N ≡ true → N ≡ replicate (length N) Empty
bare_is [] h = refl
bare_is (Empty ∷ N) h = ap {B = List Node} (λ r. Empty ∷ r) (bare_is N h)
bare_is (Destination c r ∷ N) h = absurd (both_ways false refl h)
bare_is (Source c x k ∷ N) h = absurd (both_ways false refl h)
