-- A walk over the nodes of a derived grid visits just the source nodes of the search by definition, and keeps the best of them.
use Rattle.std.proofs.Common.{◌≡◌, ℕ, ◌+◌, Bool, true, false, cond, List, [], ◌∷◌, ◌++◌, map, length, Some, None, Option, sym, refl, ap, ◌∙◌, subst, inl, inr, arith}
use Rattle.std.specs.Option.{option_map}
use Rattle.std.proofs.lemmas.Bool.{cases_Bool}
use Rattle.kinds.specs.Strings.{Str, snoc}
use Rattle.filters.specs.Rules.{Rule}
use Rattle.tries.specs.Prefixes.{any, longest_proper}
use Rattle.tries.specs.Shape.{has_src, next}
use Rattle.tries.specs.Search.{led, walk, kept}
use Rattle.tries.proofs.Longest.{longest_some, longest_or}
use Rattle.grid.specs.declared.node.Kept.{Kept}
use Rattle.grid.specs.declared.node.Node.{Node}
use Rattle.grid.specs.declared.search.Walk.{Walk}
use Rattle.std.specs.Option.{option_or}
use Rattle.grid.specs.Nodes.{next_of, kept_of, pick_kept}
use Rattle.grid.specs.Derived.{Key, source, key_eq, is_key, place, place_of, keep, node_of}
use Rattle.grid.specs.Steps.{onward, along, met, step_on}
use Rattle.grid.proofs.Places.{place_has, place_none, node_at_lem}
use Rattle.grid.proofs.Ranks.{pick_all}

pub else_none : {X : Type 0} (o : Option X) → option_or o None ≡ o
else_none None = refl
else_none (Some x) = refl

-- where a step goes has a node
pub next_has : (has : Str → Str → Bool) (D s A : Str) (b : Bool) → next has D s b ≡ Some A → has A (snoc s b) ≡ true
next_has has D s A b e = (longest_some (λ P. has P (snoc s b)) D A (longest_or (λ P. has P (snoc s b)) D ∙ e)).1

-- ---- a list of filters, and keys that are just those of its grid
module _ {C : Type 0} (lt : Rule C → Rule C → Bool) (F : List (Rule C)) (keys : List Key) (whole : (k : Key) → any (key_eq k) keys ≡ is_key F k) where
  -- child or switch, at each string t of a source
  leads_to : (D t : Str) → option_or (place (source D t) keys) (cond (has_src F D t) None (place_of keys t (longest_proper (λ A. has_src F A t) D)))
      ≡ place_of keys t (cond (has_src F D t) (Some D) (longest_proper (λ A. has_src F A t) D))
  leads_to D t =
      elim (cases_Bool (has_src F D t)) [
        | inl e ↦
            ap (λ (x : Bool). option_or (place (source D t) keys) (cond x None (place_of keys t (longest_proper (λ A. has_src F A t) D)))) e
            ∙ else_none (place (source D t) keys)
            ∙ ap (λ (x : Bool). place_of keys t (cond x (Some D) (longest_proper (λ A. has_src F A t) D))) (sym e)
        | inr e ↦
            ap (λ (x : Bool). option_or (place (source D t) keys) (cond x None (place_of keys t (longest_proper (λ A. has_src F A t) D)))) e
            ∙ ap (λ (o : Option ℕ). option_or o (place_of keys t (longest_proper (λ A. has_src F A t) D))) (place_none (source D t) keys (whole (source D t) ∙ e))
            ∙ ap (λ (x : Bool). place_of keys t (cond x (Some D) (longest_proper (λ A. has_src F A t) D))) (sym e)
      ]

  -- the node of (D, s) leads by b where the definition says
  pub leads : (D s : Str) (b : Bool) → next_of (node_of lt F keys (source D s)) b ≡ place_of keys (snoc s b) (next (has_src F) D s b)
  leads D s false = leads_to D (snoc s false)
  leads D s true = leads_to D (snoc s true)

  -- ---- and memory that holds their nodes
  module _ (N rest : List Node) (nodes : N ≡ map (node_of lt F keys) keys ++ rest) where
    -- the walk ended at e, when w had been to the first of the keys and to nothing of the others, which gave acc before
    pub record Crossed (w e : Walk Kept) (acc : Option Kept) (ks : List (Str × Str)) : Type 0 where
      pub visits : e.visits + 1 ≡ w.visits + length ks
      pub best : e.kept ≡ pick_all acc (map (λ k. keep lt F (kept lt F k)) ks)

    pub cross_is : (r D s : Str) (w : Walk Kept) (acc : Option Kept) → place (source D s) keys ≡ Some w.at
        → w.kept ≡ pick_kept acc (keep lt F (kept lt F (D, s)))
        → Crossed w (along (step_on N) w r) acc (walk (has_src F) D s r)
    cross_is [] D s w acc p h = record { visits = refl; best = h }
    cross_is (b ∷ r) D s w acc p h =
        subst (λ (o : Option ℕ). Crossed w (onward (option_map (met N w.kept w.visits) o) w (λ v. along (step_on N) v r)) acc (walk (has_src F) D s (b ∷ r)))
        (sym (ap (λ (n : Node). next_of n b) (node_at_lem (node_of lt F keys) keys N rest nodes (source D s) w.at p) ∙ leads D s b))
        (go (next (has_src F) D s b) refl (λ A v q k. cross_is r A (snoc s b) v w.kept q k))
      where
        go : (o : Option Str) → next (has_src F) D s b ≡ o
            → ((A : Str) (v : Walk Kept) → place (source A (snoc s b)) keys ≡ Some v.at → v.kept ≡ pick_kept w.kept (keep lt F (kept lt F (A, snoc s b)))
            → Crossed v (along (step_on N) v r) w.kept (walk (has_src F) A (snoc s b) r))
            → Crossed w (onward (option_map (met N w.kept w.visits) (place_of keys (snoc s b) o)) w (λ v. along (step_on N) v r)) acc
            ((D, s) ∷ led o (λ A. walk (has_src F) A (snoc s b) r))
        go None q more = record { visits = refl; best = h }
        go (Some A) q more =
            let k = source A (snoc s b) in
            let m = place_has k keys (whole k ∙ next_has (has_src F) D s A b q) in
            let v : Walk Kept = met N w.kept w.visits m.0 in
            let c = more A v m.1 (ap (λ (n : Node). pick_kept w.kept (kept_of n)) (node_at_lem (node_of lt F keys) keys N rest nodes k m.0 m.1)) in
            let cv = c.visits in
            subst (λ (o : Option ℕ). Crossed w (onward (option_map (met N w.kept w.visits) o) w (λ v. along (step_on N) v r)) acc
            ((D, s) ∷ walk (has_src F) A (snoc s b) r)) (sym m.1)
            (record {
              visits = omega arith;
              best = c.best ∙ ap (λ (o : Option Kept). pick_all o (map (λ k. keep lt F (kept lt F k)) (walk (has_src F) A (snoc s b) r))) h;
            })
