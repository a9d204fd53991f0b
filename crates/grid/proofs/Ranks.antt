-- The lower standing is the better filter, so the best of what nodes keep is what is kept of the best.
use Rattle.std.proofs.Common.{◌≡◌, Bool, true, false, cond, ◌&&◌, List, [], ◌∷◌, map, Some, None, Option, sym, refl, ap, ◌∙◌, subst, inl, inr}
use Rattle.std.proofs.lemmas.Bool.{cases_Bool, cond-true, cond-false}
use Rattle.kinds.specs.Strings.{Str, starts}
use Rattle.filters.specs.Rules.{Rule, pick, scan}
use Rattle.filters.specs.Orders.{In, Apart, Order}
use Rattle.filters.proofs.Bests.{best_from}
use Rattle.tries.specs.Search.{kept}
use Rattle.tries.proofs.Standings.{standings_decide}
use Rattle.grid.specs.declared.node.Kept.{Kept}
use Rattle.grid.specs.Nodes.{pick_kept}
use Rattle.grid.specs.Derived.{keep}
use Rattle.filters.specs.Directives.{named}
use Rattle.grid.specs.Steps.{told}

-- the best of acc and the list, by standing
abbrev pub pick_all : Option Kept → List (Option Kept) → Option Kept
pick_all acc [] = acc
pick_all acc (x ∷ xs) = pick_all (pick_kept acc x) xs

-- what is told of a filter that is kept
pub told_keep : {C : Type 0} (lt : Rule C → Rule C → Bool) (F : List (Rule C)) (o : Option (Rule C)) → told (keep lt F o) ≡ named o
told_keep lt F None = refl
told_keep lt F (Some f) = refl

module _ {C : Type 0} (lt : Rule C → Rule C → Bool) (F : List (Rule C)) where
  -- the filter is one of F
  abbrev pub From : Option (Rule C) → Type 0
  From o = (f : Rule C) → o ≡ Some f → In f F

  pick_from : (a b : Option (Rule C)) → From a → From b → From (pick lt a b)
  pick_from None b h k = k
  pick_from (Some g) None h k = h
  pick_from (Some g) (Some f) h k =
      elim (cases_Bool (lt f g)) [
        | inl e ↦ subst (λ (o : Option (Rule C)). From o) (sym (cond-true (lt f g) (Some f) (Some g) e)) k
        | inr e ↦ subst (λ (o : Option (Rule C)). From o) (sym (cond-false (lt f g) (Some f) (Some g) e)) h
      ]

  pub kept_from : (k : Str × Str) → From (kept lt F k)
  kept_from k f e = (best_from lt (λ g. starts g.destination k.0 && starts g.source k.1) F f e).0

  module _ (ord : Order lt) (apart : Apart F) where
    keep_cond : (b : Bool) (f g : Rule C) → cond b (keep lt F (Some f)) (keep lt F (Some g)) ≡ keep lt F (cond b (Some f) (Some g))
    keep_cond true f g = refl
    keep_cond false f g = refl

    -- the better of two as they are kept
    pub keep_pick : (a b : Option (Rule C)) → From a → From b → pick_kept (keep lt F a) (keep lt F b) ≡ keep lt F (pick lt a b)
    keep_pick None b h k = refl
    keep_pick (Some g) None h k = refl
    keep_pick (Some g) (Some f) h k =
        ap (λ (t : Bool). cond t (keep lt F (Some f)) (keep lt F (Some g))) (standings_decide lt ord F apart f g (k f refl) (h g refl)) ∙ keep_cond (lt f g) f g

    -- the best of what the nodes keep
    pub keep_scan : (ks : List (Str × Str)) (acc : Option (Rule C)) → From acc → pick_all (keep lt F acc) (map (λ k. keep lt F (kept lt F k)) ks) ≡ keep lt F (scan lt acc (map (kept lt F) ks))
    keep_scan [] acc h = refl
    keep_scan (k ∷ ks) acc h =
        ap (λ (o : Option Kept). pick_all o (map (λ k. keep lt F (kept lt F k)) ks)) (keep_pick acc (kept lt F k) h (kept_from k))
        ∙ keep_scan ks (pick lt acc (kept lt F k)) (pick_from acc (kept lt F k) h (kept_from k))
