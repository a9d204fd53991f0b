-- The best of a list: it is at least as good as each that passes, and it is one of them. Costs with an order, and labels at equal
-- costs, rank filters; and linear search finds the best match.
use Rattle.std.proofs.Common.{◌≡◌, ℕ, ◌<◌, ◌≤◌, Bool, true, false, ltb, ◌⊎◌, List, [], ◌∷◌, map, Some, None, Option, Ordering, Less, Equal, Greater, sym, refl, ap, ◌∙◌, subst, inl, inr, arith}
use Rattle.std.specs.Ordering.{ordering_reverse, is_le}
use Rattle.std.proofs.lemmas.Bool.{both_ways, cases_Bool, cases_eq, cond_both, cond-true, cond-false, ltb-true, ltb-false, le-ltb}
use Rattle.kinds.specs.Strings.{Str}
use Rattle.filters.specs.Rules.{Rule, matches, by_cost, better, pick, scan, only, best, linear}
use Rattle.filters.specs.Orders.{In, Each, Apart, Order, Compares, Best, BestMatch}

pub none_some : {A : Type 0} (x : A) → ◌≡◌ {A = Option A} None (Some x) → ⊥
none_some x e = let z : ◌≡◌ {A = ℕ} 0 1 = cc in omega arith

pub some_same : {A : Type 0} (x y : A) → ◌≡◌ {A = Option A} (Some x) (Some y) → x ≡ y
some_same x y e = cc

-- ---- membership

pub in_map : {A B : Type 0} (f : A → B) (x : A) (xs : List A) → In x xs → In (f x) (map f xs)
in_map f x [] h = h
in_map f x (y ∷ ys) (inl e) = inl (ap f e)
in_map f x (y ∷ ys) (inr h) = inr (in_map f x ys h)

pub map_in : {A B : Type 0} (f : A → B) (y : B) (xs : List A) → In y (map f xs) → (x : A) × In x xs × (y ≡ f x)
map_in f y [] h = absurd h
map_in f y (x ∷ xs) (inl e) = (x, inl refl, e)
map_in f y (x ∷ xs) (inr h) = let m = map_in f y xs h in (m.0, inr m.1, m.2)

pub each_in : {A : Type 0} (P : A → Type 0) (x : A) (xs : List A) → Each P xs → In x xs → P x
each_in P x [] e h = absurd h
each_in P x (y ∷ ys) e (inl q) = subst P (sym q) e.0
each_in P x (y ∷ ys) e (inr h) = each_in P x ys e.1 h

-- in a list where no label stands twice, filters of one label are one filter
pub label_one : {C : Type 0} (F : List (Rule C)) (f g : Rule C) → Apart F → In f F → In g F → f.label ≡ g.label → f ≡ g
label_one [] f g a h k e = absurd h
label_one (x ∷ F) f g a (inl p) (inl q) e = p ∙ sym q
label_one {C = C} (x ∷ F) f g a (inl p) (inr k) e =
    absurd (each_in (λ (y : Rule C). x.label ≡ y.label → ⊥) g F a.0 k (ap (λ (z : Rule C). z.label) (sym p) ∙ e))
label_one {C = C} (x ∷ F) f g a (inr h) (inl q) e =
    absurd (each_in (λ (y : Rule C). x.label ≡ y.label → ⊥) f F a.0 h (ap (λ (z : Rule C). z.label) (sym q) ∙ sym e))
label_one (x ∷ F) f g a (inr h) (inr k) e = label_one F f g a.1 h k e

-- ---- at least as good

-- o is at least as good as x
abbrev pub AsGood : {C : Type 0} → (Rule C → Rule C → Bool) → Option (Rule C) → Option (Rule C) → Type 0
AsGood lt o None = Unit {0}
AsGood lt None (Some f) = ⊥
AsGood lt (Some g) (Some f) = lt f g ≡ false

-- as good as an answer, where it is as good as each filter that the answer may be
pub good_each : {C : Type 0} (lt : Rule C → Rule C → Bool) (o x : Option (Rule C)) → ((f : Rule C) → x ≡ Some f → AsGood lt o (Some f)) → AsGood lt o x
good_each lt o None k = tt
good_each lt o (Some f) k = k f refl

module _ {C : Type 0} (lt : Rule C → Rule C → Bool) (ord : Order lt) where
  pub good_refl : (f : Rule C) → lt f f ≡ false
  good_refl f = elim (cases_Bool (lt f f)) [ inl e ↦ ord.one_way f f e | inr e ↦ e ]

  pub good_chain : (a b c : Option (Rule C)) → AsGood lt a b → AsGood lt b c → AsGood lt a c
  good_chain a b None h k = tt
  good_chain a None (Some f) h k = absurd k
  good_chain None (Some g) (Some f) h k = absurd h
  good_chain (Some e) (Some g) (Some f) h k = ord.chain f g e k h

  pick_first : (acc x : Option (Rule C)) → AsGood lt (pick lt acc x) acc
  pick_first None x = tt
  pick_first (Some g) None = good_refl g
  pick_first (Some g) (Some f) =
      cond_both (lt f g) (Some f) (Some g) (λ o. AsGood lt o (Some g)) (λ e. ord.one_way f g e) (λ e. good_refl g)

  pick_second : (acc x : Option (Rule C)) → AsGood lt (pick lt acc x) x
  pick_second None None = tt
  pick_second None (Some f) = good_refl f
  pick_second (Some g) None = tt
  pick_second (Some g) (Some f) =
      cond_both (lt f g) (Some f) (Some g) (λ o. AsGood lt o (Some f)) (λ e. good_refl f) (λ e. e)

  scan_first : (acc : Option (Rule C)) (xs : List (Option (Rule C))) → AsGood lt (scan lt acc xs) acc
  scan_first acc [] = pick_second None acc
  scan_first acc (x ∷ xs) =
      good_chain (scan lt (pick lt acc x) xs) (pick lt acc x) acc (scan_first (pick lt acc x) xs) (pick_first acc x)

  -- the best of a scan is at least as good as each that was read
  pub scan_all : (acc x : Option (Rule C)) (xs : List (Option (Rule C))) → In x xs → AsGood lt (scan lt acc xs) x
  scan_all acc x [] h = absurd h
  scan_all acc x (y ∷ ys) (inl e) =
      subst (λ o. AsGood lt (scan lt (pick lt acc y) ys) o) (sym e)
      (good_chain (scan lt (pick lt acc y) ys) (pick lt acc y) y (scan_first (pick lt acc y) ys) (pick_second acc y))
  scan_all acc x (y ∷ ys) (inr h) = scan_all (pick lt acc y) x ys h

  -- the best is at least as good as each that passes
  pub best_all : (p : Rule C → Bool) (F : List (Rule C)) (f : Rule C) → In f F → p f ≡ true → AsGood lt (best lt p F) (Some f)
  best_all p F f h t =
      subst (λ o. AsGood lt (best lt p F) o) (cond-true (p f) (Some f) None t)
      (scan_all None (only lt p f) (map (only lt p) F) (in_map (only lt p) f F h))

  -- two answers from a list where no label stands twice, each as good as the other, are one
  pub good_both : (F : List (Rule C)) → Apart F → (a b : Option (Rule C))
      → ((f : Rule C) → a ≡ Some f → In f F) → ((f : Rule C) → b ≡ Some f → In f F) → AsGood lt a b → AsGood lt b a → a ≡ b
  good_both F ap' None None h k l m = refl
  good_both F ap' None (Some g) h k l m = absurd l
  good_both F ap' (Some f) None h k l m = absurd m
  good_both F ap' (Some f) (Some g) h k l m =
      ap {B = Option (Rule C)} Some (label_one F f g ap' (h f refl) (k g refl) (ord.tie f g m l))

-- ---- the best is one of the list

module _ {C : Type 0} (lt : Rule C → Rule C → Bool) where
  pick_some : (acc x : Option (Rule C)) (f : Rule C) → pick lt acc x ≡ Some f → (acc ≡ Some f) ⊎ (x ≡ Some f)
  pick_some None x f e = inr e
  pick_some (Some g) None f e = inl e
  pick_some (Some g) (Some h) f e =
      elim (cases_Bool (lt h g)) [
        | inl t ↦ inr (sym (cond-true (lt h g) (Some h) (Some g) t) ∙ e)
        | inr t ↦ inl (sym (cond-false (lt h g) (Some h) (Some g) t) ∙ e)
      ]

  -- what a scan gives was there at the start or was read
  pub scan_some : (acc : Option (Rule C)) (xs : List (Option (Rule C))) (f : Rule C) → scan lt acc xs ≡ Some f → (acc ≡ Some f) ⊎ In (Some f) xs
  scan_some acc [] f e = inl e
  scan_some acc (x ∷ xs) f e =
      elim (scan_some (pick lt acc x) xs f e) [
        | inl p ↦ elim (pick_some acc x f p) [ inl q ↦ inl q | inr q ↦ inr (inl (sym q)) ]
        | inr h ↦ inr (inr h)
      ]

  only_some : (p : Rule C → Bool) (g f : Rule C) → only lt p g ≡ Some f → (p f ≡ true) × (f ≡ g)
  only_some p g f e =
      elim (cases_Bool (p g)) [
        | inl t ↦ let q = some_same g f (sym (cond-true (p g) (Some g) None t) ∙ e) in (subst (λ z. p z ≡ true) q t, sym q)
        | inr t ↦ absurd (none_some f (sym (cond-false (p g) (Some g) None t) ∙ e))
      ]

  -- the best is in the list and passes
  pub best_from : (p : Rule C → Bool) (F : List (Rule C)) (f : Rule C) → best lt p F ≡ Some f → In f F × (p f ≡ true)
  best_from p F f e =
      elim (scan_some None (map (only lt p) F) f e) [
        | inl q ↦ absurd (none_some f q)
        | inr h ↦
            let m = map_in (only lt p) (Some f) F h in
            let o = only_some p m.0 f (sym m.2) in
            (subst (λ z. In z F) (sym o.1) m.1, o.0)
      ]

  -- no best, where none passes
  pub none_best : (p : Rule C → Bool) (F : List (Rule C)) → ((f : Rule C) → In f F → p f ≡ false) → best lt p F ≡ None
  none_best p F never = go (best lt p F) refl
    where
      go : (o : Option (Rule C)) → best lt p F ≡ o → best lt p F ≡ None
      go None e = e
      go (Some f) e = let m = best_from p F f e in absurd (both_ways (p f) (never f m.0) m.1)

-- none passes, where there is no best
pub best_none : {C : Type 0} (lt : Rule C → Rule C → Bool) → Order lt → (p : Rule C → Bool) (F : List (Rule C)) → best lt p F ≡ None → (f : Rule C) → In f F → p f ≡ false
best_none lt ord p F e f h =
    elim (cases_Bool (p f)) [
      | inl t ↦ absurd (subst (λ o. AsGood lt o (Some f)) e (best_all lt ord p F f h t))
      | inr t ↦ t
    ]

-- ---- what an answer of a comparison says of the better

-- where the cost does not decide for f, it decides against it, or it is equal and the label does not decide for f
not_by_cost : (o : Ordering) (b : Bool) → by_cost o b ≡ false → (o ≡ Greater) ⊎ ((o ≡ Equal) × (b ≡ false))
not_by_cost Less b h = absurd (both_ways true h refl)
not_by_cost Equal b h = inr (refl, h)
not_by_cost Greater b h = inl refl

not_less : (o : Ordering) (b : Bool) → by_cost o b ≡ false → is_le (ordering_reverse o) ≡ true
not_less Less b h = absurd (both_ways true h refl)
not_less Equal b h = refl
not_less Greater b h = refl

by_cost_one_way : (o : Ordering) (m n : ℕ) → by_cost o (ltb m n) ≡ true → by_cost (ordering_reverse o) (ltb n m) ≡ false
by_cost_one_way Less m n h = refl
by_cost_one_way Equal m n h = let l = ltb-true m n h in le-ltb n m (omega arith)
by_cost_one_way Greater m n h = absurd (both_ways false refl h)

greater_not_le : (o : Ordering) → o ≡ Greater → is_le o ≡ true → ⊥
greater_not_le o e h = both_ways (is_le o) (rw e refl) h

by_cost_tie : (o : Ordering) (m n : ℕ) → by_cost o (ltb m n) ≡ false → by_cost (ordering_reverse o) (ltb n m) ≡ false → m ≡ n
by_cost_tie Less m n h k = absurd (both_ways true h refl)
by_cost_tie Equal m n h k = let a = ltb-false m n h in let b = ltb-false n m k in omega arith
by_cost_tie Greater m n h k = absurd (both_ways true k refl)

-- ---- the better by cost and label ranks filters
module _ {C : Type 0} (order : C → C → Ordering) (laws : Compares order) where
  better_one_way : (f g : Rule C) → better order f g ≡ true → better order g f ≡ false
  better_one_way f g h = rw (laws.exchange f.cost g.cost) (by_cost_one_way (order f.cost g.cost) f.label g.label h)

  -- where f is not better than g, g costs no more
  pub not_better : (f g : Rule C) → better order f g ≡ false → is_le (order g.cost f.cost) ≡ true
  not_better f g h = rw (laws.exchange f.cost g.cost) (not_less (order f.cost g.cost) (ltb f.label g.label) h)

  better_chain : (f g h : Rule C) → better order f g ≡ false → better order g h ≡ false → better order f h ≡ false
  better_chain f g h p q = go (order f.cost h.cost) refl
    where
      gf : is_le (order g.cost f.cost) ≡ true
      gf = not_better f g p

      hg : is_le (order h.cost g.cost) ≡ true
      hg = not_better g h q

      hf : is_le (order h.cost f.cost) ≡ true
      hf = laws.chain h.cost g.cost f.cost hg gf

      labels : order f.cost h.cost ≡ Equal → ltb f.label h.label ≡ false
      labels e =
          let fh : is_le (order f.cost h.cost) ≡ true = rw e refl in
          let fg = laws.chain f.cost h.cost g.cost fh hg in
          let gh = laws.chain g.cost f.cost h.cost gf fh in
          elim (not_by_cost (order f.cost g.cost) (ltb f.label g.label) p) [
            | inl x ↦ absurd (greater_not_le (order f.cost g.cost) x fg)
            | inr x ↦
                elim (not_by_cost (order g.cost h.cost) (ltb g.label h.label) q) [
                  | inl y ↦ absurd (greater_not_le (order g.cost h.cost) y gh)
                  | inr y ↦
                      let a = ltb-false f.label g.label x.1 in
                      let b = ltb-false g.label h.label y.1 in
                      le-ltb f.label h.label (omega arith)
                ]
          ]

      go : (o : Ordering) → order f.cost h.cost ≡ o → by_cost o (ltb f.label h.label) ≡ false
      go Less e = absurd (both_ways (is_le (order h.cost f.cost)) (rw (laws.exchange f.cost h.cost, e) refl) hf)
      go Equal e = labels e
      go Greater e = refl

  better_tie : (f g : Rule C) → better order f g ≡ false → better order g f ≡ false → f.label ≡ g.label
  better_tie f g h k = by_cost_tie (order f.cost g.cost) f.label g.label h (rw (laws.exchange f.cost g.cost) at k)

  pub ranks : Order (better order)
  ranks = record { one_way = better_one_way; chain = better_chain; tie = better_tie }

-- ---- linear search, by any test that ranks
module _ {C : Type 0} (lt : Rule C → Rule C → Bool) (ord : Order lt) (F : List (Rule C)) (d s : Str) where
  -- where it finds none, no filter matches
  pub linear_none : linear lt F d s ≡ None → (f : Rule C) → In f F → matches d s f ≡ false
  linear_none e = best_none lt ord (matches d s) F e

  -- where no filter matches, it finds none
  pub none_linear : ((f : Rule C) → In f F → matches d s f ≡ false) → linear lt F d s ≡ None
  none_linear never = none_best lt (matches d s) F never

  -- what it finds is in the list and matches
  pub linear_from : (f : Rule C) → linear lt F d s ≡ Some f → In f F × (matches d s f ≡ true)
  linear_from f e = best_from lt (matches d s) F f e

  -- and no filter that matches is better
  pub linear_least : (f g : Rule C) → linear lt F d s ≡ Some f → In g F → matches d s g ≡ true → lt g f ≡ false
  linear_least f g e h t = subst (λ o. AsGood lt o (Some g)) e (best_all lt ord (matches d s) F g h t)

-- ---- linear search finds the best match
module _ {C : Type 0} (order : C → C → Ordering) (laws : Compares order) (F : List (Rule C)) (apart : Apart F) (d s : Str) where
  found_best : (f : Rule C) → linear (better order) F d s ≡ Some f → Best order F d s f
  found_best f e =
      record { stands = from.0; fits = from.1; cheapest = λ g h t. not_better order laws g f (least g h t); first = after }
    where
      from : In f F × (matches d s f ≡ true)
      from = linear_from (better order) (ranks order laws) F d s f e

      least : (g : Rule C) → In g F → matches d s g ≡ true → better order g f ≡ false
      least g h t = linear_least (better order) (ranks order laws) F d s f g e h t

      after : (g : Rule C) → In g F → matches d s g ≡ true → order f.cost g.cost ≡ Equal → (f ≡ g → ⊥) → f.label < g.label
      after g h t q ne =
          let r : order g.cost f.cost ≡ Equal = rw (laws.exchange f.cost g.cost, q) refl in
          let l : by_cost Equal (ltb g.label f.label) ≡ false = rw r at (least g h t) in
          let a = ltb-false g.label f.label l in
          let b : f.label ≡ g.label → ⊥ = λ z. ne (label_one F f g apart from.0 h z) in
          omega arith

  pub linear_is_best : BestMatch order F d s (linear (better order) F d s)
  linear_is_best = go (linear (better order) F d s) refl
    where
      go : (o : Option (Rule C)) → linear (better order) F d s ≡ o → BestMatch order F d s o
      go None e = linear_none (better order) (ranks order laws) F d s e
      go (Some f) e = found_best f e

  -- and a best match is what linear search finds
  pub best_is_linear : (a : Option (Rule C)) → BestMatch order F d s a → a ≡ linear (better order) F d s
  best_is_linear a best_a =
      good_both (better order) (ranks order laws) F apart a (linear (better order) F d s) (inside a best_a)
      (λ f e. (linear_from (better order) (ranks order laws) F d s f e).0)
      (no_worse (linear (better order) F d s) refl a best_a) (covers a best_a)
    where
      inside : (o : Option (Rule C)) → BestMatch order F d s o → (f : Rule C) → o ≡ Some f → In f F
      inside None m f e = absurd (none_some f e)
      inside (Some g) m f e = subst (λ z. In z F) (some_same g f e) m.stands

      covers : (o : Option (Rule C)) → BestMatch order F d s o → AsGood (better order) (linear (better order) F d s) o
      covers None m = tt
      covers (Some f) m = best_all (better order) (ranks order laws) (matches d s) F f m.stands m.fits

      settled : (o : Ordering) (m n : ℕ) → is_le o ≡ true → (o ≡ Equal → m ≤ n) → by_cost (ordering_reverse o) (ltb n m) ≡ false
      settled Less m n h k = refl
      settled Equal m n h k = le-ltb n m (k refl)
      settled Greater m n h k = absurd (both_ways false refl h)

      ahead : (f g : Rule C) → Best order F d s f → In g F → matches d s g ≡ true → order f.cost g.cost ≡ Equal → f.label ≤ g.label
      ahead f g m h t q =
          elim (cases_eq f.label g.label) [
            | inl e ↦ omega arith
            | inr ne ↦ let l = m.first g h t q (λ e. ne (ap (λ (z : Rule C). z.label) e)) in omega arith
          ]

      no_worse : (o : Option (Rule C)) → linear (better order) F d s ≡ o → (b : Option (Rule C)) → BestMatch order F d s b → AsGood (better order) b o
      no_worse None e b m = tt
      no_worse (Some g) e None m =
          let l = linear_from (better order) (ranks order laws) F d s g e in absurd (both_ways (matches d s g) (m g l.0) l.1)
      no_worse (Some g) e (Some f) m =
          let l = linear_from (better order) (ranks order laws) F d s g e in
          rw (laws.exchange f.cost g.cost)
          (settled (order f.cost g.cost) f.label g.label (m.cheapest g l.0 l.1) (ahead f g m l.0 l.1))
