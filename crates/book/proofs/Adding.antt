-- A book after a filter was put behind the last.
use Rattle.std.proofs.Common.{◌≡◌, ℕ, ◌+◌, ◌<◌, ◌≤◌, Bool, true, false, cond, not, ◌&&◌, ◌||◌, eqb, List, [], ◌∷◌, ◌++◌, length, take, set, Ok, Err, Result, sym, refl, ap, ◌∙◌, arith}
use Rattle.std.proofs.lemmas.List.{take_more_set, map_push}
use Rattle.std.proofs.lemmas.List.Folds.{list_any-append}
use Rattle.std.proofs.lemmas.Bool.{and_parts, and_from, or_from, or_parts, ne_eqb, not-true, not_from_false, le-ltb, lt-ltb, eqb-false}
use Rattle.filters.specs.declared.fault.FilterFault.{FilterFault}
use Rattle.filters.specs.declared.fault.FilterFault.TheVariants.{ZeroLabel, LabelInUse}
use Rattle.filters.specs.Meaning.{Record}
use Rattle.filters.specs.Refusals.{then_used}
use Rattle.book.specs.declared.fault.AddFault.{AddFault}
use Rattle.book.specs.declared.fault.AddFault.TheVariants.{Full}
use Rattle.tables.specs.Verdict.{has}
use Rattle.book.specs.Labels.{apart}
use Rattle.tables.specs.Verdict.{labels}
use Rattle.book.specs.Books.{add_verdict}

err_ok : {A E : Type 0} (e : E) (x : A) → ◌≡◌ {A = Result A E} (Err e) (Ok x) → ⊥
err_ok e x p = let z : ◌≡◌ {A = ℕ} 0 1 = cc in omega arith

-- an accepted filter has a label that is not 0 and not in use
pub accepted : (n : ℕ) (used : Bool) (b : Result (Unit {0}) FilterFault) (x : Unit {0}) → cond (eqb n 0) (Err ZeroLabel) (then_used used b) ≡ Ok x → (eqb n 0 ≡ false) × (used ≡ false)
accepted n used b x = go (eqb n 0) used b
  where
    go : (t used : Bool) (b : Result (Unit {0}) FilterFault) → cond t (Err ZeroLabel) (then_used used b) ≡ Ok x → (t ≡ false) × (used ≡ false)
    go true used b e = absurd (err_ok ZeroLabel x e)
    go false used (Err f) e = absurd (err_ok f x e)
    go false true (Ok y) e = absurd (err_ok LabelInUse x e)
    go false false (Ok y) e = (refl, refl)

pub apart_push : (ls : List ℕ) (n : ℕ) → apart ls ≡ true → eqb n 0 ≡ false → has n ls ≡ false → apart (ls ++ n ∷ []) ≡ true
apart_push [] n a z h = rw z refl
apart_push (m ∷ ls) n a z h =
    let p = and_parts (not (eqb m 0)) (not (has m ls) && apart ls) a in
    let q = and_parts (not (has m ls)) (apart ls) p.1 in
    let k = or_parts (eqb m n) (has n ls) h in
    let ne : eqb n m ≡ false = ne_eqb n m (λ e. eqb-false m n k.0 (sym e)) in
    let hs : has m (ls ++ n ∷ []) ≡ false =
    list_any-append (λ k. eqb k m) ls (n ∷ []) ∙ or_from (has m ls) (eqb n m || false) (not-true (has m ls) q.0) (or_from (eqb n m) false ne refl)
    in
    and_from (not (eqb m 0)) (not (has m (ls ++ n ∷ [])) && apart (ls ++ n ∷ [])) p.0
    (and_from (not (has m (ls ++ n ∷ []))) (apart (ls ++ n ∷ [])) (not_from_false (has m (ls ++ n ∷ [])) hs) (apart_push ls n q.1 z k.1))

module _ {D S P : Type 0} where
  pub labels_more : (xs : List (Record D S P)) (u : ℕ) (r : Record D S P) → u < length xs → labels (take (u + 1) (set xs u r)) ≡ labels (take u xs) ++ r.label ∷ []
  labels_more xs u r h = ap labels (take_more_set xs u r h) ∙ map_push (λ (s : Record D S P). s.label) (take u xs) r

  pub still_apart : (xs ys : List (Record D S P)) (u : ℕ) (r : Record D S P) → u < length xs → ys ≡ set xs u r → apart (labels (take u xs)) ≡ true → eqb r.label 0 ≡ false → has r.label (labels (take u xs)) ≡ false → apart (labels (take (u + 1) ys)) ≡ true
  still_apart xs ys u r h e a z n =
      ap (λ (ws : List (Record D S P)). apart (labels (take (u + 1) ws))) e ∙ ap apart (labels_more xs u r h) ∙ apart_push (labels (take u xs)) r.label a z n

-- a filter that is accepted but finds no room
pub full : (capacity used : ℕ) (v : Result (Unit {0}) FilterFault) (x : Unit {0}) → v ≡ Ok x → capacity ≤ used → ◌≡◌ {A = Result (Unit {0}) AddFault} (Err Full) (add_verdict capacity used v)
full capacity used v x e h =
    sym (ap (add_verdict capacity used) e ∙ ap (λ (t : Bool). cond {A = Result (Unit {0}) AddFault} t (Ok tt) (Err Full)) (le-ltb used capacity h))

-- a filter that is accepted and finds room
pub room : (capacity used : ℕ) (v : Result (Unit {0}) FilterFault) (x : Unit {0}) → v ≡ Ok x → used < capacity → ◌≡◌ {A = Result (Unit {0}) AddFault} (Ok tt) (add_verdict capacity used v)
room capacity used v x e h =
    sym (ap (add_verdict capacity used) e ∙ ap (λ (t : Bool). cond {A = Result (Unit {0}) AddFault} t (Ok tt) (Err Full)) (lt-ltb used capacity h))
