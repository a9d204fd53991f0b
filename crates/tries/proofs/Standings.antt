-- Better filters have smaller standings, and the filters of a list where no label stands twice have different ones.
use Rattle.std.proofs.Common.{◌≡◌, suc, ◌<◌, Bool, true, false, cond, ltb, List, [], ◌∷◌, length, refl, ap, inl, inr, arith}
use Rattle.std.proofs.lemmas.Bool.{both_ways, cases_Bool, lt-ltb, le-ltb}
use Rattle.filters.specs.Rules.{Rule, count, standing}
use Rattle.filters.specs.Orders.{In, Order}
use Rattle.filters.proofs.Bests.{label_one, good_refl}
use Rattle.tries.specs.Laws.{StandingRanks, StandingsDiffer, StandingsDecide}
use Rattle.tries.proofs.Visits.{count_more}

-- of two tests, of which the first implies the second, the second counts more where an element passes it alone
count_less : {A : Type 0} (p q : A → Bool) → ((x : A) → p x ≡ true → q x ≡ true) → (xs : List A) (x : A) → In x xs → p x ≡ false → q x ≡ true → count p xs < count q xs
count_less p q sub [] x h f t = absurd h
count_less p q sub (y ∷ ys) x (inl e) f t =
    let m = count_more p q sub ys in
    let f' : p y ≡ false = rw e at f in
    let t' : q y ≡ true = rw e at t in
    rw (f', t') (omega arith)
count_less p q sub (y ∷ ys) x (inr h) f t = go (p y) (q y) (count_less p q sub ys x h f t) (sub y)
  where
    go : (a b : Bool) → count p ys < count q ys → (a ≡ true → b ≡ true) → cond a (suc (count p ys)) (count p ys) < cond b (suc (count q ys)) (count q ys)
    go true true ih k = omega arith
    go true false ih k = absurd (both_ways false refl (k refl))
    go false true ih k = omega arith
    go false false ih k = omega arith

pub standing_ranks : {C : Type 0} → StandingRanks C
standing_ranks {C = C} lt ord F f g h t = count_less (λ e. lt e f) (λ e. lt e g) passes F f h (good_refl lt ord f) t
  where
    passes : (e : Rule C) → lt e f ≡ true → lt e g ≡ true
    passes e k =
        elim (cases_Bool (lt e g)) [
          | inl y ↦ y
          | inr n ↦ absurd (both_ways (lt e f) (ord.chain e g f n (ord.one_way f g t)) k)
        ]

pub standings_differ : {C : Type 0} → StandingsDiffer C
standings_differ lt ord F apart f g h k e =
    label_one F f g apart h k
    (ord.tie f g
    (elim (cases_Bool (lt f g)) [ inl t ↦ (let l = standing_ranks lt ord F f g h t in absurd (omega arith)) | inr n ↦ n ])
    (elim (cases_Bool (lt g f)) [ inl t ↦ (let l = standing_ranks lt ord F g f k t in absurd (omega arith)) | inr n ↦ n ]))

pub standings_decide : {C : Type 0} → StandingsDecide C
standings_decide {C = C} lt ord F apart f g h k = go (lt f g) refl (lt g f) refl
  where
    go : (x : Bool) → lt f g ≡ x → (y : Bool) → lt g f ≡ y → ltb (standing lt F f) (standing lt F g) ≡ x
    go true e y q = lt-ltb (standing lt F f) (standing lt F g) (standing_ranks lt ord F f g h e)
    go false e true q =
        let l = standing_ranks lt ord F g f k q in le-ltb (standing lt F f) (standing lt F g) (omega arith)
    go false e false q =
        let s = ap (λ (z : Rule C). standing lt F z) (label_one F f g apart h k (ord.tie f g e q)) in
        le-ltb (standing lt F f) (standing lt F g) (omega arith)

count_all : {A : Type 0} (xs : List A) → count (λ x. true) xs ≡ length xs
count_all [] = refl
count_all (x ∷ xs) = ap suc (count_all xs)

-- a standing is below the number of filters
pub standing_below : {C : Type 0} (lt : Rule C → Rule C → Bool) → Order lt → (F : List (Rule C)) (f : Rule C) → In f F → standing lt F f < length F
standing_below lt ord F f h =
    let l = count_less (λ g. lt g f) (λ g. true) (λ g e. refl) F f h (good_refl lt ord f) refl in
    let n = count_all F in
    omega arith
