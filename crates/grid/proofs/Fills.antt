-- Filters inserted one after another: which nodes there are, and what they keep.
use Rattle.std.proofs.Common.{◌≡◌, ℕ, suc, ◌+◌, ◌-◌, ◌<◌, ◌≤◌, Bool, true, false, cond, ◌&&◌, ◌||◌, ltb, ◌⊎◌, List, [], ◌∷◌, ◌++◌, map, length, get_or, take, drop, replicate, Some, None, Ok, Err, Option, Result, sym, refl, ap, ◌∙◌, subst, inl, inr, arith}
use mathlib.Core.Path.{fun_ext}
use Rattle.std.specs.Option.{ok_or}
use Rattle.std.proofs.lemmas.List.{map_push, append-nil, length-append, take_more, take-append-drop}
use Rattle.std.proofs.lemmas.Bool.{both_ways, cases_Bool, and_parts, cond-true, cond-false, lt-ltb, le-ltb}
use Rattle.kinds.specs.Strings.{Str, starts, equal}
use Rattle.kinds.proofs.Prefixes.{equal_same}
use Rattle.filters.specs.Meaning.{Record}
use Rattle.filters.specs.Rules.{Rule, count, pick, scan, only, best, standing}
use Rattle.filters.specs.Meaning.{held, held_at, rules}
use Rattle.filters.specs.Orders.{In, Order}
use Rattle.filters.proofs.Bests.{best_from}
use Rattle.filters.proofs.Reading.{scan_append, rules_append}
use Rattle.tries.proofs.Same.{same_bool}
use Rattle.tries.proofs.Standings.{standing_ranks}
use Rattle.tries.proofs.Same.{in_append_left, in_append_right}
use Rattle.grid.specs.declared.node.Kept.{Kept}
use Rattle.grid.specs.declared.node.Node.{Node}
use Rattle.grid.specs.declared.node.Node.TheVariants.{Empty}
use Rattle.grid.specs.Nodes.{pick_kept}
use Rattle.grid.specs.Derived.{Key, destination, source, is_key, keep}
use Rattle.grid.specs.Build.{State, keeping, on_paths, Inserted, exactly, own_of, Filled}
use Rattle.grid.proofs.Ranks.{From}
use Rattle.grid.proofs.Numbering.{any_push, or_none}

-- ---- members of two lists one behind the other

pub in_either : {A : Type 0} (x : A) (xs ys : List A) → In x (xs ++ ys) → In x xs ⊎ In x ys
in_either x [] ys h = inr h
in_either x (y ∷ xs) ys (inl e) = inl (inl e)
in_either x (y ∷ xs) ys (inr h) = elim (in_either x xs ys h) [ inl k ↦ inl (inr k) | inr k ↦ inr k ]

count_within : {A : Type 0} (p : A → Bool) (xs : List A) → count p xs ≤ length xs
count_within p [] = omega arith
count_within p (x ∷ xs) = let h = count_within p xs in elim (p x) as (λ t. cond t (suc (count p xs)) (count p xs) ≤ suc (length xs)) [ true ↦ omega arith | false ↦ omega arith ]

-- ---- the rules that places hold
module _ {D S P C : Type 0} (dst : D → Str) (src : S → Str) (reads : P → Option C) where
  held_few : (x : Record D S P) (o : Option C) → length (held_at dst src reads x o) ≤ 1
  held_few x None = omega arith
  held_few x (Some c) = omega arith

  rules_few : (xs : List (Record D S P)) → length (rules dst src reads xs) ≤ length xs
  rules_few [] = omega arith
  rules_few (x ∷ xs) =
      let h = rules_few xs in
      let k = held_few x (reads x.cost) in
      let e = length-append (held dst src reads x) (rules dst src reads xs) in
      omega arith

  -- no more of them pass a test than there are places
  pub count_few : (p : Rule C → Bool) (xs : List (Record D S P)) → count p (rules dst src reads xs) ≤ length xs
  count_few p xs = let h = rules_few xs in let k = count_within p (rules dst src reads xs) in omega arith

  -- the rules of the places up to the next
  pub rules_more : (xs : List (Record D S P)) (i : ℕ) (x : Record D S P) → i < length xs → x ≡ get_or xs i x
      → rules dst src reads (take (i + 1) xs) ≡ rules dst src reads (take i xs) ++ held dst src reads x
  rules_more xs i x h e =
      ap (rules dst src reads) (take_more xs i x h)
      ∙ ap (λ (y : Record D S P). rules dst src reads (take i xs ++ y ∷ [])) (sym e)
      ∙ rules_append dst src reads (take i xs) (x ∷ [])
      ∙ ap (λ (t : List (Rule C)). rules dst src reads (take i xs) ++ t) (append-nil (held dst src reads x))

  rules_split : (i : ℕ) (xs : List (Record D S P)) → rules dst src reads (take i xs) ++ rules dst src reads (drop i xs) ≡ rules dst src reads xs
  rules_split i xs = sym (rules_append dst src reads (take i xs) (drop i xs)) ∙ ap (rules dst src reads) (take-append-drop i xs)

  -- the rules of the first places are among all
  pub rules_front : (i : ℕ) (xs : List (Record D S P)) (f : Rule C) → In f (rules dst src reads (take i xs)) → In f (rules dst src reads xs)
  rules_front i xs f h =
      subst (λ (G : List (Rule C)). In f G) (rules_split i xs) (in_append_left f (rules dst src reads (take i xs)) (rules dst src reads (drop i xs)) h)

  -- and so is that of a place
  pub rules_item : (xs : List (Record D S P)) (i : ℕ) (x : Record D S P) → i < length xs → x ≡ get_or xs i x → (f : Rule C) → In f (held dst src reads x) → In f (rules dst src reads xs)
  rules_item xs i x h e f k =
      rules_front (i + 1) xs f
      (subst (λ (G : List (Rule C)). In f G) (sym (rules_more xs i x h e)) (in_append_right f (rules dst src reads (take i xs)) (held dst src reads x) k))

-- ---- the smaller standing is the better filter
module _ {C : Type 0} (lt : Rule C → Rule C → Bool) (ord : Order lt) (F : List (Rule C)) where
  -- filters of which neither is better stand alike
  stand_alike : (f g : Rule C) → lt f g ≡ false → lt g f ≡ false → standing lt F f ≡ standing lt F g
  stand_alike f g a b =
      ap (λ (p : Rule C → Bool). count p F)
      (fun_ext (λ (h : Rule C). same_bool (lt h f) (lt h g) (λ t. other h g f b t) (λ t. other h f g a t)))
    where
      other : (h x y : Rule C) → lt x y ≡ false → lt h y ≡ true → lt h x ≡ true
      other h x y e t = elim (cases_Bool (lt h x)) [ inl p ↦ p | inr p ↦ absurd (both_ways (lt h y) (ord.chain h x y p e) t) ]

  decides : (f g : Rule C) → In f F → In g F → ltb (standing lt F f) (standing lt F g) ≡ lt f g
  decides f g h k = go (lt f g) refl (lt g f) refl
    where
      go : (x : Bool) → lt f g ≡ x → (y : Bool) → lt g f ≡ y → ltb (standing lt F f) (standing lt F g) ≡ x
      go true e y q = lt-ltb (standing lt F f) (standing lt F g) (standing_ranks lt ord F f g h e)
      go false e true q = let l = standing_ranks lt ord F g f k q in le-ltb (standing lt F f) (standing lt F g) (omega arith)
      go false e false q = let s = stand_alike f g e q in le-ltb (standing lt F f) (standing lt F g) (omega arith)

  keep_cond : (b : Bool) (f g : Rule C) → cond b (keep lt F (Some f)) (keep lt F (Some g)) ≡ keep lt F (cond b (Some f) (Some g))
  keep_cond true f g = refl
  keep_cond false f g = refl

  -- the better of two as they are kept
  pub keep_better : (a b : Option (Rule C)) → From lt F a → From lt F b → pick_kept (keep lt F a) (keep lt F b) ≡ keep lt F (pick lt a b)
  keep_better None b h k = refl
  keep_better (Some g) None h k = refl
  keep_better (Some g) (Some f) h k =
      ap (λ (t : Bool). cond t (keep lt F (Some f)) (keep lt F (Some g))) (decides f g (k f refl) (h g refl)) ∙ keep_cond (lt f g) f g

  -- ---- one filter more

  pick_none : (a : Option (Rule C)) → pick lt a None ≡ a
  pick_none None = refl
  pick_none (Some g) = refl

  best_push : (p : Rule C → Bool) (G : List (Rule C)) (f : Rule C) → best lt p (G ++ f ∷ []) ≡ pick lt (best lt p G) (only lt p f)
  best_push p G f = ap (scan lt None) (map_push (only lt p) G f) ∙ scan_append lt None (map (only lt p) G) (only lt p f ∷ [])

  -- a filter as it is kept
  abbrev pub kept_as : Rule C → Kept
  kept_as f = record { label = f.label; standing = standing lt F f; directive = f.directive }

  own_more : (G : List (Rule C)) (f : Rule C) → ((g : Rule C) → In g G → In g F) → In f F
      → keeping (own_of lt F G) f.destination f.source (kept_as f) ≡ own_of lt F (G ++ f ∷ [])
  own_more G f sub h = fun_ext (λ E. fun_ext (λ u. at E u (cases_Bool (exactly E u f))))
    where
      here : (E u : Str) → exactly E u f ≡ true
          → pick_kept (own_of lt F G E u) (Some (kept_as f)) ≡ own_of lt F (G ++ f ∷ []) E u
      here E u t =
          keep_better (best lt (exactly E u) G) (Some f) (λ g e. sub g (best_from lt (exactly E u) G g e).0)
          (λ g e. subst (λ (z : Rule C). In z F) (some_is f g e) h)
          ∙ ap (λ (o : Option (Rule C)). keep lt F (pick lt (best lt (exactly E u) G) o)) (sym (cond-true (exactly E u f) (Some f) None t))
          ∙ ap (keep lt F) (sym (best_push (exactly E u) G f))
        where
          some_is : (a b : Rule C) → ◌≡◌ {A = Option (Rule C)} (Some a) (Some b) → a ≡ b
          some_is a b e = cc

      at : (E u : Str) → (exactly E u f ≡ true) ⊎ (exactly E u f ≡ false)
          → keeping (own_of lt F G) f.destination f.source (kept_as f) E u ≡ own_of lt F (G ++ f ∷ []) E u
      at E u (inl t) =
          let p = and_parts (equal E f.destination) (equal u f.source) t in
          let a = equal_same E f.destination p.0 in
          let b = equal_same u f.source p.1 in
          cond-true (exactly E u f) (pick_kept (own_of lt F G f.destination f.source) (Some (kept_as f))) (own_of lt F G E u) t
          ∙ ap (λ (z : Str × Str). pick_kept (own_of lt F G z.0 z.1) (Some (kept_as f))) (λ i. (sym a i, sym b i))
          ∙ here E u t
      at E u (inr t) =
          cond-false (exactly E u f) (pick_kept (own_of lt F G f.destination f.source) (Some (kept_as f))) (own_of lt F G E u) t
          ∙ ap (keep lt F) (sym (pick_none (best lt (exactly E u) G)))
          ∙ ap (λ (o : Option (Rule C)). keep lt F (pick lt (best lt (exactly E u) G) o)) (sym (cond-false (exactly E u f) (Some f) None t))
          ∙ ap (keep lt F) (sym (best_push (exactly E u) G f))

  keys_more : (G : List (Rule C)) (f : Rule C) (l : Key) → (is_key G l || on_paths f.destination f.source l) ≡ is_key (G ++ f ∷ []) l
  keys_more G f (destination t) =
      ap (λ (b : Bool). is_key G (destination t) || b) (or_none (starts t f.destination))
      ∙ sym (any_push (λ (g : Rule C). starts t g.destination) G f)
  keys_more G f (source E u) = sym (any_push (λ (g : Rule C). equal E g.destination && starts u g.source) G f)

  -- no filter
  pub filled_none : (N : List Node) → N ≡ replicate (length N) Empty → Filled lt F [] N 0
  filled_none N e =
      record {
        keys = [];
        state =
            record {
              long = refl;
              distinct = refl;
              rooted = tt;
              closed = λ k w g h. absurd (both_ways false refl h);
              bare = λ D s h. refl;
              nodes = e ∙ (let z : length N ≡ length N - 0 = omega arith in ap (λ (n : ℕ). replicate {A = Node} n Empty) z);
            };
        whole = whole;
      }
    where
      whole : (k : Key) → false ≡ is_key {C = C} [] k
      whole (destination t) = refl
      whole (source D s) = refl

  -- one filter more
  pub filled_more : (G : List (Rule C)) (f : Rule C) (N : List Node) (used : ℕ) (M : List Node) (used' : ℕ)
      → ((g : Rule C) → In g G → In g F) → In f F → (fill : Filled lt F G N used)
      → Inserted (own_of lt F G) fill.keys f.destination f.source (kept_as f) M used'
      → Filled lt F (G ++ f ∷ []) M used'
  filled_more G f N used M used' sub h fill ins =
      record {
        keys = ins.more;
        state = subst (λ (own : Str → Str → Option Kept). State own ins.more M used') (own_more G f sub h) ins.state;
        whole = λ l. ins.adds l ∙ ap (λ (b : Bool). b || on_paths f.destination f.source l) (fill.whole l) ∙ keys_more G f l;
      }

-- ---- what was read of a place's cost

pub read_some : {X E : Type 0} (o : Option X) (x : X) (e : E) → ◌≡◌ {A = Result X E} (Ok x) (ok_or o e) → o ≡ Some x
read_some None x e h = let z : ◌≡◌ {A = ℕ} 0 1 = cc in absurd (omega arith)
read_some {X} (Some y) x e h = let i : y ≡ x = cc in ap {B = Option X} Some i

pub read_none : {X E : Type 0} (o : Option X) (e d : E) → ◌≡◌ {A = Result X E} (Err d) (ok_or o e) → o ≡ None
read_none None e d h = refl
read_none (Some y) e d h = let z : ◌≡◌ {A = ℕ} 0 1 = cc in absurd (omega arith)
