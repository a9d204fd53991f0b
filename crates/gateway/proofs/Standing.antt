-- How a gateway goes on standing as its history leaves it, call by call.
use Rattle.std.proofs.Common.{◌≡◌, ℕ, ◌+◌, ◌-◌, ◌≤◌, Bool, true, false, cond, List, [], ◌∷◌, ◌++◌, map, length, take, drop, set, is_some, Ok, Err, Result, sym, refl, ap, ◌∙◌, subst, arith, MatchResult}
use Rattle.std.proofs.lemmas.List.{length-append, length-drop, length-map, length_push, length-set, length-take-le}
use Rattle.kinds.specs.Strings.{bits}
use Rattle.filters.specs.declared.filter.Filter.{Filter}
use Rattle.filters.specs.Meaning.{Record}
use Rattle.filters.specs.Meaning.{record_of}
use Rattle.filters.specs.Orders.{Each, Apart}
use Rattle.filters.specs.Rules.{Rule}
use Rattle.tables.specs.declared.fault.LoadFault.{LoadFault}
use Rattle.tables.specs.Format.{Entry, decode, entry_of}
use Rattle.tables.specs.Memory.{Loaded}
use Rattle.tables.specs.Verdict.{has, entries_verdict, head_verdict}
use Rattle.tables.proofs.Accepted.{costs_passed}
use Rattle.tables.proofs.Inverse.{behind_parts}
use Rattle.tries.specs.Shape.{nodes}
use Rattle.book.specs.declared.fault.AddFault.{AddFault}
use Rattle.book.specs.declared.fault.WithdrawFault.{WithdrawFault}
use Rattle.book.specs.Books.{capacity_of, add_verdict, withdraw_verdict, after}
use Rattle.book.specs.Labels.{without}
use Rattle.tables.specs.Verdict.{labels}
use Rattle.book.specs.Loads.{count_after}
use Rattle.book.proofs.Means.{rules_apart}
use Rattle.grid.specs.declared.build.BuildFault.{BuildFault}
use Rattle.grid.specs.declared.build.BuildFault.TheVariants.{Places}
use Rattle.grid.specs.declared.node.Node.{Node}
use Rattle.grid.specs.Derived.{Derived}
use Rattle.grid.specs.Refusals.{too_few}
use Rattle.gateway.specs.Assurance.{Stands}
use Rattle.gateway.specs.Calls.{Adds, Withdraws, Loads, Builds}
use Rattle.gateway.specs.History.{Left, adding, crowded, added, withdrawn, loaded, rebuilt, installed}
use Rattle.gateway.specs.Kinds.{Kinds, BookOf, GridOf, labels_of, ahead, rule_in, filters_in, refusal_of, dst_kind, src_kind, cost_kind, loading, filters_of}
use Rattle.gateway.proofs.Whole.{whole_labels, all_read, rules_short, without_length}

-- ---- how many filters there are after an answer

added_length : {X A E : Type 0} (r : Result A E) (B : List X) (x : X) (u : ℕ) → length B ≡ u → length (after r (B ++ x ∷ []) B) ≡ after r (u + 1) u
added_length (Ok a) B x u e = length_push B x ∙ ap (λ (n : ℕ). n + 1) e
added_length (Err a) B x u e = e

withdrawn_length : {X : Type 0} (label : X → ℕ) (n : ℕ) (B : List X) (u : ℕ) (t : Bool) → has n (map label B) ≡ t → length B ≡ u
    → length (after (withdraw_verdict t) (without label n B) B) ≡ after (withdraw_verdict t) (u - 1) u
withdrawn_length label n B u true h e = let k = without_length label n B h in omega arith
withdrawn_length label n B u false h e = e

loaded_length : {X : Type 0} (r : Result ℕ LoadFault) (F B : List X) (u : ℕ) → ((n : ℕ) → r ≡ Ok n → length F ≡ n) → length B ≡ u → length (after r F B) ≡ count_after r u
loaded_length (Ok n) F B u h e = h n refl
loaded_length (Err x) F B u h e = e

-- a load that was accepted read as many records as it answers
decoded_length : {R : Type 0} (entry : R → Entry) (rs : List Entry) (before behind : List R) (r : Result ℕ LoadFault) → Loaded entry rs before behind r
    → (u u' : ℕ) → u' ≡ count_after r u → u' ≤ length behind → (n : ℕ) → r ≡ Ok n → length rs ≡ n
decoded_length entry rs before behind (Ok m) h u u' c f n q =
    let e : m ≡ n = ap (λ (z : Result ℕ LoadFault). count_after z 0) q in
    sym (ap length h.1) ∙ length-map (take m behind) entry ∙ length-take-le m behind (omega arith) ∙ e
decoded_length entry rs before behind (Err x) h u u' c f n q =
    let z : ◌≡◌ {A = ℕ} 0 1 = cc in absurd (omega arith)

-- ---- the number of places stays

added_room : {X A E : Type 0} (r : Result A E) (xs : List X) (u : ℕ) (x : X) → length (after r (set xs u x) xs) ≡ length xs
added_room (Ok a) xs u x = length-set xs u x
added_room (Err e) xs u x = refl

withdrawn_room : {X : Type 0} (label : X → ℕ) (n : ℕ) (xs : List X) (u : ℕ) (t : Bool) → has n (map label (take u xs)) ≡ t → u ≤ length xs
    → length (after (withdraw_verdict t) (without label n (take u xs) ++ drop (u - 1) xs) xs) ≡ length xs
withdrawn_room label n xs u true h f =
    let k = without_length label n (take u xs) h in
    let a = length-append (without label n (take u xs)) (drop (u - 1) xs) in
    let d = length-drop (u - 1) xs in
    let t = length-take-le u xs f in
    omega arith
withdrawn_room label n xs u false h f = refl

loaded_room : {R : Type 0} (entry : R → Entry) (rs : List Entry) (before behind : List R) (r : Result ℕ LoadFault) → Loaded entry rs before behind r
    → (u u' : ℕ) → u' ≡ count_after r u → u' ≤ length behind → length behind ≡ length before
loaded_room entry rs before behind (Ok m) h u u' c f =
    let d = length-drop m behind in
    let e = length-drop m before in
    let k = ap length h.2 in
    let i = h.0 in
    omega arith
loaded_room entry rs before behind (Err x) h u u' c f = ap length h

module _ {D S C D' S' C' : Type 0} (K : Kinds D S C D' S' C') (b b' : BookOf K) where
  pub adds_room : (f : Filter D S C) (r : Result (Unit {0}) AddFault) → Adds K f r b b' → length b'.places.now ≡ length b.places.now
  adds_room f r a =
      ap length a.memory
      ∙ added_room r b.places.now b.used (record_of K.dst_written.pattern K.src_written.pattern K.cost_written.pattern f)

  pub withdraws_room : (n : ℕ) (r : Result (Unit {0}) WithdrawFault) → Withdraws K n r b b' → length b'.places.now ≡ length b.places.now
  withdraws_room n r a =
      let t = has n (labels (take b.used b.places.now)) in
      ap length a.memory
      ∙ ap (λ (z : Result (Unit {0}) WithdrawFault). length (after z (without (λ x. x.label) n (take b.used b.places.now) ++ drop (b.used - 1) b.places.now) b.places.now)) a.answer
      ∙ withdrawn_room (λ (x : Record D' S' C'). x.label) n b.places.now b.used t refl b.fits

  pub loads_room : (bytes : List ℕ) (r : Result ℕ LoadFault) → Loads K bytes r b b' → length b'.places.now ≡ length b.places.now
  loads_room bytes r a =
      loaded_room (entry_of K.dst_written.number K.src_written.number K.cost_written.number) (decode (dst_kind K) (src_kind K) (cost_kind K) bytes)
      b.places.now b'.places.now r a.memory b.used b'.used a.count b'.fits

module _ {D S C D' S' C' : Type 0} (K : Kinds D S C D' S' C') (l : Left C) (b : BookOf K) (g : GridOf K) (h : Stands K l b g) where
  -- the filters of the book have the labels of its places
  labels_same : labels (take b.used b.places.now) ≡ labels_of l.book
  labels_same =
      whole_labels K.dst.spells K.src.spells K.cost_written.reads (take b.used b.places.now)
      (ap length h.held ∙ h.whole ∙ sym (length-take-le b.used b.places.now b.fits))
      ∙ ap labels_of h.held

  -- where the book changes and the grid stays
  rebooked : (b' : BookOf K) (B : List (Rule C)) → filters_in K b' ≡ B → length B ≡ b'.used → Stands K (record { book = B; built = l.built }) b' g
  rebooked b' B e f = record { held = e; whole = f; derived = h.derived; apart = h.apart; short = h.short }

  pub adds_leaves : (places : ℕ) (b' : BookOf K) (f : Filter D S C) (r : Result (Unit {0}) AddFault) → Adds K f r b b'
      → filters_in K b' ≡ after r (filters_in K b ++ rule_in K f ∷ []) (filters_in K b)
      → Stands K (record { book = added K (capacity_of (length b.places.now)) places l.book f; built = l.built }) b' g
  adds_leaves places b' f r a m =
      let cap = capacity_of (length b.places.now) in
      let e : r ≡ adding K cap places l.book f =
      a.answer ∙ (λ i. add_verdict cap (sym h.whole i) (refusal_of K (has f.label (labels_same i)) f)) in
      rebooked b' (added K cap places l.book f)
      (m ∙ (λ i. after (e i) (h.held i ++ rule_in K f ∷ []) (h.held i)))
      (ap (λ (z : Result (Unit {0}) AddFault). length (after z (l.book ++ rule_in K f ∷ []) l.book)) (sym e)
      ∙ added_length r l.book (rule_in K f) b.used h.whole ∙ sym a.count)

  pub withdraws_leaves : (places : ℕ) (b' : BookOf K) (n : ℕ) (r : Result (Unit {0}) WithdrawFault) → Withdraws K n r b b'
      → filters_in K b' ≡ after r (without (λ f. f.label) n (filters_in K b)) (filters_in K b)
      → Stands K (record { book = withdrawn K (capacity_of (length b.places.now)) places l.book n; built = l.built }) b' g
  withdraws_leaves places b' n r a m =
      let cap = capacity_of (length b.places.now) in
      let t = has n (labels_of l.book) in
      let e : r ≡ withdraw_verdict t = a.answer ∙ ap (λ (ls : List ℕ). withdraw_verdict (has n ls)) labels_same in
      rebooked b' (withdrawn K cap places l.book n)
      (m ∙ (λ i. after (e i) (without (λ f. f.label) n (h.held i)) (h.held i)))
      (withdrawn_length (λ (f : Rule C). f.label) n l.book b.used t refl h.whole
      ∙ ap (λ (z : Result (Unit {0}) WithdrawFault). after z (b.used - 1) b.used) (sym e) ∙ sym a.count)

  -- an accepted table has as many filters as it says
  table_length : (cap : ℕ) (bytes : List ℕ) (n : ℕ) → loading K cap bytes ≡ Ok n → length (decode (dst_kind K) (src_kind K) (cost_kind K) bytes) ≡ n
      → length (filters_of K bytes) ≡ n
  table_length cap bytes n e k =
      let p =
      behind_parts (dst_kind K) (src_kind K) (cost_kind K) (head_verdict (dst_kind K) (src_kind K) (cost_kind K) cap bytes)
      (entries_verdict (dst_kind K) (src_kind K) (cost_kind K) (λ x. is_some (K.cost_written.value x)) [] (decode (dst_kind K) (src_kind K) (cost_kind K) bytes)) n e in
      all_read (bits K.dst_written.SIZE) (bits K.src_written.SIZE) K.cost_written.value (decode (dst_kind K) (src_kind K) (cost_kind K) bytes)
      (costs_passed (dst_kind K) (src_kind K) (cost_kind K) (λ x. is_some (K.cost_written.value x)) [] (decode (dst_kind K) (src_kind K) (cost_kind K) bytes) n p.1)
      ∙ k

  -- and so has the book that it was loaded into
  loaded_whole : (b' : BookOf K) (bytes : List ℕ) (r : Result ℕ LoadFault) → Loads K bytes r b b' → (n : ℕ) → r ≡ Ok n → length (filters_of K bytes) ≡ n
  loaded_whole b' bytes r a n q =
      table_length (capacity_of (length b.places.now)) bytes n (sym a.answer ∙ q)
      (decoded_length (entry_of K.dst_written.number K.src_written.number K.cost_written.number) (decode (dst_kind K) (src_kind K) (cost_kind K) bytes) b.places.now b'.places.now r a.memory b.used b'.used a.count b'.fits n q)

  pub loads_leaves : (places : ℕ) (b' : BookOf K) (bytes : List ℕ) (r : Result ℕ LoadFault) → Loads K bytes r b b'
      → filters_in K b' ≡ after r (filters_of K bytes) (filters_in K b)
      → Stands K (record { book = loaded K (capacity_of (length b.places.now)) places l.book bytes; built = l.built }) b' g
  loads_leaves places b' bytes r a m =
      let cap = capacity_of (length b.places.now) in
      let e = a.answer in
      rebooked b' (loaded K cap places l.book bytes)
      (m ∙ (λ i. after (e i) (filters_of K bytes) (h.held i)))
      (ap (λ (z : Result ℕ LoadFault). length (after z (filters_of K bytes) l.book)) (sym e)
      ∙ loaded_length r (filters_of K bytes) l.book b.used
      (loaded_whole b' bytes r a)
      h.whole
      ∙ sym a.count)

  -- ---- building, given that no address spells more bits than its kind has
  module _ (dst_long : (x : D') → length (K.dst.spells x) ≤ K.dst.WIDTH) (src_long : (x : S') → length (K.src.spells x) ≤ K.src.WIDTH) where
    built_by : (g' : GridOf K) (r : Result ℕ BuildFault) (t : Bool) → r ≡ cond t (Err Places) (Ok (nodes (filters_in K b)))
        → MatchResult r (λ _. Derived (ahead K) (filters_in K b) g'.nodes.now g'.used) (λ _. g'.nodes.now ≡ g.nodes.now)
        → g'.used ≡ after r (nodes (filters_in K b)) g.used
        → Stands K (record { book = l.book; built = cond t l.built l.book }) b g'
    built_by g' r true e m c =
        let n : g'.nodes.now ≡ g.nodes.now =
        subst (λ (z : Result ℕ BuildFault). MatchResult z (λ _. Derived (ahead K) (filters_in K b) g'.nodes.now g'.used) (λ _. g'.nodes.now ≡ g.nodes.now)) e m in
        let u : g'.used ≡ g.used = c ∙ ap (λ (z : Result ℕ BuildFault). after z (nodes (filters_in K b)) g.used) e in
        record {
          held = h.held;
          whole = h.whole;
          derived = subst (λ (z : List Node × ℕ). Derived (ahead K) l.built z.0 z.1) (λ i. (sym n i, sym u i)) h.derived;
          apart = h.apart;
          short = h.short;
        }
    built_by g' r false e m c =
        let d : Derived (ahead K) (filters_in K b) g'.nodes.now g'.used =
        subst (λ (z : Result ℕ BuildFault). MatchResult z (λ _. Derived (ahead K) (filters_in K b) g'.nodes.now g'.used) (λ _. g'.nodes.now ≡ g.nodes.now)) e m in
        record {
          held = h.held;
          whole = h.whole;
          derived = subst (λ (F : List (Rule C)). Derived (ahead K) F g'.nodes.now g'.used) h.held d;
          apart = subst (λ (F : List (Rule C)). Apart F) h.held (rules_apart K.dst.spells K.src.spells K.cost_written.reads (take b.used b.places.now) b.lawful);
          short =
              subst (λ (F : List (Rule C)). Each (λ f. (length f.destination ≤ K.dst.WIDTH) × (length f.source ≤ K.src.WIDTH)) F) h.held
              (rules_short K.dst.spells K.src.spells K.cost_written.reads K.dst.WIDTH K.src.WIDTH dst_long src_long (take b.used b.places.now));
        }

    pub builds_leaves : (cap : ℕ) (g' : GridOf K) (r : Result ℕ BuildFault) → Builds K r b g g' → Stands K (rebuilt K cap (length g.nodes.now) l) b g'
    builds_leaves cap g' r a =
        let k : too_few (length g.nodes.now) b.used K.dst.WIDTH K.src.WIDTH ≡ crowded K cap (length g.nodes.now) l.book =
        ap (λ (n : ℕ). too_few (length g.nodes.now) n K.dst.WIDTH K.src.WIDTH) (sym h.whole) in
        built_by g' r (crowded K cap (length g.nodes.now) l.book)
        (a.answer ∙ ap (λ (t : Bool). cond {A = Result ℕ BuildFault} t (Err Places) (Ok (nodes (filters_in K b)))) k) a.memory a.count

-- ---- installing
module _ {D S C D' S' C' : Type 0} (K : Kinds D S C D' S' C') (l : Left C) (b b' : BookOf K) (g : GridOf K) (h : Stands K l b g) (bytes : List ℕ) where
  -- a refused load leaves all as it was
  pub refused_leaves : (e : LoadFault) → Loads K bytes (Err e) b b' → filters_in K b' ≡ filters_in K b
      → Stands K (installed K (capacity_of (length b.places.now)) (length g.nodes.now) l bytes) b' g
  refused_leaves e a m =
      let cap = capacity_of (length b.places.now) in
      let places = length g.nodes.now in
      subst (λ (z : Result ℕ LoadFault). Stands K (after z (rebuilt K cap places (record { book = filters_of K bytes; built = l.built })) l) b' g) a.answer
      (rebooked K l b g h b' l.book (m ∙ h.held) (h.whole ∙ sym a.count))

  -- an accepted one is followed by a build
  pub installed_leaves : ((x : D') → length (K.dst.spells x) ≤ K.dst.WIDTH) → ((x : S') → length (K.src.spells x) ≤ K.src.WIDTH)
      → (n : ℕ) → Loads K bytes (Ok n) b b' → filters_in K b' ≡ filters_of K bytes → (g' : GridOf K) (r : Result ℕ BuildFault) → Builds K r b' g g'
      → Stands K (installed K (capacity_of (length b.places.now)) (length g.nodes.now) l bytes) b' g'
  installed_leaves dst_long src_long n a m g' r build =
      let cap = capacity_of (length b.places.now) in
      let places = length g.nodes.now in
      let l' : Left C = record { book = filters_of K bytes; built = l.built } in
      let s = rebooked K l b g h b' (filters_of K bytes) m (loaded_whole K l b g h b' bytes (Ok n) a n refl ∙ sym a.count) in
      subst (λ (z : Result ℕ LoadFault). Stands K (after z (rebuilt K cap places l') l) b' g') a.answer
      (builds_leaves K l' b' g s dst_long src_long cap g' r build)
