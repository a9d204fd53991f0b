-- A book after a table was loaded.
use Rattle.std.proofs.Common.{◌≡◌, ℕ, ◌≤◌, min, Bool, true, cond, not, ◌&&◌, eqb, ltb, List, [], ◌∷◌, ◌++◌, map, length, take, drop, Some, None, Ok, Err, Option, Result, sym, refl, ap, ◌∙◌, subst, inl, inr, arith}
use Rattle.std.proofs.lemmas.List.{length-map, length-take-le}
use Rattle.std.proofs.lemmas.Bool.{and_parts, and_from, not_from_false, cases_lt, lt-ltb, le-ltb}
use Rattle.kinds.specs.Strings.{Str, bits}
use Rattle.filters.specs.Meaning.{Record}
use Rattle.filters.specs.Meaning.{held, held_at, rules}
use Rattle.filters.specs.Rules.{Rule}
use Rattle.tables.specs.declared.fault.HeadFault.{HeadFault}
use Rattle.tables.specs.declared.fault.HeadFault.TheVariants.{Short, Kind as OtherKind, Length, Full}
use Rattle.tables.specs.Format.{Kind, Entry, entry_of, decode, filter_count, head_fields, table_size}
use Rattle.tables.specs.Laws.{distinct}
use Rattle.tables.specs.Memory.{Labelled}
use Rattle.tables.specs.Verdict.{has, labels, table_verdict, behind_head, same_kinds, entries_verdict}
use Rattle.tables.proofs.Inverse.{table_labels}
use Rattle.tables.proofs.Tables.{length_records}
use Rattle.book.specs.Labels.{apart}

-- a head counts at most 4,095 filters
pub count_small : (bytes : List ℕ) → filter_count bytes ≤ 4095
count_small bytes = omega arith

-- so no capacity above that makes a difference
pub capacity_same : (D S C : Kind) (pass : ℕ → Bool) (n : ℕ) (bytes : List ℕ) → table_verdict D S C pass n bytes ≡ table_verdict D S C pass (min n 4095) bytes
capacity_same D S C pass n bytes =
    let k = count_small bytes in
    let e : ltb n (filter_count bytes) ≡ ltb (min n 4095) (filter_count bytes) =
    elim (cases_lt n (filter_count bytes)) [
      | inl h ↦ lt-ltb n (filter_count bytes) h ∙ sym (lt-ltb (min n 4095) (filter_count bytes) (omega arith))
      | inr h ↦ le-ltb n (filter_count bytes) h ∙ sym (le-ltb (min n 4095) (filter_count bytes) (omega arith))
    ]
    in
    ap
    (λ (t : Bool). behind_head (cond (ltb (length bytes) 4) (Err Short) (cond (same_kinds D S C (head_fields bytes)) (cond (eqb (length bytes) (table_size D S C (filter_count bytes))) (cond {A = Result ℕ HeadFault} t (Err Full) (Ok (filter_count bytes))) (Err Length)) (Err OtherKind))) (entries_verdict D S C pass [] (decode D S C bytes)))
    e

-- labels that are not 0 and stand once are apart
pub apart_labelled : (rs : List Entry) → Labelled rs → apart (labels rs) ≡ true
apart_labelled [] l = refl
apart_labelled (r ∷ rs) l =
    let p = and_parts (not (has r.label (labels rs))) (distinct (labels rs)) l.1 in
    and_from (not (eqb r.label 0)) (not (has r.label (labels rs)) && apart (labels rs)) (not_from_false (eqb r.label 0) l.0.0)
    (and_from (not (has r.label (labels rs))) (apart (labels rs)) p.0 (apart_labelled rs (l.0.1, p.1)))

-- the labels of places are those of their entries
pub labels_entries : {D S P : Type 0} (nd : D → ℕ) (ns : S → ℕ) (nc : P → ℕ) (rs : List (Record D S P)) → labels rs ≡ labels (map (entry_of nd ns nc) rs)
labels_entries nd ns nc [] = refl
labels_entries nd ns nc (r ∷ rs) = ap {B = List ℕ} (λ ls. r.label ∷ ls) (labels_entries nd ns nc rs)

-- ---- the rules that places hold are those of their entries
module _ {D S P C : Type 0} (dst : D → Str) (src : S → Str) (reads : P → Option C) (nd : D → ℕ) (ns : S → ℕ) (nc : P → ℕ) (sd ss : ℕ) (value : ℕ → Option C) (spells : (x : D) → dst x ≡ bits sd (nd x)) (spells' : (x : S) → src x ≡ bits ss (ns x)) (valued : (p : P) → reads p ≡ value (nc p)) where
  at_entry : (r : Record D S P) (o : Option C) → held_at dst src reads r o ≡ held_at (bits sd) (bits ss) value (entry_of nd ns nc r) o
  at_entry r None = refl
  at_entry r (Some c) =
      λ i. record { label = r.label; destination = take r.destination.length (spells r.destination.address i); source = take r.source.length (spells' r.source.address i); cost = c; directive = r.directive } ∷ []

  pub rules_entries : (rs : List (Record D S P)) → rules dst src reads rs ≡ rules (bits sd) (bits ss) value (map (entry_of nd ns nc) rs)
  rules_entries [] = refl
  rules_entries (r ∷ rs) =
      ap (λ (F : List (Rule C)). F ++ rules dst src reads rs) (ap (held_at dst src reads r) (valued r.cost) ∙ at_entry r (value (nc r.cost)))
      ∙ ap (λ (F : List (Rule C)). held (bits sd) (bits ss) value (entry_of nd ns nc r) ++ F) (rules_entries rs)

-- ---- an accepted table
module _ {R : Type 0} (entry : R → Entry) (D S C : Kind) (pass : ℕ → Bool) (capacity : ℕ) (bytes : List ℕ) (n : ℕ) (ys : List R) (verdict : table_verdict D S C pass capacity bytes ≡ Ok n) (fits : n ≤ length ys) (same : map entry (take n ys) ≡ decode D S C bytes) where
  pub count_few : n ≤ 4095
  count_few =
      let l = length_records D S C (filter_count bytes) (drop 4 bytes) in
      let e = ap length same in
      let f = length-map (take n ys) entry in
      let h = length-take-le n ys fits in
      let k = count_small bytes in
      omega arith

  pub labels_loaded : apart (labels (map entry (take n ys))) ≡ true
  labels_loaded = subst (λ (rs : List Entry). apart (labels rs) ≡ true) (sym same) (apart_labelled (decode D S C bytes) (table_labels D S C pass capacity bytes n verdict))
