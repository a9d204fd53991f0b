use Rattle.std.proofs.Common.{ℕ, ◌≤◌, length, take, is_some, Err, sym, ap, ◌∙◌, arith}
use Rattle.std.proofs.lemmas.Result.{err_from_is_err_and}
use Rattle.filters.specs.Meaning.{rules}
use Rattle.kinds.specs.Strings.{bits}
use Rattle.tables.specs.Format.{kind, entry_of}
use Rattle.book.specs.Labels.{apart}
use Rattle.book.proofs.Loading.{capacity_same, labels_entries, rules_entries, count_few, labels_loaded}
use Rattle.book.proofs.book.Book.load.Goals as goal

pub invariant_of-self-2 : goal.invariant_of-self-2
invariant_of-self-2 g c =
    let m = c.in_ok-used.ensures.memory in
    let v = c.in_ok-used.ensures.answer (λ n. is_some (g.C.Written.value n)) (λ p. ap is_some (g.met.C.Written.valued p)) in
    let l : c.in_ok-used.field-0 ≤ length c.load_table.new.places = omega (arith, m.0, c.load_table.auto.places) in
    record {
      fits = l;
      few =
          count_few (entry_of g.D.Written.number g.S.Written.number g.C.Written.number) (kind g.D.Written.CODE g.D.Written.SIZE) (kind g.S.Written.CODE g.S.Written.SIZE) (kind g.C.Written.CODE g.C.Written.SIZE) (λ n. is_some (g.C.Written.value n)) (length c.args.self.now.places.now) c.args.table.now c.in_ok-used.field-0 c.load_table.new.places (sym v) l m.1;
      lawful =
          ap apart (labels_entries g.D.Written.number g.S.Written.number g.C.Written.number (take c.in_ok-used.field-0 c.load_table.new.places))
          ∙ labels_loaded (entry_of g.D.Written.number g.S.Written.number g.C.Written.number) (kind g.D.Written.CODE g.D.Written.SIZE) (kind g.S.Written.CODE g.S.Written.SIZE) (kind g.C.Written.CODE g.C.Written.SIZE) (λ n. is_some (g.C.Written.value n)) (length c.args.self.now.places.now) c.args.table.now c.in_ok-used.field-0 c.load_table.new.places (sym v) l m.1;
    }

pub returns-clause-answer : goal.returns-clause-answer
returns-clause-answer g c =
    c.in_ok-used.ensures.answer (λ n. is_some (g.C.Written.value n)) (λ p. ap is_some (g.met.C.Written.valued p))
    ∙ capacity_same (kind g.D.Written.CODE g.D.Written.SIZE) (kind g.S.Written.CODE g.S.Written.SIZE) (kind g.C.Written.CODE g.C.Written.SIZE) (λ n. is_some (g.C.Written.value n)) (length c.args.self.now.places.now) c.args.table.now

pub returns-clause-meaning : goal.returns-clause-meaning
returns-clause-meaning g c =
    rules_entries g.D.Address.spells g.S.Address.spells g.C.Written.reads g.D.Written.number g.S.Written.number g.C.Written.number g.D.Written.SIZE g.S.Written.SIZE g.C.Written.value
    (λ p. g.met.D.Address.first p ∙ ap (λ (w : ℕ). bits w (g.D.Written.number p)) g.met.D.Address.span)
    (λ p. g.met.S.Address.first p ∙ ap (λ (w : ℕ). bits w (g.S.Written.number p)) g.met.S.Address.span)
    g.met.C.Written.valued
    (take c.in_ok-used.field-0 c.load_table.new.places)
    ∙ ap (rules (bits g.D.Written.SIZE) (bits g.S.Written.SIZE) g.C.Written.value) c.in_ok-used.ensures.memory.1

pub returns-in_err-used-clause-answer : goal.returns-in_err-used-clause-answer
returns-in_err-used-clause-answer g c =
    let p = err_from_is_err_and c.from_residual.result c.from_residual.ensures.1 in
    p.1 ∙ ap Err p.2
    ∙ c.in_err-used.ensures.answer (λ n. is_some (g.C.Written.value n)) (λ p. ap is_some (g.met.C.Written.valued p))
    ∙ capacity_same (kind g.D.Written.CODE g.D.Written.SIZE) (kind g.S.Written.CODE g.S.Written.SIZE) (kind g.C.Written.CODE g.C.Written.SIZE) (λ n. is_some (g.C.Written.value n)) (length c.args.self.now.places.now) c.args.table.now
