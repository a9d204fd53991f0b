use Rattle.std.proofs.Common.{ℕ, List, length, take, Ok, Err, sym, ap, ◌∙◌, subst}
use Rattle.std.proofs.lemmas.List.{length-map}
use Rattle.std.proofs.lemmas.Result.{err_from_is_err_and}
use Rattle.filters.specs.Meaning.{record_of}
use Rattle.tables.specs.Format.{kind, entry_of, decode}
use Rattle.tables.specs.Memory.{Loaded}
use Rattle.tables.specs.Verdict.{table_verdict}
use Rattle.tables.proofs.Turning.{written_part, read_again, write_load_ok, write_load_err, places_same, ok_same, not_refused}
use Rattle.tables.proofs.turn.write_and_load.Goals as goal

pub returns-in_err-count-clause-answer : goal.returns-in_err-count-clause-answer
returns-in_err-count-clause-answer g c =
    let r = err_from_is_err_and c.from_residual-in_err-count.result c.from_residual-in_err-count.ensures.1 in
    let w = c.in_ok-length.ensures in
    let e = written_part (kind g.D.Written.CODE g.D.Written.SIZE) (kind g.S.Written.CODE g.S.Written.SIZE) (kind g.C.Written.CODE g.C.Written.SIZE) (entry_of g.D.Written.number g.S.Written.number g.C.Written.number) c.args.places.now (length c.args.buffer.now) c.in_ok-length.length c.args.buffer.now c.write_table.new.buffer w.answer w.memory in
    λ pass tells. r.1 ∙ ap Err r.2 ∙ write_load_err _ _ _ _ w.answer (c.in_err-count.ensures.answer pass tells ∙ ap (table_verdict (kind g.D.Written.CODE g.D.Written.SIZE) (kind g.S.Written.CODE g.S.Written.SIZE) (kind g.C.Written.CODE g.C.Written.SIZE) pass (length c.args.into.now)) e)

pub returns-in_err-count-clause-same : goal.returns-in_err-count-clause-same
returns-in_err-count-clause-same g c =
    let w = c.in_ok-length.ensures in
    let e = written_part (kind g.D.Written.CODE g.D.Written.SIZE) (kind g.S.Written.CODE g.S.Written.SIZE) (kind g.C.Written.CODE g.C.Written.SIZE) (entry_of g.D.Written.number g.S.Written.number g.C.Written.number) c.args.places.now (length c.args.buffer.now) c.in_ok-length.length c.args.buffer.now c.write_table.new.buffer w.answer w.memory in
    λ pass tells fs p h.
    let b = read_again (kind g.D.Written.CODE g.D.Written.SIZE) (kind g.S.Written.CODE g.S.Written.SIZE) (kind g.C.Written.CODE g.C.Written.SIZE) pass (entry_of g.D.Written.number g.S.Written.number g.C.Written.number) (record_of g.D.Written.pattern g.S.Written.pattern g.C.Written.pattern) c.args.places.now fs (length c.args.into.now) _ e p (c.reads_back.ensures pass tells (length c.args.into.now) fs h) in
    not_refused (length fs) _ (c.in_err-count.ensures.answer pass tells ∙ b.0)

pub returns-clause-answer : goal.returns-clause-answer
returns-clause-answer g c =
    let w = c.in_ok-length.ensures in
    let e = written_part (kind g.D.Written.CODE g.D.Written.SIZE) (kind g.S.Written.CODE g.S.Written.SIZE) (kind g.C.Written.CODE g.C.Written.SIZE) (entry_of g.D.Written.number g.S.Written.number g.C.Written.number) c.args.places.now (length c.args.buffer.now) c.in_ok-length.length c.args.buffer.now c.write_table.new.buffer w.answer w.memory in
    λ pass tells. write_load_ok _ _ _ _ w.answer (c.in_ok-count.ensures.answer pass tells ∙ ap (table_verdict (kind g.D.Written.CODE g.D.Written.SIZE) (kind g.S.Written.CODE g.S.Written.SIZE) (kind g.C.Written.CODE g.C.Written.SIZE) pass (length c.args.into.now)) e)

pub returns-clause-memory : goal.returns-clause-memory
returns-clause-memory g c =
    let w = c.in_ok-length.ensures in
    let e = written_part (kind g.D.Written.CODE g.D.Written.SIZE) (kind g.S.Written.CODE g.S.Written.SIZE) (kind g.C.Written.CODE g.C.Written.SIZE) (entry_of g.D.Written.number g.S.Written.number g.C.Written.number) c.args.places.now (length c.args.buffer.now) c.in_ok-length.length c.args.buffer.now c.write_table.new.buffer w.answer w.memory in
    subst (λ (z : List ℕ). Loaded (entry_of g.D.Written.number g.S.Written.number g.C.Written.number) (decode (kind g.D.Written.CODE g.D.Written.SIZE) (kind g.S.Written.CODE g.S.Written.SIZE) (kind g.C.Written.CODE g.C.Written.SIZE) z) c.args.into.now c.load_table.new.places (Ok c.in_ok-count.count)) e c.in_ok-count.ensures.memory

pub returns-clause-same : goal.returns-clause-same
returns-clause-same g c =
    let w = c.in_ok-length.ensures in
    let l = c.in_ok-count.ensures in
    let e = written_part (kind g.D.Written.CODE g.D.Written.SIZE) (kind g.S.Written.CODE g.S.Written.SIZE) (kind g.C.Written.CODE g.C.Written.SIZE) (entry_of g.D.Written.number g.S.Written.number g.C.Written.number) c.args.places.now (length c.args.buffer.now) c.in_ok-length.length c.args.buffer.now c.write_table.new.buffer w.answer w.memory in
    λ pass tells fs p h.
    let b = read_again (kind g.D.Written.CODE g.D.Written.SIZE) (kind g.S.Written.CODE g.S.Written.SIZE) (kind g.C.Written.CODE g.C.Written.SIZE) pass (entry_of g.D.Written.number g.S.Written.number g.C.Written.number) (record_of g.D.Written.pattern g.S.Written.pattern g.C.Written.pattern) c.args.places.now fs (length c.args.into.now) _ e p (c.reads_back.ensures pass tells (length c.args.into.now) fs h) in (
      ok_same c.in_ok-count.count (length fs) (l.answer pass tells ∙ b.0) ∙ sym (ap length p ∙ length-map fs (record_of g.D.Written.pattern g.S.Written.pattern g.C.Written.pattern)),
      places_same g.D.Written.number g.S.Written.number g.C.Written.number (λ a b q. g.met.D.Pattern.Plain.same a b (sym (g.met.D.Written.plain a) ∙ q ∙ g.met.D.Written.plain b)) (λ a b q. g.met.S.Pattern.Plain.same a b (sym (g.met.S.Written.plain a) ∙ q ∙ g.met.S.Written.plain b)) (λ a b q. g.met.C.Pattern.Plain.same a b (sym (g.met.C.Written.plain a) ∙ q ∙ g.met.C.Written.plain b)) (take c.in_ok-count.count c.load_table.new.places) c.args.places.now (l.memory.1 ∙ b.1),
      l.memory.2,
    )
