use Rattle.std.proofs.Common.{ℕ, ◌<◌, true, length, take, Err, sym, ap, ◌∙◌, subst, arith}
use Rattle.std.proofs.ByRecursion.{All-from_get_or}
use Rattle.std.proofs.lemmas.List.{length-take-le}
use Rattle.std.proofs.lemmas.Result.{err_from_is_err_and}
use Rattle.tables.specs.Format.{kind, entry_of, filter_count, decode}
use Rattle.tables.specs.Memory.{write_verdict}
use Rattle.tables.specs.Turn.{Placed}
use Rattle.tables.proofs.Turning.{rewritten, placed, turn_on, turn_back}
use Rattle.tables.proofs.turn.load_and_write.Goals as goal

pub returns-in_err-count-clause-answer : goal.returns-in_err-count-clause-answer
returns-in_err-count-clause-answer g c =
    let p = err_from_is_err_and c.from_residual.result c.from_residual.ensures.1 in
    λ pass tells. p.1 ∙ ap Err p.2 ∙ turn_back _ _ _ (c.in_err-count.ensures.answer pass tells)

pub returns-in_err-length-clause-answer : goal.returns-in_err-length-clause-answer
returns-in_err-length-clause-answer g c =
    let p = err_from_is_err_and c.from_residual-in_err-length.result c.from_residual-in_err-length.ensures.1 in
    let m = c.in_ok-count.ensures.memory in
    let n = length-take-le c.in_ok-count.count c.load_table.new.places (omega (arith, m.0, c.load_table.auto.places)) in
    let verdict = λ (j : ℕ). write_verdict (kind g.D.Written.CODE g.D.Written.SIZE) (kind g.S.Written.CODE g.S.Written.SIZE) (kind g.C.Written.CODE g.C.Written.SIZE) j (length c.args.buffer.now) in
    λ pass tells. p.1 ∙ ap Err p.2 ∙ turn_on _ verdict _ _ (c.in_ok-count.ensures.answer pass tells) (c.in_err-length.ensures.answer ∙ ap verdict n)

pub returns-in_err-length-clause-places : goal.returns-in_err-length-clause-places
returns-in_err-length-clause-places g c =
    let p = err_from_is_err_and c.from_residual-in_err-length.result c.from_residual-in_err-length.ensures.1 in
    subst (Placed (entry_of g.D.Written.number g.S.Written.number g.C.Written.number) (decode (kind g.D.Written.CODE g.D.Written.SIZE) (kind g.S.Written.CODE g.S.Written.SIZE) (kind g.C.Written.CODE g.C.Written.SIZE) c.args.bytes.now) c.args.places.now c.load_table.new.places (filter_count c.args.bytes.now)) (sym (p.1 ∙ ap Err p.2))
    (placed (kind g.D.Written.CODE g.D.Written.SIZE) (kind g.S.Written.CODE g.S.Written.SIZE) (kind g.C.Written.CODE g.C.Written.SIZE) (entry_of g.D.Written.number g.S.Written.number g.C.Written.number) c.args.bytes.now c.in_ok-count.count c.args.places.now c.load_table.new.places (omega arith) c.in_ok-count.ensures.memory)

pub returns-clause-answer : goal.returns-clause-answer
returns-clause-answer g c =
    let m = c.in_ok-count.ensures.memory in
    let n = length-take-le c.in_ok-count.count c.load_table.new.places (omega (arith, m.0, c.load_table.auto.places)) in
    let verdict = λ (j : ℕ). write_verdict (kind g.D.Written.CODE g.D.Written.SIZE) (kind g.S.Written.CODE g.S.Written.SIZE) (kind g.C.Written.CODE g.C.Written.SIZE) j (length c.args.buffer.now) in
    λ pass tells. turn_on _ verdict _ _ (c.in_ok-count.ensures.answer pass tells) (c.in_ok-length.ensures.answer ∙ ap verdict n)

pub returns-clause-places : goal.returns-clause-places
returns-clause-places g c =
    placed (kind g.D.Written.CODE g.D.Written.SIZE) (kind g.S.Written.CODE g.S.Written.SIZE) (kind g.C.Written.CODE g.C.Written.SIZE) (entry_of g.D.Written.number g.S.Written.number g.C.Written.number) c.args.bytes.now c.in_ok-count.count c.args.places.now c.load_table.new.places (omega arith) c.in_ok-count.ensures.memory

pub returns-clause-same : goal.returns-clause-same
returns-clause-same g c =
    rewritten (kind g.D.Written.CODE g.D.Written.SIZE) (kind g.S.Written.CODE g.S.Written.SIZE) (kind g.C.Written.CODE g.C.Written.SIZE) (λ _. true) (entry_of g.D.Written.number g.S.Written.number g.C.Written.number) (length c.args.places.now) c.in_ok-count.count c.in_ok-length.length (length c.args.buffer.now) c.args.bytes.now c.args.buffer.now c.write_table.new.buffer (take c.in_ok-count.count c.load_table.new.places) (All-from_get_or (λ (b : ℕ). b < 256) c.args.bytes.now 0 (λ i h. (c.type_inv.bytes i).fits)) c.in_ok-count.ensures.accepted c.in_ok-count.ensures.memory.1 c.in_ok-length.ensures.answer c.in_ok-length.ensures.memory
