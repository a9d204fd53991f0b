use Rattle.std.proofs.Common.{◌+◌, true, List, length, Ok, Err, sym, refl, ap, ◌∙◌, arith, rules}
use Rattle.std.proofs.lemmas.Result.{err_from_is_err_and}
use Rattle.tables.specs.Format.{kind, Entry, entries, entry_of, record_size}
use Rattle.tables.specs.Verdict.{has, labels, behind_records}
use Rattle.tables.proofs.Chunks.{turned, ended, inside, before}
use Rattle.tables.proofs.Walk.{counted_passed, onward_ok, onward_passed, onward_err, one_more, entries_all}
use Rattle.tables.proofs.check.check_records.Goals as goal

pub earlier-requires : goal.earlier-requires
earlier-requires g c =
    let D = kind g.D.Written.CODE g.D.Written.SIZE in
    let S = kind g.S.Written.CODE g.S.Written.SIZE in
    let C = kind g.C.Written.CODE g.C.Written.SIZE in
    let t = turned D S C c.args.records.now c.loop-i.i-iterator c.next.new.self _ _ c.loop-i.invariant.1 c.in-Some.is c.next.ensures.steps in
    omega (arith, inside D S C c.args.records.now c.in-Some.i t.1.below)

pub in_record-requires : goal.in_record-requires
in_record-requires g c =
    let D = kind g.D.Written.CODE g.D.Written.SIZE in
    let S = kind g.S.Written.CODE g.S.Written.SIZE in
    let C = kind g.C.Written.CODE g.C.Written.SIZE in
    let t = turned D S C c.args.records.now c.loop-i.i-iterator c.next.new.self _ _ c.loop-i.invariant.1 c.in-Some.is c.next.ensures.steps in
    omega (arith, t.1.below, c.requires)

pub loop-i-preserved : goal.loop-i-preserved
loop-i-preserved g c =
    let D = kind g.D.Written.CODE g.D.Written.SIZE in
    let S = kind g.S.Written.CODE g.S.Written.SIZE in
    let C = kind g.C.Written.CODE g.C.Written.SIZE in
    let es = entries D S C c.args.records.now in
    let r = entry_of g.D.Written.number g.S.Written.number g.C.Written.number c.read_record-place.result in
    let t = turned D S C c.args.records.now c.loop-i.i-iterator c.next.new.self _ _ c.loop-i.invariant.1 c.in-Some.is c.next.ensures.steps in
    let used = c.is_label_in-used.ensures ∙ ap (λ (rs : List Entry). has r.label (labels rs)) (ap (entries D S C) c.earlier.ensures ∙ before D S C c.args.records.now c.in-Some.i (record_size D S C) refl t.1.below) in (
      search rules,
      t.1.then,
      λ pass tells.
          sym
          (one_more D S C pass es _ c.in-Some.i _ r _ c.is_label_in-used.result c.check_record.result t.0 t.1.count t.1.below t.1.here c.read_record-place.ensures used (c.check_record.ensures.answer pass tells)
          ∙ onward_ok _ _ _ _ _ c.in_ok-in_record.ensures)
          ∙ c.loop-i.invariant.2 pass tells,
      sym
          (one_more D S C (λ _. true) es _ c.in-Some.i _ r _ c.is_label_in-used.result _ t.0 t.1.count t.1.below t.1.here c.read_record-place.ensures used refl
          ∙ onward_passed _ _ _ (counted_passed (c.in-Some.i + 1) c.check_record.result _ _ _ c.in_ok-in_record.ensures refl c.check_record.ensures.passed))
          ∙ c.loop-i.invariant.3,
    )

pub returns-in_err-in_record-clause-answer : goal.returns-in_err-in_record-clause-answer
returns-in_err-in_record-clause-answer g c =
    let D = kind g.D.Written.CODE g.D.Written.SIZE in
    let S = kind g.S.Written.CODE g.S.Written.SIZE in
    let C = kind g.C.Written.CODE g.C.Written.SIZE in
    let es = entries D S C c.args.records.now in
    let r = entry_of g.D.Written.number g.S.Written.number g.C.Written.number c.read_record-place.result in
    let t = turned D S C c.args.records.now c.loop-i.i-iterator c.next.new.self _ _ c.loop-i.invariant.1 c.in-Some.is c.next.ensures.steps in
    let used = c.is_label_in-used.ensures ∙ ap (λ (rs : List Entry). has r.label (labels rs)) (ap (entries D S C) c.earlier.ensures ∙ before D S C c.args.records.now c.in-Some.i (record_size D S C) refl t.1.below) in
    let p = err_from_is_err_and c.from_residual.result c.from_residual.ensures.1 in
    λ pass tells.
    ap (behind_records (length es)) (p.1 ∙ ap Err p.2)
    ∙ onward_err (c.in-Some.i + 1) _ _ _ c.in_err-in_record.ensures
    ∙ sym (one_more D S C pass es _ c.in-Some.i _ r _ c.is_label_in-used.result c.check_record.result t.0 t.1.count t.1.below t.1.here c.read_record-place.ensures used (c.check_record.ensures.answer pass tells))
    ∙ c.loop-i.invariant.2 pass tells

pub returns-clause-answer : goal.returns-clause-answer
returns-clause-answer g c =
    let D = kind g.D.Written.CODE g.D.Written.SIZE in
    let S = kind g.S.Written.CODE g.S.Written.SIZE in
    let C = kind g.C.Written.CODE g.C.Written.SIZE in
    let e = ended D S C c.args.records.now c.loop-i.i-iterator c.next.new.self _ c.loop-i.invariant.1 c.in-None.is c.next.ensures.steps in
    λ pass tells. ap Ok (sym e) ∙ sym (entries_all D S C pass (entries D S C c.args.records.now) _ e) ∙ c.loop-i.invariant.2 pass tells

pub returns-clause-passed : goal.returns-clause-passed
returns-clause-passed g c =
    let D = kind g.D.Written.CODE g.D.Written.SIZE in
    let S = kind g.S.Written.CODE g.S.Written.SIZE in
    let C = kind g.C.Written.CODE g.C.Written.SIZE in
    let e = ended D S C c.args.records.now c.loop-i.i-iterator c.next.new.self _ c.loop-i.invariant.1 c.in-None.is c.next.ensures.steps in
    sym c.loop-i.invariant.3 ∙ entries_all D S C (λ _. true) (entries D S C c.args.records.now) _ e ∙ ap Ok e
