use Rattle.std.proofs.Common.{true, [], List, length, drop, Ok, Err, sym, ap, ◌∙◌, arith}
use Rattle.std.proofs.lemmas.Result.{err_from_is_err_and}
use Rattle.tables.specs.Format.{kind, Entry}
use Rattle.tables.specs.Verdict.{entries_verdict}
use Rattle.tables.proofs.Chunks.{table_entries}
use Rattle.tables.proofs.Heads.{head_ok, behind_ok, count_small}
use Rattle.tables.proofs.Tables.{length_records}
use Rattle.tables.proofs.check.check_table.Goals as goal

pub check_records-requires : goal.check_records-requires
check_records-requires g c =
    let D = kind g.D.Written.CODE g.D.Written.SIZE in
    let S = kind g.S.Written.CODE g.S.Written.SIZE in
    let C = kind g.C.Written.CODE g.C.Written.SIZE in
    let n = c.in_ok-count.count in
    let k = head_ok D S C c.args.capacity c.args.bytes.now n c.in_ok-count.ensures in
    omega (arith, ap length (table_entries D S C c.args.bytes.now n k.1), length_records D S C n (drop 4 c.args.bytes.now), k.3, count_small c.args.bytes.now)

pub returns-in_err-check_records-clause-answer : goal.returns-in_err-check_records-clause-answer
returns-in_err-check_records-clause-answer g c =
    let D = kind g.D.Written.CODE g.D.Written.SIZE in
    let S = kind g.S.Written.CODE g.S.Written.SIZE in
    let C = kind g.C.Written.CODE g.C.Written.SIZE in
    let n = c.in_ok-count.count in
    let k = head_ok D S C c.args.capacity c.args.bytes.now n c.in_ok-count.ensures in
    let p = err_from_is_err_and c.from_residual-in_err-check_records.result c.from_residual-in_err-check_records.ensures.1 in
    λ pass tells.
    p.1 ∙ ap Err p.2
    ∙ c.in_err-check_records.ensures.answer pass tells
    ∙ ap (λ (rs : List Entry). entries_verdict D S C pass [] rs) (table_entries D S C c.args.bytes.now n k.1)
    ∙ sym (behind_ok D S C pass c.args.capacity c.args.bytes.now n c.in_ok-count.ensures)

pub returns : goal.returns
returns g c =
    let D = kind g.D.Written.CODE g.D.Written.SIZE in
    let S = kind g.S.Written.CODE g.S.Written.SIZE in
    let C = kind g.C.Written.CODE g.C.Written.SIZE in
    let n = c.in_ok-count.count in
    let k = head_ok D S C c.args.capacity c.args.bytes.now n c.in_ok-count.ensures in
    let e = table_entries D S C c.args.bytes.now n k.1 in
    let l = ap length e ∙ length_records D S C n (drop 4 c.args.bytes.now) in
    record {
      answer = λ pass tells.
          ap Ok (sym l)
          ∙ c.in_ok-check_records.ensures.answer pass tells
          ∙ ap (λ (rs : List Entry). entries_verdict D S C pass [] rs) e
          ∙ sym (behind_ok D S C pass c.args.capacity c.args.bytes.now n c.in_ok-count.ensures);
      accepted = (
        k.3,
        k.1,
        k.2,
        behind_ok D S C (λ _. true) c.args.capacity c.args.bytes.now n c.in_ok-count.ensures
            ∙ ap (λ (rs : List Entry). entries_verdict D S C (λ _. true) [] rs) (sym e)
            ∙ c.in_ok-check_records.ensures.passed
            ∙ ap Ok l,
      );
    }
