use Rattle.std.proofs.Common.{ℕ, true, map, length, take, drop, arith, Err, sym, ap, ◌∙◌}
use Rattle.std.proofs.lemmas.Result.{err_from_is_err_and}
use Rattle.tables.specs.Format.{kind, entry_of, decode_records}
use Rattle.tables.proofs.Chunks.{table_entries}
use Rattle.tables.proofs.Inverse.{table_labels}
use Rattle.tables.proofs.Tables.{length_records}
use Rattle.tables.proofs.load.load_table.Goals as goal

pub returns-in_err-count-clause-answer : goal.returns-in_err-count-clause-answer
returns-in_err-count-clause-answer g c =
    let p = err_from_is_err_and c.from_residual.result c.from_residual.ensures.1 in
    λ pass tells. p.1 ∙ ap Err p.2 ∙ c.in_err-count.ensures.answer pass tells

pub read_records-requires : goal.read_records-requires
read_records-requires g c =
    let D = kind g.D.Written.CODE g.D.Written.SIZE in
    let S = kind g.S.Written.CODE g.S.Written.SIZE in
    let C = kind g.C.Written.CODE g.C.Written.SIZE in
    let n = c.in_ok-count.count in
    let a = c.in_ok-count.ensures.accepted in
    omega (arith, a.2, ap length (table_entries D S C c.args.bytes.now n a.1), length_records D S C n (drop 4 c.args.bytes.now))

pub returns-clause-labels : goal.returns-clause-labels
returns-clause-labels g c = table_labels (kind g.D.Written.CODE g.D.Written.SIZE) (kind g.S.Written.CODE g.S.Written.SIZE) (kind g.C.Written.CODE g.C.Written.SIZE) (λ _. true) (length c.args.places.now) c.args.bytes.now c.in_ok-count.count c.in_ok-count.ensures.accepted.3

pub returns-clause-memory : goal.returns-clause-memory
returns-clause-memory g c =
    let D = kind g.D.Written.CODE g.D.Written.SIZE in
    let S = kind g.S.Written.CODE g.S.Written.SIZE in
    let C = kind g.C.Written.CODE g.C.Written.SIZE in
    let n = c.in_ok-count.count in
    let a = c.in_ok-count.ensures.accepted in
    let e = table_entries D S C c.args.bytes.now n a.1 in
    let l = ap length e ∙ length_records D S C n (drop 4 c.args.bytes.now) in (
      a.2,
      ap (λ (k : ℕ). map (entry_of g.D.Written.number g.S.Written.number g.C.Written.number) (take k c.read_records.new.places)) (sym l)
          ∙ c.read_records.ensures.read
          ∙ e
          ∙ ap (λ (k : ℕ). decode_records D S C k (drop 4 c.args.bytes.now)) a.0,
      ap (λ (k : ℕ). drop k c.read_records.new.places) (sym l) ∙ c.read_records.ensures.kept ∙ ap (λ (k : ℕ). drop k c.args.places.now) l,
    )
