use Rattle.std.proofs.Common.{◌≡◌, ℕ, Bool, true, [], take, drop}
use Rattle.std.specs.Iterator.Adapters.{enumerate_count}
use Rattle.tables.specs.Format.{kind, entries}
use Rattle.tables.specs.Verdict.{Tells, labels, entries_verdict}
use Rattle.tables.proofs.Chunks.{Chunked}
use Rattle.tables.proofs.check.check_records.Given as goal

-- going on from here answers what all records answer, whether costs are told or all are let through
abbrev pub invariant-loop-i : goal.invariant-loop-i
invariant-loop-i g l =
    ((goal.iterator-loop-i g).can_next l.i-iterator × (goal.iterator-loop-i g).is_finite l.i-iterator)
    × Chunked (kind g.D.Written.CODE g.D.Written.SIZE) (kind g.S.Written.CODE g.S.Written.SIZE) (kind g.C.Written.CODE g.C.Written.SIZE) l.records l.i-iterator
    × ((pass : ℕ → Bool) → Tells g.C.Written.number g.C.Written.reads pass →
    entries_verdict (kind g.D.Written.CODE g.D.Written.SIZE) (kind g.S.Written.CODE g.S.Written.SIZE) (kind g.C.Written.CODE g.C.Written.SIZE) pass (labels (take (enumerate_count l.i-iterator) (entries (kind g.D.Written.CODE g.D.Written.SIZE) (kind g.S.Written.CODE g.S.Written.SIZE) (kind g.C.Written.CODE g.C.Written.SIZE) l.records))) (drop (enumerate_count l.i-iterator) (entries (kind g.D.Written.CODE g.D.Written.SIZE) (kind g.S.Written.CODE g.S.Written.SIZE) (kind g.C.Written.CODE g.C.Written.SIZE) l.records))
    ≡ entries_verdict (kind g.D.Written.CODE g.D.Written.SIZE) (kind g.S.Written.CODE g.S.Written.SIZE) (kind g.C.Written.CODE g.C.Written.SIZE) pass [] (entries (kind g.D.Written.CODE g.D.Written.SIZE) (kind g.S.Written.CODE g.S.Written.SIZE) (kind g.C.Written.CODE g.C.Written.SIZE) l.records))
    × (entries_verdict (kind g.D.Written.CODE g.D.Written.SIZE) (kind g.S.Written.CODE g.S.Written.SIZE) (kind g.C.Written.CODE g.C.Written.SIZE) (λ _. true) (labels (take (enumerate_count l.i-iterator) (entries (kind g.D.Written.CODE g.D.Written.SIZE) (kind g.S.Written.CODE g.S.Written.SIZE) (kind g.C.Written.CODE g.C.Written.SIZE) l.records))) (drop (enumerate_count l.i-iterator) (entries (kind g.D.Written.CODE g.D.Written.SIZE) (kind g.S.Written.CODE g.S.Written.SIZE) (kind g.C.Written.CODE g.C.Written.SIZE) l.records))
    ≡ entries_verdict (kind g.D.Written.CODE g.D.Written.SIZE) (kind g.S.Written.CODE g.S.Written.SIZE) (kind g.C.Written.CODE g.C.Written.SIZE) (λ _. true) [] (entries (kind g.D.Written.CODE g.D.Written.SIZE) (kind g.S.Written.CODE g.S.Written.SIZE) (kind g.C.Written.CODE g.C.Written.SIZE) l.records))
