use Rattle.std.proofs.Common.{◌≡◌, map, take, drop}
use Rattle.std.specs.Iterator.Adapters.{enumerate_count}
use Rattle.tables.specs.Format.{kind, entry_of, entries}
use Rattle.tables.proofs.Chunks.{Chunked}
use Rattle.tables.proofs.load.read_records.Given as goal

-- the first places are loaded, and the rest is as it was
abbrev pub invariant-loop-i : goal.invariant-loop-i
invariant-loop-i g l =
    ((goal.iterator-loop-i g).can_next l.i-iterator × (goal.iterator-loop-i g).is_finite l.i-iterator)
    × Chunked (kind g.D.Written.CODE g.D.Written.SIZE) (kind g.S.Written.CODE g.S.Written.SIZE) (kind g.C.Written.CODE g.C.Written.SIZE) l.records l.i-iterator
    × (map (entry_of g.D.Written.number g.S.Written.number g.C.Written.number) (take (enumerate_count l.i-iterator) l.places) ≡ take (enumerate_count l.i-iterator) (entries (kind g.D.Written.CODE g.D.Written.SIZE) (kind g.S.Written.CODE g.S.Written.SIZE) (kind g.C.Written.CODE g.C.Written.SIZE) l.records))
    × (drop (enumerate_count l.i-iterator) l.places ≡ drop (enumerate_count l.i-iterator) l.initial.places)
