use Rattle.std.proofs.Common.{◌≡◌, ◌*◌, ◌++◌, map, take, drop}
use Rattle.tables.specs.Format.{kind, entry_of, record_size, encode_records}
use Rattle.tables.proofs.write.put_records.Given as goal

-- the first records are written
abbrev pub invariant-loop-i : goal.invariant-loop-i
invariant-loop-i g l =
    l.records ≡ encode_records (kind g.D.Written.CODE g.D.Written.SIZE) (kind g.S.Written.CODE g.S.Written.SIZE) (kind g.C.Written.CODE g.C.Written.SIZE) (map (entry_of g.D.Written.number g.S.Written.number g.C.Written.number) (take l.i l.places)) ++ drop (l.i * record_size (kind g.D.Written.CODE g.D.Written.SIZE) (kind g.S.Written.CODE g.S.Written.SIZE) (kind g.C.Written.CODE g.C.Written.SIZE)) l.initial.records
