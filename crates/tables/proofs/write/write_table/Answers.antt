use Rattle.std.proofs.Common.{◌≡◌, ℕ, ◌+◌, ◌*◌, map, length, sym, ap}
use Rattle.std.proofs.lemmas.List.{length-map}
use Rattle.tables.specs.Format.{kind, entry_of, table_size}
use Rattle.tables.proofs.Places.{written_is}
use Rattle.tables.proofs.write.write_table.Goals as goal

pub returns-clause-memory : goal.returns-clause-memory
returns-clause-memory g c =
    let n = length c.args.places.now in
    let entry = entry_of g.D.Written.number g.S.Written.number g.C.Written.number in
    let e : 4 + n * c.record_size.result ≡ table_size (kind g.D.Written.CODE g.D.Written.SIZE) (kind g.S.Written.CODE g.S.Written.SIZE) (kind g.C.Written.CODE g.C.Written.SIZE) n = ap (λ (k : ℕ). 4 + n * k) c.record_size.ensures.size in
    written_is (kind g.D.Written.CODE g.D.Written.SIZE) (kind g.S.Written.CODE g.S.Written.SIZE) (kind g.C.Written.CODE g.C.Written.SIZE) (map entry c.args.places.now) n (4 + n * c.record_size.result) c.args.buffer.now _ c.put_head.new.buffer c.put_records.new.records (sym (length-map c.args.places.now entry)) e c.split_at_mut-head.ensures.back c.put_head.ensures c.put_records.ensures
