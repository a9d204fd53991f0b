use Rattle.std.proofs.Common.{◌≡◌, ℕ, ◌+◌, ◌-◌, ◌*◌, refl, ap, arith, add-mul, one-mul}
use Rattle.tables.specs.Format.{kind, entry_of}
use Rattle.tables.proofs.Places.{put_more}
use Rattle.tables.proofs.write.put_records.Goals as goal

pub loop-i-preserved : goal.loop-i-preserved
loop-i-preserved g c =
    let i = c.loop-i.i in
    let size = c.record_size-size.result in
    let k : (i + 1) * size - i * size ≡ size = omega (arith, add-mul i 1 size, one-mul size) in
    put_more (kind g.D.Written.CODE g.D.Written.SIZE) (kind g.S.Written.CODE g.S.Written.SIZE) (kind g.C.Written.CODE g.C.Written.SIZE) (entry_of g.D.Written.number g.S.Written.number g.C.Written.number) c.args.places.now c.args.records.now c.loop-i.records _ c.put_record.new.record i (i * size) ((i + 1) * size - i * size) c.index-places-i.result c.loop-i-test.true
    (ap (λ (n : ℕ). i * n) c.record_size-size.ensures.size) (omega (arith, k, c.record_size-size.ensures.size)) c.index-places-i.is c.loop-i.invariant c.put_record.ensures refl
