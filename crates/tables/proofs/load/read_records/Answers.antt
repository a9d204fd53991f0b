use Rattle.std.proofs.Common.{ℕ, length, map, take, drop, sym, refl, ap, ◌∙◌, arith, rules}
use borrow.Author.Rules.{scaled_Fits}
use Rattle.std.proofs.lemmas.List.{take_all}
use Rattle.tables.specs.Format.{kind, entries, entry_of}
use Rattle.tables.proofs.Chunks.{turned, ended}
use Rattle.tables.proofs.Places.{load_more}
use Rattle.tables.proofs.load.read_records.Goals as goal

pub bounds-places-i : goal.bounds-places-i
bounds-places-i g c =
    let D = kind g.D.Written.CODE g.D.Written.SIZE in
    let S = kind g.S.Written.CODE g.S.Written.SIZE in
    let C = kind g.C.Written.CODE g.C.Written.SIZE in
    let t = turned D S C c.args.records.now c.loop-i.i-iterator c.next.new.self _ _ c.loop-i.invariant.1 c.in-Some.is c.next.ensures.steps in
    omega (arith, t.1.below, c.requires, c.loop-i.auto.places)

pub offset_bounds-places-i : goal.offset_bounds-places-i
offset_bounds-places-i g c =
    let D = kind g.D.Written.CODE g.D.Written.SIZE in
    let S = kind g.S.Written.CODE g.S.Written.SIZE in
    let C = kind g.C.Written.CODE g.C.Written.SIZE in
    let t = turned D S C c.args.records.now c.loop-i.i-iterator c.next.new.self _ _ c.loop-i.invariant.1 c.in-Some.is c.next.ensures.steps in
    let l = c.loop-i in
    scaled_Fits c.in-Some.i (length c.loop-i.places) _ (omega (arith, t.1.below, c.requires, c.loop-i.auto.places)) (search rules)

pub loop-i-preserved : goal.loop-i-preserved
loop-i-preserved g c =
    let D = kind g.D.Written.CODE g.D.Written.SIZE in
    let S = kind g.S.Written.CODE g.S.Written.SIZE in
    let C = kind g.C.Written.CODE g.C.Written.SIZE in
    let es = entries D S C c.args.records.now in
    let t = turned D S C c.args.records.now c.loop-i.i-iterator c.next.new.self _ _ c.loop-i.invariant.1 c.in-Some.is c.next.ensures.steps in
    let m = load_more (entry_of g.D.Written.number g.S.Written.number g.C.Written.number) es _ c.in-Some.i _ c.args.places.now c.loop-i.places _ c.read_record.result _ t.0 t.1.count (omega (arith, t.1.below, c.requires, c.loop-i.auto.places)) t.1.below refl c.read_record.ensures t.1.here c.loop-i.invariant.2 c.loop-i.invariant.3 in
    (search rules, t.1.then, m.0, m.1)

pub returns : goal.returns
returns g c =
    let D = kind g.D.Written.CODE g.D.Written.SIZE in
    let S = kind g.S.Written.CODE g.S.Written.SIZE in
    let C = kind g.C.Written.CODE g.C.Written.SIZE in
    let es = entries D S C c.args.records.now in
    let e = ended D S C c.args.records.now c.loop-i.i-iterator c.next.new.self _ c.loop-i.invariant.1 c.in-None.is c.next.ensures.steps in
    record {
      read = ap (λ (n : ℕ). map (entry_of g.D.Written.number g.S.Written.number g.C.Written.number) (take n c.loop-i.places)) (sym e) ∙ c.loop-i.invariant.2 ∙ take_all _ es (omega (arith, e));
      kept = ap (λ (n : ℕ). drop n c.loop-i.places) (sym e) ∙ c.loop-i.invariant.3 ∙ ap (λ (n : ℕ). drop n c.args.places.now) e;
    }
