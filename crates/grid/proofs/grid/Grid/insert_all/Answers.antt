use Rattle.std.proofs.Common.{◌≡◌, ℕ, zero, suc, ◌+◌, ◌*◌, ◌<◌, ◌≤◌, List, [], length, take, sym, refl, ◌∙◌, subst, add-mul, arith}
use Rattle.std.proofs.lemmas.List.{take_all}
use Rattle.std.proofs.lemmas.Nat.{mul-le}
use Rattle.filters.specs.Meaning.{Record}
use Rattle.filters.specs.Rules.{Rule, better}
use Rattle.filters.specs.Meaning.{rules}
use Rattle.filters.proofs.Bests.{ranks}
use Rattle.tries.specs.Shape.{need as needed}
use Rattle.grid.specs.Build.{Filled}
use Rattle.grid.proofs.Fills.{filled_none, rules_more, rules_front, rules_item}
use Rattle.grid.proofs.grid.Grid.insert_all.Goals as goal

-- where i places have been read and another is there, there is room for its filter
room_more : (n i wd ws : ℕ) → i < n → (i * (wd + ws + 1) + (wd + ws + 1) ≡ (i + 1) * (wd + ws + 1)) × (1 + (i + 1) * (wd + ws + 1) ≤ needed n wd ws)
room_more zero i wd ws h = absurd (omega arith)
room_more (suc n) i wd ws h =
    let a : (i + 1) * (wd + ws + 1) ≡ i * (wd + ws + 1) + 1 * (wd + ws + 1) = add-mul i 1 (wd + ws + 1) in
    let b = mul-le (i + 1) (wd + ws + 1) (suc n) (wd + ws + 1) (omega arith) (omega arith) in
    (omega arith, omega arith)

needed_small : (n wd ws : ℕ) → n ≤ 4095 → wd ≤ 128 → ws ≤ 128 → needed n wd ws ≤ 2000000
needed_small zero wd ws h a b = omega arith
needed_small (suc n) wd ws h a b = let m = mul-le (suc n) (wd + ws + 1) 4095 257 h (omega arith) in omega arith

pub loop-place-init : goal.loop-place-init
loop-place-init g c =
    let ord = ranks g.C.Cost.order (record { exchange = g.met.C.Cost.exchange; chain = g.met.C.Cost.chain }) in
    let F = rules g.D.Address.spells g.S.Address.spells g.C.Written.reads c.args.records.now in
    let N = c.args.self.now.nodes.now in
    let z = c.requires.start in
    (refl, omega arith, subst (λ (n : ℕ). Filled (better g.C.Cost.order) F [] N n) (sym z) (filled_none (better g.C.Cost.order) ord F N c.requires.bare))

pub insert_record-requires-clause-room : goal.insert_record-requires-clause-room
insert_record-requires-clause-room g c =
    let n = length c.args.records.now in
    let wd = g.D.Address.WIDTH in
    let ws = g.S.Address.WIDTH in
    let a = g.met.D.Address.span in
    let b = g.met.S.Address.span in
    let d = g.met.D.Written.short in
    let e = g.met.S.Written.short in
    let r = room_more n c.loop-place.place-index wd ws c.loop-place-test.true in
    let small = needed_small n wd ws c.requires.few (omega arith) (omega arith) in
    let room = c.requires.room in
    let long = c.loop-place.invariant.0 in
    let used = c.loop-place.invariant.1 in
    (omega arith, omega arith)

pub loop-place-preserved : goal.loop-place-preserved
loop-place-preserved g c =
    let D = g.D.Address.spells in
    let S = g.S.Address.spells in
    let R = g.C.Written.reads in
    let lt = better g.C.Cost.order in
    let xs = c.args.records.now in
    let i = c.loop-place.place-index in
    let F = rules D S R xs in
    let h = c.loop-place-test.true in
    let is = c.place-item.is in
    let m = c.insert_record.ensures.most in
    let r = room_more (length xs) i g.D.Address.WIDTH g.S.Address.WIDTH h in
    let v = c.loop-place.invariant in
    let new = c.insert_record.new.self in (
      c.insert_record.ensures.places ∙ v.0,
      omega arith,
      subst (λ (H : List (Rule g.row.C.Denot)). Filled lt F H new.nodes.now new.used) (sym (rules_more D S R xs i c.place-item.result h is))
          (c.insert_record.ensures.grid (rules D S R (take i xs)) (rules_front D S R i xs) (rules_item D S R xs i c.place-item.result h is) v.2),
    )

pub returns : goal.returns
returns g c =
    let D = g.D.Address.spells in
    let S = g.S.Address.spells in
    let R = g.C.Written.reads in
    let lt = better g.C.Cost.order in
    let xs = c.args.records.now in
    let v = c.loop-place.invariant in
    let self = c.loop-place.self in
    record {
      places = v.0;
      grid =
          subst (λ (ys : List (Record g.row.D-Pattern.Denot g.row.S-Pattern.Denot g.row.C-Pattern.Denot)). Filled lt (rules D S R xs) (rules D S R ys) self.nodes.now self.used)
          (take_all c.loop-place.place-index xs c.loop-place-test.false) v.2;
    }
