use Rattle.std.proofs.Common.{◌≡◌, ℕ, eqb, length, take, set, sym, refl, ap, ◌∙◌, arith, length-set}
use Rattle.filters.specs.Meaning.{Record}
use Rattle.filters.specs.Refusals.{body_verdict, filter_verdict}
use Rattle.tables.specs.Verdict.{has}
use Rattle.tables.specs.Verdict.{labels}
use Rattle.book.specs.Books.{capacity_of}
use Rattle.book.proofs.Adding.{accepted, still_apart, full, room}
use Rattle.book.proofs.Means.{rules_added}
use Rattle.book.proofs.book.Book.add.Goals as goal

pub returns-then-self-capacity : goal.returns-then-self-capacity
returns-then-self-capacity g c =
    record {
      answer =
          full (capacity_of (length c.args.self.now.places.now)) c.args.self.now.used (filter_verdict g.D.Address.string g.S.Address.string g.D.Address.WIDTH g.S.Address.WIDTH (has c.args.filter.now.label (labels (take c.args.self.now.used c.args.self.now.places.now))) c.args.filter.now) c.in_ok-check.field-0
          (sym c.check.ensures ∙ c.in_ok-check.was)
          (omega (arith, c.capacity.ensures));
      memory = refl;
      count = refl;
      meaning = refl;
    }

pub returns : goal.returns
returns g c =
    record {
      answer =
          room (capacity_of (length c.args.self.now.places.now)) c.args.self.now.used (filter_verdict g.D.Address.string g.S.Address.string g.D.Address.WIDTH g.S.Address.WIDTH (has c.args.filter.now.label (labels (take c.args.self.now.used c.args.self.now.places.now))) c.args.filter.now) c.in_ok-check.field-0
          (sym c.check.ensures ∙ c.in_ok-check.was)
          (omega (arith, c.capacity.ensures));
      memory = c.put.ensures ∙ ap (set c.args.self.now.places.now c.args.self.now.used) c.to_record-record.ensures;
      count = refl;
      meaning =
          rules_added g.D.Address.spells g.S.Address.spells g.C.Written.reads g.D.Address.string g.S.Address.string g.D.Written.pattern g.S.Written.pattern g.C.Written.pattern g.met.D.Address.spelt g.met.S.Address.spelt g.met.C.Written.again c.args.self.now.places.now c.put.new.places c.args.self.now.used c.args.filter.now
          (omega (arith, c.capacity.ensures))
          (c.put.ensures ∙ ap (set c.args.self.now.places.now c.args.self.now.used) c.to_record-record.ensures);
    }

pub invariant_of-self : goal.invariant_of-self
invariant_of-self g c =
    let a = accepted c.args.filter.now.label (has c.args.filter.now.label (labels (take c.args.self.now.used c.args.self.now.places.now))) (body_verdict g.D.Address.string g.S.Address.string g.D.Address.WIDTH g.S.Address.WIDTH c.args.filter.now.destination c.args.filter.now.source c.args.filter.now.directive) c.in_ok-check.field-0 (sym c.check.ensures ∙ c.in_ok-check.was) in
    let l : c.to_record-record.result.label ≡ c.args.filter.now.label = ap (λ (r : Record g.row.D-Pattern.Denot g.row.S-Pattern.Denot g.row.C-Pattern.Denot). r.label) c.to_record-record.ensures in
    let m = length-set c.args.self.now.places.now c.args.self.now.used c.to_record-record.result in
    let n = ap length c.put.ensures in
    record {
      fits = omega (arith, c.capacity.ensures);
      few = omega (arith, c.capacity.ensures);
      lawful =
          still_apart c.args.self.now.places.now c.put.new.places c.args.self.now.used c.to_record-record.result (omega (arith, c.capacity.ensures)) c.put.ensures c.args.self.now.lawful
          (ap (λ (x : ℕ). eqb x 0) l ∙ a.0)
          (ap (λ (x : ℕ). has x (labels (take c.args.self.now.used c.args.self.now.places.now))) l ∙ a.1);
    }
