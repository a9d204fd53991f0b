use Rattle.std.proofs.Common.{take, is_some, sym, ap, ◌∙◌, arith}
use Rattle.book.specs.Books.{withdraw_verdict}
use Rattle.book.proofs.Found.{has_position}
use Rattle.book.proofs.Withdrawing.{at_inside, memory_is, used_are, left_apart}
use Rattle.book.proofs.Means.{rules_without}
use Rattle.filters.specs.Meaning.{rules}
use Rattle.book.proofs.book.Book.withdraw.Goals as goal

pub returns-in_default-clause-answer : goal.returns-in_default-clause-answer
returns-in_default-clause-answer g c =
    sym (ap withdraw_verdict (sym (has_position (λ r. r.label) c.args.label (take c.args.self.now.used c.args.self.now.places.now)) ∙ ap is_some (sym c.place_of.ensures ∙ c.in_default.is)))

pub take_out-requires : goal.take_out-requires
take_out-requires g c = (at_inside c.args.self.now.places.now c.args.self.now.used c.in-Some.at c.args.label c.args.self.now.fits c.in-Some.ensures, c.args.self.now.fits)

pub returns : goal.returns
returns g c =
    let f = c.in-Some.ensures in
    record {
      answer = sym (ap withdraw_verdict (sym (has_position (λ r. r.label) c.args.label (take c.args.self.now.used c.args.self.now.places.now)) ∙ ap is_some (sym f)));
      memory = memory_is c.args.self.now.places.now c.args.self.now.used c.in-Some.at c.args.label c.args.self.now.fits f c.take_out.new.places c.take_out.ensures.memory;
      count = c.take_out.ensures.count;
      meaning =
          ap (rules g.D.Address.spells g.S.Address.spells g.C.Written.reads) (used_are c.args.self.now.places.now c.args.self.now.used c.in-Some.at c.args.label c.args.self.now.fits f c.take_out.new.places c.take_out.result c.take_out.ensures.count c.take_out.ensures.memory)
          ∙ rules_without g.D.Address.spells g.S.Address.spells g.C.Written.reads c.args.label (take c.args.self.now.used c.args.self.now.places.now) c.args.self.now.lawful;
    }

pub invariant_of-self : goal.invariant_of-self
invariant_of-self g c =
    let f = c.in-Some.ensures in
    let i = at_inside c.args.self.now.places.now c.args.self.now.used c.in-Some.at c.args.label c.args.self.now.fits f in
    record {
      fits = omega arith;
      few = omega arith;
      lawful =
          left_apart c.args.self.now.places.now c.args.self.now.used c.in-Some.at c.args.label c.args.self.now.fits f c.take_out.new.places c.take_out.result c.take_out.ensures.count c.take_out.ensures.memory c.args.self.now.lawful;
    }
