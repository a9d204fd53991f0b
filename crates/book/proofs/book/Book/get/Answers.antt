use Rattle.std.proofs.Common.{List, take, drop, ap, ◌∙◌}
use Rattle.filters.specs.Meaning.{Record}
use Rattle.filters.specs.Meaning.{rules}
use Rattle.book.proofs.book.Book.get.Goals as goal

pub returns : goal.returns
returns g c =
    record {
      meaning =
          c.filter_at.ensures.meaning
          ∙ ap (λ (ys : List (Record g.row.D-Pattern.Denot g.row.S-Pattern.Denot g.row.C-Pattern.Denot)). rules g.D.Address.spells g.S.Address.spells g.C.Written.reads (take 1 (drop c.args.at ys))) c.records.ensures;
      back = λ f e.
          c.filter_at.ensures.back f
          (ap (λ (ys : List (Record g.row.D-Pattern.Denot g.row.S-Pattern.Denot g.row.C-Pattern.Denot)). take 1 (drop c.args.at ys)) c.records.ensures ∙ e);
    }
