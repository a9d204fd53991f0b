use Rattle.std.proofs.Common.{ℕ, List, map, length, ap, ◌∙◌}
use Rattle.std.proofs.lemmas.List.{length-take-le}
use Rattle.filters.specs.Meaning.{Record}
use Rattle.tables.specs.Format.{kind, entry_of, encode}
use Rattle.tables.specs.Memory.{write_verdict, written}
use Rattle.book.proofs.book.Book.write.Goals as goal

pub returns : goal.returns
returns g c =
    record {
      answer =
          c.write_table.ensures.answer
          ∙ ap (λ (n : ℕ). write_verdict (kind g.D.Written.CODE g.D.Written.SIZE) (kind g.S.Written.CODE g.S.Written.SIZE) (kind g.C.Written.CODE g.C.Written.SIZE) n (length c.args.buffer.now)) (ap length c.records.ensures ∙ length-take-le c.args.self.now.used c.args.self.now.places.now c.args.self.now.fits);
      memory =
          c.write_table.ensures.memory
          ∙ ap (λ (rs : List (Record g.row.D-Pattern.Denot g.row.S-Pattern.Denot g.row.C-Pattern.Denot)). written c.write_table.result (encode (kind g.D.Written.CODE g.D.Written.SIZE) (kind g.S.Written.CODE g.S.Written.SIZE) (kind g.C.Written.CODE g.C.Written.SIZE) (map (entry_of g.D.Written.number g.S.Written.number g.C.Written.number) rs)) c.args.buffer.now) c.records.ensures;
    }
