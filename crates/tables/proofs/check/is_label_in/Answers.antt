use Rattle.std.proofs.Common.{◌≡◌, ℕ, eqb, take, sym, rules, ap, ◌∙◌}
use borrow.Author.Tests.{tests}
use Rattle.std.proofs.lemmas.Iterator.Search.{any_from_yields_List}
use Rattle.tables.specs.Bytes.{word}
use Rattle.tables.specs.Format.{kind, entries}
use Rattle.tables.proofs.Chunks.{entries_yield}
use Rattle.tables.proofs.Tables.{has_any, label_is}
use Rattle.tables.proofs.check.is_label_in.Goals as goal

pub returns : goal.returns
returns g c =
    let D = kind g.D.Written.CODE g.D.Written.SIZE in
    let S = kind g.S.Written.CODE g.S.Written.SIZE in
    let C = kind g.C.Written.CODE g.C.Written.SIZE in
    any_from_yields_List (λ r. eqb r.label c.args.label) _ _ c.any.result c.any.ensures.ran
    (entries_yield D S C c.args.records.now c.chunks_exact.ensures.rest (c.chunks_exact.ensures.size ∙ c.record_size.ensures.size))
    (λ x b q k.
    let h : b ≡ eqb (word (take 2 x.now)) c.args.label = search (rules, tests) in
    (search rules, h ∙ ap (λ (n : ℕ). eqb n c.args.label) (sym (label_is D S C x.now))))
    ∙ has_any c.args.label (entries D S C c.args.records.now)
