use Rattle.std.proofs.Common.{take, is_some, ap, ◌∙◌}
use Rattle.book.proofs.Found.{has_position}
use Rattle.book.proofs.book.Book.contains.Goals as goal

pub returns : goal.returns
returns g c = c.is_some.ensures ∙ ap is_some c.place_of.ensures ∙ has_position (λ r. r.label) c.args.label (take c.args.self.now.used c.args.self.now.places.now)
