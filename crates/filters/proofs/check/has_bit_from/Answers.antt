use Rattle.std.proofs.Common.{rules}
use borrow.Author.Tests.{tests}
use Rattle.std.proofs.lemmas.Iterator.Adapters.{YieldsList-from_skip}
use Rattle.std.proofs.lemmas.Iterator.Consumers.{YieldsList-from_first}
use Rattle.std.proofs.lemmas.Iterator.Search.{any_from_yields_List}
use Rattle.filters.proofs.check.has_bit_from.Goals as goal

pub returns : goal.returns
returns g c =
    any_from_yields_List (λ b. b) _ _ c.any.result c.any.ensures.ran
    (YieldsList-from_skip c.args.first (YieldsList-from_first (λ x. x) (λ s. s) (g.A.Address.string c.args.address.now) (cc)) (cc)) (λ x b q k. search (rules, tests))
