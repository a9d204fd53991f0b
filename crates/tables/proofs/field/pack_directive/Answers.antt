use Rattle.std.proofs.Common.{sym, ap, ◌∙◌, arith}
use Rattle.tables.specs.Directives.{directive_number}
use Rattle.tables.proofs.Fields.{pack_three}
use Rattle.tables.proofs.field.pack_directive.Goals as goal

pub returns-in-Reserve : goal.returns-in-Reserve
returns-in-Reserve c = pack_three 2 c.in-Reserve.line c.in-Reserve.rate (omega arith) ∙ omega arith ∙ ap directive_number (sym c.in-Reserve.is)
