use Rattle.tables.specs.Format.{kind}
use Rattle.tables.proofs.Inverse.{written_back}
use Rattle.tables.proofs.laws.writes_back.Goals as goal

pub returns : goal.returns
returns g c pass = written_back (kind g.D.Written.CODE g.D.Written.SIZE) (kind g.S.Written.CODE g.S.Written.SIZE) (kind g.C.Written.CODE g.C.Written.SIZE) pass
