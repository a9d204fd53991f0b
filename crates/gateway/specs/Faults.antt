-- The refusals of installing, by number and record.
use Rattle.std.specs.Prelude.{ℕ}
use Rattle.tables.specs.Faults.{table_number, refused_record}
use Rattle.grid.specs.Refusals.{build_number}
use Rattle.gateway.specs.declared.fault.InstallFault.{InstallFault}
use Rattle.gateway.specs.declared.fault.InstallFault.TheVariants.{Load, Build}

-- the number of the refusal: the load's or the build's
abbrev pub install_number : InstallFault → ℕ
install_number (Load e) = table_number e
install_number (Build e) = build_number e

-- the record that is refused, counted from 1: 0 for the head, and for a build
abbrev pub install_record : InstallFault → ℕ
install_record (Load e) = refused_record e
install_record (Build e) = 0
