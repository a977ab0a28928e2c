use Rattle.fm_limit.proofs.KoszulSystems.{koszul_is_given, koszul_column, koszul_row}
use Rattle.fm_limit.proofs.laws.instances.koszul_cohomology_is_a_direct_system.Goals as goal

pub returns-clause-system : goal.returns-clause-system
returns-clause-system c = koszul_is_given

pub returns-clause-column : goal.returns-clause-column
returns-clause-column c = koszul_column

pub returns-clause-row : goal.returns-clause-row
returns-clause-row c = koszul_row
