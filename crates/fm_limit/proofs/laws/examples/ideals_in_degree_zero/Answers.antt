use Rattle.fm_limit.proofs.SmallIdeals.{degree_zero_resolved, unit_ideal_limit, zero_ideal_limit}
use Rattle.fm_limit.proofs.laws.examples.ideals_in_degree_zero.Goals as goal

pub returns-clause-resolved : goal.returns-clause-resolved
returns-clause-resolved c = degree_zero_resolved

pub returns-clause-zero_ideal : goal.returns-clause-zero_ideal
returns-clause-zero_ideal c = zero_ideal_limit

pub returns-clause-unit_ideal : goal.returns-clause-unit_ideal
returns-clause-unit_ideal c = unit_ideal_limit
