use Rattle.fm_limit.proofs.PointExample.{invert_x, invert_double, never_x_plus_one, colons_x_plus_one}
use Rattle.fm_limit.proofs.laws.worked.inverting_in_two_variables.Goals as goal

pub returns-clause-point : goal.returns-clause-point
returns-clause-point c = invert_x

pub returns-clause-double_point : goal.returns-clause-double_point
returns-clause-double_point c = invert_double

pub returns-clause-never : goal.returns-clause-never
returns-clause-never c = never_x_plus_one

pub returns-clause-colons : goal.returns-clause-colons
returns-clause-colons c = colons_x_plus_one
