use Rattle.fm_limit.proofs.PointExample.{found_map, found_join, to_double, to_line_one, to_line_two}
use Rattle.fm_limit.proofs.laws.worked.maps_in_two_variables.Goals as goal

pub returns-clause-facts : goal.returns-clause-facts
returns-clause-facts c = found_map

pub returns-clause-join : goal.returns-clause-join
returns-clause-join c = found_join

pub returns-clause-to_double : goal.returns-clause-to_double
returns-clause-to_double c = to_double

pub returns-clause-to_line_in_degree_one : goal.returns-clause-to_line_in_degree_one
returns-clause-to_line_in_degree_one c = to_line_one

pub returns-clause-to_line_in_degree_two : goal.returns-clause-to_line_in_degree_two
returns-clause-to_line_in_degree_two c = to_line_two
