use Rattle.fm_limit.proofs.PairExample.{point_x_y, support_x_y, x_y_verdict}
use Rattle.fm_limit.proofs.PointExample.{line_facts, line_class, annihilators_x_y}
use Rattle.fm_limit.proofs.laws.worked.two_ideals_in_two_variables.Goals as goal

pub returns-clause-facts : goal.returns-clause-facts
returns-clause-facts c = line_facts

pub returns-clause-line : goal.returns-clause-line
returns-clause-line c = x_y_verdict

pub returns-clause-class : goal.returns-clause-class
returns-clause-class c = line_class

pub returns-clause-point : goal.returns-clause-point
returns-clause-point c = point_x_y

pub returns-clause-support : goal.returns-clause-support
returns-clause-support c = support_x_y

pub returns-clause-annihilators : goal.returns-clause-annihilators
returns-clause-annihilators c = annihilators_x_y
