use Rattle.fm_algebra.proofs.HeadWords.{falling_list}
use Rattle.fm_algebra.proofs.TermWords.{listed_unique, first_head, first_coefficient}
use Rattle.fm_algebra.proofs.laws.heads.a_polynomial_has_one_falling_list_of_terms.Goals as goal

pub returns-clause-exists : goal.returns-clause-exists
returns-clause-exists c = falling_list

pub returns-clause-unique : goal.returns-clause-unique
returns-clause-unique c p n R o = listed_unique p n o

pub returns-clause-head : goal.returns-clause-head
returns-clause-head c p n R o = first_head p n o

pub returns-clause-leading_coefficient : goal.returns-clause-leading_coefficient
returns-clause-leading_coefficient c p n R o = first_coefficient p n o
