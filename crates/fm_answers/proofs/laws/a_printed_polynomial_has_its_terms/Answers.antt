use Rattle.fm_answers.proofs.PrintedMatrices.{printed_means, printed_canonical, printed_back}
use Rattle.fm_answers.proofs.laws.a_printed_polynomial_has_its_terms.Goals as goal

pub returns-clause-means : goal.returns-clause-means
returns-clause-means c = λ r f. printed_means r f

pub returns-clause-canonical : goal.returns-clause-canonical
returns-clause-canonical c = λ r f. printed_canonical r f

pub returns-clause-kept : goal.returns-clause-kept
returns-clause-kept c = λ r ts h. printed_back r ts h
