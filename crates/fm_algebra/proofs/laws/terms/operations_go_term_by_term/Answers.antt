use Rattle.fm_algebra.proofs.TermWords.{of_multiple, of_negative, term_product, term_times}
use Rattle.fm_algebra.proofs.laws.terms.operations_go_term_by_term.Goals as goal

pub returns-clause-multiple : goal.returns-clause-multiple
returns-clause-multiple c = of_multiple

pub returns-clause-negative : goal.returns-clause-negative
returns-clause-negative c = of_negative

pub returns-clause-term_product : goal.returns-clause-term_product
returns-clause-term_product c = term_product

pub returns-clause-term_times_list : goal.returns-clause-term_times_list
returns-clause-term_times_list c = term_times
