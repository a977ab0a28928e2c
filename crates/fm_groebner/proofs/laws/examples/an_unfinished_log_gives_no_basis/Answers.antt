use Rattle.fm_groebner.proofs.Examples.{unfinished_run, unfinished, product_criterion_fails}
use Rattle.fm_groebner.proofs.laws.examples.an_unfinished_log_gives_no_basis.Goals as goal

pub returns-clause-run : goal.returns-clause-run
returns-clause-run c = unfinished_run

pub returns-clause-unfinished : goal.returns-clause-unfinished
returns-clause-unfinished c = unfinished

pub returns-clause-no_basis : goal.returns-clause-no_basis
returns-clause-no_basis c = product_criterion_fails
