use Rattle.fm_graphs.proofs.WithinPolynomials.{read_within, written_within}
use Rattle.fm_graphs.proofs.laws.polynomials_are_within_the_bound_as_their_terms.Goals as goal

pub returns-clause-read : goal.returns-clause-read
returns-clause-read c = λ r ts w. read_within r ts w

pub returns-clause-written : goal.returns-clause-written
returns-clause-written c = λ r ts canonical h. written_within r ts canonical h
