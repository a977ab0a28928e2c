use Rattle.fm_mono.proofs.OrderWords.{by_degrees, lex_by_first, deglex_is_lex, grevlex_by_last}
use Rattle.fm_mono.proofs.laws.monomial_orders_by_exponents.Goals as goal

pub returns-clause-degrees : goal.returns-clause-degrees
returns-clause-degrees c = by_degrees

pub returns-clause-lex : goal.returns-clause-lex
returns-clause-lex c = lex_by_first

pub returns-clause-deglex : goal.returns-clause-deglex
returns-clause-deglex c = deglex_is_lex

pub returns-clause-grevlex : goal.returns-clause-grevlex
returns-clause-grevlex c = grevlex_by_last
