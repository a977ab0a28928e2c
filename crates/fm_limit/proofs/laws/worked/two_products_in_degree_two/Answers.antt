use Rattle.fm_limit.proofs.PairIdeals.{pair_resolved}
use Rattle.fm_limit.proofs.PairFacts.{pair_verdict_words}
use Rattle.fm_limit.proofs.laws.worked.two_products_in_degree_two.Goals as goal

pub returns-clause-resolved : goal.returns-clause-resolved
returns-clause-resolved c = λ n h f g a b k. pair_resolved n h f g a b k

pub returns-clause-verdict : goal.returns-clause-verdict
returns-clause-verdict c = λ n f g a k q. pair_verdict_words n f g a k q
