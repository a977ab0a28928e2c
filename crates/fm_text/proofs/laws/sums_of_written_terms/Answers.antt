use Rattle.fm_text.proofs.TermSums.{sum_canonical, sum_means}
use Rattle.fm_text.proofs.laws.sums_of_written_terms.Goals as goal

pub returns-clause-falling : goal.returns-clause-falling
returns-clause-falling c = sum_canonical

pub returns-clause-meaning : goal.returns-clause-meaning
returns-clause-meaning c = sum_means
