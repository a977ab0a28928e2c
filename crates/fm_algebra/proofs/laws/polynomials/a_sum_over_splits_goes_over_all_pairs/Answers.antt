use Rattle.fm_algebra.proofs.SplitWords.{splits_only, splits_each_once, splits_added}
use Rattle.fm_algebra.proofs.laws.polynomials.a_sum_over_splits_goes_over_all_pairs.Goals as goal

pub returns-clause-only : goal.returns-clause-only
returns-clause-only c = splits_only

pub returns-clause-each_once : goal.returns-clause-each_once
returns-clause-each_once c = splits_each_once

pub returns-clause-added : goal.returns-clause-added
returns-clause-added c = splits_added
