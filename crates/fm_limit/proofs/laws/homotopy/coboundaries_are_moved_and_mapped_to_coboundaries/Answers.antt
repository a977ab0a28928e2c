use Rattle.fm_limit.proofs.HomotopyWords.{killed_more_words, mapped_coboundary_words, moved_coboundary_words}
use Rattle.fm_limit.proofs.laws.homotopy.coboundaries_are_moved_and_mapped_to_coboundaries.Goals as goal

pub returns-clause-moved : goal.returns-clause-moved
returns-clause-moved c = λ p n i I r. moved_coboundary_words p n r

pub returns-clause-mapped : goal.returns-clause-mapped
returns-clause-mapped c = λ p n i I J r s ls k. mapped_coboundary_words p n r s k

pub returns-clause-more : goal.returns-clause-more
returns-clause-more c = λ p n i I r. killed_more_words p n r
