use Rattle.fm_algebra.proofs.WorkedExamples.{difference_of_squares}
use Rattle.fm_algebra.proofs.laws.examples.a_difference_of_squares_over_three.Goals as goal

pub returns : goal.returns
returns c = difference_of_squares
