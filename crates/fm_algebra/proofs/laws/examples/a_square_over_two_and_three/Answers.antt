use Rattle.fm_algebra.proofs.WorkedExamples.{square_over_two, square_over_three}
use Rattle.fm_algebra.proofs.laws.examples.a_square_over_two_and_three.Goals as goal

pub returns-clause-two : goal.returns-clause-two
returns-clause-two c = square_over_two

pub returns-clause-three : goal.returns-clause-three
returns-clause-three c = square_over_three
