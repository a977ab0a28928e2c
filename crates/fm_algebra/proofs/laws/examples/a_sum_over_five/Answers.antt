use Rattle.fm_algebra.proofs.WorkedExamples.{sum_over_five}
use Rattle.fm_algebra.proofs.laws.examples.a_sum_over_five.Goals as goal

pub returns : goal.returns
returns c = sum_over_five
