use Rattle.fm_algebra.proofs.WorkedExamples.{twist_over_three, twist_by_four}
use Rattle.fm_algebra.proofs.laws.examples.twists_of_two_polynomials.Goals as goal

pub returns-clause-three : goal.returns-clause-three
returns-clause-three c = twist_over_three

pub returns-clause-four : goal.returns-clause-four
returns-clause-four c = twist_by_four
