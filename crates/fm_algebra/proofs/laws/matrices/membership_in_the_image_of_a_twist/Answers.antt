use Rattle.fm_algebra.proofs.PolynomialMatrices.{membership_of_twist}
use Rattle.fm_algebra.proofs.laws.matrices.membership_in_the_image_of_a_twist.Goals as goal

pub returns : goal.returns
returns c = membership_of_twist
