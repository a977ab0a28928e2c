use Rattle.fm_algebra.proofs.PolynomialMatrices.{kernel_of_twist}
use Rattle.fm_algebra.proofs.laws.matrices.the_kernel_of_a_twist.Goals as goal

pub returns : goal.returns
returns c = kernel_of_twist
