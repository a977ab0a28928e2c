use Rattle.fm_algebra.proofs.PolynomialMatrices.{products_image, products_kernel, products_picked}
use Rattle.fm_algebra.proofs.laws.matrices.images_and_kernels_of_products.Goals as goal

pub returns-clause-image : goal.returns-clause-image
returns-clause-image c = products_image

pub returns-clause-kernel : goal.returns-clause-kernel
returns-clause-kernel c = products_kernel

pub returns-clause-picked : goal.returns-clause-picked
returns-clause-picked c = products_picked
