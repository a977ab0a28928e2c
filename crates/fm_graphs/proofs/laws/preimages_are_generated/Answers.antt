use Rattle.std.proofs.Common.{◌++◌, [], get_or, subst}
use Rattle.fm_algebra.specs.PolynomialMatrices.{InKernel}
use Rattle.fm_graphs.proofs.Preimages.{kernel_is, preimage_run_is}
use Rattle.fm_graphs.proofs.laws.preimages_are_generated.Goals as goal

pub returns-clause-kernel : goal.returns-clause-kernel
returns-clause-kernel c = λ r A units left Q s e. (kernel_is r A s units left Q e).generates

pub returns-clause-preimage : goal.returns-clause-preimage
returns-clause-preimage c = λ r m a b A B units left Q s t e. (preimage_run_is r m a b A B s t units left Q e).generates

pub returns-clause-below : goal.returns-clause-below
returns-clause-below c = λ r m a b A B units left Q s t e j h.
    let J = preimage_run_is r m a b A B s t units left Q e in
    subst (λ M. InKernel r.prime r.vars M (get_or Q.found.columns j [] ++ get_or Q.x.columns j [])) J.matrix (J.generating.kernel j h)

pub returns-clause-upper : goal.returns-clause-upper
returns-clause-upper c = λ r m a b A B units left Q s t e. (preimage_run_is r m a b A B s t units left Q e).generating.w_equation
