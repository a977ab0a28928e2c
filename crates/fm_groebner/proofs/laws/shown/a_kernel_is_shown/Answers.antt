use Rattle.fm_groebner.proofs.Shown.{kernel_shown}
use Rattle.fm_groebner.proofs.laws.shown.a_kernel_is_shown.Goals as goal

pub returns : goal.returns
returns c = kernel_shown
