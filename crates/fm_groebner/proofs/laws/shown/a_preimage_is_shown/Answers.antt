use Rattle.fm_groebner.proofs.Shown.{preimage_shown}
use Rattle.fm_groebner.proofs.laws.shown.a_preimage_is_shown.Goals as goal

pub returns : goal.returns
returns c = preimage_shown
