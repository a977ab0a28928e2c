use Rattle.fm_groebner.proofs.Shown.{outside_shown}
use Rattle.fm_groebner.proofs.laws.shown.an_outside_is_shown.Goals as goal

pub returns : goal.returns
returns c = outside_shown
