use Rattle.fm_limit.proofs.TwistedResolution.{twisted_words}
use Rattle.fm_limit.proofs.laws.homotopy.the_twist_of_a_resolution.Goals as goal

pub returns : goal.returns
returns c = λ p n e i fs ds r. twisted_words p n e r
