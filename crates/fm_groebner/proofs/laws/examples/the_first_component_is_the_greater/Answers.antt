use Rattle.fm_groebner.proofs.Examples.{first_greater}
use Rattle.fm_groebner.proofs.laws.examples.the_first_component_is_the_greater.Goals as goal

pub returns : goal.returns
returns c = first_greater
