use Rattle.fm_text.proofs.FactorCuts.{no_factor}
use Rattle.fm_text.proofs.factors.read_factor.Goals as goal

pub returns-in-Some-third : goal.returns-in-Some-third
returns-in-Some-third c =
    let one = rw c.in-Some.is at c.first_part.ensures.parts in let two = rw c.in-Some-third.is at c.first_part-2.ensures.parts in
    no_factor c.args.text.now c.in-Some.rest.now c.in-Some-third._later.now _ _ one two
