use Rattle.fm_poly.proofs.PowerSteps.{meaning_of_one}
use Rattle.fm_poly.proofs.multiplying.one.Goals as goal

pub returns-clause-one : goal.returns-clause-one
returns-clause-one c =
    meaning_of_one c.args.ring _ _ _ _ c.in_ok-push.ensures.items c.new-terms.ensures.items c.one.ensures c.element.ensures.exact
