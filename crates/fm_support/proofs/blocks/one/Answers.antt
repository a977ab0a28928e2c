use Rattle.std.proofs.Common.{[], refl, ◌∙◌}
use Rattle.fm_poly.proofs.PowerSteps.{meaning_of_one}
use Rattle.fm_support.proofs.blocks.one.Goals as goal

pub returns-clause-value : goal.returns-clause-value
returns-clause-value c = c.in_ok-one.ensures.sum ∙ meaning_of_one c.args.ring _ [] _ _ refl refl c.one.ensures c.element.ensures.exact
