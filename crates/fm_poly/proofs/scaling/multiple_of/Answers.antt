use Rattle.std.proofs.Common.{◌<◌, ◌≡◌, rules}
use Rattle.fm_poly.proofs.ProductSteps.{canonical_terms}
use Rattle.fm_poly.proofs.TwistSteps.{scale_zero, scale_canonical, scale_meaning}
use Rattle.fm_poly.proofs.scaling.multiple_of.Goals as goal

pub returns-then-number-eq0-clause-multiple : goal.returns-then-number-eq0-clause-multiple
returns-then-number-eq0-clause-multiple c =
    let none : c.args.c ≡ 0 = search rules in scale_zero c.args.ring _ _ c.args.c none c.new.ensures.items

pub scaled-requires-clause-terms : goal.scaled-requires-clause-terms
scaled-requires-clause-terms c = canonical_terms c.args.ring _ c.requires.canonical

pub returns-clause-canonical : goal.returns-clause-canonical
returns-clause-canonical c =
    let positive : 0 < c.args.c = search rules in scale_canonical c.args.ring c.args.c _ _ c.in_ok-terms.ensures positive c.requires.below c.requires.canonical

pub returns-clause-multiple : goal.returns-clause-multiple
returns-clause-multiple c = scale_meaning c.args.ring c.args.c _ _ c.in_ok-terms.ensures
