use Rattle.std.proofs.Common.{subst, sym, refl}
use Rattle.fm_term.specs.Places.{Falls}
use Rattle.fm_term.specs.Falling.{AreTerms}
use Rattle.fm_term.specs.Multiples.{multiple}
use Rattle.fm_vec.proofs.Adding.{all_written, multiple_falls}
use Rattle.fm_vec.proofs.Proper.{multiple_terms}
use Rattle.fm_vec.proofs.multiples.multiplied.Goals as goal

pub returns-in_default-clause-falls : goal.returns-in_default-clause-falls
returns-in_default-clause-falls c =
    let all = all_written (multiple c.args.ring.prime c.args.d c.args.m) c.terms.out.items c.terms.g.now c.args.g.now refl c.in_default.ensures.cases c.terms.invariant.whole in
    subst (Falls c.args.ring.order) (sym all) (multiple_falls c.args.ring c.args.d c.args.m c.args.g.now c.requires.vars c.requires.terms c.requires.falls)

pub returns-in_default-clause-terms : goal.returns-in_default-clause-terms
returns-in_default-clause-terms c =
    let all = all_written (multiple c.args.ring.prime c.args.d c.args.m) c.terms.out.items c.terms.g.now c.args.g.now refl c.in_default.ensures.cases c.terms.invariant.whole in
    subst (AreTerms c.args.ring.prime c.args.ring.vars) (sym all) (multiple_terms c.args.ring c.args.d c.args.m c.args.g.now c.requires.some c.requires.below c.requires.vars c.requires.terms)
