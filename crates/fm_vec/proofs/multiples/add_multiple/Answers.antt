use Rattle.std.proofs.Common.{subst, sym}
use Rattle.fm_vec.specs.Steps.{count_above}
use Rattle.fm_term.specs.Falling.{AreTerms}
use Rattle.fm_vec.proofs.Adding.{terms_drop, turn}
use Rattle.fm_vec.proofs.multiples.add_multiple.Goals as goal

pub push_top-requires-clause-terms : goal.push_top-requires-clause-terms
push_top-requires-clause-terms c =
    subst (AreTerms c.args.ring.prime c.args.ring.vars) (sym c.in_ok-f.ensures.rest)
    (terms_drop c.args.ring (count_above c.args.ring.order c.in-Some-times.t c.turns.f.now) c.turns.f.now c.turns.invariant.terms_f)

pub turns-preserved : goal.turns-preserved
turns-preserved c =
    turn c.args.ring c.args.d c.args.m c.args.g.now c.args.f.now c.args.out.now.items c.requires.vars
    c.in-Some.ensures.cases.0 c.in-Some-times.ensures.fits c.in-Some-times.ensures.value
    c.in_ok-f.ensures.above c.in_ok-f.ensures.rest c.in_ok-f-2.ensures.top c.in_ok-f-2.ensures.rest c.turns.invariant
