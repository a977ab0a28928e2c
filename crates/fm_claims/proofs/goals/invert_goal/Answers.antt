use Rattle.fm_claims.proofs.Asked.{asked_invert, goal_is, no_invert}
use Rattle.fm_claims.proofs.goals.invert_goal.Goals as goal

pub returns-in_default : goal.returns-in_default
returns-in_default c = λ ps. no_invert c.args.problem.now c.args.i c.args.ideal c.args.f.now c.args.ending.now c.in_default.not-Invert

pub returns : goal.returns
returns c = λ ps.
    let q = c.args.problem.now in let f = c.args.f.now in
    let h = c.about.ensures ps c.requires.ideals (rw c.in_ok-f.ensures c.requires.over) in
    rw c.in-Invert.is (goal_is q ps _ _ c.about.result (asked_invert q c.args.i c.args.ideal f c.in-Invert.power) (rw c.in_ok-f.ensures at h))
