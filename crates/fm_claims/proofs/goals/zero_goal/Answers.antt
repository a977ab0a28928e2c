use Rattle.fm_claims.proofs.Asked.{asked_zero, goal_is, no_zero}
use Rattle.fm_claims.proofs.goals.zero_goal.Goals as goal

pub returns-in_default : goal.returns-in_default
returns-in_default c = λ ps. no_zero c.args.problem.now c.args.i c.args.ideal c.args.ending.now c.in_default.not-Zero

pub returns : goal.returns
returns c = λ ps.
    let q = c.args.problem.now in
    rw c.in-Zero.is (goal_is q ps _ _ c.about.result (asked_zero q c.args.i c.args.ideal c.in-Zero.yes c.in-Zero.stable) (c.about.ensures ps c.requires.ideals tt))
