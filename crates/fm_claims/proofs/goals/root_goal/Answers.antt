use Rattle.fm_claims.proofs.Asked.{asked_root, goal_is, no_root}
use Rattle.fm_claims.proofs.goals.root_goal.Goals as goal

pub returns-in_default : goal.returns-in_default
returns-in_default c = λ ps. no_root c.args.problem.now c.args.i c.args.ideal c.args.ending.now c.in_default.not-Root

pub returns : goal.returns
returns c = λ ps.
    let q = c.args.problem.now in
    rw c.in-Root.is (goal_is q ps _ _ c.about.result (asked_root q c.args.i c.args.ideal c.in-Root.rank c.in-Root.stable) (c.about.ensures ps c.requires.ideals tt))
