use Rattle.fm_claims.proofs.Asked.{asked_ext, goal_is, no_ext}
use Rattle.fm_claims.proofs.goals.ext_goal.Goals as goal

pub returns-in_default : goal.returns-in_default
returns-in_default c = λ ps. no_ext c.args.problem.now c.args.i c.args.ideal c.args.ending.now c.in_default.not-ExtOf

pub returns : goal.returns
returns c = λ ps.
    let q = c.args.problem.now in
    rw c.in-ExtOf.is (goal_is q ps _ _ c.about.result (asked_ext q c.args.i c.args.ideal c.in-ExtOf.generators c.in-ExtOf.relations) (c.about.ensures ps c.requires.ideals tt))
