use Rattle.fm_claims.proofs.Asked.{asked_member, goal_is, no_member}
use Rattle.fm_claims.proofs.goals.member_goal.Goals as goal

pub returns-in_default : goal.returns-in_default
returns-in_default c = λ ps. no_member c.args.problem.now c.args.ideal c.args.f.now c.args.ending.now c.in_default.not-Member

pub returns : goal.returns
returns c = λ ps.
    let q = c.args.problem.now in let f = c.args.f.now in
    let h = c.about.ensures ps c.requires.ideals (rw c.in_ok-f.ensures c.requires.over) in
    rw c.in-Member.is (goal_is q ps _ _ c.about.result (asked_member q c.args.ideal f c.in-Member.yes) (rw c.in_ok-f.ensures at h))
