use Rattle.std.proofs.Common.{◌∙◌}
use Rattle.fm_claims.proofs.Asked.{asked_support, goal_is, no_support}
use Rattle.fm_claims.proofs.goals.support_goal.Goals as goal

pub returns-in_default : goal.returns-in_default
returns-in_default c = λ ps. no_support c.args.problem.now c.args.i c.args.ideal c.args.ending.now c.in_default.not-Support

pub returns : goal.returns
returns c = λ ps.
    let q = c.args.problem.now in let e = c.in_ok-found.ensures ∙ c.deref.ensures.value in
    let h = c.about.ensures ps c.requires.ideals (rw e (rw c.in-Support.is at c.requires.ending)) in
    rw c.in-Support.is (goal_is q ps _ _ c.about.result (asked_support q c.args.i c.args.ideal c.in-Support.found) (rw e at h))
