use Rattle.std.proofs.Common.{arith}
use Rattle.fm_claims.proofs.Asked.{asked_dying, asked_living, early_class, goal_is, no_class}
use Rattle.fm_claims.proofs.goals.class_goal.Goals as goal

pub returns-in_default : goal.returns-in_default
returns-in_default c = λ ps. no_class c.args.problem.now c.args.i c.args.ideal c.args.e c.args.z.now c.args.ending.now c.in_default.not-Class

pub returns-in_default-stage : goal.returns-in_default-stage
returns-in_default-stage c = λ ps.
    let q = c.args.problem.now in let z = c.args.z.now in
    let h = c.about.ensures ps c.requires.ideals (rw c.in_ok-z.ensures c.requires.over) in
    rw (c.in-Class.is, c.in_default-stage.is) (goal_is q ps _ _ c.about.result (asked_living q c.args.i c.args.ideal c.args.e z) (rw c.in_ok-z.ensures at h))

pub returns-then-stage-from : goal.returns-then-stage-from
returns-then-stage-from c = λ ps.
    rw (c.in-Class.is, c.in-Some.is) (early_class c.args.problem.now c.args.i c.args.ideal c.args.e c.args.z.now c.in-Some.stage
    (omega (arith, c.if-stage-from.true, c.from.ensures)))

pub returns : goal.returns
returns c = λ ps.
    let q = c.args.problem.now in let z = c.args.z.now in
    let h = c.about-2.ensures ps c.requires.ideals (rw c.in_ok-z-2.ensures c.requires.over) in
    rw (c.in-Class.is, c.in-Some.is) (goal_is q ps _ _ c.about-2.result
    (asked_dying q c.args.i c.args.ideal c.args.e z c.in-Some.stage (omega (arith, c.if-stage-from.false, c.from.ensures)))
    (rw (c.in_ok-z-2.ensures, c.from-2.ensures) at h))
