use Rattle.std.proofs.Common.{arith}
use Rattle.fm_claims.proofs.Asked.{asked_map, goal_is, no_map, no_target}
use Rattle.fm_claims.proofs.goals.map_goal.Goals as goal

pub returns-in_default : goal.returns-in_default
returns-in_default c = λ ps. no_map c.args.problem.now c.args.i c.args.source c.args.target c.args.ending.now c.in_default.not-Map

pub returns-then-target-len : goal.returns-then-target-len
returns-then-target-len c = λ ps.
    rw c.in-Map.is (no_target c.args.problem.now c.args.i c.args.source c.args.target c.in-Map.zero c.in-Map.one c.in-Map.onto (omega arith))

pub returns : goal.returns
returns c = λ ps.
    let q = c.args.problem.now in let j = c.args.target in
    rw c.in-Map.is (goal_is q ps _ _ c.about.result (asked_map q c.args.i c.args.source j c.in-Map.zero c.in-Map.one c.in-Map.onto (omega arith))
    (c.about.ensures ps c.requires.ideals (omega arith)))
