use Rattle.std.proofs.Common.{◌≡◌, ◌+◌, ◌∙◌, length, arith}
use Rattle.fm_claims.proofs.Asked.{asked_ranks, goal_is, no_ranks, other_ranks}
use Rattle.fm_claims.proofs.goals.resolution_goal.Goals as goal

pub returns-in_default : goal.returns-in_default
returns-in_default c = λ ps. no_ranks c.args.problem.now c.args.i c.args.ideal c.args.ending.now c.in_default.not-Ranks

pub returns-then-len-i : goal.returns-then-len-i
returns-then-len-i c = λ ps.
    let ranks = c.in-Ranks.ranks in
    rw c.in-Ranks.is (other_ranks c.args.problem.now c.args.i c.args.ideal ranks
    (λ (e : length ranks.items ≡ c.args.i + 2). omega (arith, e, c.if-len-i.true, c.len.ensures, ranks.ok)))

pub returns : goal.returns
returns c = λ ps.
    let q = c.args.problem.now in let ranks = c.in-Ranks.ranks in let h = c.about.ensures ps c.requires.ideals tt in
    rw c.in-Ranks.is (goal_is q ps _ _ c.about.result (asked_ranks q c.args.i c.args.ideal ranks (omega (arith, c.if-len-i.false, c.len.ensures, ranks.ok)))
    (rw (c.in_ok-ranks.ensures.items ∙ c.deref.ensures.value) at h))
