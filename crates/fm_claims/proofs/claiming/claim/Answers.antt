use Rattle.std.proofs.lemmas.Result.{IfOk-weaker}
use Rattle.fm_pres.specs.Tables.{parts_in}
use Rattle.fm_claims.specs.Following.{FollowsIn}
use Rattle.fm_claims.proofs.claiming.claim.Goals as goal

pub returns-clause-claim : goal.returns-clause-claim
returns-clause-claim c =
    IfOk-weaker c.claim_early.result (FollowsIn c.args.problem.now (parts_in c.args.table.now) c.args.logs.now c.args.goal.now c.args.block.now c.args.place c.args.row.now) _
    (λ x h. h.claim) c.claim_early.ensures

pub returns-clause-sound : goal.returns-clause-sound
returns-clause-sound c =
    IfOk-weaker c.claim_early.result (FollowsIn c.args.problem.now (parts_in c.args.table.now) c.args.logs.now c.args.goal.now c.args.block.now c.args.place c.args.row.now) _
    (λ x h. h.sound) c.claim_early.ensures
