use Rattle.std.proofs.Common.{ap, length, refl, arith}
use Rattle.fm_certify.proofs.SingleLoops.{differentials_begun, differentials_done, differentials_more}
use Rattle.fm_certify.proofs.resolutions.push_differentials.Goals as goal

pub next-init : goal.next-init
next-init c = (differentials_begun _ c.args.j _, c.requires.room)

pub returns-in_default : goal.returns-in_default
returns-in_default c = differentials_done _ c.args.j _ _ c.next.number _ c.in_default.ensures.cases c.next.invariant.0

pub next-preserved : goal.next-preserved
next-preserved c =
    let count = ap length c.in-Some.ensures.cases.0 in
    let room = c.next.invariant.1 in (
      differentials_more _ c.args.j _ _ _ c.next.number _ c.in-Some.x.now c.found.result.now _ c.in-Some.later.now c.in-Some.ensures.cases.0 refl c.found.ensures
          c.in_ok-push_matrix.ensures c.next.invariant.0,
      omega (arith, count, room),
    )
