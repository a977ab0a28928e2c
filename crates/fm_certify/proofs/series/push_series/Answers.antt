use Rattle.std.proofs.Common.{ap, length, refl, arith}
use Rattle.fm_certify.proofs.SingleLoops.{series_begun, series_done, series_more}
use Rattle.fm_certify.proofs.series.push_series.Goals as goal

pub matrices-init : goal.matrices-init
matrices-init c = (series_begun c.args.series _ _, omega arith)

pub returns-in_default : goal.returns-in_default
returns-in_default c = series_done c.args.series _ _ _ c.matrices.number _ c.in_default.ensures.cases c.matrices.invariant.0

pub matrices-preserved : goal.matrices-preserved
matrices-preserved c =
    let count = ap length c.in-Some.ensures.cases.0 in
    let room = c.matrices.invariant.1 in (
      series_more c.args.series _ _ _ _ c.matrices.number _ c.in-Some.m.now _ c.in-Some.later.now _ c.in-Some.ensures.cases.0 refl c.kind.ensures
          c.in_ok-push_matrix.ensures c.matrices.invariant.0,
      omega (arith, count, room),
    )
