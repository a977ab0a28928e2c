use Rattle.std.proofs.Common.{◌-◌, arith}
use Rattle.fm_resolve.specs.Resolutions.{resolution_value}
use Rattle.fm_certify.proofs.SingleExts.{none_part, some_part}
use Rattle.fm_certify.proofs.exts.codifferential.Goals as goal

pub returns-then-degree-eq0-clause-value : goal.returns-then-degree-eq0-clause-value
returns-then-degree-eq0-clause-value c =
    let x = c.args.resolution.now in
    let r = x.first.matrix.ring in
    none_part r (resolution_value r x) c.args.degree c.if-degree-eq0.true

pub returns-clause-value : goal.returns-clause-value
returns-clause-value c =
    let some = c.if-degree-eq0.false in
    let is = c.from.ensures in
    some_part c.args.resolution.now c.args.degree (c.from.result - 1) c.differential.result.now _ (omega (arith, some)) (omega (arith, is))
    c.differential.ensures.same c.differential.ensures.ring c.flip.ensures.value
