use Rattle.std.proofs.Common.{refl, arith}
use Rattle.fm_run.proofs.Calls.{wanted}
use Rattle.fm_complete.specs.Divisions.{terms_of}
use Rattle.fm_complete.specs.Reduced.{reduction_value}
use Rattle.fm_complete.specs.Reductions.{reduced}
use Rattle.fm_complete.specs.Trails.{ahead}
use Rattle.fm_complete.proofs.Running.{leaves}
use Rattle.fm_complete.proofs.long.reduce_long.Goals as goal

pub returns-in_err-fill_tails-clause-follows : goal.returns-in_err-fill_tails-clause-follows
returns-in_err-fill_tails-clause-follows c =
    let ms = terms_of c.args.basis.now in
    let v = c.args.rest.now in
    let all = ahead c.args.steps.items (reduced v.ring ms c.args.work.now v.terms) in
    wanted reduction_value c.from_residual.result c.args.work.now c.args.work.now all c.from_residual.ensures (omega arith) (leaves v.ring ms c.args.steps.items c.args.work.now v.terms all refl)

pub returns-in_err-buckets-clause-follows : goal.returns-in_err-buckets-clause-follows
returns-in_err-buckets-clause-follows c =
    let ms = terms_of c.args.basis.now in
    let v = c.args.rest.now in
    let all = ahead c.args.steps.items (reduced v.ring ms c.args.work.now v.terms) in
    wanted reduction_value c.from_residual-in_err-buckets.result c.args.work.now c.args.work.now all c.from_residual-in_err-buckets.ensures (omega arith) (leaves v.ring ms c.args.steps.items c.args.work.now v.terms all refl)
