use Rattle.fm_poly.specs.Polys.{meaning}
use Rattle.fm_run.specs.Runs.{halt_of}
use Rattle.fm_run.proofs.Parts.{failed}
use Rattle.fm_support.specs.Inverting.{inverted_value}
use Rattle.fm_support.specs.Powers.{power_work}
use Rattle.fm_support.proofs.PowerRuns.{power_halts}
use Rattle.fm_syz.specs.GraphValues.{graph_meaning}
use Rattle.fm_support.proofs.inverting.zeroth.Goals as goal

pub returns-in_err-top-clause-follows : goal.returns-in_err-top-clause-follows
returns-in_err-top-clause-follows c =
    let r = c.args.g.now.matrix.ring in
    let F = meaning r c.args.f.now.terms in
    let G = graph_meaning r c.args.g.now in
    let old = c.args.work.now in
    let z = c.in_err-top.field-0.0 in
    failed (inverted_value r) halt_of c.from_residual.result z old old (power_work r 0 F G old) c.from_residual.ensures (power_halts r 0 F G (inverted_value r) old old z (c.in_err-top.ensures.follows r old c.requires.ring))
