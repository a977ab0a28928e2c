use Rattle.std.proofs.Common.{◌+◌, length, subst, sym, ap, ◌∙◌, arith}
use Rattle.fm_vec.specs.Vectors.{VectorValue}
use Rattle.fm_vec.specs.Components.{column_terms}
use Rattle.fm_run.specs.Runs.{Follows, ended_with}
use Rattle.fm_run.proofs.Calls.{wanted}
use Rattle.fm_complete.specs.Remainders.{remainder_of, remainder_value}
use Rattle.fm_graphs.specs.Graphs.{lift_run}
use Rattle.fm_graphs.proofs.Spending.{lift_spends}
use Rattle.fm_mat.specs.Matrices.{column_meaning}
use Rattle.fm_syz.specs.GraphValues.{graph_meaning}
use Rattle.fm_syz.proofs.Border.{wider_is, lift_is}
use Rattle.fm_syz.proofs.lifting.lift_rest.Goals as goal

pub from_falling-whole-requires : goal.from_falling-whole-requires
from_falling-whole-requires c =
    wider_is c.ring-ring.result c.in_ok-upper.upper (length c.args.v.now) (c.rows.result + c.width.result) c.into_terms.result.items (omega (arith, c.rows.ensures, c.requires.rows)) (column_terms 1 c.args.v.now)
    c.in_ok-upper.ensures c.head-head.ensures.proper c.into_terms.ensures

pub returns-clause-follows : goal.returns-clause-follows
returns-clause-follows c =
    let g = c.args.g.now in
    subst (Follows remainder_value c.rest_of.result c.args.work.now c.rest_of.new.work)
    (lift_is g.matrix.ring g c.args.v.now c.from_falling-whole.result c.members-members.result.now c.args.work.now c.requires.over c.requires.rows
    (wider_is g.matrix.ring c.in_ok-upper.upper (length c.args.v.now) (g.matrix.rows + length g.matrix.columns) (column_terms 1 c.args.v.now) (omega (arith, c.requires.rows)) (column_terms 1 c.args.v.now)
    (c.in_ok-upper.ensures ∙ ap (λ s. record { ring = s; rows = length c.args.v.now; terms = column_terms 1 c.args.v.now }) c.ring-ring.ensures) c.head-head.ensures.proper (sym (ap (λ (x : VectorValue). x.terms) c.in_ok-upper.ensures)))
    (ap (λ (x : VectorValue). x.ring) c.from_falling-whole.ensures ∙ c.ring-ring.ensures) c.members-members.ensures.same
    (ap (λ (x : VectorValue). x.terms) c.from_falling-whole.ensures ∙ c.into_terms.ensures ∙ ap (λ (x : VectorValue). x.terms) c.in_ok-upper.ensures))
    c.rest_of.ensures.follows

pub returns-in_err-upper-clause-follows : goal.returns-in_err-upper-clause-follows
returns-in_err-upper-clause-follows c =
    let g = c.args.g.now in
    let r = g.matrix.ring in
    let units = c.args.work.now in
    let run = lift_run r (graph_meaning r g) (column_meaning r c.args.v.now) in
    wanted remainder_value c.from_residual.result units units (ended_with remainder_of (run units)) c.from_residual.ensures (omega arith) (lift_spends r (graph_meaning r g) (column_meaning r c.args.v.now) units)
