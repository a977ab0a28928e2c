use Rattle.std.proofs.Common.{[], ◌∷◌, refl}
use Rattle.fm_algebra.specs.PolynomialMatrices.{matrix_column}
use Rattle.fm_limit.specs.ResolvedIdeal.{row}
use Rattle.fm_poly.specs.Polys.{meaning}
use Rattle.fm_mat.specs.Matrices.{column_meaning}
use Rattle.fm_run.specs.declared.task.Side.TheVariants.{Alone}
use Rattle.fm_run.specs.declared.task.Name.TheVariants as names
use Rattle.fm_graphs.specs.Graphs.{graph_run, inside_run}
use Rattle.fm_run.proofs.Parts.{failed}
use Rattle.fm_plan.proofs.Following.{told_of}
use Rattle.fm_syz.specs.GraphValues.{GraphValue, graph_meaning}
use Rattle.fm_syz.specs.Insides.{inside_value}
use Rattle.fm_resolve.specs.declared.membership.Membership.{Membership}
use Rattle.fm_resolve.proofs.Memberships.{first_stops, test_stops, test_ends, decided}
use Rattle.fm_resolve.proofs.membership.decide_member.Goals as goal

pub returns-in_err-first-clause-follows : goal.returns-in_err-first-clause-follows
returns-in_err-first-clause-follows c =
    let r = c.args.ring in
    let fs = column_meaning r c.args.generators.now in
    failed _ _ _ c.in_err-first.field-0.0 _ _ _ c.from_residual.ensures
    (first_stops r fs (meaning r c.args.f.now.terms) _ _ _
    (told_of (λ (g : GraphValue). graph_meaning r g) Alone names.Resolve 1 _ _ (graph_run r (row r.prime r.vars fs)) _ _ c.in_err-first.ensures c.first_graph.ensures.follows))

pub returns-in_err-inside-clause-follows : goal.returns-in_err-inside-clause-follows
returns-in_err-inside-clause-follows c =
    let r = c.args.ring in
    let fs = column_meaning r c.args.generators.now in
    let f = meaning r c.args.f.now.terms in
    let g = c.in_ok-first.first in
    failed _ _ _ c.in_err-inside.field-0.0 _ _ _ c.from_residual-in_err-inside.ensures
    (test_stops r fs f _ c.first_graph.new.work _ g
    (told_of (λ (g : GraphValue). graph_meaning r g) Alone names.Resolve 1 _ _ (graph_run r (row r.prime r.vars fs)) _ _ c.in_ok-first.ensures c.first_graph.ensures.follows) _
    (told_of (inside_value r) Alone names.Member 0 _ _ (inside_run r (matrix_column r.prime r.vars (f ∷ [])) (graph_meaning r g)) _ _ c.in_err-inside.ensures c.member_test.ensures.follows))

pub returns-clause-follows : goal.returns-clause-follows
returns-clause-follows c =
    let r = c.args.ring in
    let fs = column_meaning r c.args.generators.now in
    let f = meaning r c.args.f.now.terms in
    let g = c.in_ok-first.first in
    test_ends r fs f _ c.first_graph.new.work _ g
    (told_of (λ (g : GraphValue). graph_meaning r g) Alone names.Resolve 1 _ _ (graph_run r (row r.prime r.vars fs)) _ _ c.in_ok-first.ensures c.first_graph.ensures.follows)
    c.in_ok-inside.inside (record { first = g; inside = c.in_ok-inside.inside }) refl
    (told_of (inside_value r) Alone names.Member 0 _ _ (inside_run r (matrix_column r.prime r.vars (f ∷ [])) (graph_meaning r g)) _ _ c.in_ok-inside.ensures c.member_test.ensures.follows)

pub returns-clause-decides : goal.returns-clause-decides
returns-clause-decides c =
    let r = c.args.ring in
    let fs = column_meaning r c.args.generators.now in
    let f = meaning r c.args.f.now.terms in
    let g = c.in_ok-first.first in
    let m : Membership = record { first = g; inside = c.in_ok-inside.inside } in
    decided r fs f m c.args.work.now c.member_test.new.work
    (test_ends r fs f _ c.first_graph.new.work _ g
    (told_of (λ (g : GraphValue). graph_meaning r g) Alone names.Resolve 1 _ _ (graph_run r (row r.prime r.vars fs)) _ _ c.in_ok-first.ensures c.first_graph.ensures.follows)
    c.in_ok-inside.inside m refl
    (told_of (inside_value r) Alone names.Member 0 _ _ (inside_run r (matrix_column r.prime r.vars (f ∷ [])) (graph_meaning r g)) _ _ c.in_ok-inside.ensures c.member_test.ensures.follows))
