use Rattle.std.proofs.Common.{Vec, Global, ◌≡◌, Ok, Err, Result, refl, sym, subst}
use Rattle.fm_limit.specs.ResolvedIdeal.{row}
use Rattle.fm_poly.specs.declared.ring.Ring.{Ring}
use Rattle.fm_run.specs.declared.task.Stopped.{Stopped}
use Rattle.fm_run.specs.declared.task.Name.TheVariants.{Resolve}
use Rattle.fm_run.proofs.Parts.{failed}
use Rattle.fm_mat.specs.Matrices.{column_meaning}
use Rattle.fm_graphs.specs.Graphs.{graph_run}
use Rattle.fm_plan.specs.Base.{resolving}
use Rattle.fm_plan.specs.Following.{FollowsPlan, unanswered_by}
use Rattle.fm_plan.proofs.Following.{told_of}
use Rattle.fm_syz.specs.declared.generators.Generators.{Generators}
use Rattle.fm_syz.specs.GraphValues.{GraphValue, graph_meaning}
use Rattle.fm_resolve.specs.Resolutions.{ResolutionValue, generators_from}
use Rattle.fm_resolve.proofs.ResolvingRuns.{still_ok, first_stops, next_stops, next_goes, resolves}
use Rattle.fm_resolve.proofs.resolution.resolve.Goals as goal

pub returns-in_err-first-clause-follows : goal.returns-in_err-first-clause-follows
returns-in_err-first-clause-follows c =
    let r = c.args.ring in
    let fs = column_meaning r c.args.generators.now in
    failed _ unanswered_by c.from_residual.result c.in_err-first.field-0.0 _ _ _ c.from_residual.ensures
    (first_stops r c.args.side c.args.degree fs _ _ _
    (told_of (λ (g : GraphValue). graph_meaning r g) c.args.side Resolve 1 _ _ (graph_run r (row r.prime r.vars fs)) c.first_graph.result _
    (subst (λ t. ◌≡◌ {A = Result GraphValue Stopped} (Err c.in_err-first.field-0.0) (Rattle.fm_run.specs.Tasks.stopped_in t c.first_graph.result)) c.resolve_task.ensures c.in_err-first.ensures) c.first_graph.ensures.follows))

pub returns-in_err-next-clause-follows : goal.returns-in_err-next-clause-follows
returns-in_err-next-clause-follows c =
    let r = c.args.ring in
    let fs = column_meaning r c.args.generators.now in
    let g = c.in_ok-first.first in
    let told = subst (λ t. ◌≡◌ {A = Result GraphValue Stopped} (Ok g) (Rattle.fm_run.specs.Tasks.stopped_in t c.first_graph.result)) c.resolve_task.ensures c.in_ok-first.ensures in
    let ring : g.matrix.ring ≡ r = subst (λ a. Rattle.std.specs.Prelude.IfOk a (λ (g : GraphValue). g.matrix.ring ≡ r)) (sym c.in_ok-first.ensures) (still_ok (λ (g : GraphValue). g.matrix.ring ≡ r) c.resolve_task.result c.first_graph.result c.first_graph.ensures.ring) in
    failed _ unanswered_by c.from_residual-in_err-next.result c.in_err-next.field-0.0 _ _ _ c.from_residual-in_err-next.ensures
    (next_stops r c.args.side c.args.degree fs c.args.work.now c.first_graph.new.work c.resolving.new.work g
    (told_of (λ (g : GraphValue). graph_meaning r g) c.args.side Resolve 1 _ _ (graph_run r (row r.prime r.vars fs)) c.first_graph.result _ told c.first_graph.ensures.follows)
    (λ (xs : Vec Generators Global). generators_from r g xs.items) c.in_err-next.field-0.0
    (subst (λ (s : Ring). FollowsPlan (λ (xs : Vec Generators Global). generators_from s g xs.items) (Err c.in_err-next.field-0.0) c.first_graph.new.work c.resolving.new.work (resolving s c.args.side c.args.degree 1 (graph_meaning s g) c.first_graph.new.work)) ring c.in_err-next.ensures.follows))

pub returns-clause-follows : goal.returns-clause-follows
returns-clause-follows c =
    let r = c.args.ring in
    let fs = column_meaning r c.args.generators.now in
    let g = c.in_ok-first.first in
    let told = subst (λ t. ◌≡◌ {A = Result GraphValue Stopped} (Ok g) (Rattle.fm_run.specs.Tasks.stopped_in t c.first_graph.result)) c.resolve_task.ensures c.in_ok-first.ensures in
    let ring : g.matrix.ring ≡ r = subst (λ a. Rattle.std.specs.Prelude.IfOk a (λ (g : GraphValue). g.matrix.ring ≡ r)) (sym c.in_ok-first.ensures) (still_ok (λ (g : GraphValue). g.matrix.ring ≡ r) c.resolve_task.result c.first_graph.result c.first_graph.ensures.ring) in
    let x : ResolutionValue = record { first = g; next = c.in_ok-next.next.items } in
    next_goes r c.args.side c.args.degree fs c.args.work.now c.first_graph.new.work c.resolving.new.work g
    (told_of (λ (g : GraphValue). graph_meaning r g) c.args.side Resolve 1 _ _ (graph_run r (row r.prime r.vars fs)) c.first_graph.result _ told c.first_graph.ensures.follows)
    x (generators_from r g c.in_ok-next.next.items)
    (subst (λ (s : Ring). FollowsPlan (λ (xs : Vec Generators Global). generators_from s g xs.items) (Ok c.in_ok-next.next) c.first_graph.new.work c.resolving.new.work (resolving s c.args.side c.args.degree 1 (graph_meaning s g) c.first_graph.new.work)) ring c.in_ok-next.ensures.follows)
    refl

pub returns-clause-resolves : goal.returns-clause-resolves
returns-clause-resolves c =
    let r = c.args.ring in
    let x : ResolutionValue = record { first = c.in_ok-first.first; next = c.in_ok-next.next.items } in
    resolves r c.args.side c.args.degree (column_meaning r c.args.generators.now) x c.args.work.now c.resolving.new.work (returns-clause-follows c)
