use Rattle.std.proofs.Common.{◌≡◌, None, IfOk, suc, length, map, take, sym, ap, ◌∙◌, subst, arith}
use Rattle.std.proofs.lemmas.Simd.{map-map}
use Rattle.fm_poly.specs.declared.ring.Ring.{Ring}
use Rattle.fm_run.proofs.Parts.{failed}
use Rattle.fm_mat.specs.Matrices.{column_meaning}
use Rattle.fm_graphs.specs.Graphs.{Graph}
use Rattle.fm_plan.specs.Queries.{chain_graphs, stages}
use Rattle.fm_plan.specs.Following.{FollowsPlan, unanswered_by}
use Rattle.fm_syz.specs.GraphValues.{graph_meaning}
use Rattle.fm_lift.proofs.Calls.{plan_wants, told_memory, told_ok}
use Rattle.fm_ext.specs.Exts.{ring_of}
use Rattle.fm_chain.specs.Chains.{member_graphs}
use Rattle.fm_chain.specs.Stages.{AreGraphsOf, IsKilledOver, killed_value}
use Rattle.fm_chain.proofs.StageRuns.{stages_spends}
use Rattle.fm_queries.specs.Bases.{base_meaning, relations_graph}
use Rattle.fm_queries.proofs.Coordinates.{graphs_fit, graphs_mean}
use Rattle.fm_queries.proofs.class.killed_in.Goals as goal

pub returns-in_err-graphs-clause-follows : goal.returns-in_err-graphs-clause-follows
returns-in_err-graphs-clause-follows c =
    let b = c.args.base.now in
    let r = ring_of b.ext in
    let units = c.args.work.now in
    let w = column_meaning r c.args.w.now in
    let all = stages r c.args.e w 0 None (chain_graphs r (base_meaning r b)) units in
    let s = c.in_err-graphs.field-0.0 in
    failed (killed_value r) unanswered_by c.from_residual.result s units units all c.from_residual.ensures
    (plan_wants s units units all (told_memory _ c.graphs.result _ c.in_err-graphs.ensures c.graphs.ensures.memory) (omega arith) (stages_spends r c.args.e w (chain_graphs r (base_meaning r b)) 0 None units))

pub kill_stage-requires-clause-graphs : goal.kill_stage-requires-clause-graphs
kill_stage-requires-clause-graphs c =
    let b = c.args.base.now in
    let gs = c.in_ok-graphs.graphs in
    let are = subst (λ x. IfOk x (λ gs. map (λ g. g.now) gs.items ≡ take (suc (length b.chain.growth)) (member_graphs (relations_graph b) b.chain.links))) (told_ok _ c.graphs.result gs c.in_ok-graphs.ensures) c.graphs.ensures.value in
    subst (λ xs. AreGraphsOf c.ring.result (length c.args.w.now) (map (λ g. g.now) xs)) (sym c.deref.ensures.value)
    (graphs_fit b c.ring.result (map (λ g. g.now) gs.items) are c.graphs.ensures.base (sym c.ring.ensures) c.args.w.now c.requires.length)

pub returns-clause-follows : goal.returns-clause-follows
returns-clause-follows c =
    let b = c.args.base.now in
    let r = ring_of b.ext in
    let gs = c.in_ok-graphs.graphs in
    let are = subst (λ x. IfOk x (λ gs. map (λ g. g.now) gs.items ≡ take (suc (length b.chain.growth)) (member_graphs (relations_graph b) b.chain.links))) (told_ok _ c.graphs.result gs c.in_ok-graphs.ensures) c.graphs.ensures.value in
    let old = c.args.work.now in
    let new = c.kill_stage.new.work in
    subst (λ (Gs : Rattle.std.proofs.Common.List (Graph r)). FollowsPlan (killed_value r) c.kill_stage.result old new (stages r c.args.e (column_meaning r c.args.w.now) 0 None Gs old))
    (ap (map (λ g. graph_meaning r g.now)) c.deref.ensures.value ∙ sym (map-map (graph_meaning r) (λ g. g.now) gs.items) ∙ graphs_mean b r (map (λ g. g.now) gs.items) are)
    (subst (λ (s : Ring). FollowsPlan (killed_value s) c.kill_stage.result old new (stages s c.args.e (column_meaning s c.args.w.now) 0 None (map (λ g. graph_meaning s g.now) c.deref.result.now) old)) c.ring.ensures c.kill_stage.ensures.follows)

pub returns-clause-over : goal.returns-clause-over
returns-clause-over c = subst (λ (s : Ring). IfOk c.kill_stage.result (IsKilledOver s)) c.ring.ensures c.kill_stage.ensures.over
