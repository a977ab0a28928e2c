use Rattle.std.proofs.Common.{Ok, Err}
use Rattle.fm_mat.specs.Matrices.{column_meaning}
use Rattle.fm_plan.specs.Queries.{ask_map, plan}
use Rattle.fm_problem.specs.declared.query.Query.TheVariants as queries
use Rattle.fm_queries.specs.Founds.{ended_by}
use Rattle.fm_queries.specs.Maps.{map_value}
use Rattle.fm_answers.specs.Answers.{ideal_at}
use Rattle.fm_decide.proofs.Degrees.{source_long, target_long}
use Rattle.fm_decide.proofs.EndedReports.{whole_stopped}
use Rattle.fm_decide.proofs.MapReports.{map_followed}
use Rattle.fm_decide.proofs.map.answer_map.Goals as goal

pub map_answer-requires-clause-degree_source : goal.map_answer-requires-clause-degree_source
map_answer-requires-clause-degree_source c =
    let r = c.args.problem.now.ring in
    source_long r c.args.i (column_meaning r c.generators-outer.result.now) c.new-work.result c.decide_map.new.work (column_meaning r c.generators-inner.result.now) c.in-Ok.found c.in-Ok.ensures.follows

pub map_answer-requires-clause-degree_target : goal.map_answer-requires-clause-degree_target
map_answer-requires-clause-degree_target c =
    let r = c.args.problem.now.ring in
    target_long r c.args.i (column_meaning r c.generators-outer.result.now) c.new-work.result c.decide_map.new.work (column_meaning r c.generators-inner.result.now) c.in-Ok.found c.in-Ok.ensures.follows

pub returns-in-Ok-clause-value : goal.returns-in-Ok-clause-value
returns-in-Ok-clause-value c =
    let q = c.args.problem.now in
    c.map_answer.ensures.value c.args.units _
    (map_followed q c.args.i c.args.source c.args.target c.args.units _ _ _ _ (Ok c.in-Ok.found) c.generators-outer.ensures.same c.generators-inner.ensures.same c.new-work.ensures c.in-Ok.ensures.follows)

pub returns-in-Err-clause-value : goal.returns-in-Err-clause-value
returns-in-Err-clause-value c =
    let q = c.args.problem.now in
    let fs = ideal_at q c.args.source in
    let gs = ideal_at q c.args.target in
    whole_stopped q (queries.Map c.args.i c.args.source c.args.target) c.args.units _ (plan q.ring (ask_map c.args.i fs gs)) (map_value q.ring c.args.i fs gs) ended_by c.in-Err.ended
    c.unanswered_answer.result
    (map_followed q c.args.i c.args.source c.args.target c.args.units _ _ _ _ (Err c.in-Err.ended) c.generators-outer.ensures.same c.generators-inner.ensures.same c.new-work.ensures c.in-Err.ensures.follows)
    c.unanswered_answer.ensures.value c.unanswered_answer.ensures.halts
