use Rattle.fm_answers.specs.Answers.{ideal_at}
use Rattle.fm_decide.proofs.MapReports.{map_answered}
use Rattle.fm_decide.proofs.map.map_answer.Goals as goal

pub returns-clause-value : goal.returns-clause-value
returns-clause-value c = λ units left h.
    let q = c.args.problem.now in
    map_answered q c.args.i c.args.source c.args.target units left c.args.found.now _ _ _ _ (c.is_inside.ensures q.ring) (c.is_inside-2.ensures q.ring) (c.least_stage.ensures q.ring)
    (c.in_ok-certificate.ensures (ideal_at q c.args.source) (ideal_at q c.args.target)) h
