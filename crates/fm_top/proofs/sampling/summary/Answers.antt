use Rattle.std.proofs.Common.{◌∙◌, ap}
use Rattle.fm_top.specs.Output.{summary_line}
use Rattle.fm_top.proofs.Summaries.{states_nothing}
use Rattle.fm_top.proofs.sampling.summary.Goals as goal

pub returns-clause-verdicts : goal.returns-clause-verdicts
returns-clause-verdicts c =
    states_nothing c.args.number c.in_ok-problem.problem c.in_ok-counts.counts c.in_ok-problem.ensures.drawn c.in_ok-counts.ensures c.in_ok-summary_line.field-0.items
    (c.in_ok-summary_line.ensures ∙ ap (λ k. summary_line c.args.number k c.in_ok-counts.counts) c.len.ensures)
