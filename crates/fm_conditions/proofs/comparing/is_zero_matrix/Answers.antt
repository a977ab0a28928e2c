use Rattle.std.proofs.Common.{◌∙◌}
use Rattle.fm_conditions.proofs.Comparisons.{zeros_compared}
use Rattle.fm_conditions.proofs.comparing.is_zero_matrix.Goals as goal

pub returns : goal.returns
returns c = λ r e. zeros_compared r c.args.a.now c.args.a.now c.ring.result c.columns.result.now c.are_zero_columns.result (c.ring.ensures ∙ e) c.columns.ensures.same c.are_zero_columns.ensures
