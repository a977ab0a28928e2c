use Rattle.std.proofs.Common.{sym, ◌∙◌}
use Rattle.fm_conditions.proofs.Comparisons.{rows_differ, columns_compared}
use Rattle.fm_conditions.proofs.comparing.same_matrix.Goals as goal

pub returns-then-rows : goal.returns-then-rows
returns-then-rows c = λ r e. rows_differ r c.args.a.now c.args.b.now (λ h. c.if-rows.true (c.rows.ensures ∙ h ∙ sym c.rows-2.ensures))

pub returns : goal.returns
returns c = λ r e.
    columns_compared r c.args.a.now c.args.b.now c.ring.result c.columns.result.now c.columns-2.result.now c.same_columns.result (c.ring.ensures ∙ e)
    (sym c.rows.ensures ∙ c.if-rows.false ∙ c.rows-2.ensures) c.columns.ensures.same c.columns-2.ensures.same c.same_columns.ensures
