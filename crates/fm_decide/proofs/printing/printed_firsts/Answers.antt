use Rattle.std.proofs.Common.{ap, ◌∙◌}
use Rattle.fm_mat.specs.Matrices.{column_meaning}
use Rattle.fm_decide.proofs.FirstEntries.{first_printed, firsts_done, next_first}
use Rattle.fm_decide.proofs.printing.printed_firsts.Goals as goal

pub columns-preserved : goal.columns-preserved
columns-preserved c =
    let r = c.args.ring in
    next_first r c.args.rows _ c.in-Some.column.now c.in-Some.later.now _ c.columns.out.items _ _ c.in-Some.ensures.cases.0
    (c.in_ok-printed_first.ensures ∙ ap (λ fs. first_printed r (column_meaning r fs)) c.entries.ensures) c.in_ok-push.ensures.items c.columns.invariant

pub returns-in_default-clause-value : goal.returns-in_default-clause-value
returns-in_default-clause-value c = firsts_done c.args.ring c.args.rows _ _ _ c.in_default.ensures.cases c.columns.invariant
