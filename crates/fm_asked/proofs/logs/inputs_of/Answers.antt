use Rattle.std.proofs.Common.{sym, subst}
use Rattle.fm_mat.specs.Matrices.{MatrixValue}
use Rattle.fm_poly.specs.declared.ring.Ring.{Ring}
use Rattle.fm_pres.specs.Kept.{IsValue}
use Rattle.fm_pres.specs.Tables.{part_at, parts_in}
use Rattle.fm_asked.proofs.LogInputs.{inputs_are}
use Rattle.fm_asked.proofs.logs.inputs_of.Goals as goal

pub returns-in-Ok-graph_columns-clause-inputs : goal.returns-in-Ok-graph_columns-clause-inputs
returns-in-Ok-graph_columns-clause-inputs c =
    let x = part_at (parts_in c.args.table.now) c.args.part in
    let v = subst (λ (q : Ring). IsValue q x c.deref.result.now) c.requires.ring
    (subst (λ (m : MatrixValue). IsValue c.args.table.now.ring x m) (sym c.deref.ensures) c.in-Ok.ensures.value) in (
      inputs_are c.args.ring x c.deref.result.now c.in-Ok-graph_columns.inputs.items v c.in-Ok-graph_columns.ensures.terms c.in-Ok-graph_columns.ensures.shape c.in-Ok-graph_columns.ensures.few,
      v.within,
    )
