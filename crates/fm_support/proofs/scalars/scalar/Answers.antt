use Rattle.std.proofs.Common.{ap, ◌∙◌}
use Rattle.fm_mat.specs.Matrices.{MatrixValue, columns_meaning}
use Rattle.fm_poly.specs.Polys.{meaning}
use Rattle.fm_support.proofs.Tables.{scalar_is}
use Rattle.fm_support.proofs.scalars.scalar.Goals as goal

pub returns-clause-value : goal.returns-clause-value
returns-clause-value c =
    let r = c.args.f.now.ring in
    scalar_is r (meaning r c.args.f.now.terms) c.args.n c.new.result (ap (λ (m : MatrixValue). m.rows) c.new.ensures)
    (ap (λ (m : MatrixValue). columns_meaning r m.columns) c.new.ensures ∙ c.in_ok-columns.ensures.value)
