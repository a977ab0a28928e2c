use Rattle.std.proofs.Common.{◌++◌, ◌∷◌, length, ap, subst, sym, ◌∙◌, arith}
use Rattle.fm_algebra.specs.Matrix.{component}
use Rattle.fm_algebra.specs.Polynomials.{polynomials}
use Rattle.fm_poly.specs.Polys.{PolyValue, meaning}
use Rattle.fm_vec.specs.Components.{AreOver}
use Rattle.fm_mat.specs.Columns.{row_of}
use Rattle.fm_mat.specs.Matrices.{AreColumns, column_meaning, columns_meaning}
use Rattle.fm_mat.proofs.Steps.{mapped_more, over_more}
use Rattle.fm_mat.proofs.flipping.row.Goals as goal

pub columns-preserved : goal.columns-preserved
columns-preserved c =
    let r = c.args.ring in
    let here = c.in-Some.ensures.cases.0 in
    let shape : AreColumns r c.args.rows (c.in-Some.c.now ∷ c.in-Some.later.now) = subst (AreColumns r c.args.rows) here c.columns.invariant.shape in
    let pushed = c.in_ok-push.ensures.items in
    let h = c.in_ok-entry.field-0 in
    record {
      shape = shape.2;
      over = subst (AreOver r) (sym pushed) (over_more r c.columns.out.items h c.columns.invariant.over c.in_ok-entry.ensures.over);
      count = omega (arith, c.columns.invariant.count, ap length here, c.in_ok-push.ensures.len);
      whole = mapped_more (λ (f : PolyValue). meaning r f.terms) c.columns.out.items h _ _ _ c.push.new.self.items pushed
          (c.in_ok-entry.ensures.value ∙ ap (λ x. component (polynomials r.prime r.vars) (column_meaning r x) c.args.i) c.entries.ensures)
          (ap (λ a. column_meaning r c.columns.out.items ++ row_of r.prime r.vars c.args.i (columns_meaning r a)) (sym here) ∙ c.columns.invariant.whole);
    }
