use Rattle.std.proofs.Common.{◌∷◌, ◌++◌, [], length, map, ap, sym, ◌∙◌, subst}
use Rattle.std.specs.List.{list_all}
use Rattle.fm_algebra.specs.PolynomialMatrices.{vector_product}
use Rattle.fm_mat.specs.Bounds.{products_fit}
use Rattle.fm_mat.specs.Matrices.{AreColumns, column_meaning, columns_meaning}
use Rattle.fm_mat.proofs.Steps.{mapped_more, test_more, columns_more}
use Rattle.fm_mat.proofs.multiplying.products.Goals as goal

pub columns-preserved : goal.columns-preserved
columns-preserved c =
    let r = c.args.ring in
    let here = c.in-Some.ensures.cases.0 in
    let a = columns_meaning r c.args.a.now in
    let shape : AreColumns r (length c.args.a.now) (c.in-Some.w.now ∷ c.in-Some.later.now) = subst (AreColumns r (length c.args.a.now)) here c.columns.invariant.columns in
    let pushed = c.in_ok-push.ensures.items ∙ ap (λ h. c.columns.out.items ++ h ∷ []) c.new.ensures in
    record {
      columns = shape.2;
      out = subst (AreColumns r c.args.rows) (sym pushed) (columns_more r c.args.rows c.columns.out.items c.in_ok-entries.entries.items c.columns.invariant.out c.in_ok-entries.ensures.over c.in_ok-entries.ensures.rows);
      whole = mapped_more (column_meaning r) c.columns.out.items c.in_ok-entries.entries.items _ _ _ c.push.new.self.items pushed
          (c.in_ok-entries.ensures.value ∙ ap (λ w. vector_product r.prime r.vars (record { rows = c.args.rows; columns = a }) (column_meaning r w)) c.entries.ensures)
          (ap (λ b. columns_meaning r c.columns.out.items ++ map (vector_product r.prime r.vars (record { rows = c.args.rows; columns = a })) (columns_meaning r b)) (sym here) ∙ c.columns.invariant.whole);
      fit = test_more (products_fit r.prime r.vars a) (column_meaning r c.in-Some.w.now) (columns_meaning r c.in-Some.later.now) _
          (ap (λ w. products_fit r.prime r.vars a (column_meaning r w)) (sym c.entries.ensures) ∙ c.in_ok-entries.ensures.fits)
          (ap (λ b. list_all (products_fit r.prime r.vars a) (columns_meaning r b)) (sym here) ∙ c.columns.invariant.fit);
    }
