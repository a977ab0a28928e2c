use Rattle.std.proofs.Common.{◌∷◌, ◌++◌, [], length, map, ap, sym, ◌∙◌, subst}
use Rattle.std.specs.List.{list_all}
use Rattle.fm_algebra.specs.Polynomials.{frobenius_twist}
use Rattle.fm_mat.specs.Bounds.{twist_fits}
use Rattle.fm_mat.specs.Matrices.{AreColumns, column_meaning, columns_meaning}
use Rattle.fm_mat.proofs.Steps.{mapped_more, test_more, columns_more}
use Rattle.fm_mat.proofs.twisting.twisted.Goals as goal

pub columns-preserved : goal.columns-preserved
columns-preserved c =
    let r = c.args.ring in
    let e = c.args.e in
    let here = c.in-Some.ensures.cases.0 in
    let shape : AreColumns r c.args.rows (c.in-Some.c.now ∷ c.in-Some.later.now) = subst (AreColumns r c.args.rows) here c.columns.invariant.shape in
    let pushed = c.in_ok-push.ensures.items ∙ ap (λ h. c.columns.out.items ++ h ∷ []) c.new.ensures in
    let w = c.in_ok-entries.entries.items in
    record {
      shape = shape.2;
      out = subst (AreColumns r c.args.rows) (sym pushed) (columns_more r c.args.rows c.columns.out.items w c.columns.invariant.out c.in_ok-entries.ensures.over (c.in_ok-entries.ensures.rows ∙ ap length c.entries.ensures ∙ shape.1));
      whole = mapped_more (column_meaning r) c.columns.out.items w _ _ _ c.push.new.self.items pushed
          (c.in_ok-entries.ensures.value ∙ ap (λ x. map (frobenius_twist r.prime r.vars e) (column_meaning r x)) c.entries.ensures)
          (ap (λ a. columns_meaning r c.columns.out.items ++ map (map (frobenius_twist r.prime r.vars e)) (columns_meaning r a)) (sym here) ∙ c.columns.invariant.whole);
      fit = test_more (λ x. list_all (twist_fits r.prime r.vars e) x) (column_meaning r c.in-Some.c.now) (columns_meaning r c.in-Some.later.now) _
          (ap (λ x. list_all (twist_fits r.prime r.vars e) (column_meaning r x)) (sym c.entries.ensures) ∙ c.in_ok-entries.ensures.fits)
          (ap (λ a. list_all (λ x. list_all (twist_fits r.prime r.vars e) x) (columns_meaning r a)) (sym here) ∙ c.columns.invariant.fit);
    }
