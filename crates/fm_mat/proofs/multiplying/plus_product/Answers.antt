use Rattle.std.proofs.Common.{◌∷◌, ◌++◌, length, ap, sym, ◌∙◌, subst, arith}
use Rattle.fm_poly.specs.Polys.{PolyValue, meaning}
use Rattle.fm_vec.specs.Components.{AreOver}
use Rattle.fm_mat.specs.Bounds.{product_fits}
use Rattle.fm_mat.specs.Matrices.{column_meaning}
use Rattle.fm_mat.specs.Acting.{with_product, entries_fit_with}
use Rattle.fm_mat.proofs.Steps.{mapped_more, test_more, over_more}
use Rattle.fm_mat.proofs.multiplying.plus_product.Goals as goal

pub entries-preserved : goal.entries-preserved
entries-preserved c =
    let r = c.args.ring in
    let x = c.in-Some.x.now in
    let f = c.in-Some-split_first.f.now in
    let g = c.args.g.now in
    let s_here = c.in-Some.ensures.cases.0 in
    let c_here = c.in-Some-split_first.ensures.cases.0 in
    let s_over : AreOver r (x ∷ c.in-Some.sums.now) = subst (AreOver r) s_here c.entries.invariant.s_over in
    let c_over : AreOver r (f ∷ c.in-Some-split_first.entries.now) = subst (AreOver r) c_here c.entries.invariant.c_over in
    let pushed = c.in_ok-push.ensures.items in
    record {
      s_over = s_over.1;
      c_over = c_over.1;
      out_over = subst (AreOver r) (sym pushed) (over_more r c.entries.out.items c.in_ok-plus_entry.field-0 c.entries.invariant.out_over c.in_ok-plus_entry.ensures.over);
      rows = omega (arith, c.entries.invariant.rows, ap length s_here, ap length c_here);
      count = omega (arith, c.entries.invariant.count, ap length s_here, c.in_ok-push.ensures.len);
      whole = mapped_more (λ (h : PolyValue). meaning r h.terms) c.entries.out.items c.in_ok-plus_entry.field-0 _ _ _ c.push.new.self.items pushed c.in_ok-plus_entry.ensures.value
          (ap (λ a. column_meaning r c.entries.out.items ++ with_product r.prime r.vars (column_meaning r a) (column_meaning r (f ∷ c.in-Some-split_first.entries.now)) (meaning r g.terms)) (sym s_here)
          ∙ ap (λ b. column_meaning r c.entries.out.items ++ with_product r.prime r.vars (column_meaning r c.entries.s.now) (column_meaning r b) (meaning r g.terms)) (sym c_here)
          ∙ c.entries.invariant.whole);
      fit = test_more (λ h. product_fits r.prime r.vars h (meaning r g.terms)) (meaning r f.terms) (column_meaning r c.in-Some-split_first.entries.now) _ c.in_ok-plus_entry.ensures.fits
          (ap (λ b. entries_fit_with r.prime r.vars (column_meaning r b) (meaning r g.terms)) (sym c_here) ∙ c.entries.invariant.fit);
    }
