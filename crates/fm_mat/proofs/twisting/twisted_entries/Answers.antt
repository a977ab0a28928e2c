use Rattle.std.proofs.Common.{◌∷◌, ◌++◌, length, map, ap, sym, ◌∙◌, subst, arith}
use Rattle.std.specs.List.{list_all}
use Rattle.fm_algebra.specs.Polynomials.{frobenius_twist}
use Rattle.fm_poly.specs.Polys.{PolyValue, meaning}
use Rattle.fm_vec.specs.Components.{AreOver}
use Rattle.fm_mat.specs.Bounds.{twist_fits}
use Rattle.fm_mat.specs.Matrices.{column_meaning}
use Rattle.fm_mat.proofs.Steps.{mapped_more, test_more, over_more}
use Rattle.fm_mat.proofs.twisting.twisted_entries.Goals as goal

pub entries-preserved : goal.entries-preserved
entries-preserved c =
    let r = c.args.ring in
    let e = c.args.e in
    let f = c.in-Some.f.now in
    let here = c.in-Some.ensures.cases.0 in
    let over : AreOver r (f ∷ c.in-Some.later.now) = subst (AreOver r) here c.entries.invariant.over in
    let pushed = c.in_ok-push.ensures.items in
    let h = c.in_ok-twisted_entry.field-0 in
    record {
      over = over.1;
      out_over = subst (AreOver r) (sym pushed) (over_more r c.entries.out.items h c.entries.invariant.out_over c.in_ok-twisted_entry.ensures.over);
      count = omega (arith, c.entries.invariant.count, ap length here, c.in_ok-push.ensures.len);
      whole = mapped_more (λ (h : PolyValue). meaning r h.terms) c.entries.out.items h _ _ _ c.push.new.self.items pushed c.in_ok-twisted_entry.ensures.value
          (ap (λ a. column_meaning r c.entries.out.items ++ map (frobenius_twist r.prime r.vars e) (column_meaning r a)) (sym here) ∙ c.entries.invariant.whole);
      fit = test_more (twist_fits r.prime r.vars e) (meaning r f.terms) (column_meaning r c.in-Some.later.now) _ c.in_ok-twisted_entry.ensures.fits
          (ap (λ b. list_all (twist_fits r.prime r.vars e) (column_meaning r b)) (sym here) ∙ c.entries.invariant.fit);
    }
