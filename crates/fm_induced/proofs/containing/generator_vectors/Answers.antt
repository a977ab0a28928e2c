use Rattle.std.proofs.Common.{◌∷◌, ◌++◌, [], length, map, sym, ap, ◌∙◌, subst, arith}
use Rattle.fm_complete.specs.Divisions as divisions
use Rattle.fm_complete.specs.Standing.{AreOfShape}
use Rattle.fm_graphs.specs.Listing.{terms_of}
use Rattle.fm_mat.specs.Matrices.{column_meaning}
use Rattle.fm_poly.specs.Polys.{meaning}
use Rattle.fm_vec.specs.Components.{AreOver}
use Rattle.fm_vec.specs.Vectors.{VectorValue}
use Rattle.fm_syz.proofs.ColumnTerms.{terms_more, shape_more}
use Rattle.fm_induced.proofs.containing.generator_vectors.Goals as goal

pub generators-preserved : goal.generators-preserved
generators-preserved c =
    let r = c.args.ring in
    let h = c.generators.invariant in
    let here = c.in-Some.ensures.cases.0 in
    let v : VectorValue = c.in_ok-vector.field-0 in
    let out = c.generators.out.items in
    let f = c.in-Some.f.now in
    let over : AreOver r (f ∷ c.in-Some.later.now) = subst (AreOver r) here h.over in
    let pushed = c.in_ok-push.ensures.len in
    let count = h.count in
    let long = ap length here in
    record {
      over = over.1;
      shape = subst (AreOfShape r 1) (sym c.in_ok-push.ensures.items) (shape_more r 1 out v h.shape c.in_ok-vector.ensures.ring c.in_ok-vector.ensures.rows);
      count = omega (arith, pushed, count, long);
      whole = terms_more out c.push.new.self.items v (terms_of r (meaning r f.terms ∷ [])) _ _ c.in_ok-push.ensures.items c.in_ok-vector.ensures.terms
          (ap (λ fs. divisions.terms_of out ++ map (λ f. terms_of r (f ∷ [])) (column_meaning r fs)) (sym here) ∙ h.whole);
    }
