use Rattle.std.proofs.Common.{◌∷◌, ◌++◌, [], length, sym, ap, ◌∙◌, subst, arith, List}
use Rattle.fm_poly.specs.Polys.{PolyValue}
use Rattle.fm_mat.specs.Matrices.{AreColumns, column_meaning, columns_meaning}
use Rattle.fm_conditions.specs.Listings.{nonzeros}
use Rattle.fm_conditions.proofs.NonzeroEntries.{column_taken}
use Rattle.fm_conditions.proofs.listing.nonzero_firsts.Goals as goal

pub columns-preserved : goal.columns-preserved
columns-preserved c =
    let r = c.args.ring in
    let column = c.in-Some.c.now in
    let here = c.in-Some.ensures.cases.0 in
    let shape : AreColumns r c.args.rows (column ∷ c.in-Some.later.now) = subst (AreColumns r c.args.rows) here c.columns.invariant.columns in
    let e = c.in_ok-push_nonzero.ensures in
    record {
      columns = shape.2;
      over = e.over;
      few = (let k = c.columns.invariant.few in let h = ap (λ (cs : List (List PolyValue)). length cs) here in let l = e.few in omega (arith, k, h, l));
      whole = column_taken r column c.in-Some.later.now c.columns.out.items c.push_nonzero.new.out.items _ (e.value ∙ ap (λ fs. column_meaning r c.columns.out.items ++ nonzeros r (column_meaning r fs ∷ [])) c.entries.ensures)
          (ap (λ cs. column_meaning r c.columns.out.items ++ nonzeros r (columns_meaning r cs)) (sym here) ∙ c.columns.invariant.whole);
    }
