use Rattle.std.proofs.Common.{◌++◌, ◌∷◌, [], cond, eqb, length, ap, subst, sym, ◌∙◌, arith}
use Rattle.fm_algebra.specs.Matrix.{listed}
use Rattle.fm_algebra.specs.Polynomials.{polynomial_zero}
use Rattle.fm_poly.specs.Polys.{meaning}
use Rattle.fm_mat.specs.Matrices.{AreColumns, column_meaning, columns_meaning}
use Rattle.fm_mat.proofs.Operations.{listed_push, listed_none}
use Rattle.fm_mat.proofs.Steps.{columns_more}
use Rattle.fm_support.proofs.scalars.scalar_columns.Goals as goal

pub loop-j-init : goal.loop-j-init
loop-j-init c = record {
  out = subst (AreColumns c.args.f.now.ring c.args.n) (sym c.in_ok-out.ensures.items) tt;
  count = ap length c.in_ok-out.ensures.items;
  value = ap (columns_meaning c.args.f.now.ring) c.in_ok-out.ensures.items ∙ sym (listed_none _);
}

pub loop-j-preserved : goal.loop-j-preserved
loop-j-preserved c =
    let r = c.args.f.now.ring in
    let h = c.in_ok-scalar_column.field-0.items in
    let pushed = c.in_ok-push.ensures.items ∙ ap (λ h. c.loop-j.out.items ++ h ∷ []) c.new.ensures in
    record {
      out = subst (AreColumns r c.args.n) (sym pushed) (columns_more r c.args.n c.loop-j.out.items h c.loop-j.invariant.out c.in_ok-scalar_column.ensures.over c.in_ok-scalar_column.ensures.count);
      count = omega (arith, c.in_ok-push.ensures.len, c.loop-j.invariant.count);
      value = listed_push (column_meaning r) (λ j. listed c.args.n (λ i. cond (eqb i j) (meaning r c.args.f.now.terms) (polynomial_zero r.prime r.vars))) c.loop-j.j c.loop-j.out.items h c.push.new.self.items pushed
          c.in_ok-scalar_column.ensures.value c.loop-j.invariant.value;
    }
