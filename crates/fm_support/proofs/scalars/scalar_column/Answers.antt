use Rattle.std.proofs.Common.{cond, eqb, length, ap, subst, sym, ◌∙◌, arith}
use Rattle.fm_algebra.specs.Polynomials.{polynomial_zero}
use Rattle.fm_poly.specs.Polys.{PolyValue, meaning}
use Rattle.fm_vec.specs.Components.{AreOver}
use Rattle.fm_mat.specs.Matrices.{column_meaning}
use Rattle.fm_mat.proofs.Operations.{listed_push, listed_none}
use Rattle.fm_mat.proofs.Steps.{over_more}
use Rattle.fm_support.proofs.scalars.scalar_column.Goals as goal

pub loop-i-init : goal.loop-i-init
loop-i-init c = record {
  over = subst (AreOver c.args.f.now.ring) (sym c.in_ok-out.ensures.items) tt;
  count = ap length c.in_ok-out.ensures.items;
  value = ap (column_meaning c.args.f.now.ring) c.in_ok-out.ensures.items ∙ sym (listed_none _);
}

pub loop-i-preserved : goal.loop-i-preserved
loop-i-preserved c =
    let r = c.args.f.now.ring in
    let pushed = c.in_ok-push.ensures.items in
    let h = c.in_ok-entry_where.field-0 in
    record {
      over = subst (AreOver r) (sym pushed) (over_more r c.loop-i.out.items h c.loop-i.invariant.over c.in_ok-entry_where.ensures.over);
      count = omega (arith, c.in_ok-push.ensures.len, c.loop-i.invariant.count);
      value = listed_push (λ (f : PolyValue). meaning r f.terms) (λ i. cond (eqb i c.args.j) (meaning r c.args.f.now.terms) (polynomial_zero r.prime r.vars)) c.loop-i.i c.loop-i.out.items h c.push.new.self.items pushed
          c.in_ok-entry_where.ensures.value c.loop-i.invariant.value;
    }
