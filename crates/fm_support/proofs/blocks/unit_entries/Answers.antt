use Rattle.std.proofs.Common.{◌/◌, ◌%◌, cond, eqb, length, ap, subst, sym, ◌∙◌, arith}
use Rattle.fm_algebra.specs.Polynomials.{polynomial_one, polynomial_zero}
use Rattle.fm_poly.specs.Polys.{PolyValue, meaning}
use Rattle.fm_vec.specs.Components.{AreOver}
use Rattle.fm_mat.specs.Matrices.{column_meaning}
use Rattle.fm_mat.proofs.Operations.{listed_push, listed_none}
use Rattle.fm_mat.proofs.Steps.{over_more}
use Rattle.fm_support.proofs.Tables.{placed_at}
use Rattle.fm_support.proofs.blocks.unit_entries.Goals as goal

pub loop-i-init : goal.loop-i-init
loop-i-init c = record {
  over = subst (AreOver c.args.ring) (sym c.in_ok-out.ensures.items) tt;
  count = ap length c.in_ok-out.ensures.items;
  value = ap (column_meaning c.args.ring) c.in_ok-out.ensures.items ∙ sym (listed_none _);
}

pub loop-i-preserved : goal.loop-i-preserved
loop-i-preserved c =
    let r = c.args.ring in
    let g = c.args.g in
    let pushed = c.in_ok-push.ensures.items in
    let h = c.in_ok-entry_where.field-0 in
    let one = c.in_ok-one.one in
    record {
      over = subst (AreOver r) (sym pushed) (over_more r c.loop-i.out.items h c.loop-i.invariant.over (c.in_ok-entry_where.ensures.over ∙ c.in_ok-one.ensures.over));
      count = omega (arith, c.in_ok-push.ensures.len, c.loop-i.invariant.count);
      value = listed_push (λ (f : PolyValue). meaning r f.terms) (λ i. cond (eqb (i / g) (i % g)) (polynomial_one r.prime r.vars) (polynomial_zero r.prime r.vars)) c.loop-i.i c.loop-i.out.items h c.push.new.self.items pushed
          (placed_at one.ring r c.in_ok-one.ensures.over one.terms h.terms (c.loop-i.i / g) (c.loop-i.i % g) c.in_ok-entry_where.ensures.value
          ∙ ap (λ f. cond (eqb (c.loop-i.i / g) (c.loop-i.i % g)) f (polynomial_zero r.prime r.vars)) c.in_ok-one.ensures.value) c.loop-i.invariant.value;
    }
