use Rattle.std.proofs.Common.{◌/◌, ◌%◌, ◌<◌, cond, eqb, length, ap, subst, sym, ◌∙◌, arith}
use Rattle.fm_algebra.specs.Matrix.{component}
use Rattle.fm_algebra.specs.Polynomials.{polynomials, polynomial_zero}
use Rattle.fm_poly.specs.Polys.{PolyValue, meaning}
use Rattle.fm_vec.specs.Components.{AreOver}
use Rattle.fm_mat.specs.Matrices.{column_meaning}
use Rattle.fm_mat.proofs.Meanings.{entry_meaning, entry_over}
use Rattle.fm_mat.proofs.Operations.{listed_push, listed_none}
use Rattle.fm_mat.proofs.Steps.{over_more}
use Rattle.fm_support.proofs.Tables.{placed_at, below}
use Rattle.fm_support.proofs.blocks.block_column.Goals as goal

pub loop-i-init : goal.loop-i-init
loop-i-init c = record {
  over = subst (AreOver c.args.ring) (sym c.in_ok-out.ensures.items) tt;
  count = ap length c.in_ok-out.ensures.items;
  value = ap (column_meaning c.args.ring) c.in_ok-out.ensures.items ∙ sym (listed_none _);
}

pub loop-i-preserved : goal.loop-i-preserved
loop-i-preserved c =
    let r = c.args.ring in
    let g = c.args.g in
    let i = c.loop-i.i in
    let entries = c.args.entries.now in
    let pushed = c.in_ok-push.ensures.items in
    let h = c.in_ok-entry_where.field-0 in
    let less : i % g < length entries = below g i (length entries) c.requires.long c.loop-i-test.true in
    let f = c.index-entries-i.result in
    let over = ap (λ (f : PolyValue). f.ring) c.index-entries-i.is ∙ entry_over r entries (i % g) _ c.requires.over less in
    record {
      over = subst (AreOver r) (sym pushed) (over_more r c.loop-i.out.items h c.loop-i.invariant.over (c.in_ok-entry_where.ensures.over ∙ over));
      count = omega (arith, c.in_ok-push.ensures.len, c.loop-i.invariant.count);
      value = listed_push (λ (f : PolyValue). meaning r f.terms) (λ i. cond (eqb (i / g) c.args.block) (component (polynomials r.prime r.vars) (column_meaning r entries) (i % g)) (polynomial_zero r.prime r.vars)) i c.loop-i.out.items h c.push.new.self.items pushed
          (placed_at f.ring r over f.terms h.terms (i / g) c.args.block c.in_ok-entry_where.ensures.value
          ∙ ap (λ f. cond (eqb (i / g) c.args.block) f (polynomial_zero r.prime r.vars)) (ap (λ (f : PolyValue). meaning r f.terms) c.index-entries-i.is ∙ entry_meaning r entries (i % g) _ less)) c.loop-i.invariant.value;
    }
