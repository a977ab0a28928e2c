use Rattle.std.proofs.Common.{◌++◌, ◌∷◌, [], length, ap, subst, sym, ◌∙◌, arith}
use Rattle.fm_mat.specs.Columns.{row_of}
use Rattle.fm_mat.specs.Matrices.{AreColumns, column_meaning, columns_meaning}
use Rattle.fm_mat.proofs.Operations.{listed_push, listed_none}
use Rattle.fm_mat.proofs.Steps.{columns_more}
use Rattle.fm_mat.proofs.flipping.flipped.Goals as goal

pub loop-i-init : goal.loop-i-init
loop-i-init c = record {
  out = subst (AreColumns c.args.ring (length c.args.columns.now)) (sym c.in_ok-out.ensures.items) tt;
  count = ap length c.in_ok-out.ensures.items;
  value = ap (columns_meaning c.args.ring) c.in_ok-out.ensures.items ∙ sym (listed_none _);
}

pub loop-i-preserved : goal.loop-i-preserved
loop-i-preserved c =
    let r = c.args.ring in
    let pushed = c.in_ok-push.ensures.items ∙ ap (λ h. c.loop-i.out.items ++ h ∷ []) c.new.ensures in
    record {
      out = subst (AreColumns r (length c.args.columns.now)) (sym pushed)
          (columns_more r (length c.args.columns.now) c.loop-i.out.items c.in_ok-row.field-0.items c.loop-i.invariant.out c.in_ok-row.ensures.over c.in_ok-row.ensures.count);
      count = omega (arith, c.in_ok-push.ensures.len, c.loop-i.invariant.count);
      value = listed_push (column_meaning r) (λ i. row_of r.prime r.vars i (columns_meaning r c.args.columns.now)) c.loop-i.i c.loop-i.out.items c.in_ok-row.field-0.items c.push.new.self.items pushed
          c.in_ok-row.ensures.value c.loop-i.invariant.value;
    }
