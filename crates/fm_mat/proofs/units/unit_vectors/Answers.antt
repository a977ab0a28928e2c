use Rattle.std.proofs.Common.{◌++◌, ◌∷◌, [], length, ap, subst, sym, ◌∙◌, arith}
use Rattle.fm_groebner.specs.Graphs.{unit_vector}
use Rattle.fm_mat.specs.Matrices.{AreColumns, column_meaning, columns_meaning}
use Rattle.fm_mat.proofs.Operations.{listed_push, listed_none}
use Rattle.fm_mat.proofs.Steps.{columns_more}
use Rattle.fm_mat.proofs.units.unit_vectors.Goals as goal

pub loop-j-init : goal.loop-j-init
loop-j-init c = record {
  out = subst (AreColumns c.args.ring c.args.n) (sym c.in_ok-out.ensures.items) tt;
  count = ap length c.in_ok-out.ensures.items;
  value = ap (columns_meaning c.args.ring) c.in_ok-out.ensures.items ∙ sym (listed_none _);
}

pub loop-j-preserved : goal.loop-j-preserved
loop-j-preserved c =
    let r = c.args.ring in
    let pushed = c.in_ok-push.ensures.items ∙ ap (λ h. c.loop-j.out.items ++ h ∷ []) c.new.ensures in
    record {
      out = subst (AreColumns r c.args.n) (sym pushed)
          (columns_more r c.args.n c.loop-j.out.items c.in_ok-unit_vector.field-0.items c.loop-j.invariant.out c.in_ok-unit_vector.ensures.over c.in_ok-unit_vector.ensures.count);
      count = omega (arith, c.in_ok-push.ensures.len, c.loop-j.invariant.count);
      value = listed_push (column_meaning r) (unit_vector r.prime r.vars c.args.n) c.loop-j.j c.loop-j.out.items c.in_ok-unit_vector.field-0.items c.push.new.self.items pushed
          c.in_ok-unit_vector.ensures.value c.loop-j.invariant.value;
    }
