use Rattle.std.proofs.Common.{◌++◌, ◌∷◌, [], ◌*◌, ◌/◌, ◌%◌, cond, eqb, length, ap, subst, sym, ◌∙◌, arith}
use Rattle.fm_algebra.specs.Matrix.{entry, listed}
use Rattle.fm_algebra.specs.Polynomials.{polynomials, polynomial_zero}
use Rattle.fm_mat.specs.Matrices.{AreColumns, column_meaning, columns_meaning}
use Rattle.fm_mat.proofs.Operations.{listed_push, listed_none}
use Rattle.fm_mat.proofs.Steps.{columns_more}
use Rattle.fm_support.proofs.Tables.{below_width, column_at, block_entries}
use Rattle.fm_support.proofs.blocks.block_columns.Goals as goal

pub loop-j-init : goal.loop-j-init
loop-j-init c = record {
  out = subst (AreColumns c.args.ring (c.args.g * c.args.g)) (sym c.in_ok-out.ensures.items) tt;
  count = ap length c.in_ok-out.ensures.items;
  value = ap (columns_meaning c.args.ring) c.in_ok-out.ensures.items ∙ sym (listed_none _);
}

pub block_column-requires-clause-over : goal.block_column-requires-clause-over
block_column-requires-clause-over c =
    (column_at c.args.ring c.args.g c.args.columns.now (c.loop-j.j % c.args.width) _ c.entries-entries.result.now c.requires.shape (below_width c.args.g c.args.width c.loop-j.j (length c.args.columns.now) c.requires.width c.loop-j-test.true) (c.entries-entries.ensures ∙ c.index-columns-j.is)).0

pub block_column-requires-clause-long : goal.block_column-requires-clause-long
block_column-requires-clause-long c =
    (column_at c.args.ring c.args.g c.args.columns.now (c.loop-j.j % c.args.width) _ c.entries-entries.result.now c.requires.shape (below_width c.args.g c.args.width c.loop-j.j (length c.args.columns.now) c.requires.width c.loop-j-test.true) (c.entries-entries.ensures ∙ c.index-columns-j.is)).1

pub loop-j-preserved : goal.loop-j-preserved
loop-j-preserved c =
    let r = c.args.ring in
    let g = c.args.g in
    let wide = c.args.width in
    let cs = c.args.columns.now in
    let j = c.loop-j.j in
    let h = c.in_ok-block_column.field-0.items in
    let pushed = c.in_ok-push.ensures.items ∙ ap (λ h. c.loop-j.out.items ++ h ∷ []) c.new.ensures in
    let less = below_width g wide j (length cs) c.requires.width c.loop-j-test.true in
    record {
      out = subst (AreColumns r (g * g)) (sym pushed) (columns_more r (g * g) c.loop-j.out.items h c.loop-j.invariant.out c.in_ok-block_column.ensures.over c.in_ok-block_column.ensures.count);
      count = omega (arith, c.in_ok-push.ensures.len, c.loop-j.invariant.count);
      value = listed_push (column_meaning r) (λ j. listed (g * g) (λ i. cond (eqb (i / g) (j / wide)) (entry (polynomials r.prime r.vars) (record { rows = g; columns = columns_meaning r cs }) (i % g) (j % wide)) (polynomial_zero r.prime r.vars)))
          j c.loop-j.out.items h c.push.new.self.items pushed
          (c.in_ok-block_column.ensures.value ∙ block_entries r g cs (j % wide) (j / wide) _ c.entries-entries.result.now less (c.entries-entries.ensures ∙ c.index-columns-j.is)) c.loop-j.invariant.value;
    }
