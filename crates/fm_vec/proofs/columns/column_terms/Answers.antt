use Rattle.std.proofs.Common.{◌∷◌, length, ap, subst, arith}
use Rattle.fm_vec.specs.Components.{AreOver}
use Rattle.fm_vec.proofs.PlacedTerms.{column_vector, column_whole}
use Rattle.fm_vec.proofs.columns.column_terms.Goals as goal

pub column-preserved : goal.column-preserved
column-preserved c =
    let here = c.in-Some.ensures.cases.0 in
    let over : AreOver c.args.ring (c.in-Some.f.now ∷ c.in-Some.later.now) = subst (AreOver c.args.ring) here c.column.invariant.over in
    record {
      over = over.1;
      count = omega (arith, c.column.invariant.count, ap length here);
      whole = column_whole c.args.ring c.column.component c.column.out.items c.push_placed.new.out.items _ c.terms.result.now c.in-Some.f.now c.in-Some.later.now c.column.column.now
          c.in_ok-push_placed.ensures c.terms.ensures.same here c.column.invariant.whole;
      vector = column_vector c.args.ring c.column.component c.column.out.items c.push_placed.new.out.items c.terms.result.now c.in-Some.f.now
          c.in_ok-push_placed.ensures c.terms.ensures.same over.0 c.terms.ensures.canonical c.column.invariant.vector;
    }
