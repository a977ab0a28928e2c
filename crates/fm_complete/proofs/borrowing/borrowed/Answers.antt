use Rattle.std.proofs.Common.{◌∙◌, ◌++◌, sym, ap, arith, length, List}
use Rattle.fm_vec.specs.Vectors.{VectorValue}
use Rattle.fm_complete.specs.Standing.{values}
use Rattle.fm_complete.proofs.Standing.{values_then}
use Rattle.fm_complete.proofs.borrowing.borrowed.Goals as goal

pub vectors-preserved : goal.vectors-preserved
vectors-preserved c =
    let here = c.in-Some.ensures.cases.0 in
    record {
      values = ap (λ out. values out ++ c.in-Some.later.now) c.in_ok-push.ensures.items
          ∙ values_then c.vectors.out.items c.in-Some.v c.in-Some.later.now
          ∙ ap (λ left. values c.vectors.out.items ++ left) (sym here)
          ∙ c.vectors.invariant.values;
      count = (let n = c.vectors.invariant.count in let m = ap (λ (x : List VectorValue). length x) here in omega (arith, n, m, c.in_ok-push.ensures.len));
    }
