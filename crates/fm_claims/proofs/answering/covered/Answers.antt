use Rattle.std.proofs.Common.{refl}
use Rattle.fm_pres.specs.Tables.{parts_in}
use Rattle.fm_claims.proofs.answering.covered.Goals as goal

pub returns : goal.returns
returns c = λ r ls na nk.
    let ps = parts_in c.args.table.now in
    let n = rw c.in-Some.is at nk in
    record {
      same = rw (c.in-Some.is, c.in-Some-part.ensures.part, c.in_ok-image.ensures.part r ps) refl;
      testable = (na, c.in_ok-image.ensures.there r ps n c.in-Some-part.ensures.there);
      formable = (tt, c.in_ok-image.ensures.formable r ps tt tt);
    }
