use Rattle.std.proofs.Common.{subst}
use Rattle.std.proofs.lemmas.Result.{on_ok_weaker}
use Rattle.fm_poly.specs.declared.ring.Ring.{Ring}
use Rattle.fm_vec.specs.Vectors.{IsVector}
use Rattle.fm_complete.proofs.Indexed.{index_more}
use Rattle.fm_complete.proofs.head_index.HeadIndex.add.Goals as goal

pub returns-clause-index : goal.returns-clause-index
returns-clause-index c =
    let v = c.args.v.now in
    on_ok_weaker c.push.result (λ pushed members w number.
    index_more c.args.ring v.rows members v.terms c.in-Some.head c.args.self.now c.push.new.self c.in-Some.ensures.head
    (subst (λ (r : Ring). IsVector r v.rows v.terms) c.requires.ring c.head.ensures.proper) (λ ts e. pushed v.rows members ts e number) w)
    c.push.ensures.heads
