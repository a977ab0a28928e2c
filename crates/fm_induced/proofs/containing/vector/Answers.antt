use Rattle.std.proofs.Common.{sym, ap, ◌∙◌, subst}
use Rattle.fm_graphs.specs.Listing.{terms_of}
use Rattle.fm_mat.specs.Matrices.{column_meaning}
use Rattle.fm_vec.specs.Components.{AreOver}
use Rattle.fm_syz.proofs.ColumnTerms.{vector_terms}
use Rattle.fm_induced.proofs.containing.vector.Goals as goal

pub returns-clause-terms : goal.returns-clause-terms
returns-clause-terms c =
    let r = c.args.ring in
    let read = c.from_ref.ensures.value in
    vector_terms r c.in_ok-v.v c.from_ref.result.now c.in_ok-v.ensures (subst (AreOver r) (sym read) (c.requires, tt)) c.head-head.ensures.proper
    ∙ ap (λ fs. terms_of r (column_meaning r fs)) read
