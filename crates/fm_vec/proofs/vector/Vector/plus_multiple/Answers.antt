use Rattle.std.proofs.Common.{ap}
use Rattle.fm_vec.specs.Vectors.{VectorValue}
use Rattle.fm_vec.proofs.Proper.{plus_made}
use Rattle.fm_vec.proofs.vector.Vector.plus_multiple.Goals as goal

pub invariant_of-result : goal.invariant_of-result
invariant_of-result c =
    plus_made c.args.d c.args.m (ap (λ (v : VectorValue). v.ring) c.self.view_is) (ap (λ (v : VectorValue). v.rows) c.self.view_is) c.requires.ring c.requires.rows
    c.in_ok-terms.ensures.value c.terms.ensures.same c.terms-2.ensures.same c.requires.some c.requires.below c.requires.vars
    c.terms.ensures.proper c.terms-2.ensures.proper
