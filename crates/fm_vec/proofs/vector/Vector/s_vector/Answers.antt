use Rattle.std.proofs.Common.{ap}
use Rattle.fm_vec.specs.Vectors.{VectorValue}
use Rattle.fm_vec.proofs.Proper.{s_vector_made}
use Rattle.fm_vec.proofs.vector.Vector.s_vector.Goals as goal

pub invariant_of-result : goal.invariant_of-result
invariant_of-result c =
    s_vector_made (ap (λ (v : VectorValue). v.ring) c.self.view_is) (ap (λ (v : VectorValue). v.rows) c.self.view_is) c.requires.ring c.requires.rows
    c.in_ok-terms.ensures.value c.terms.ensures.same c.terms-2.ensures.same c.requires.heads
    c.terms.ensures.proper c.terms-2.ensures.proper
