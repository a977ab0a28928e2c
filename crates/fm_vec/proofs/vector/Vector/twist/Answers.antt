use Rattle.std.proofs.Common.{◌^◌, refl, sym, ap, ◌∙◌}
use Rattle.fm_gfp.specs.Primes.{prime_value}
use Rattle.fm_algebra.proofs.Concrete.{q_positive}
use Rattle.fm_term.specs.Multiples.{twisted}
use Rattle.fm_vec.proofs.Proper.{moved_vector, twisted_vector}
use Rattle.fm_vec.proofs.vector.Vector.twist.Goals as goal

pub invariant_of-result : goal.invariant_of-result
invariant_of-result c =
    let f = c.self.inside in
    moved_vector refl refl (ap (twisted (prime_value f.ring.prime ^ c.args.e)) (sym c.deref.ensures.value) ∙ sym c.in_ok-terms.ensures.value)
    (twisted_vector f.ring f.rows (prime_value f.ring.prime ^ c.args.e) f.terms.items (q_positive f.ring.prime f.ring.vars c.args.e) c.self.invariant)
