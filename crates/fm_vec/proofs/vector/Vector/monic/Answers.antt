use Rattle.std.proofs.Common.{refl, sym, ap, ◌∙◌}
use Rattle.fm_term.specs.Multiples.{scaled}
use Rattle.fm_vec.specs.Multiples.{monic_of}
use Rattle.fm_term.specs.Falling.{head_of}
use Rattle.fm_vec.specs.Vectors.{VectorValue}
use Rattle.fm_vec.proofs.Proper.{moved_vector, scaled_vector, monic_from}
use Rattle.fm_gfp.proofs.Residues.{inverse_positive}
use Rattle.fm_vec.proofs.vector.Vector.monic.Goals as goal

pub invariant_of-result : goal.invariant_of-result
invariant_of-result c =
    let f = c.self.inside in
    moved_vector refl refl (ap (scaled f.ring.prime c.inverse-inverse.result) (sym c.deref.ensures.value) ∙ sym c.in_ok-terms.ensures)
    (scaled_vector f.ring f.rows c.inverse-inverse.result f.terms.items (inverse_positive f.ring.prime c.in-Some.head.coeff c.inverse-inverse.result c.inverse-inverse.ensures.one) c.inverse-inverse.ensures.below c.self.invariant)

pub returns : goal.returns
returns c =
    let f = c.self.inside in
    ap (λ ts. record { ring = f.ring; rows = f.rows; terms = ts })
    (c.in_ok-terms.ensures ∙ ap (scaled f.ring.prime c.inverse-inverse.result) c.deref.ensures.value
    ∙ monic_from f.ring f.terms.items c.in-Some.head c.inverse-inverse.result (c.in-Some.ensures.head ∙ ap (λ (v : VectorValue). head_of v.terms) (sym c.self.view_is)) c.self.invariant.proper c.inverse-inverse.ensures.one c.inverse-inverse.ensures.below)
    ∙ ap (λ (v : VectorValue). record { ring = v.ring; rows = v.rows; terms = monic_of v.ring v.terms }) c.self.view_is
