-- S-vectors by components.
use Rattle.std.proofs.Common.{ℕ, ◌≡◌, List, ◌∷◌, length, sym, ◌∙◌}
use Rattle.fm_gfp.proofs.Residues.{prime_above_one}
use Rattle.fm_poly.specs.declared.ring.Ring.{Ring}
use Rattle.fm_term.specs.declared.vterm.VTerm.{VTerm}
use Rattle.fm_term.specs.Multiples.{multiple}
use Rattle.fm_vec.specs.Multiples.{cofactor, s_vector_of}
use Rattle.fm_vec.specs.Vectors.{IsVector}
use Rattle.fm_vec.proofs.Meaning.{plus, times, term, part, negated_part, multiple_part}
use Rattle.fm_vec.proofs.Proper.{length_cofactor}

pub s_vector_part : (r : Ring) (n k : ℕ) (t u : VTerm) (ts us : List VTerm) → IsVector r n (t ∷ ts) → IsVector r n (u ∷ us)
    → plus r (times r (term r 1 (cofactor u t)) (part r k (u ∷ us))) (part r k (s_vector_of r (t ∷ ts) (u ∷ us)))
    ≡ times r (term r 1 (cofactor t u)) (part r k (t ∷ ts))
s_vector_part r n k t u ts us f g =
    let same : length t.mono ≡ length u.mono = f.proper.0.fits ∙ sym g.proper.0.fits in
    negated_part r k 1 (cofactor u t) (u ∷ us) (multiple r.prime 1 (cofactor t u) (t ∷ ts)) (prime_above_one r.prime)
    (length_cofactor u.mono t.mono (sym same) ∙ g.proper.0.fits) g.proper
    ∙ multiple_part r k 1 (cofactor t u) (t ∷ ts) (length_cofactor t.mono u.mono same ∙ f.proper.0.fits) f.proper
