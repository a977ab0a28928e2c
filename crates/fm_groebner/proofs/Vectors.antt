-- The components of the vector of a list of terms.
use Rattle.std.proofs.Common.{◌≡◌, ℕ, suc, ◌<◌, List, length}
use Rattle.fm_gfp.specs.declared.prime.Prime.{Prime}
use Rattle.fm_algebra.specs.Matrix.{component}
use Rattle.fm_algebra.specs.Polynomials.{polynomials, polynomial_of}
use Rattle.fm_algebra.proofs.Tables.{length-listed, get_or-listed}
use Rattle.fm_term.specs.declared.vterm.VTerm.{VTerm}
use Rattle.fm_term.specs.Meanings.{terms_in, vector_of}

module _ (p : Prime) (n m : ℕ) where
  pub length_vector : (ts : List VTerm) → length (vector_of p n m ts) ≡ m
  unfolding vector_of
  length_vector ts = length-listed m (λ i. polynomial_of p n (terms_in (suc i) ts))

  pub component_of_vector : (ts : List VTerm) (i : ℕ) → i < m → component (polynomials p n) (vector_of p n m ts) i ≡ polynomial_of p n (terms_in (suc i) ts)
  unfolding component vector_of
  component_of_vector ts i h = get_or-listed m i (polynomials p n).zero (λ i. polynomial_of p n (terms_in (suc i) ts)) h
