-- The polynomial 1, and powers by one product after another
use Rattle.std.proofs.Common.{◌≡◌, ◌<◌, ℕ, suc, ◌+◌, ◌%◌, List, [], ◌∷◌, ◌++◌, replicate, inl, inr, refl, ap, ap₂, sym, ◌∙◌, subst, mod-eq_of_lt, add-one, arith}
use Rattle.std.proofs.lemmas.List.{length-replicate}
use native.Mathlib.Decide.{ℕ_discrete}
use Rattle.fm_gfp.specs.Primes.{prime_value}
use Rattle.fm_gfp.specs.declared.prime.Prime.{Prime}
use Rattle.fm_gfp.proofs.Residues.{prime_above_one}
use Rattle.fm_algebra.specs.Power.{power}
use Rattle.fm_algebra.specs.Polynomials.{Polynomial, polynomials, coefficient, polynomial_one, polynomial_product, polynomial_power, polynomial_term}
use Rattle.fm_algebra.specs.Poly.{same_tuple, apart}
use Rattle.fm_algebra.proofs.Concrete.{polynomials_laws}
use Rattle.fm_algebra.proofs.PolynomialWords.{same_coefficients, coefficient_one, coefficient_one_elsewhere, coefficient_term, coefficient_term_elsewhere}
use Rattle.fm_poly.specs.declared.ring.Ring.{Ring}
use Rattle.fm_poly.specs.declared.term.Term.{Term}
use Rattle.fm_poly.specs.Polys.{meaning, IsCanonical}
use Rattle.fm_poly.specs.Bounds.{ProductFits, ProductPasses, PowerFits, PowerPasses}
use Rattle.fm_poly.proofs.MergeSteps.{meaning_one}

module _ (p : Prime) (n : ℕ) where
  -- the term 1 is the polynomial 1
  term_one : polynomial_term p n 1 (replicate n 0) ≡ polynomial_one p n
  term_one = same_coefficients p n _ _ (λ a l. elim (same_tuple a (replicate n 0)) [
    | inl s ↦ ap (coefficient p n (polynomial_term p n 1 (replicate n 0))) s.0 ∙ coefficient_term p n 1 (replicate n 0) (length-replicate n 0)
        ∙ mod-eq_of_lt (prime_above_one p) ∙ sym (coefficient_one p n) ∙ ap (coefficient p n (polynomial_one p n)) (sym s.0)
    | inr w ↦ coefficient_term_elsewhere p n 1 (replicate n 0) a (apart a (replicate n 0) w) ∙ sym (coefficient_one_elsewhere p n a (apart a (replicate n 0) w))
  ])

  pub power_none : (f : Polynomial p n) → polynomial_power p n 0 f ≡ polynomial_one p n
  unfolding polynomial_power power polynomial_one
  power_none f = refl

  pub power_next : (k : ℕ) (f : Polynomial p n) → polynomial_product p n (polynomial_power p n k f) f ≡ polynomial_power p n (suc k) f
  unfolding polynomial_power power polynomial_product
  power_next k f = (polynomials_laws p n).mul_comm (power (polynomials p n) k f) f

  fits_at : (k j : ℕ) (f : Polynomial p n) → j < suc k → PowerFits p n k f → ProductFits p n (polynomial_power p n k f) f → ProductFits p n (polynomial_power p n j f) f
  fits_at k j f below w h = elim (ℕ_discrete j k) [
    | yes e ↦ subst (λ i. ProductFits p n (polynomial_power p n i f) f) (sym e) h
    | no v ↦ w.within j (omega arith)
  ]

  pub power_fits_none : (f : Polynomial p n) → PowerFits p n 0 f
  power_fits_none f = record { within = λ j below. absurd (omega arith) }

  pub power_fits_next : (k : ℕ) (f : Polynomial p n) → PowerFits p n k f → ProductFits p n (polynomial_power p n k f) f → PowerFits p n (suc k) f
  power_fits_next k f w h = record { within = λ j below. fits_at k j f below w h }

  pub power_passes : (k m : ℕ) (f : Polynomial p n) → k < m → ProductPasses p n (polynomial_power p n k f) f → PowerPasses p n m f
  power_passes k m f below h = record { j = k; below = below; passes = h }

module _ (r : Ring) where
  pub meaning_of_one : (ts out : List Term) (a : List ℕ) (c : ℕ) → ts ≡ out ++ record { mono = a; coeff = c } ∷ [] → out ≡ [] → a ≡ replicate r.vars 0 → c ≡ 1 % prime_value r.prime
      → meaning r ts ≡ polynomial_one r.prime r.vars
  meaning_of_one ts out a c e eo ea ec =
      ap (meaning r) (e ∙ ap (λ us. us ++ record { mono = a; coeff = c } ∷ []) eo) ∙ meaning_one r (record { mono = a; coeff = c }) ∙ ap₂ (λ k b. polynomial_term r.prime r.vars k b) (ec ∙ mod-eq_of_lt (prime_above_one r.prime)) ea ∙ term_one r.prime r.vars

  -- the list is canonical and means f ^ k, and no product on the way to it passed the bound
  pub record Powers (f : List Term) (k : ℕ) (ts : List Term) : Type 0 where
    pub canonical : IsCanonical r ts
    pub power : meaning r ts ≡ polynomial_power r.prime r.vars k (meaning r f)
    pub fits : PowerFits r.prime r.vars k (meaning r f)

  pub powers_start : (f ts : List Term) → IsCanonical r ts → meaning r ts ≡ polynomial_one r.prime r.vars → Powers f 0 ts
  powers_start f ts c e = record {
    canonical = c;
    power = e ∙ sym (power_none r.prime r.vars (meaning r f));
    fits = power_fits_none r.prime r.vars (meaning r f);
  }

  pub powers_next : (f : List Term) (k : ℕ) (ts read us : List Term) → read ≡ ts → Powers f k ts → IsCanonical r us
      → meaning r us ≡ polynomial_product r.prime r.vars (meaning r read) (meaning r f) → ProductFits r.prime r.vars (meaning r read) (meaning r f) → Powers f (k + 1) us
  powers_next f k ts read us er w c e h =
      let value : meaning r read ≡ polynomial_power r.prime r.vars k (meaning r f) = ap (meaning r) er ∙ w.power in
      rw add-one (record {
        canonical = c;
        power = e ∙ ap (λ g. polynomial_product r.prime r.vars g (meaning r f)) value ∙ power_next r.prime r.vars k (meaning r f);
        fits = power_fits_next r.prime r.vars k (meaning r f) w.fits (subst (λ g. ProductFits r.prime r.vars g (meaning r f)) value h);
      })

  pub power_stops : (f : List Term) (k m : ℕ) (ts read : List Term) → read ≡ ts → Powers f k ts → k < m → ProductPasses r.prime r.vars (meaning r read) (meaning r f)
      → PowerPasses r.prime r.vars m (meaning r f)
  power_stops f k m ts read er w below h = power_passes r.prime r.vars k m (meaning r f) below (subst (λ g. ProductPasses r.prime r.vars g (meaning r f)) (ap (meaning r) er ∙ w.power) h)
