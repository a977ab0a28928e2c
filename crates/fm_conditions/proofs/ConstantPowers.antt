-- Powers of constants: none passes the bound on exponents, and from the first on they repeat after p - 1.
use Rattle.std.proofs.Common.{◌≡◌, ℕ, zero, suc, ◌+◌, ◌-◌, ◌*◌, ◌%◌, ◌/◌, true, nat_eq, List, [], ◌∷◌, length, replicate, inl, inr, refl, sym, ap, ap₂, ◌∙◌, subst, arith}
use Rattle.std.specs.List.{list_all}
use Rattle.std.specs.Prelude.{sum}
use Rattle.std.proofs.lemmas.Bool.{and_from, and_parts, eqb-true}
use Rattle.std.proofs.lemmas.List.{length-replicate}
use Rattle.std.proofs.Math.Nat.{zero-mod}
use Rattle.std.proofs.lemmas.Nat.{div-add-mod'}
use Rattle.fm_tuple.specs.Tuple.{tuple_sum, tuple_multiple}
use Rattle.fm_tuple.proofs.Tuples.{zeros_tuple_sum}
use Rattle.fm_tuple.proofs.TupleEntries.{zeros_from_sum}
use Rattle.fm_gfp.specs.Primes.{prime_value}
use Rattle.fm_gfp.specs.declared.prime.Prime.{Prime}
use Rattle.fm_gfp.proofs.Residues.{prime_above_one}
use Rattle.fm_mono.specs.Bounded.{is_bounded}
use Rattle.fm_mono.proofs.Bounds.{zeros_within}
use Rattle.fm_algebra.specs.Matrix.{table, listed, scalar_matrix, unit_matrix}
use Rattle.fm_algebra.specs.PolynomialMatrices.{matrix_unit}
use Rattle.fm_algebra.specs.Poly.{apart, same_tuple}
use Rattle.fm_algebra.specs.Power.{power}
use Rattle.fm_algebra.specs.Polynomials.{Polynomial, polynomials, coefficient, polynomial_multiple, polynomial_power, polynomial_product, polynomial_term}
use Rattle.fm_algebra.proofs.Binomial.{power_add}
use Rattle.fm_algebra.proofs.Concrete.{polynomials_laws}
use Rattle.fm_algebra.proofs.PolynomialWords.{coefficient_multiple, coefficient_one_elsewhere, coefficient_term_elsewhere, multiple_is_a_product}
use Rattle.fm_algebra.proofs.TwistWords.{prime_power_is_twist, twist_of_term}
use Rattle.fm_poly.specs.declared.ring.Ring.{Ring}
use Rattle.fm_poly.specs.declared.term.Term.{Term}
use Rattle.fm_poly.specs.Bounds.{ProductFits}
use Rattle.fm_poly.specs.Polys.{IsCanonical, PolyValue, meaning}
use Rattle.fm_poly.proofs.MergeSteps.{meaning_kept, meaning_one}
use Rattle.fm_poly.proofs.PowerSteps.{power_none}
use Rattle.fm_mat.specs.Bounds.{products_fit}
use Rattle.fm_mat.specs.Matrices.{MatrixValue}
use Rattle.fm_mat.proofs.Supports.{fits_as_test}
use Rattle.fm_graphs.specs.Graphs.{MatrixOf}
use Rattle.fm_report.specs.Parts.{part_value}
use Rattle.fm_parts.specs.Shapes.{rows_of, columns_of}
use Rattle.fm_parts.specs.Values.{is_within_bound}
use Rattle.fm_judge.specs.Claims.{factored_part}
use Rattle.fm_pres.specs.Kept.{IsValue}
use Rattle.fm_conditions.specs.Constants.{is_constant, least_exponent}
use Rattle.fm_conditions.proofs.SingleEntries.{single, power_value}

-- ---- tuples of zeros
zeros_twice : (n : ℕ) → tuple_sum (replicate n 0) (replicate n 0) ≡ replicate n 0
zeros_twice n = ap (λ m. tuple_sum (replicate m 0) (replicate n 0)) (sym (length-replicate n 0)) ∙ zeros_tuple_sum (replicate n 0)

zeros_multiple : (q n : ℕ) → tuple_multiple q (replicate n 0) ≡ replicate n 0
zeros_multiple q zero = refl
zeros_multiple q (suc n) = let none : q * 0 ≡ 0 = grind arith in ap₂ (λ i a. i ∷ a) none (zeros_multiple q n)

module _ (p : Prime) (n : ℕ) where
  abbrev pub constant : ℕ → Polynomial p n
  constant c = polynomial_term p n c (replicate n 0)

  -- ---- the monomial 1 is their only one
  power_later : (c k : ℕ) → polynomial_power p n (suc k) (constant c) ≡ polynomial_multiple p n c (polynomial_power p n k (constant c))
  unfolding polynomial_power power polynomial_product
  power_later c k = sym (multiple_is_a_product p n c (polynomial_power p n k (constant c)))

  power_elsewhere : (c k : ℕ) (a : List ℕ) → ¬ (a ≡ replicate n 0) → coefficient p n (polynomial_power p n k (constant c)) a ≡ 0
  power_elsewhere c zero a w = ap (λ f. coefficient p n f a) (power_none p n (constant c)) ∙ coefficient_one_elsewhere p n a w
  power_elsewhere c (suc k) a w =
      let none : c * 0 ≡ 0 = grind arith in
      ap (λ f. coefficient p n f a) (power_later c k) ∙ coefficient_multiple p n c (polynomial_power p n k (constant c)) a
      ∙ ap (λ m. (c * m) % prime_value p) (power_elsewhere c k a w) ∙ ap (λ m. m % prime_value p) none ∙ zero-mod (prime_value p)

  only_zeros : (f : Polynomial p n) (a : List ℕ) → (¬ (a ≡ replicate n 0) → coefficient p n f a ≡ 0) → ¬ (coefficient p n f a ≡ 0) → a ≡ replicate n 0
  only_zeros f a h u = elim (same_tuple a (replicate n 0)) [
    | inl s ↦ s.0
    | inr d ↦ absurd (u (h (apart a (replicate n 0) d)))
  ]

  factor_fits : (c k : ℕ) → ProductFits p n (polynomial_power p n k (constant c)) (constant c)
  factor_fits c k = record {
    within = λ a b u v.
        ap₂ (λ x y. is_bounded (tuple_sum x y))
        (only_zeros (polynomial_power p n k (constant c)) a (power_elsewhere c k a) u)
        (only_zeros (constant c) b (coefficient_term_elsewhere p n c (replicate n 0) b) v)
        ∙ ap is_bounded (zeros_twice n) ∙ zeros_within n;
  }

  -- ---- they repeat
  fermat : (c : ℕ) → polynomial_power p n (prime_value p) (constant c) ≡ constant c
  fermat c =
      prime_power_is_twist p n (constant c) ∙ twist_of_term p n 1 c (replicate n 0)
      ∙ ap (polynomial_term p n c) (zeros_multiple _ n)

  power_of_sum : (i j : ℕ) (f : Polynomial p n) → polynomial_power p n (i + j) f ≡ polynomial_product p n (polynomial_power p n i f) (polynomial_power p n j f)
  unfolding polynomial_power polynomial_product
  power_of_sum i j f = power_add (polynomials_laws p n) i j f

  power_of_next : (i : ℕ) (f : Polynomial p n) → polynomial_power p n (suc i) f ≡ polynomial_product p n f (polynomial_power p n i f)
  unfolding polynomial_power power polynomial_product
  power_of_next i f = refl

  module _ (q : ℕ) (is : suc q ≡ prime_value p) (c : ℕ) where
    once : (i : ℕ) → polynomial_power p n (q + suc i) (constant c) ≡ polynomial_power p n (suc i) (constant c)
    once i =
        let f = constant c in
        let moved : q + suc i ≡ suc q + i = omega arith in
        ap (λ k. polynomial_power p n k f) moved ∙ power_of_sum (suc q) i f
        ∙ ap (λ g. polynomial_product p n g (polynomial_power p n i f)) (ap (λ k. polynomial_power p n k f) is ∙ fermat c)
        ∙ sym (power_of_next i f)

    often : (m i : ℕ) → polynomial_power p n (suc (m * q + i)) (constant c) ≡ polynomial_power p n (suc i) (constant c)
    often zero i = let none : suc (0 * q + i) ≡ suc i = grind arith in ap (λ k. polynomial_power p n k (constant c)) none
    often (suc m) i =
        let first : suc (suc m * q + i) ≡ q + suc (m * q + i) = grind arith in
        ap (λ k. polynomial_power p n k (constant c)) first ∙ once (m * q + i) ∙ often m i

  pub least_power : (c k : ℕ) → polynomial_power p n (least_exponent p k) (constant c) ≡ polynomial_power p n k (constant c)
  least_power c zero = refl
  least_power c (suc k) =
      let q = prime_value p - 1 in
      let above = prime_above_one p in
      let is : suc q ≡ prime_value p = omega (arith, above) in
      let parts : (k / q) * q + k % q ≡ k = div-add-mod' k q in
      sym (often q is c (k / q) (k % q)) ∙ ap (λ j. polynomial_power p n (suc j) (constant c)) parts

-- ---- lists of terms that are constants
module _ (r : Ring) where
  one_row : (f : PolyValue) (k : ℕ) → rows_of (factored_part r f k) ≡ 1
  unfolding matrix_unit unit_matrix scalar_matrix table listed
  one_row f zero = refl
  one_row f (suc k) = one_row f k

  one_column : (f : PolyValue) (k : ℕ) → columns_of (factored_part r f k) ≡ 1
  unfolding matrix_unit unit_matrix scalar_matrix table listed
  one_column f zero = refl
  one_column f (suc k) = refl

  meaning_constant : (ts : List Term) → IsCanonical r ts → is_constant ts ≡ true → (c : ℕ) × (meaning r ts ≡ constant r.prime r.vars c)
  meaning_constant [] k e = (0, meaning_kept r (record { mono = replicate r.vars 0; coeff = 0 }))
  meaning_constant (t ∷ u ∷ ts) k e = let none : length (u ∷ ts) ≡ 0 = eqb-true (length (u ∷ ts)) 0 (and_parts (nat_eq (length (u ∷ ts)) 0) (nat_eq (sum t.mono) 0) e).0 in absurd (omega (arith, none))
  meaning_constant (t ∷ []) k e =
      let none : sum t.mono ≡ 0 = eqb-true (sum t.mono) 0 e in
      (t.coeff, meaning_one r t ∙ ap (polynomial_term r.prime r.vars t.coeff) (zeros_from_sum t.mono none ∙ ap (λ n. replicate n 0) k.listed.0))

  module _ (f : PolyValue) (c : ℕ) (is : meaning r f.terms ≡ constant r.prime r.vars c) where
    factor_passes_no_bound : (k : ℕ) → list_all (products_fit r.prime r.vars ((polynomial_power r.prime r.vars k (meaning r f.terms) ∷ []) ∷ [])) ((meaning r f.terms ∷ []) ∷ []) ≡ true
    factor_passes_no_bound k =
        let fits = subst (λ g. ProductFits r.prime r.vars (polynomial_power r.prime r.vars k g) g) (sym is) (factor_fits r.prime r.vars c k) in
        rw (fits_as_test r.prime r.vars (polynomial_power r.prime r.vars k (meaning r f.terms)) (meaning r f.terms) fits) refl

    constant_within : (k : ℕ) → is_within_bound r (factored_part r f k) ≡ true
    unfolding is_within_bound part_value
    constant_within zero = refl
    constant_within (suc k) = and_from _ _ (constant_within k)
        (subst (λ (A : MatrixOf r). list_all (products_fit r.prime r.vars A.columns) ((meaning r f.terms ∷ []) ∷ []) ≡ true) (sym (power_value r f k)) (factor_passes_no_bound k))

    same_power : (k : ℕ) → part_value r (factored_part r f (least_exponent r.prime k)) ≡ part_value r (factored_part r f k)
    same_power k =
        let powers = subst (λ g. polynomial_power r.prime r.vars (least_exponent r.prime k) g ≡ polynomial_power r.prime r.vars k g) (sym is) (least_power r.prime r.vars c k) in
        power_value r f (least_exponent r.prime k) ∙ ap (single r) powers ∙ sym (power_value r f k)

    moved_value : (k : ℕ) (m : MatrixValue) → IsValue r (factored_part r f (least_exponent r.prime k)) m → IsValue r (factored_part r f k) m
    moved_value k m v = record {
      ring = v.ring;
      rows = v.rows ∙ one_row f (least_exponent r.prime k) ∙ sym (one_row f k);
      columns = v.columns ∙ one_column f (least_exponent r.prime k) ∙ sym (one_column f k);
      meaning = v.meaning ∙ same_power k;
      within = constant_within k;
    }

  pub constant_value : (f : PolyValue) (k : ℕ) (m : MatrixValue) → IsCanonical r f.terms → is_constant f.terms ≡ true
      → IsValue r (factored_part r f (least_exponent r.prime k)) m → IsValue r (factored_part r f k) m
  constant_value f k m w e v = let c = meaning_constant f.terms w e in moved_value f c.0 c.1 k m v
