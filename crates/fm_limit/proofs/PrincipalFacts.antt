-- The facts of a principal ideal in degree 1, by hand
use Rattle.std.proofs.Common.{ℕ, zero, suc, ◌-◌, ◌*◌, ◌%◌, ◌≤◌, ◌≡◌, ◌∙◌, ◌↔◌, refl, sym, ap, ap₂, subst, arith, Bool, false, IsTrue, List, [], ◌∷◌, length, get_or}
use Rattle.std.proofs.lemmas.Bool.{false≢true}
use Rattle.fm_gfp.specs.Primes.{prime_value}
use Rattle.fm_gfp.specs.declared.prime.Prime.{Prime}
use Rattle.fm_gfp.specs.declared.prime.Prime.TheVariants.{Two}
use Rattle.fm_algebra.specs.FiniteSums.{finite_sum}
use Rattle.fm_algebra.specs.Families.{only, mul, unit, flip, each, vector, element}
use Rattle.fm_algebra.specs.Matrix.{component, entry, listed, apply}
use Rattle.fm_algebra.specs.Splits.{over_splits, over_pairs}
use Rattle.fm_algebra.specs.Polynomials.{Polynomial, polynomials, polynomial_zero, polynomial_one, polynomial_product, polynomial_power, coefficient, frobenius_twist}
use Rattle.fm_algebra.specs.PolynomialMatrices.{PolynomialMatrix, HasShape, matrix_unit, matrix_product, matrix_transpose, matrix_twist, vector_product, InImage, InKernel, InPreimage, GeneratesKernel, GeneratesPreimage}
use Rattle.fm_algebra.proofs.Algebra.{mul_one}
use Rattle.fm_algebra.proofs.Concrete.{polynomials_laws}
use Rattle.fm_algebra.proofs.FamilyPowers.{single}
use Rattle.fm_algebra.proofs.ListImages.{through, turned}
use Rattle.fm_algebra.proofs.PolynomialWords.{cancel_factor, coefficient_one, coefficient_product}
use Rattle.fm_algebra.proofs.TwistWords.{twist_of_one}
use Rattle.fm_limit.specs.ResolvedIdeal.{matrix_at, differential}
use Rattle.fm_limit.specs.Facts.{ColumnsInImage, IsEverything, DegreeFacts}
use Rattle.fm_limit.specs.SmallIdeals.{one_entry, no_columns, principal}
use Rattle.fm_limit.specs.Verdicts.{Holds, zero_limit}
use Rattle.fm_limit.proofs.SmallIdeals.{no_rows}
use Rattle.fm_limit.proofs.VerdictLaws.{zero_verdict}
use Rattle.fm_limit.proofs.MatrixWords.{image_words, kernel_words, kernel_length, image_length, product_read, product_fits, transpose_read, transpose_fits, twist_read, twist_fits, unit_fits, unit_read}
use Rattle.fm_limit.proofs.Principal.{one_fits, no_fits, one_read, element_product, element_entry, each_element, same_entries, principal_resolved, times_cofactor, cofactor_nonzero, x, x_nonzero, x_at_zero}

module _ (p : Prime) (n : ℕ) where
  -- ---- matrices with one entry
  pub product_one : (f g : Polynomial p n) → matrix_product p n (one_entry p n f) (one_entry p n g) ≡ one_entry p n (polynomial_product p n f g)
  product_one f g =
      same_entries p n (matrix_product p n (one_entry p n f) (one_entry p n g)) (one_entry p n (polynomial_product p n f g)) (product_fits p n 1 1 1 (one_entry p n f) (one_entry p n g) (one_fits p n f) (one_fits p n g)) (one_fits p n (polynomial_product p n f g))
      (product_read p n 1 1 1 (one_entry p n f) (one_entry p n g) (one_fits p n f) (one_fits p n g) ∙ ap₂ (λ X Y. mul (polynomials p n) X Y) (one_read p n f) (one_read p n g) ∙ element_product p n f g ∙ sym (one_read p n (polynomial_product p n f g)))

  pub transpose_one : (f : Polynomial p n) → matrix_transpose p n (one_entry p n f) ≡ one_entry p n f
  unfolding flip
  transpose_one f =
      same_entries p n (matrix_transpose p n (one_entry p n f)) (one_entry p n f) (transpose_fits p n 1 1 (one_entry p n f) (one_fits p n f)) (one_fits p n f)
      (transpose_read p n 1 1 (one_entry p n f) (one_fits p n f) ∙ ap (flip (polynomials p n) {m = 1} {n = 1}) (one_read p n f) ∙ sym (one_read p n f))

  pub twist_one : (e : ℕ) (f : Polynomial p n) → matrix_twist p n e (one_entry p n f) ≡ one_entry p n (frobenius_twist p n e f)
  twist_one e f =
      same_entries p n (matrix_twist p n e (one_entry p n f)) (one_entry p n (frobenius_twist p n e f)) (twist_fits p n e 1 1 (one_entry p n f) (one_fits p n f)) (one_fits p n (frobenius_twist p n e f))
      (twist_read p n e 1 1 (one_entry p n f) (one_fits p n f) ∙ ap (each (polynomials p n) (frobenius_twist p n e) {m = 1} {n = 1}) (one_read p n f) ∙ each_element p n e f ∙ sym (one_read p n (frobenius_twist p n e f)))

  pub unit_one : matrix_unit p n 1 ≡ one_entry p n (polynomial_one p n)
  unfolding unit polynomial_one
  unit_one =
      same_entries p n (matrix_unit p n 1) (one_entry p n (polynomial_one p n)) (unit_fits p n 1) (one_fits p n (polynomial_one p n))
      (unit_read p n 1 ∙ single (polynomials_laws p n) (frobenius_twist p n) (unit (polynomials p n) 1) (element (polynomials p n) (polynomial_one p n)) refl ∙ sym (one_read p n (polynomial_one p n)))

  pub apply_one : (f z : Polynomial p n) → vector_product p n (one_entry p n f) (z ∷ []) ≡ polynomial_product p n f z ∷ []
  unfolding vector_product apply listed finite_sum entry component polynomial_product
  apply_one f z = ap (λ v. v ∷ []) ((polynomials_laws p n).zero_add ((polynomials p n).mul f z))

  -- z is in the image of (f) exactly if f divides z
  pub image_one : (f z : Polynomial p n) → InImage p n (one_entry p n f) (z ∷ []) ↔ ((y : Polynomial p n) × (polynomial_product p n f y ≡ z))
  unfolding component
  image_one f z =
      let q : vector (polynomials p n) 1 (z ∷ []) ≡ element (polynomials p n) z = single (polynomials_laws p n) (frobenius_twist p n) (vector (polynomials p n) 1 (z ∷ [])) (element (polynomials p n) z) refl in
      through (image_words p n 1 1 (one_entry p n f) (z ∷ []) (one_fits p n f) refl) (
        λ h.
            let y : Polynomial p n = h.0 zero only zero only in
            let r : element (polynomials p n) y ≡ h.0 = single (polynomials_laws p n) (frobenius_twist p n) (element (polynomials p n) y) h.0 refl in
            (y, element_entry p n (polynomial_product p n f y) z (sym (element_product p n f y) ∙ ap (mul (polynomials p n) (element (polynomials p n) f)) r ∙ sym (ap (λ A. mul (polynomials p n) A h.0) (one_read p n f)) ∙ h.1 ∙ q)),
        λ h. (element (polynomials p n) h.0, ap (λ A. mul (polynomials p n) A (element (polynomials p n) h.0)) (one_read p n f) ∙ element_product p n f h.0 ∙ ap (element (polynomials p n)) h.1 ∙ sym q),
      )

  -- what holds of lists of one entry
  pub of_one : (P Q : List (Polynomial p n) → Type 0) → ((w : List (Polynomial p n)) → P w → length w ≡ 1) → ((w : List (Polynomial p n)) → Q w → length w ≡ 1)
      → ((z : Polynomial p n) → P (z ∷ []) ↔ Q (z ∷ [])) → (w : List (Polynomial p n)) → P w ↔ Q w
  of_one P Q a b f [] = ((λ h. absurd (let l : 0 ≡ 1 = a [] h in omega arith)), (λ h. absurd (let l : 0 ≡ 1 = b [] h in omega arith)))
  of_one P Q a b f (z ∷ []) = f z
  of_one P Q a b f (z ∷ y ∷ w) =
      ((λ h. absurd (let l : length (z ∷ y ∷ w) ≡ 1 = a (z ∷ y ∷ w) h in omega arith)), (λ h. absurd (let l : length (z ∷ y ∷ w) ≡ 1 = b (z ∷ y ∷ w) h in omega arith)))

  image_one_length : (f : Polynomial p n) (w : List (Polynomial p n)) → InImage p n (one_entry p n f) w → length w ≡ 1
  image_one_length f w h = image_length p n 1 1 (one_entry p n f) w (one_fits p n f) h

  pub preimage_length : (f : Polynomial p n) (B : PolynomialMatrix p n) (w : List (Polynomial p n)) → InPreimage p n (one_entry p n f) B w → length w ≡ 1
  unfolding InPreimage
  preimage_length f B w h = h.0

  -- f * z is in the image of B
  pub preimage_one : (f z : Polynomial p n) (B : PolynomialMatrix p n) → InPreimage p n (one_entry p n f) B (z ∷ []) ↔ InImage p n B (polynomial_product p n f z ∷ [])
  unfolding InPreimage InImage vector_product
  preimage_one f z B =
      subst (λ v. InPreimage p n (one_entry p n f) B (z ∷ []) ↔ InImage p n B v) (apply_one f z) ((λ h. h.1), (λ h. (refl, h)))

  -- (g) generates all w with f * w in the image of (h), if f * z is a multiple of h exactly where z is one of g
  pub preimage_generates : (f g h : Polynomial p n) → ((z : Polynomial p n) → ((y : Polynomial p n) × (polynomial_product p n h y ≡ polynomial_product p n f z)) ↔ ((y : Polynomial p n) × (polynomial_product p n g y ≡ z)))
      → GeneratesPreimage p n (one_entry p n g) (one_entry p n f) (one_entry p n h)
  preimage_generates f g h m =
      of_one (InPreimage p n (one_entry p n f) (one_entry p n h)) (InImage p n (one_entry p n g)) (preimage_length f (one_entry p n h)) (image_one_length g) (λ z. through (preimage_one f z (one_entry p n h)) (through (image_one h (polynomial_product p n f z)) (through (m z) (turned (image_one g z)))))

  pub product_one_left : (z : Polynomial p n) → polynomial_product p n (polynomial_one p n) z ≡ z
  unfolding polynomial_product polynomial_one
  product_one_left z = (polynomials_laws p n).one_mul z

  pub product_one_right : (z : Polynomial p n) → polynomial_product p n z (polynomial_one p n) ≡ z
  unfolding polynomial_product polynomial_one
  product_one_right z = mul_one (polynomials_laws p n) z

  product_assoc : (a b c : Polynomial p n) → polynomial_product p n (polynomial_product p n a b) c ≡ polynomial_product p n a (polynomial_product p n b c)
  unfolding polynomial_product
  product_assoc a b c = (polynomials_laws p n).mul_assoc a b c

  product_comm : (a b : Polynomial p n) → polynomial_product p n a b ≡ polynomial_product p n b a
  unfolding polynomial_product
  product_comm a b = (polynomials_laws p n).mul_comm a b

  -- ---- the facts
  module _ (f : Polynomial p n) (nonzero : ¬ (f ≡ polynomial_zero p n)) where
    abbrev g : Polynomial p n
    g = polynomial_power p n (prime_value p - 1) f

    pub all_cocycles : GeneratesKernel p n (one_entry p n (polynomial_one p n)) (matrix_transpose p n (no_columns p n))
    all_cocycles =
        let s = transpose_fits p n 1 0 (no_columns p n) (no_fits p n) in
        of_one (InKernel p n (matrix_transpose p n (no_columns p n))) (InImage p n (one_entry p n (polynomial_one p n))) (λ w h. kernel_length p n 0 1 (matrix_transpose p n (no_columns p n)) w s h) (image_one_length (polynomial_one p n)) (λ z. (
          λ h. (image_one (polynomial_one p n) z).1 (z, product_one_left z),
          λ h. (kernel_words p n 0 1 (matrix_transpose p n (no_columns p n)) (z ∷ []) s refl).1 (no_rows p n 0 _ _ refl),
        ))

    relations_one : GeneratesPreimage p n (one_entry p n f) (one_entry p n (polynomial_one p n)) (matrix_transpose p n (one_entry p n f))
    relations_one =
        subst (λ B. GeneratesPreimage p n (one_entry p n f) (one_entry p n (polynomial_one p n)) B) (sym (transpose_one f))
        (preimage_generates (polynomial_one p n) f f (λ z. ((λ h. (h.0, h.1 ∙ product_one_left z)), (λ h. (h.0, h.1 ∙ sym (product_one_left z))))))

    morphism_one : matrix_product p n (matrix_transpose p n (one_entry p n g)) (one_entry p n (polynomial_one p n)) ≡ matrix_product p n (matrix_twist p n 1 (one_entry p n (polynomial_one p n))) (one_entry p n g)
    morphism_one =
        ap (λ A. matrix_product p n A (one_entry p n (polynomial_one p n))) (transpose_one g)
        ∙ product_one g (polynomial_one p n)
        ∙ ap (one_entry p n) (product_one_right g)
        ∙ sym (ap (λ A. matrix_product p n A (one_entry p n g)) (twist_one 1 (polynomial_one p n) ∙ ap (one_entry p n) (twist_of_one p n 1)) ∙ product_one (polynomial_one p n) g ∙ ap (one_entry p n) (product_one_left g))

    -- g * z is a multiple of f^[p] = f * g exactly where z is one of f
    step_one : GeneratesPreimage p n (one_entry p n f) (one_entry p n g) (matrix_twist p n 1 (one_entry p n f))
    step_one =
        subst (λ B. GeneratesPreimage p n (one_entry p n f) (one_entry p n g) B) (sym (twist_one 1 f))
        (preimage_generates g f (frobenius_twist p n 1 f) (λ z. (
          (λ h. (h.0, cancel_factor p n g (polynomial_product p n f h.0) z (cofactor_nonzero p n f nonzero) (regroup h.0 ∙ h.1))),
          (λ h. (h.0, sym (regroup h.0) ∙ ap (polynomial_product p n g) h.1)),
        )))
      where
        regroup : (y : Polynomial p n) → polynomial_product p n g (polynomial_product p n f y) ≡ polynomial_product p n (frobenius_twist p n 1 f) y
        regroup y = sym (product_assoc g f y) ∙ ap (λ v. polynomial_product p n v y) (product_comm g f ∙ times_cofactor p n f nonzero)

    pub principal_facts : DegreeFacts p n 1 (principal p n f) (one_entry p n (polynomial_one p n)) (one_entry p n g) (one_entry p n f ∷ one_entry p n f ∷ []) 0
    unfolding principal matrix_at differential
    principal_facts = record {
      resolved = principal_resolved p n f nonzero;
      ext = record {
        cocycles_fit = one_fits p n (polynomial_one p n);
        relations_fit = one_fits p n f;
        morphism_fits = one_fits p n g;
        cocycles = all_cocycles;
        relations = relations_one;
        morphism = morphism_one;
      };
      chain = record {
        fits = two_members;
        step = λ s b. let z : zero ≡ s = omega arith in subst (λ s. GeneratesPreimage p n (matrix_at p n (one_entry p n f ∷ one_entry p n f ∷ []) (suc s)) (one_entry p n g) (matrix_twist p n 1 (matrix_at p n (one_entry p n f ∷ one_entry p n f ∷ []) s))) z step_one;
      };
      repeats = λ c b. let z : zero ≡ c = omega arith in subst (λ c. InImage p n (one_entry p n f) (get_or ((f ∷ []) ∷ []) c [])) z ((image_one f f).1 (polynomial_one p n, product_one_right f));
    }
      where
        two_members : (s : ℕ) → s ≤ 1 → HasShape p n 1 (length (matrix_at p n (one_entry p n f ∷ one_entry p n f ∷ []) s).columns) (matrix_at p n (one_entry p n f ∷ one_entry p n f ∷ []) s)
        two_members zero b = one_fits p n f
        two_members (suc zero) b = one_fits p n f
        two_members (suc (suc s)) b = absurd (omega arith)

    -- so the limit is zero exactly if f is a unit
    unit_exactly : IsEverything p n (one_entry p n f) ↔ ((y : Polynomial p n) × (polynomial_product p n f y ≡ polynomial_one p n))
    unit_exactly =
        subst (λ B. ColumnsInImage p n (one_entry p n f) B ↔ ((y : Polynomial p n) × (polynomial_product p n f y ≡ polynomial_one p n))) (sym unit_one) (
          λ h. (image_one f (polynomial_one p n)).0 (h 0 only),
          λ h c b. let z : zero ≡ c = omega arith in subst (λ c. InImage p n (one_entry p n f) (get_or ((polynomial_one p n ∷ []) ∷ []) c [])) z ((image_one f (polynomial_one p n)).1 h),
        )

    pub principal_verdict : (answer : Bool) → (IsTrue answer ↔ ((y : Polynomial p n) × (polynomial_product p n f y ≡ polynomial_one p n))) → Holds p n (zero_limit 1 (principal p n f) answer 0)
    unfolding matrix_at
    principal_verdict answer h = zero_verdict p n principal_facts (λ s b. absurd (omega arith)) answer (through h (turned unit_exactly))

-- x is no unit of GF(2)[x]
pub no_unit : (y : Polynomial Two 1) → ¬ (polynomial_product Two 1 x y ≡ polynomial_one Two 1)
unfolding over_splits over_pairs
no_unit y h =
    let a : coefficient Two 1 (polynomial_one Two 1) (0 ∷ []) ≡ 1 = coefficient_one Two 1 in
    let b : coefficient Two 1 (polynomial_product Two 1 x y) (0 ∷ []) ≡ (coefficient Two 1 x (0 ∷ []) * coefficient Two 1 y (0 ∷ [])) % 2 = coefficient_product Two 1 x y (0 ∷ []) in
    let c : coefficient Two 1 x (0 ∷ []) ≡ 0 = x_at_zero in
    let d : coefficient Two 1 (polynomial_product Two 1 x y) (0 ∷ []) ≡ 0 = b ∙ ap (λ u. (u * coefficient Two 1 y (0 ∷ [])) % 2) c ∙ nothing (coefficient Two 1 y (0 ∷ [])) in
    let q : coefficient Two 1 (polynomial_product Two 1 x y) (0 ∷ []) ≡ coefficient Two 1 (polynomial_one Two 1) (0 ∷ []) = ap (λ v. coefficient Two 1 v (0 ∷ [])) h in
    absurd (omega arith)
  where
    nothing : (u : ℕ) → (0 * u) % 2 ≡ 0
    nothing u = let q : 0 * u ≡ 0 = omega arith in ap (λ k. k % 2) q

-- the limit of (x) in degree 1 is not zero, and no moves are needed
pub x_verdict : Holds Two 1 (zero_limit 1 (principal Two 1 x) false 0)
x_verdict = principal_verdict Two 1 x x_nonzero false ((λ h. absurd (false≢true h)), (λ h. absurd (no_unit h.0 h.1)))
