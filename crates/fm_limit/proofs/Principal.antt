-- A principal ideal in degree 1: its classes, and which of them are zero in the limit
use Rattle.std.proofs.Common.{ℕ, zero, suc, ◌+◌, ◌-◌, ◌*◌, ◌%◌, ◌<◌, ◌≡◌, ◌∙◌, ◌↔◌, refl, sym, ap, ap₂, subst, arith, add-zero, List, [], ◌∷◌, length, get_or, inl, inr}
use Rattle.fm_gfp.specs.Primes.{prime_value}
use Rattle.fm_gfp.proofs.Residues.{prime_positive}
use Rattle.fm_gfp.specs.declared.prime.Prime.{Prime}
use Rattle.fm_gfp.specs.declared.prime.Prime.TheVariants.{Two}
use Rattle.fm_tuple.specs.Tuple.{tuple_multiple}
use Rattle.fm_algebra.specs.Splits.{over_splits, over_pairs}
use Rattle.fm_algebra.specs.FiniteSums.{finite_sum}
use Rattle.fm_algebra.specs.Families.{only, Mat, mul, nil, flip, each, read, vector, element}
use Rattle.fm_algebra.specs.Matrix.{entry, component}
use Rattle.fm_algebra.specs.Image as image
use Rattle.fm_algebra.specs.Power.{power}
use Rattle.fm_algebra.specs.Polynomials.{Polynomial, polynomials, polynomial_zero, polynomial_one, polynomial_product, polynomial_power, polynomial_term, coefficient, frobenius_twist}
use Rattle.fm_algebra.specs.PolynomialMatrices.{PolynomialMatrix, HasShape, matrix_unit, matrix_product, matrix_twist, InImage, InKernel, GeneratesKernel}
use Rattle.fm_algebra.proofs.Concrete.{polynomials_laws, twists_compose}
use Rattle.fm_algebra.proofs.Algebra.{mul_left_comm, mul_zero, mul_one}
use Rattle.fm_algebra.proofs.PolynomialWords.{cancel_factor, polynomials_domain, coefficient_zero, coefficient_term, coefficient_term_elsewhere, coefficient_product}
use Rattle.fm_algebra.proofs.TwistWords.{prime_power_is_twist, twist_of_zero, twist_of_product, twist_one_to_one, twist_at_multiple, twist_elsewhere}
use Rattle.fm_algebra.proofs.FamilyPowers.{single}
use Rattle.fm_algebra.proofs.Images.{image_nil, mul_nil}
use Rattle.fm_algebra.proofs.Tables.{read_injective}
use Rattle.fm_limit.specs.Resolution.{d_below}
use Rattle.fm_limit.specs.System as system
use Rattle.fm_limit.specs.DirectSystem.{Degree, IsCoboundary, move, moved, IsKilledBy}
use Rattle.fm_limit.specs.ResolvedIdeal.{matrix_at, rank, row, InIdeal, IsResolved}
use Rattle.fm_limit.specs.Classes.{matrices, IsClass, IsCoboundaryAfter, IsZeroClass}
use Rattle.fm_limit.specs.SmallIdeals.{one_entry, no_columns, principal}
use Rattle.fm_limit.proofs.FactsRead.{matrices_laws}
use Rattle.fm_limit.proofs.SmallIdeals.{no_rows}
use Rattle.fm_limit.proofs.MatrixWords.{image_words, kernel_words, image_length, kernel_length, product_read, product_fits, twist_read, twist_fits, unit_read, unit_fits, row_fits, row_read}

module _ (p : Prime) (n : ℕ) where
  -- ---- matrices with one entry
  pub one_fits : (f : Polynomial p n) → HasShape p n 1 1 (one_entry p n f)
  unfolding HasShape
  one_fits f = (refl, refl, λ j b. let z : zero ≡ j = omega arith in subst (λ j. length (get_or ((f ∷ []) ∷ []) j []) ≡ 1) z refl)

  pub no_fits : HasShape p n 1 0 (no_columns p n)
  unfolding HasShape
  no_fits = (refl, refl, λ j b. absurd (omega arith))

  pub one_read : (f : Polynomial p n) → read (polynomials p n) 1 1 (one_entry p n f) ≡ element (polynomials p n) f
  unfolding entry
  one_read f = single (polynomials_laws p n) (frobenius_twist p n) (read (polynomials p n) 1 1 (one_entry p n f)) (element (polynomials p n) f) refl

  pub element_product : (f g : Polynomial p n) → mul (polynomials p n) (element (polynomials p n) f) (element (polynomials p n) g) ≡ element (polynomials p n) (polynomial_product p n f g)
  unfolding mul finite_sum polynomial_product
  element_product f g =
      single (polynomials_laws p n) (frobenius_twist p n) (mul (polynomials p n) (element (polynomials p n) f) (element (polynomials p n) g)) (element (polynomials p n) (polynomial_product p n f g)) ((polynomials_laws p n).zero_add ((polynomials p n).mul f g))

  pub element_entry : (f g : Polynomial p n) → element (polynomials p n) f ≡ element (polynomials p n) g → f ≡ g
  element_entry f g e = ap (λ X. X zero only zero only) e

  row_one : (f : Polynomial p n) → row p n (f ∷ []) ≡ one_entry p n f
  unfolding HasShape flip component
  row_one f =
      read_injective (polynomials p n) 1 1 (row p n (f ∷ [])) (one_entry p n f) (row_fits p n (f ∷ [])) (one_fits f)
      (single (polynomials_laws p n) (frobenius_twist p n) (read (polynomials p n) 1 1 (row p n (f ∷ []))) (element (polynomials p n) f) (ap (λ X. X zero only zero only) (row_read p n (f ∷ []))) ∙ sym (one_read f))

  pub same_entries : (A B : PolynomialMatrix p n) → HasShape p n 1 1 A → HasShape p n 1 1 B → read (polynomials p n) 1 1 A ≡ read (polynomials p n) 1 1 B → A ≡ B
  unfolding HasShape
  same_entries A B a b e = read_injective (polynomials p n) 1 1 A B a b e

  pub each_element : (e : ℕ) (f : Polynomial p n) → each (polynomials p n) (frobenius_twist p n e) {m = 1} {n = 1} (element (polynomials p n) f) ≡ element (polynomials p n) (frobenius_twist p n e f)
  unfolding each
  each_element e f = refl

  -- what holds of 0 and of 1
  two : (P : ℕ → Type 0) → P 0 → P 1 → (j : ℕ) → j < 2 → P j
  two P a b zero h = a
  two P a b (suc zero) h = b
  two P a b (suc (suc j)) h = absurd (omega arith)

  -- ---- the resolution and the lift
  module _ (f : Polynomial p n) (nonzero : ¬ (f ≡ polynomial_zero p n)) where
    abbrev cofactor : Polynomial p n
    cofactor = polynomial_power p n (prime_value p - 1) f

    -- f * f^(p-1) = f^[p]
    pub times_cofactor : polynomial_product p n f cofactor ≡ frobenius_twist p n 1 f
    unfolding polynomial_product polynomial_power power
    times_cofactor =
        let q : suc (prime_value p - 1) ≡ prime_value p = let b = prime_positive p in omega arith in
        ap (λ k. polynomial_power p n k f) q ∙ prime_power_is_twist p n f

    -- f sends only 0 to 0
    kills : (X : Mat (polynomials p n) 1 1) → mul (polynomials p n) (element (polynomials p n) f) X ≡ nil (polynomials p n) 1 1 → X ≡ nil (polynomials p n) 1 1
    unfolding nil polynomial_zero polynomial_product
    kills X h =
        let x : Polynomial p n = X zero only zero only in
        let q : element (polynomials p n) x ≡ X = single (polynomials_laws p n) (frobenius_twist p n) (element (polynomials p n) x) X refl in
        let e : polynomial_product p n f x ≡ polynomial_zero p n = element_entry (polynomial_product p n f x) (polynomial_zero p n) (sym (element_product f x) ∙ ap (mul (polynomials p n) (element (polynomials p n) f)) q ∙ h) in
        let z : x ≡ polynomial_zero p n = elim (polynomials_domain p n f x e) [ inl a ↦ absurd (nonzero a) | inr b ↦ b ] in
        sym q ∙ ap (element (polynomials p n)) z

    zero_vector : (w : List (Polynomial p n)) (l : length w ≡ 1) → InKernel p n (one_entry p n f) w → vector (polynomials p n) 1 w ≡ nil (polynomials p n) 1 1
    zero_vector w l h =
        kills (vector (polynomials p n) 1 w) (subst (λ A. mul (polynomials p n) A (vector (polynomials p n) 1 w) ≡ nil (polynomials p n) 1 1) (one_read f) ((kernel_words p n 1 1 (one_entry p n f) w (one_fits f) l).0 h))

    no_product : (X : Mat (polynomials p n) 0 1) → mul (polynomials p n) (read (polynomials p n) 1 0 (no_columns p n)) X ≡ nil (polynomials p n) 1 1
    unfolding mul finite_sum nil
    no_product X = refl

    exact_first : GeneratesKernel p n (no_columns p n) (one_entry p n f)
    exact_first w = (
      λ h.
          let l = kernel_length p n 1 1 (one_entry p n f) w (one_fits f) h in
          (image_words p n 1 0 (no_columns p n) w no_fits l).1 (subst (λ v. image.InImage (matrices p n) (read (polynomials p n) 1 0 (no_columns p n)) v) (sym (zero_vector w l h)) (image_nil (matrices_laws p n) 1 (read (polynomials p n) 1 0 (no_columns p n)))),
      λ h.
          let l = image_length p n 1 0 (no_columns p n) w no_fits h in
          let x = (image_words p n 1 0 (no_columns p n) w no_fits l).0 h in
          let z : vector (polynomials p n) 1 w ≡ nil (polynomials p n) 1 1 = sym x.1 ∙ no_product x.0 in
          (kernel_words p n 1 1 (one_entry p n f) w (one_fits f) l).1 (ap (mul (polynomials p n) (read (polynomials p n) 1 1 (one_entry p n f))) z ∙ mul_nil (matrices_laws p n) (read (polynomials p n) 1 1 (one_entry p n f))),
    )

    square_first : matrix_product p n (one_entry p n f) (one_entry p n cofactor) ≡ matrix_product p n (matrix_unit p n 1) (matrix_twist p n 1 (one_entry p n f))
    square_first =
        let t = twist_fits p n 1 1 1 (one_entry p n f) (one_fits f) in
        same_entries (matrix_product p n (one_entry p n f) (one_entry p n cofactor)) (matrix_product p n (matrix_unit p n 1) (matrix_twist p n 1 (one_entry p n f))) (product_fits p n 1 1 1 (one_entry p n f) (one_entry p n cofactor) (one_fits f) (one_fits cofactor)) (product_fits p n 1 1 1 (matrix_unit p n 1) (matrix_twist p n 1 (one_entry p n f)) (unit_fits p n 1) t)
        (product_read p n 1 1 1 (one_entry p n f) (one_entry p n cofactor) (one_fits f) (one_fits cofactor)
        ∙ ap₂ (λ X Y. mul (polynomials p n) X Y) (one_read f) (one_read cofactor)
        ∙ element_product f cofactor
        ∙ ap (element (polynomials p n)) times_cofactor
        ∙ sym (product_read p n 1 1 1 (matrix_unit p n 1) (matrix_twist p n 1 (one_entry p n f)) (unit_fits p n 1) t ∙ ap (λ X. mul (polynomials p n) X (read (polynomials p n) 1 1 (matrix_twist p n 1 (one_entry p n f)))) (unit_read p n 1) ∙ (matrices_laws p n).unit_left (read (polynomials p n) 1 1 (matrix_twist p n 1 (one_entry p n f))) ∙ twist_read p n 1 1 1 (one_entry p n f) (one_fits f) ∙ ap (each (polynomials p n) (frobenius_twist p n 1) {m = 1} {n = 1}) (one_read f) ∙ each_element 1 f))

    pub principal_resolved : IsResolved p n 1 (principal p n f)
    unfolding principal matrix_at InIdeal
    principal_resolved = record {
      resolution = record {
        count = refl;
        fits = two (λ j. HasShape p n (rank p n (one_entry p n f ∷ no_columns p n ∷ []) j) (rank p n (one_entry p n f ∷ no_columns p n ∷ []) (suc j)) (matrix_at p n (one_entry p n f ∷ no_columns p n ∷ []) j)) (one_fits f) no_fits;
        first = λ g. subst (λ A. InImage p n (one_entry p n f) (g ∷ []) ↔ InImage p n A (g ∷ [])) (sym (row_one f)) ((λ h. h), (λ h. h));
        exact = λ j b. let z : zero ≡ j = omega arith in subst (λ j. GeneratesKernel p n (matrix_at p n (one_entry p n f ∷ no_columns p n ∷ []) (suc j)) (matrix_at p n (one_entry p n f ∷ no_columns p n ∷ []) j)) z exact_first;
      };
      frobenius = record {
        count = refl;
        fits = two (λ j. HasShape p n (rank p n (one_entry p n f ∷ no_columns p n ∷ []) j) (rank p n (one_entry p n f ∷ no_columns p n ∷ []) j) (matrix_at p n (matrix_unit p n 1 ∷ one_entry p n cofactor ∷ []) j)) (unit_fits p n 1) (one_fits cofactor);
        first = refl;
        square = λ j b. let z : zero ≡ j = omega arith in subst (λ j. matrix_product p n (matrix_at p n (one_entry p n f ∷ no_columns p n ∷ []) j) (matrix_at p n (matrix_unit p n 1 ∷ one_entry p n cofactor ∷ []) (suc j)) ≡ matrix_product p n (matrix_at p n (matrix_unit p n 1 ∷ one_entry p n cofactor ∷ []) j) (matrix_twist p n 1 (matrix_at p n (one_entry p n f ∷ no_columns p n ∷ []) j))) z square_first;
      };
    }

    -- ---- classes
    -- every polynomial is a cocycle of every stage
    pub principal_class : (e : ℕ) (z : Polynomial p n) → IsClass p n 1 (principal p n f) e (z ∷ [])
    unfolding principal matrix_at
    principal_class e z = record { fits = refl; cocycle = no_rows p n 0 _ _ refl }

    pub twist_nonzero : (e : ℕ) → ¬ (frobenius_twist p n e f ≡ polynomial_zero p n)
    twist_nonzero e h = nonzero (twist_one_to_one p n e f (polynomial_zero p n) (h ∙ sym (twist_of_zero p n e)))

    -- the twists of f and of f^(p-1)
    twists_next : (e : ℕ) → polynomial_product p n (frobenius_twist p n e f) (frobenius_twist p n e cofactor) ≡ frobenius_twist p n (suc e) f
    twists_next e =
        sym (twist_of_product p n e f cofactor) ∙ ap (frobenius_twist p n e) times_cofactor ∙ twists_compose p n e 1 f ∙ (let q : 1 + e ≡ suc e = omega arith in ap (λ k. frobenius_twist p n k f) q)

    pub cofactor_nonzero : ¬ (cofactor ≡ polynomial_zero p n)
    unfolding polynomial_product polynomial_zero
    cofactor_nonzero h =
        twist_nonzero 1 (sym times_cofactor ∙ ap ((polynomials p n).mul f) h ∙ mul_zero (polynomials_laws p n) f)

    times_nonzero : (e : ℕ) → ¬ (frobenius_twist p n e cofactor ≡ polynomial_zero p n)
    unfolding polynomial_product polynomial_zero
    times_nonzero e h =
        twist_nonzero (suc e) (sym (twists_next e) ∙ ap ((polynomials p n).mul (frobenius_twist p n e f)) h ∙ mul_zero (polynomials_laws p n) (frobenius_twist p n e f))

    product_assoc : (a b c : Polynomial p n) → polynomial_product p n (polynomial_product p n a b) c ≡ polynomial_product p n a (polynomial_product p n b c)
    unfolding polynomial_product
    product_assoc a b c = (polynomials_laws p n).mul_assoc a b c

    product_left_comm : (a b c : Polynomial p n) → polynomial_product p n a (polynomial_product p n b c) ≡ polynomial_product p n b (polynomial_product p n a c)
    unfolding polynomial_product
    product_left_comm a b c = mul_left_comm (polynomials_laws p n) a b c

    -- degree 1
    abbrev D : Degree (matrices p n)
    D = record {
      low = 1;
      mid = 1;
      high = 0;
      below = read (polynomials p n) 1 1 (one_entry p n f);
      above = read (polynomials p n) 1 0 (no_columns p n);
      theta = read (polynomials p n) 1 1 (one_entry p n cofactor);
    }

    move_element : (e : ℕ) (z : Polynomial p n)
        → move (matrices p n) D e (element (polynomials p n) z) ≡ element (polynomials p n) (polynomial_product p n (frobenius_twist p n e cofactor) z)
    unfolding flip each
    move_element e z =
        ap (λ A. mul (polynomials p n) (flip (polynomials p n) {m = 1} {n = 1} (each (polynomials p n) (frobenius_twist p n e) {m = 1} {n = 1} A)) (element (polynomials p n) z)) (one_read cofactor) ∙ element_product (frobenius_twist p n e cofactor) z

    -- s moves from stage e, in polynomials
    moved_element : (s e : ℕ) (z : Polynomial p n)
        → (y : Polynomial p n) × (moved (matrices p n) D s e (element (polynomials p n) z) ≡ element (polynomials p n) y) × (polynomial_product p n (frobenius_twist p n e f) y ≡ polynomial_product p n (frobenius_twist p n (e + s) f) z)
    unfolding system.moved
    moved_element zero e z = (z, refl, ap (λ k. polynomial_product p n (frobenius_twist p n k f) z) (sym (add-zero e)))
    moved_element (suc s) e z =
        let t : Polynomial p n = frobenius_twist p n e cofactor in
        let r = moved_element s (suc e) (polynomial_product p n t z) in
        let q : suc e + s ≡ e + suc s = omega arith in
        let a : polynomial_product p n t (polynomial_product p n (frobenius_twist p n e f) r.0) ≡ polynomial_product p n t (polynomial_product p n (frobenius_twist p n (e + suc s) f) z) = product_left_comm t (frobenius_twist p n e f) r.0 ∙ sym (product_assoc (frobenius_twist p n e f) t r.0) ∙ ap (λ v. polynomial_product p n v r.0) (twists_next e) ∙ r.2 ∙ ap (λ k. polynomial_product p n (frobenius_twist p n k f) (polynomial_product p n t z)) q ∙ product_left_comm (frobenius_twist p n (e + suc s) f) t z in (
          r.0,
          ap (moved (matrices p n) D s (suc e)) (move_element e z) ∙ r.1,
          cancel_factor p n t (polynomial_product p n (frobenius_twist p n e f) r.0) (polynomial_product p n (frobenius_twist p n (e + suc s) f) z) (times_nonzero e) a,
        )

    -- a coboundary of stage k is a multiple of f^[p^k]
    coboundary_element : (k : ℕ) (y : Polynomial p n)
        → IsCoboundary (matrices p n) D k (element (polynomials p n) y) ↔ ((x : Polynomial p n) × (polynomial_product p n (frobenius_twist p n k f) x ≡ y))
    unfolding flip each
    coboundary_element k y = (
      λ h.
          let x : Polynomial p n = h.0 zero only zero only in
          let q : element (polynomials p n) x ≡ h.0 = single (polynomials_laws p n) (frobenius_twist p n) (element (polynomials p n) x) h.0 refl in
          (x, element_entry (polynomial_product p n (frobenius_twist p n k f) x) y (sym (element_product (frobenius_twist p n k f) x) ∙ ap (mul (polynomials p n) (element (polynomials p n) (frobenius_twist p n k f))) q ∙ sym (ap (λ A. mul (polynomials p n) (flip (polynomials p n) {m = 1} {n = 1} (each (polynomials p n) (frobenius_twist p n k) {m = 1} {n = 1} A)) h.0) (one_read f)) ∙ h.1)),
      λ h. (element (polynomials p n) h.0, ap (λ A. mul (polynomials p n) (flip (polynomials p n) {m = 1} {n = 1} (each (polynomials p n) (frobenius_twist p n k) {m = 1} {n = 1} A)) (element (polynomials p n) h.0)) (one_read f) ∙ element_product (frobenius_twist p n k f) h.0 ∙ ap (element (polynomials p n)) h.1),
    )

    vector_element : (z : Polynomial p n) → vector (polynomials p n) 1 (z ∷ []) ≡ element (polynomials p n) z
    unfolding component
    vector_element z = single (polynomials_laws p n) (frobenius_twist p n) (vector (polynomials p n) 1 (z ∷ [])) (element (polynomials p n) z) refl

    -- any number of moves makes z a coboundary exactly if f^[q] divides z
    killed_element : (s e : ℕ) (z : Polynomial p n) → IsKilledBy (matrices p n) D s e (vector (polynomials p n) 1 (z ∷ [])) ↔ ((x : Polynomial p n) × (polynomial_product p n (frobenius_twist p n e f) x ≡ z))
    killed_element s e z = (there, back)
      where
        r : (y : Polynomial p n) × (moved (matrices p n) D s e (element (polynomials p n) z) ≡ element (polynomials p n) y) × (polynomial_product p n (frobenius_twist p n e f) y ≡ polynomial_product p n (frobenius_twist p n (e + s) f) z)
        r = moved_element s e z

        read_z : vector (polynomials p n) 1 (z ∷ []) ≡ element (polynomials p n) z
        read_z = vector_element z

        both : IsKilledBy (matrices p n) D s e (vector (polynomials p n) 1 (z ∷ [])) ↔ IsCoboundary (matrices p n) D (e + s) (element (polynomials p n) r.0)
        both =
            subst (λ v. IsKilledBy (matrices p n) D s e (vector (polynomials p n) 1 (z ∷ [])) ↔ IsCoboundary (matrices p n) D (e + s) v) (ap (moved (matrices p n) D s e) read_z ∙ r.1) ((λ h. h), (λ h. h))

        there : IsKilledBy (matrices p n) D s e (vector (polynomials p n) 1 (z ∷ [])) → (x : Polynomial p n) × (polynomial_product p n (frobenius_twist p n e f) x ≡ z)
        there h =
            let c = (coboundary_element (e + s) r.0).0 (both.0 h) in
            let a : polynomial_product p n (frobenius_twist p n (e + s) f) (polynomial_product p n (frobenius_twist p n e f) c.0) ≡ polynomial_product p n (frobenius_twist p n (e + s) f) z = product_left_comm (frobenius_twist p n (e + s) f) (frobenius_twist p n e f) c.0 ∙ ap (polynomial_product p n (frobenius_twist p n e f)) c.1 ∙ r.2 in
            (c.0, cancel_factor p n (frobenius_twist p n (e + s) f) (polynomial_product p n (frobenius_twist p n e f) c.0) z (twist_nonzero (e + s)) a)

        back : (x : Polynomial p n) × (polynomial_product p n (frobenius_twist p n e f) x ≡ z) → IsKilledBy (matrices p n) D s e (vector (polynomials p n) 1 (z ∷ []))
        back h =
            let a : polynomial_product p n (frobenius_twist p n e f) (polynomial_product p n (frobenius_twist p n (e + s) f) h.0) ≡ polynomial_product p n (frobenius_twist p n e f) r.0 = product_left_comm (frobenius_twist p n e f) (frobenius_twist p n (e + s) f) h.0 ∙ ap (polynomial_product p n (frobenius_twist p n (e + s) f)) h.1 ∙ sym r.2 in
            both.1 ((coboundary_element (e + s) r.0).1 (h.0, cancel_factor p n (frobenius_twist p n e f) (polynomial_product p n (frobenius_twist p n (e + s) f) h.0) r.0 (twist_nonzero e) a))

    pub principal_killed : (s e : ℕ) (z : Polynomial p n) → IsCoboundaryAfter p n 1 (principal p n f) s e (z ∷ []) ↔ ((x : Polynomial p n) × (polynomial_product p n (frobenius_twist p n e f) x ≡ z))
    unfolding IsCoboundaryAfter principal matrix_at d_below
    principal_killed s e z = killed_element s e z

    pub principal_zero : (e : ℕ) (z : Polynomial p n) → IsZeroClass p n 1 (principal p n f) e (z ∷ []) ↔ ((x : Polynomial p n) × (polynomial_product p n (frobenius_twist p n e f) x ≡ z))
    unfolding IsZeroClass principal matrix_at d_below
    principal_zero e z = (λ h. (killed_element h.0 e z).0 h.1, λ h. (0, (killed_element 0 e z).1 h))

-- ---- the ideal (x) over GF(2)[x] at stage 1
-- x
abbrev pub x : Polynomial Two 1
x = polynomial_term Two 1 1 (1 ∷ [])

pub x_nonzero : ¬ (x ≡ polynomial_zero Two 1)
x_nonzero h =
    let a : coefficient Two 1 x (1 ∷ []) ≡ 1 = coefficient_term Two 1 1 (1 ∷ []) refl in
    let b : coefficient Two 1 x (1 ∷ []) ≡ 0 = ap (λ f. coefficient Two 1 f (1 ∷ [])) h ∙ coefficient_zero Two 1 (1 ∷ []) in
    absurd (omega arith)

one_not_zero : (k : ℕ) → 1 ≡ k → k ≡ 0 → ⊥
one_not_zero k a b = omega arith

one_not_even : (k i : ℕ) → 1 ≡ k → k ≡ 2 * i → ⊥
one_not_even k i a b = omega arith

no_double : (b : List ℕ) → ¬ ((1 ∷ []) ≡ tuple_multiple 2 b)
no_double [] e = one_not_zero (length {A = ℕ} (1 ∷ [])) refl (ap length e)
no_double (i ∷ b) e = one_not_even (get_or (1 ∷ []) 0 0) i refl (ap (λ k. get_or k 0 0) e)

-- x has no constant term
pub x_at_zero : coefficient Two 1 x (0 ∷ []) ≡ 0
x_at_zero = coefficient_term_elsewhere Two 1 1 (1 ∷ []) (0 ∷ []) (λ e. let h : 0 ≡ 1 = heads e in absurd (omega arith))
  where
    heads : {i j : ℕ} {a b : List ℕ} → i ∷ a ≡ j ∷ b → i ≡ j
    heads e = cc

-- the twist of x has no constant term and no term x
twist_at_zero : coefficient Two 1 (frobenius_twist Two 1 1 x) (0 ∷ []) ≡ 0
twist_at_zero = twist_at_multiple Two 1 1 x (0 ∷ []) ∙ x_at_zero

twist_at_one : coefficient Two 1 (frobenius_twist Two 1 1 x) (1 ∷ []) ≡ 0
twist_at_one = twist_elsewhere Two 1 1 x (1 ∷ []) no_double

-- x^2 does not divide x
not_divisible : (y : Polynomial Two 1) → ¬ (polynomial_product Two 1 (frobenius_twist Two 1 1 x) y ≡ x)
unfolding over_splits over_pairs
not_divisible y h =
    let f : Polynomial Two 1 = frobenius_twist Two 1 1 x in
    let a : coefficient Two 1 x (1 ∷ []) ≡ 1 = coefficient_term Two 1 1 (1 ∷ []) refl in
    let b : coefficient Two 1 (polynomial_product Two 1 f y) (1 ∷ []) ≡ (coefficient Two 1 f (0 ∷ []) * coefficient Two 1 y (1 ∷ []) + coefficient Two 1 f (1 ∷ []) * coefficient Two 1 y (0 ∷ [])) % 2 = coefficient_product Two 1 f y (1 ∷ []) in
    let c : coefficient Two 1 (polynomial_product Two 1 f y) (1 ∷ []) ≡ 0 = b ∙ ap₂ (λ u v. (u * coefficient Two 1 y (1 ∷ []) + v * coefficient Two 1 y (0 ∷ [])) % 2) twist_at_zero twist_at_one ∙ nothing (coefficient Two 1 y (1 ∷ [])) (coefficient Two 1 y (0 ∷ [])) in
    let d : coefficient Two 1 (polynomial_product Two 1 f y) (1 ∷ []) ≡ coefficient Two 1 x (1 ∷ []) = ap (λ g. coefficient Two 1 g (1 ∷ [])) h in
    absurd (omega arith)
  where
    nothing : (u v : ℕ) → (0 * u + 0 * v) % 2 ≡ 0
    nothing u v = let q : 0 * u + 0 * v ≡ 0 = omega arith in ap (λ k. k % 2) q

-- the class x at stage 1 is never a coboundary
pub x_at_stage_one : IsZeroClass Two 1 1 (principal Two 1 x) 1 (x ∷ []) → ⊥
x_at_stage_one h = let r = (principal_zero Two 1 x x_nonzero 1 x).0 h in not_divisible r.0 r.1

-- the class x^2 at stage 1 is one
pub x_squared_at_stage_one : IsCoboundaryAfter Two 1 1 (principal Two 1 x) 0 1 (polynomial_power Two 1 2 x ∷ [])
unfolding polynomial_product polynomial_one
x_squared_at_stage_one =
    (principal_killed Two 1 x x_nonzero 0 1 (polynomial_power Two 1 2 x)).1 (polynomial_one Two 1, mul_one (polynomials_laws Two 1) (frobenius_twist Two 1 1 x) ∙ sym (prime_power_is_twist Two 1 x))
