-- What is said of the limit does not depend on the resolution and the lifts, in the words of contracts
use Rattle.std.proofs.Common.{ℕ, zero, ◌≡◌, ◌∙◌, ◌↔◌, refl, sym, ap, subst, arith, add-zero, Bool, List, [], ◌∷◌, length, Option, Some, None}
use Rattle.fm_gfp.specs.Primes.{prime_value}
use Rattle.fm_gfp.proofs.Residues.{prime_positive}
use Rattle.fm_gfp.specs.declared.prime.Prime.{Prime}
use Rattle.fm_algebra.specs.Families.{only, Mat, mul, add, neg, read, vector, element, unit, flip, each}
use Rattle.fm_algebra.specs.Matrix.{component}
use Rattle.fm_algebra.specs.Image as image
use Rattle.fm_algebra.specs.Polynomials.{Polynomial, polynomials, polynomial_power, frobenius_twist}
use Rattle.fm_algebra.specs.PolynomialMatrices.{PolynomialMatrix, HasShape, matrix_transpose, matrix_twist, vector_product, InImage}
use Rattle.fm_algebra.proofs.Concrete.{polynomials_laws}
use Rattle.fm_algebra.proofs.FamilyPowers.{single}
use Rattle.fm_algebra.proofs.Images.{within_columns}
use Rattle.fm_algebra.proofs.Tables.{vector_apply, length-apply, list_of, length-list_of, vector_list_of, vector_injective}
use Rattle.fm_algebra.proofs.ListImages.{through, list_image, turned}
use Rattle.fm_limit.specs.System as system
use Rattle.fm_limit.specs.DirectSystem.{IsCocycle, IsCoboundary, IsKilledBy, IsZeroInLimit}
use Rattle.fm_limit.specs.Limit.{mapped}
use Rattle.fm_limit.specs.ResolvedIdeal.{ResolvedIdeal, matrix_at, row, InIdeal, LiesIn, IsResolved, IsLiftOfIdentityOf, rank}
use Rattle.fm_limit.specs.Classes.{matrices, complex_of, theta_of, lambda_of, degree_in, length_in, vector_in, image_of, IsClass, IsCoboundaryAfter, IsZeroClass, IsSameClass, IsZeroLimit, VanishesAfterInverting, AnnihilatesClasses, IsEnoughMoves, IsSupportIdealOf, IsMapOfClasses, IsZeroMap, IsOneToOneMap, IsOntoMap, IsOntoAfter}
use Rattle.fm_limit.specs.Verdicts.{IsLeast, zero_limit, inverting, support, Holds, HoldsOfOnto, induced_map, zero_class}
use Rattle.fm_limit.proofs.FactsRead.{matrices_laws, matrices_power, resolution_read, frobenius_read, identity_read}
use Rattle.fm_limit.proofs.Resolved.{Resolved, Inside, carried_class, carried_killed, carried_zero, carried_onto, same_zero, same_vanishing, same_annihilators, same_enough, same_support, same_map_classes, same_map_zero, same_map_one, same_map_onto, same_onto_by}
use Rattle.fm_limit.proofs.MatrixWords.{dual_fits, dual_read, row_fits, unit_read}
use Rattle.fm_limit.proofs.Resolutions.{IsLiftOfIdentity}
use Rattle.fm_limit.proofs.Independence.{flip_unit, lift_exists}

module _ (p : Prime) (n : ℕ) where
  -- an ideal with its resolution and its lift, as the theory has it
  abbrev pub resolved_read : {i : ℕ} {I : ResolvedIdeal p n} → IsResolved p n i I → Resolved (matrices p n) i
  resolved_read {i} {I} r = record {
    size = length I.generators;
    ideal = read (polynomials p n) 1 (length I.generators) (row p n I.generators);
    P = complex_of p n I.differentials;
    resolves = resolution_read p n r.resolution;
    theta = theta_of p n I.differentials I.lift;
    lifts = frobenius_read p n r.resolution r.frobenius;
  }

  -- membership of an element of the ring
  pub member_read : (fs : List (Polynomial p n)) (f : Polynomial p n) → InIdeal p n fs f ↔ image.InImage (matrices p n) (read (polynomials p n) 1 (length fs) (row p n fs)) (element (polynomials p n) f)
  unfolding InIdeal InImage HasShape component
  member_read fs f =
      let s = row_fits p n fs in
      subst (λ x. InIdeal p n fs f ↔ image.InImage (matrices p n) (read (polynomials p n) 1 (length fs) (row p n fs)) x) (single (polynomials_laws p n) (frobenius_twist p n) (vector (polynomials p n) 1 (f ∷ [])) (element (polynomials p n) f) refl) (list_image (polynomials p n) (frobenius_twist p n) 1 (length fs) (row p n fs) (f ∷ []) s.0 s.1 refl)

  -- an ideal lies in another, by rows of generators
  pub lies_read : (fs gs : List (Polynomial p n)) → LiesIn p n fs gs → image.InImage (matrices p n) (read (polynomials p n) 1 (length gs) (row p n gs)) (read (polynomials p n) 1 (length fs) (row p n fs))
  lies_read fs gs w =
      within_columns (matrices_laws p n) (read (polynomials p n) 1 (length gs) (row p n gs)) (read (polynomials p n) 1 (length fs) (row p n fs)) (λ v h.
      let f : Polynomial p n = v zero only zero only in
      let q : element (polynomials p n) f ≡ v = single (polynomials_laws p n) (frobenius_twist p n) (element (polynomials p n) f) v refl in
      subst (λ x. image.InImage (matrices p n) (read (polynomials p n) 1 (length gs) (row p n gs)) x) q ((member_read gs f).0 (w f ((member_read fs f).1 (subst (λ x. image.InImage (matrices p n) (read (polynomials p n) 1 (length fs) (row p n fs)) x) (sym q) h)))))

  pub inside_read : {i : ℕ} {I J : ResolvedIdeal p n} (r : IsResolved p n i I) (s : IsResolved p n i J) → LiesIn p n I.generators J.generators → Inside (resolved_read r) (resolved_read s)
  inside_read {i} {I} {J} r s w = lies_read I.generators J.generators w

  -- ---- the map that a lift of the identity induces
  module _ {i : ℕ} {I J : ResolvedIdeal p n} {ls : List (PolynomialMatrix p n)} (r : IsResolved p n i I) (s : IsResolved p n i J) (k : IsLiftOfIdentityOf p n i I.differentials J.differentials ls) where
    pub image_read : (e : ℕ) (z : List (Polynomial p n))
        → vector_in p n i I (image_of p n i ls e z) ≡ mapped (matrices p n) (degree_in p n i J) (degree_in p n i I) (lambda_of p n I.differentials J.differentials ls i) e (vector_in p n i J z)
    unfolding image_of vector_product HasShape
    image_read e z =
        let a = length_in p n i J in
        let b = length_in p n i I in
        let f = k.fits i (let c = k.count in omega arith) in
        let d = dual_fits p n e a b (matrix_at p n ls i) f in
        vector_apply (polynomials p n) b a (matrix_transpose p n (matrix_twist p n e (matrix_at p n ls i))) z d.0 d.1 ∙ ap (λ X. mul (polynomials p n) X (vector (polynomials p n) a z)) (dual_read p n e a b (matrix_at p n ls i) f)

    pub image_length_words : (e : ℕ) (z : List (Polynomial p n)) → length (image_of p n i ls e z) ≡ length_in p n i I
    unfolding image_of vector_product HasShape
    image_length_words e z =
        let f = k.fits i (let c = k.count in omega arith) in
        let d = dual_fits p n e (length_in p n i J) (length_in p n i I) (matrix_at p n ls i) f in
        length-apply (polynomials p n) (matrix_transpose p n (matrix_twist p n e (matrix_at p n ls i))) z ∙ d.0

    -- where I lies in J, classes are mapped to classes
    pub carried_class_words : LiesIn p n I.generators J.generators → (e : ℕ) (z : List (Polynomial p n)) → IsClass p n i J e z → IsClass p n i I e (image_of p n i ls e z)
    carried_class_words ij e z c = record {
      fits = image_length_words e z;
      cocycle = subst (λ x. IsCocycle (matrices p n) (degree_in p n i I) e x) (sym (image_read e z)) (carried_class (matrices_laws p n) (prime_value p) (prime_positive p) (matrices_power p n) (resolved_read r) (resolved_read s) (lambda_of p n I.differentials J.differentials ls) (identity_read p n r.resolution s.resolution k) (inside_read r s ij) e (vector_in p n i J z) c.cocycle);
    }

  -- in degree 0 the image of z is z
  pub image_first : {I J : ResolvedIdeal p n} {ls : List (PolynomialMatrix p n)} (r : IsResolved p n 0 I) (s : IsResolved p n 0 J) (k : IsLiftOfIdentityOf p n 0 I.differentials J.differentials ls)
      → (e : ℕ) (z : List (Polynomial p n)) → length z ≡ 1 → image_of p n 0 ls e z ≡ z
  image_first {I} {J} {ls} r s k e z l =
      let v = vector (polynomials p n) 1 z in
      let q : read (polynomials p n) 1 1 (matrix_at p n ls 0) ≡ unit (polynomials p n) 1 = ap (read (polynomials p n) 1 1) k.first ∙ unit_read p n 1 in
      let a : mapped (matrices p n) (degree_in p n 0 J) (degree_in p n 0 I) (lambda_of p n I.differentials J.differentials ls 0) e v ≡ v = ap (λ A. mul (polynomials p n) (flip (polynomials p n) {m = 1} {n = 1} (each (polynomials p n) (frobenius_twist p n e) {m = 1} {n = 1} A)) v) q ∙ ap (λ A. mul (polynomials p n) (flip (polynomials p n) {m = 1} {n = 1} A) v) ((matrices_laws p n).twist_unit e 1) ∙ ap (λ A. mul (polynomials p n) A v) (flip_unit (matrices_laws p n) 1) ∙ (matrices_laws p n).unit_left v in
      vector_injective (polynomials p n) 1 (image_of p n 0 ls e z) z (image_length_words r s k e z) l (image_read r s k e z ∙ a)

  -- ---- one ideal, resolved twice
  module _ {i : ℕ} {I J : ResolvedIdeal p n} (r : IsResolved p n i I) (s : IsResolved p n i J) (ij : LiesIn p n I.generators J.generators) (ji : LiesIn p n J.generators I.generators) where
    pub zero_words : IsZeroLimit p n i I ↔ IsZeroLimit p n i J
    unfolding IsZeroLimit
    zero_words = (
      same_zero (matrices_laws p n) (prime_value p) (prime_positive p) (matrices_power p n) (resolved_read r) (resolved_read s) (inside_read r s ij) (inside_read s r ji),
      same_zero (matrices_laws p n) (prime_value p) (prime_positive p) (matrices_power p n) (resolved_read s) (resolved_read r) (inside_read s r ji) (inside_read r s ij),
    )

    pub vanishes_words : (f : Polynomial p n) → VanishesAfterInverting p n i I f ↔ VanishesAfterInverting p n i J f
    unfolding VanishesAfterInverting
    vanishes_words f = (
      same_vanishing (matrices_laws p n) (prime_value p) (prime_positive p) (matrices_power p n) (resolved_read r) (resolved_read s) (inside_read r s ij) (inside_read s r ji) (element (polynomials p n) f),
      same_vanishing (matrices_laws p n) (prime_value p) (prime_positive p) (matrices_power p n) (resolved_read s) (resolved_read r) (inside_read s r ji) (inside_read r s ij) (element (polynomials p n) f),
    )

    pub annihilates_words : (a : Polynomial p n) → AnnihilatesClasses p n i I a ↔ AnnihilatesClasses p n i J a
    unfolding AnnihilatesClasses
    annihilates_words a = (
      same_annihilators (matrices_laws p n) (prime_value p) (prime_positive p) (matrices_power p n) (resolved_read r) (resolved_read s) (inside_read r s ij) (inside_read s r ji) (element (polynomials p n) a),
      same_annihilators (matrices_laws p n) (prime_value p) (prime_positive p) (matrices_power p n) (resolved_read s) (resolved_read r) (inside_read s r ji) (inside_read r s ij) (element (polynomials p n) a),
    )

    pub enough_words : (t : ℕ) → IsEnoughMoves p n i I t ↔ IsEnoughMoves p n i J t
    unfolding IsEnoughMoves
    enough_words t = (
      same_enough (matrices_laws p n) (prime_value p) (prime_positive p) (matrices_power p n) (resolved_read r) (resolved_read s) (inside_read r s ij) (inside_read s r ji) t,
      same_enough (matrices_laws p n) (prime_value p) (prime_positive p) (matrices_power p n) (resolved_read s) (resolved_read r) (inside_read s r ji) (inside_read r s ij) t,
    )

    pub support_words : (fs : List (Polynomial p n)) → IsSupportIdealOf p n i I fs → IsSupportIdealOf p n i J fs
    unfolding IsSupportIdealOf
    support_words fs =
        same_support (matrices_laws p n) (prime_value p) (prime_positive p) (matrices_power p n) (resolved_read r) (resolved_read s) (inside_read r s ij) (inside_read s r ji) (λ a. image.InImage (matrices p n) (read (polynomials p n) 1 (length fs) (row p n fs)) a)

    least_words : (P Q : ℕ → Type 0) → ((k : ℕ) → P k ↔ Q k) → (m : ℕ) → IsLeast P m → IsLeast Q m
    least_words P Q f m h = ((f m).0 h.0, λ k q. h.1 k ((f k).1 q))

    -- the verdicts on one ideal hold for every resolution and lift
    pub zero_verdict_words : (answer : Bool) (t : ℕ) → Holds p n (zero_limit i I answer t) → Holds p n (zero_limit i J answer t)
    zero_verdict_words answer t h = (through h.0 zero_words, least_words (IsEnoughMoves p n i I) (IsEnoughMoves p n i J) enough_words t h.1)

    pub inverting_verdict_words : (f : Polynomial p n) (power : Option ℕ) → Holds p n (inverting i I f power) → Holds p n (inverting i J f power)
    inverting_verdict_words f (Some k) h = (
      (vanishes_words f).0 h.0,
      least_words (λ k. AnnihilatesClasses p n i I (polynomial_power p n k f)) (λ k. AnnihilatesClasses p n i J (polynomial_power p n k f)) (λ k. annihilates_words (polynomial_power p n k f)) k h.1,
    )
    inverting_verdict_words f None h = λ v. h ((vanishes_words f).1 v)

    pub support_verdict_words : (fs : List (Polynomial p n)) → Holds p n (support i I fs) → Holds p n (support i J fs)
    support_verdict_words fs h = (support_words fs h.0, λ a. through (h.1 a) (annihilates_words a))

    -- ---- classes are carried over by lifts of the identity
    module _ {ls : List (PolynomialMatrix p n)} (k : IsLiftOfIdentityOf p n i I.differentials J.differentials ls) where
      -- a lift in the other direction
      other : (l : (j : ℕ) → (matrices p n).Mat (rank p n I.differentials j) (rank p n J.differentials j)) × IsLiftOfIdentity (matrices p n) i (complex_of p n J.differentials) (complex_of p n I.differentials) l
      other =
          lift_exists (matrices_laws p n) i (complex_of p n J.differentials) (complex_of p n I.differentials) (resolution_read p n s.resolution) (resolution_read p n r.resolution) (inside_read s r ji)

      pub carried_killed_words : (m e : ℕ) (z : List (Polynomial p n)) → IsClass p n i J e z → IsCoboundaryAfter p n i J m e z ↔ IsCoboundaryAfter p n i I m e (image_of p n i ls e z)
      unfolding IsCoboundaryAfter
      carried_killed_words m e z c =
          subst (λ x. IsCoboundaryAfter p n i J m e z ↔ IsKilledBy (matrices p n) (degree_in p n i I) m e x) (sym (image_read r s k e z)) (carried_killed (matrices_laws p n) (prime_value p) (prime_positive p) (matrices_power p n) (resolved_read r) (resolved_read s) (lambda_of p n I.differentials J.differentials ls) other.0 (identity_read p n r.resolution s.resolution k) other.1 (inside_read r s ij) m e (vector_in p n i J z) c.cocycle)

      pub carried_zero_words : (e : ℕ) (z : List (Polynomial p n)) → IsClass p n i J e z → IsZeroClass p n i J e z ↔ IsZeroClass p n i I e (image_of p n i ls e z)
      unfolding IsZeroClass
      carried_zero_words e z c =
          subst (λ x. IsZeroClass p n i J e z ↔ IsZeroInLimit (matrices p n) (degree_in p n i I) e x) (sym (image_read r s k e z)) (carried_zero (matrices_laws p n) (prime_value p) (prime_positive p) (matrices_power p n) (resolved_read r) (resolved_read s) (lambda_of p n I.differentials J.differentials ls) other.0 (identity_read p n r.resolution s.resolution k) other.1 (inside_read r s ij) e (vector_in p n i J z) c.cocycle)

      -- so the verdict on a class is that on what it is carried to
      pub carried_verdict_words : (e : ℕ) (z : List (Polynomial p n)) → IsClass p n i J e z → (stage : Option ℕ) → Holds p n (zero_class i J e z stage) ↔ Holds p n (zero_class i I e (image_of p n i ls e z) stage)
      carried_verdict_words e z c (Some stage) =
          let P : ℕ → Type 0 = λ m. IsCoboundaryAfter p n i J m e z in
          let Q : ℕ → Type 0 = λ m. IsCoboundaryAfter p n i I m e (image_of p n i ls e z) in
          let f : (m : ℕ) → P m ↔ Q m = λ m. carried_killed_words m e z c in (
            λ h. (carried_class_words r s k ij e z c, (h.1.0, h.1.1, least_words P Q f h.1.0 h.1.2)),
            λ h. (c, (h.1.0, h.1.1, least_words Q P (λ m. turned (f m)) h.1.0 h.1.2)),
          )
      carried_verdict_words e z c None = (
        λ h. (carried_class_words r s k ij e z c, λ q. h.1 ((carried_zero_words e z c).1 q)),
        λ h. (c, λ q. h.1 ((carried_zero_words e z c).0 q)),
      )

      -- each class is the same in the limit as one that is carried over, at its own stage
      pub carried_onto_words : (e : ℕ) (z : List (Polynomial p n)) → IsClass p n i I e z → (z' : List (Polynomial p n)) × IsClass p n i J e z' × IsSameClass p n i I e z e (image_of p n i ls e z')
      unfolding IsSameClass system.moved
      carried_onto_words e z c =
          let b = length_in p n i J in
          let h = carried_onto (matrices_laws p n) (prime_value p) (prime_positive p) (matrices_power p n) (resolved_read r) (resolved_read s) (lambda_of p n I.differentials J.differentials ls) other.0 (identity_read p n r.resolution s.resolution k) other.1 (inside_read s r ji) e (vector_in p n i I z) c.cocycle in
          let y : List (Polynomial p n) = list_of (polynomials p n) b h.0 in
          let q = vector_list_of (polynomials p n) b h.0 in
          let v = mapped (matrices p n) (degree_in p n i J) (degree_in p n i I) (lambda_of p n I.differentials J.differentials ls i) e h.0 in
          let w : v ≡ vector_in p n i I (image_of p n i ls e y) = ap (mapped (matrices p n) (degree_in p n i J) (degree_in p n i I) (lambda_of p n I.differentials J.differentials ls i) e) (sym q) ∙ sym (image_read r s k e y) in
          let d : IsCoboundary (matrices p n) (degree_in p n i I) e (add (polynomials p n) (vector_in p n i I z) (neg (polynomials p n) (vector_in p n i I (image_of p n i ls e y)))) = subst (λ x. IsCoboundary (matrices p n) (degree_in p n i I) e (add (polynomials p n) (vector_in p n i I z) (neg (polynomials p n) x))) w h.2 in (
            y,
            record { fits = length-list_of (polynomials p n) b h.0; cocycle = subst (λ x. IsCocycle (matrices p n) (degree_in p n i J) e x) (sym q) h.1 },
            (zero, zero, refl, subst (λ x. IsCoboundary (matrices p n) (degree_in p n i I) x (add (polynomials p n) (vector_in p n i I z) (neg (polynomials p n) (vector_in p n i I (image_of p n i ls e y))))) (sym (add-zero e)) d),
          )

  -- ---- two inclusions of one ideal in another, resolved and lifted twice
  module _ {i : ℕ} {I J I2 J2 : ResolvedIdeal p n} {ls ms : List (PolynomialMatrix p n)} (rI : IsResolved p n i I) (rJ : IsResolved p n i J) (rI2 : IsResolved p n i I2) (rJ2 : IsResolved p n i J2) (ii : LiesIn p n I.generators I2.generators) (i2 : LiesIn p n I2.generators I.generators) (jj : LiesIn p n J.generators J2.generators) (j2 : LiesIn p n J2.generators J.generators) (k : IsLiftOfIdentityOf p n i I.differentials J.differentials ls) (l : IsLiftOfIdentityOf p n i I2.differentials J2.differentials ms) (to_classes : (e : ℕ) (z : List (Polynomial p n)) → IsClass p n i J e z → IsClass p n i I e (image_of p n i ls e z)) where
    classes_read : (e : ℕ) (z : Mat (polynomials p n) (length_in p n i J) 1) → IsCocycle (matrices p n) (degree_in p n i J) e z → IsCocycle (matrices p n) (degree_in p n i I) e (mapped (matrices p n) (degree_in p n i J) (degree_in p n i I) (lambda_of p n I.differentials J.differentials ls i) e z)
    classes_read e z c =
        let b = length_in p n i J in
        let y : List (Polynomial p n) = list_of (polynomials p n) b z in
        let q = vector_list_of (polynomials p n) b z in
        let h = to_classes e y (record { fits = length-list_of (polynomials p n) b z; cocycle = subst (λ x. IsCocycle (matrices p n) (degree_in p n i J) e x) (sym q) c }) in
        subst (λ x. IsCocycle (matrices p n) (degree_in p n i I) e x) (image_read rI rJ k e y ∙ ap (mapped (matrices p n) (degree_in p n i J) (degree_in p n i I) (lambda_of p n I.differentials J.differentials ls i) e) q) h.cocycle

    pub zero_map_words : IsZeroMap p n i J I ls → IsZeroMap p n i J2 I2 ms
    unfolding IsZeroMap
    zero_map_words =
        same_map_zero (matrices_laws p n) (prime_value p) (prime_positive p) (matrices_power p n) (resolved_read rI) (resolved_read rJ) (resolved_read rI2) (resolved_read rJ2) (inside_read rI rI2 ii) (inside_read rI2 rI i2) (inside_read rJ rJ2 jj) (inside_read rJ2 rJ j2) (lambda_of p n I.differentials J.differentials ls) (lambda_of p n I2.differentials J2.differentials ms) (identity_read p n rI.resolution rJ.resolution k) (identity_read p n rI2.resolution rJ2.resolution l) classes_read

    pub one_map_words : IsOneToOneMap p n i J I ls → IsOneToOneMap p n i J2 I2 ms
    unfolding IsOneToOneMap
    one_map_words =
        same_map_one (matrices_laws p n) (prime_value p) (prime_positive p) (matrices_power p n) (resolved_read rI) (resolved_read rJ) (resolved_read rI2) (resolved_read rJ2) (inside_read rI rI2 ii) (inside_read rI2 rI i2) (inside_read rJ rJ2 jj) (inside_read rJ2 rJ j2) (lambda_of p n I.differentials J.differentials ls) (lambda_of p n I2.differentials J2.differentials ms) (identity_read p n rI.resolution rJ.resolution k) (identity_read p n rI2.resolution rJ2.resolution l) classes_read

    pub onto_map_words : IsOntoMap p n i J I ls → IsOntoMap p n i J2 I2 ms
    unfolding IsOntoMap
    onto_map_words =
        same_map_onto (matrices_laws p n) (prime_value p) (prime_positive p) (matrices_power p n) (resolved_read rI) (resolved_read rJ) (resolved_read rI2) (resolved_read rJ2) (inside_read rI rI2 ii) (inside_read rI2 rI i2) (inside_read rJ rJ2 jj) (inside_read rJ2 rJ j2) (lambda_of p n I.differentials J.differentials ls) (lambda_of p n I2.differentials J2.differentials ms) (identity_read p n rI.resolution rJ.resolution k) (identity_read p n rI2.resolution rJ2.resolution l) classes_read

    pub onto_after_words : (s : ℕ) → IsOntoAfter p n i J I ls s → IsOntoAfter p n i J2 I2 ms s
    unfolding IsOntoAfter
    onto_after_words =
        same_onto_by (matrices_laws p n) (prime_value p) (prime_positive p) (matrices_power p n) (resolved_read rI) (resolved_read rJ) (resolved_read rI2) (resolved_read rJ2) (inside_read rI rI2 ii) (inside_read rI2 rI i2) (inside_read rJ rJ2 jj) (inside_read rJ2 rJ j2) (lambda_of p n I.differentials J.differentials ls) (lambda_of p n I2.differentials J2.differentials ms) (identity_read p n rI.resolution rJ.resolution k) (identity_read p n rI2.resolution rJ2.resolution l) classes_read

    -- the second lift takes classes to classes too
    classes_words : IsMapOfClasses p n i J2 I2 ms
    classes_words e z c = record {
      fits = image_length_words rI2 rJ2 l e z;
      cocycle = subst (λ x. IsCocycle (matrices p n) (degree_in p n i I2) e x) (sym (image_read rI2 rJ2 l e z)) (same_map_classes (matrices_laws p n) (prime_value p) (prime_positive p) (matrices_power p n) (resolved_read rI) (resolved_read rJ) (resolved_read rI2) (resolved_read rJ2) (inside_read rI rI2 ii) (inside_read rI2 rI i2) (inside_read rJ rJ2 jj) (inside_read rJ2 rJ j2) (lambda_of p n I.differentials J.differentials ls) (lambda_of p n I2.differentials J2.differentials ms) (identity_read p n rI.resolution rJ.resolution k) (identity_read p n rI2.resolution rJ2.resolution l) classes_read e (vector_in p n i J2 z) c.cocycle);
    }

  -- ---- the verdict on an induced map holds for every choice
  module _ {i : ℕ} {I J I2 J2 : ResolvedIdeal p n} {ls ms : List (PolynomialMatrix p n)} (rI : IsResolved p n i I) (rJ : IsResolved p n i J) (rI2 : IsResolved p n i I2) (rJ2 : IsResolved p n i J2) (ii : LiesIn p n I.generators I2.generators) (i2 : LiesIn p n I2.generators I.generators) (jj : LiesIn p n J.generators J2.generators) (j2 : LiesIn p n J2.generators J.generators) (k : IsLiftOfIdentityOf p n i I.differentials J.differentials ls) (l : IsLiftOfIdentityOf p n i I2.differentials J2.differentials ms) (c : IsMapOfClasses p n i J I ls) where
    back_classes : IsMapOfClasses p n i J2 I2 ms
    back_classes = classes_words rI rJ rI2 rJ2 ii i2 jj j2 k l c

    onto_words : (onto : Option ℕ) → HoldsOfOnto p n i J I ls onto → HoldsOfOnto p n i J2 I2 ms onto
    onto_words (Some s) h = (
      onto_map_words rI rJ rI2 rJ2 ii i2 jj j2 k l c h.0,
      (
        onto_after_words rI rJ rI2 rJ2 ii i2 jj j2 k l c s h.1.0,
        λ m q. h.1.1 m (onto_after_words rI2 rJ2 rI rJ i2 ii j2 jj l k back_classes m q),
      ),
    )
    onto_words None h = λ q. h (onto_map_words rI2 rJ2 rI rJ i2 ii j2 jj l k back_classes q)

    pub map_verdict_words : (is_zero is_one : Bool) (onto : Option ℕ) → Holds p n (induced_map i J I ls is_zero is_one onto) → Holds p n (induced_map i J2 I2 ms is_zero is_one onto)
    map_verdict_words is_zero is_one onto h = (
      back_classes,
      through h.1 (zero_map_words rI rJ rI2 rJ2 ii i2 jj j2 k l c, zero_map_words rI2 rJ2 rI rJ i2 ii j2 jj l k back_classes),
      through h.2 (one_map_words rI rJ rI2 rJ2 ii i2 jj j2 k l c, one_map_words rI2 rJ2 rI rJ i2 ii j2 jj l k back_classes),
      onto_words onto h.3,
    )
