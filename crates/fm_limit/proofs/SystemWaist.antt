-- From the finite facts of a system to what is said of its limit
use Rattle.std.proofs.Common.{ℕ, zero, suc, ◌+◌, ◌≤◌, ◌≡◌, ◌∙◌, ◌↔◌, min, refl, sym, ap, subst, arith, List, [], ◌∷◌, length}
use Rattle.fm_gfp.specs.Primes.{prime_value}
use Rattle.fm_gfp.specs.declared.prime.Prime.{Prime}
use Rattle.fm_algebra.specs.Matrix.{component}
use Rattle.fm_algebra.specs.Families.{only, Mat, mul, each, scalar, read, vector, element}
use Rattle.fm_algebra.specs.Image.{InImage, pow}
use Rattle.fm_algebra.proofs.Generation.{Everything, SameImage}
use Rattle.fm_algebra.specs.Polynomials.{Polynomial, polynomials, polynomial_power, frobenius_twist}
use Rattle.fm_algebra.specs.PolynomialMatrices as words
use Rattle.fm_algebra.specs.PolynomialMatrices.{PolynomialMatrix, HasShape, matrix_unit, matrix_scalar, matrix_twist, vector_product, InKernel, InPreimage}
use Rattle.fm_algebra.proofs.Concrete.{polynomials_laws}
use Rattle.fm_algebra.proofs.Tables.{vector_apply}
use Rattle.fm_algebra.proofs.Images.{within_columns, within_twist}
use Rattle.fm_algebra.proofs.FamilyPowers.{single}
use Rattle.fm_algebra.proofs.ListImages.{through, turned}
use Rattle.fm_limit.specs.System.{System, IsKilledBy, IsZeroInLimit, LimitIsZero, IsEnough, Annihilates, VanishesInverting, IsSupportIdeal, IsRoot}
use Rattle.fm_limit.specs.ResolvedIdeal.{matrix_at, columns_of, row, InIdeal}
use Rattle.fm_limit.specs.Classes.{matrices}
use Rattle.fm_limit.specs.SystemFacts.{vector_of, SystemFacts, IsRootIn}
use Rattle.fm_limit.specs.Facts.{ColumnsInImage, IsEverything, IsFirstRepeat, AreCoordinates}
use Rattle.fm_limit.specs.Verdicts.{IsLeast}
use Rattle.fm_limit.proofs.SystemMoves.{killed_exactly, zero_exactly, is_root, zero_limit}
use Rattle.fm_limit.proofs.Vanishing.{stable_least, annihilates_exactly, vanishes_exactly, support_exactly, scalar_more}
use Rattle.fm_limit.proofs.FactsRead.{matrices_laws, matrices_flat, matrices_power, member, member_fits, same_members}
use native.Mathlib.Decide.{dec_le}
use Rattle.fm_limit.proofs.SystemRead.{system_read, system_begins}
use Rattle.fm_limit.proofs.MatrixWords.{image_words, shape_rows, twist_read, twist_fits, row_fits, columns_from, everything_read, scalar_columns_read, powers}

module _ (p : Prime) (n : ℕ) where
  -- ---- words of lists
  module _ {D : System (matrices p n)} {Z U : PolynomialMatrix p n} {Ks : List (PolynomialMatrix p n)} {t : ℕ} (X : SystemFacts p n D Z U Ks t) where
    -- the stable kernel
    abbrev pub S : PolynomialMatrix p n
    S = matrix_at p n Ks t

    abbrev pub g : ℕ
    g = length Z.columns

    stable_fits : HasShape p n g (columns_of p n Ks t) (matrix_at p n Ks t)
    stable_fits = member_fits p n g X.morphism_fits X.chain t (omega arith)

    -- the shape of the stable kernel, by its own number of rows
    pub stable_shape : HasShape p n S.rows (length S.columns) S
    stable_shape = subst (λ r. HasShape p n r (columns_of p n Ks t) S) (sym (shape_rows p n g (columns_of p n Ks t) S stable_fits)) stable_fits

    min_same : min t t ≡ t
    min_same = omega arith

    -- what holds of the member at the repeat holds of K_t
    at_stable : (P : (k : ℕ) → Mat (polynomials p n) g k → Type 0) → P (columns_of p n Ks (min t t)) (member p n g Ks (min t t)) → P (columns_of p n Ks t) (member p n g Ks t)
    at_stable P h = subst (λ x. P (columns_of p n Ks x) (member p n g Ks x)) min_same h

    -- the limit is zero exactly if the stable kernel is everything
    pub zero_fact : IsEverything p n S ↔ LimitIsZero (matrices p n) D
    zero_fact =
        through (everything_read p n g (columns_of p n Ks t) S stable_fits)
        (turned (at_stable (λ k A. LimitIsZero (matrices p n) D ↔ Everything (matrices p n) A) (zero_limit (matrices_laws p n) (matrices_flat p n) (system_read p n X))))

    -- the first repeat is the least number of moves
    pub least_fact : IsFirstRepeat p n Ks t → IsLeast (IsEnough (matrices p n) D) t
    least_fact first =
        stable_least (matrices_laws p n) (matrices_flat p n) (system_read p n X) (λ s b same.
        let a : min s t ≡ s = omega arith in
        let c : min (suc s) t ≡ suc s = omega arith in
        let h : SameImage (matrices p n) (member p n g Ks s) (member p n g Ks (suc s)) = subst (λ x. SameImage (matrices p n) (member p n g Ks s) (member p n g Ks x)) c (subst (λ x. SameImage (matrices p n) (member p n g Ks x) (member p n g Ks (min (suc s) t))) a same) in
        let fs = member_fits p n g X.morphism_fits X.chain s (omega arith) in
        let ft = member_fits p n g X.morphism_fits X.chain (suc s) (omega arith) in
        first s b ((columns_from p n g (columns_of p n Ks s) (columns_of p n Ks (suc s)) (matrix_at p n Ks s) (matrix_at p n Ks (suc s)) fs ft).1 (within_columns (matrices_laws p n) (member p n g Ks s) (member p n g Ks (suc s)) (λ v k. (h v).1 k))))

    -- ---- classes
    coordinates_read : (e : ℕ) (z w : List (Polynomial p n)) → AreCoordinates p n Z e z w
        → mul (polynomials p n) (each (polynomials p n) (frobenius_twist p n e) (read (polynomials p n) (D.size) g Z)) (vector (polynomials p n) g w) ≡ vector_of p n D z
    unfolding vector_product HasShape
    coordinates_read e z w c =
        let s = twist_fits p n e (D.size) g Z X.cocycles_fit in
        ap (λ A. mul (polynomials p n) A (vector (polynomials p n) g w)) (sym (twist_read p n e (D.size) g Z X.cocycles_fit))
        ∙ sym (vector_apply (polynomials p n) (D.size) g (matrix_twist p n e Z) w s.0 s.1)
        ∙ ap (vector_of p n D) c.1

    twist_member : (e s : ℕ) (w : List (Polynomial p n)) → s ≤ suc t → length w ≡ g
        → words.InImage p n (matrix_twist p n e (matrix_at p n Ks s)) w ↔ InImage (matrices p n) (each (polynomials p n) (frobenius_twist p n e) (member p n g Ks s)) (vector (polynomials p n) g w)
    twist_member e s w b l =
        let f = member_fits p n g X.morphism_fits X.chain s b in
        let k = columns_of p n Ks s in
        subst (λ A. words.InImage p n (matrix_twist p n e (matrix_at p n Ks s)) w ↔ InImage (matrices p n) A (vector (polynomials p n) g w)) (twist_read p n e g k (matrix_at p n Ks s) f) (image_words p n g k (matrix_twist p n e (matrix_at p n Ks s)) w (twist_fits p n e g k (matrix_at p n Ks s) f) l)

    -- s moves kill a class exactly if its coordinates are in the image of the twist of K_s
    pub killed_fact : (e : ℕ) (z w : List (Polynomial p n)) → AreCoordinates p n Z e z w → (s : ℕ) → s ≤ t
        → words.InImage p n (matrix_twist p n e (matrix_at p n Ks s)) w ↔ IsKilledBy (matrices p n) D s e (vector_of p n D z)
    killed_fact e z w c s b =
        let q : min s t ≡ s = omega arith in
        let h = killed_exactly (matrices_laws p n) (matrices_flat p n) (system_read p n X) s e (vector (polynomials p n) g w) in
        let k = subst (λ x. IsKilledBy (matrices p n) D s e (mul (polynomials p n) (each (polynomials p n) (frobenius_twist p n e) (read (polynomials p n) (D.size) g Z)) (vector (polynomials p n) g w)) ↔ InImage (matrices p n) (each (polynomials p n) (frobenius_twist p n e) (member p n g Ks x)) (vector (polynomials p n) g w)) q h in
        through (twist_member e s w (omega arith) c.0) (turned (subst (λ x. IsKilledBy (matrices p n) D s e x ↔ InImage (matrices p n) (each (polynomials p n) (frobenius_twist p n e) (member p n g Ks s)) (vector (polynomials p n) g w)) (coordinates_read e z w c) k))

    -- the member after the repeat has the image of the one at it
    next_member : (e : ℕ) (w : Mat (polynomials p n) g 1) → InImage (matrices p n) (each (polynomials p n) (frobenius_twist p n e) (member p n g Ks (suc t))) w ↔ InImage (matrices p n) (each (polynomials p n) (frobenius_twist p n e) (member p n g Ks t)) w
    next_member e w =
        let same = same_members p n g X.morphism_fits X.chain X.repeats (system_begins p n X) in (
          within_twist (matrices_laws p n) e (member p n g Ks (suc t)) (member p n g Ks t) (λ v h. (same v).1 h) w,
          within_twist (matrices_laws p n) e (member p n g Ks t) (member p n g Ks (suc t)) (λ v h. (same v).0 h) w,
        )

    killed_next : (e : ℕ) (z w : List (Polynomial p n)) → AreCoordinates p n Z e z w
        → words.InImage p n (matrix_twist p n e (matrix_at p n Ks (suc t))) w ↔ IsKilledBy (matrices p n) D (suc t) e (vector_of p n D z)
    killed_next e z w c =
        let q : min (suc t) t ≡ t = omega arith in
        let h = killed_exactly (matrices_laws p n) (matrices_flat p n) (system_read p n X) (suc t) e (vector (polynomials p n) g w) in
        let k = subst (λ x. IsKilledBy (matrices p n) D (suc t) e (mul (polynomials p n) (each (polynomials p n) (frobenius_twist p n e) (read (polynomials p n) (D.size) g Z)) (vector (polynomials p n) g w)) ↔ InImage (matrices p n) (each (polynomials p n) (frobenius_twist p n e) (member p n g Ks x)) (vector (polynomials p n) g w)) q h in
        let l = subst (λ x. IsKilledBy (matrices p n) D (suc t) e x ↔ InImage (matrices p n) (each (polynomials p n) (frobenius_twist p n e) (member p n g Ks t)) (vector (polynomials p n) g w)) (coordinates_read e z w c) k in
        through (twist_member e (suc t) w (omega arith) c.0) (through (next_member e (vector (polynomials p n) g w)) (turned l))

    -- the same through the member after the repeat
    pub killed_through_fact : (e : ℕ) (z w : List (Polynomial p n)) → AreCoordinates p n Z e z w → (s : ℕ) → s ≤ suc t
        → words.InImage p n (matrix_twist p n e (matrix_at p n Ks s)) w ↔ IsKilledBy (matrices p n) D s e (vector_of p n D z)
    killed_through_fact e z w c s b = elim (dec_le s t) [
      | yes h ↦ killed_fact e z w c s h
      | no h ↦
          let q : suc t ≡ s = omega (arith, b, h) in
          subst (λ x. words.InImage p n (matrix_twist p n e (matrix_at p n Ks x)) w ↔ IsKilledBy (matrices p n) D x e (vector_of p n D z)) q (killed_next e z w c)
    ]

    pub zero_class_fact : (e : ℕ) (z w : List (Polynomial p n)) → AreCoordinates p n Z e z w
        → words.InImage p n (matrix_twist p n e S) w ↔ IsZeroInLimit (matrices p n) D e (vector_of p n D z)
    zero_class_fact e z w c =
        let h = zero_exactly (matrices_laws p n) (matrices_flat p n) (system_read p n X) e (vector (polynomials p n) g w) in
        let k = at_stable (λ k A. IsZeroInLimit (matrices p n) D e (mul (polynomials p n) (each (polynomials p n) (frobenius_twist p n e) (read (polynomials p n) (D.size) g Z)) (vector (polynomials p n) g w)) ↔ InImage (matrices p n) (each (polynomials p n) (frobenius_twist p n e) A) (vector (polynomials p n) g w)) h in
        through (twist_member e t w (omega arith) c.0) (turned (subst (λ x. IsZeroInLimit (matrices p n) D e x ↔ InImage (matrices p n) (each (polynomials p n) (frobenius_twist p n e) (member p n g Ks t)) (vector (polynomials p n) g w)) (coordinates_read e z w c) k))

    -- ---- roots
    pub root_fact : IsRootIn p n D Z S U
    root_fact = record {
      generators_fit = X.cocycles_fit;
      kernel_fits = stable_fits;
      morphism_fits = X.morphism_fits;
      root = at_stable (λ k A. IsRoot (matrices p n) D g k (read (polynomials p n) (D.size) g Z) A (read (polynomials p n) g g U)) (is_root (matrices_laws p n) (matrices_flat p n) (system_read p n X));
    }

    -- ---- annihilators, inverting, support
    pub annihilates_fact : (a : Polynomial p n) → ColumnsInImage p n S (matrix_scalar p n a S.rows) ↔ Annihilates (matrices p n) D (element (polynomials p n) a)
    annihilates_fact a =
        through (scalar_columns_read p n a g (columns_of p n Ks t) S stable_fits)
        (at_stable (λ k A. InImage (matrices p n) A (scalar (polynomials p n) (element (polynomials p n) a) g) ↔ Annihilates (matrices p n) D (element (polynomials p n) a)) (annihilates_exactly (matrices_laws p n) (matrices_flat p n) (system_read p n X) (element (polynomials p n) a)))

    vanishes_read : (f : Polynomial p n) → VanishesInverting (matrices p n) D (element (polynomials p n) f) ↔ ((k : ℕ) × InImage (matrices p n) (member p n g Ks t) (scalar (polynomials p n) (pow (matrices p n) (element (polynomials p n) f) k) g))
    vanishes_read f =
        at_stable (λ k A. VanishesInverting (matrices p n) D (element (polynomials p n) f) ↔ ((k : ℕ) × InImage (matrices p n) A (scalar (polynomials p n) (pow (matrices p n) (element (polynomials p n) f) k) g))) (vanishes_exactly (matrices_laws p n) (matrices_flat p n) (system_read p n X) (prime_value p) (matrices_power p n) (element (polynomials p n) f))

    power_columns : (f : Polynomial p n) (k : ℕ) → ColumnsInImage p n S (matrix_scalar p n (polynomial_power p n k f) S.rows) ↔ InImage (matrices p n) (member p n g Ks t) (scalar (polynomials p n) (pow (matrices p n) (element (polynomials p n) f) k) g)
    power_columns f k =
        subst (λ a. ColumnsInImage p n S (matrix_scalar p n (polynomial_power p n k f) S.rows) ↔ InImage (matrices p n) (member p n g Ks t) (scalar (polynomials p n) a g)) (powers p n f k) (scalar_columns_read p n (polynomial_power p n k f) g (columns_of p n Ks t) S stable_fits)

    -- what a power does, so does a higher one
    pub power_more : (f : Polynomial p n) (k j : ℕ) → ColumnsInImage p n S (matrix_scalar p n (polynomial_power p n k f) S.rows) → ColumnsInImage p n S (matrix_scalar p n (polynomial_power p n (k + j) f) S.rows)
    power_more f k j h = (power_columns f (k + j)).1 (scalar_more (matrices_laws p n) (element (polynomials p n) f) (member p n g Ks t) k j ((power_columns f k).0 h))

    pub vanishes_fact : (f : Polynomial p n) → ((k : ℕ) × ColumnsInImage p n S (matrix_scalar p n (polynomial_power p n k f) S.rows)) ↔ VanishesInverting (matrices p n) D (element (polynomials p n) f)
    vanishes_fact f = (
      λ h. (vanishes_read f).1 (h.0, (power_columns f h.0).0 h.1),
      λ v. let r = (vanishes_read f).0 v in (r.0, (power_columns f r.0).1 r.1),
    )

    -- an ideal whose members are the annihilators is a support ideal
    pub support_fact : (fs : List (Polynomial p n)) → ((a : Polynomial p n) → InIdeal p n fs a ↔ ColumnsInImage p n S (matrix_scalar p n a S.rows)) → IsSupportIdeal (matrices p n) D (λ a. InImage (matrices p n) (read (polynomials p n) 1 (length fs) (row p n fs)) a)
    unfolding InIdeal component
    support_fact fs m =
        support_exactly (matrices_laws p n) (matrices_flat p n) (system_read p n X) (prime_value p) (matrices_power p n) (λ a. InImage (matrices p n) (read (polynomials p n) 1 (length fs) (row p n fs)) a) members
      where
        -- an element of the ring as a list of one entry
        single_member : (f : Polynomial p n) → InIdeal p n fs f ↔ InImage (matrices p n) (read (polynomials p n) 1 (length fs) (row p n fs)) (element (polynomials p n) f)
        single_member f = subst (λ x. InIdeal p n fs f ↔ InImage (matrices p n) (read (polynomials p n) 1 (length fs) (row p n fs)) x) (single (polynomials_laws p n) (frobenius_twist p n) (vector (polynomials p n) 1 (f ∷ [])) (element (polynomials p n) f) refl) (image_words p n 1 (length fs) (row p n fs) (f ∷ []) (row_fits p n fs) refl)

        at_element : (f : Polynomial p n) → InImage (matrices p n) (read (polynomials p n) 1 (length fs) (row p n fs)) (element (polynomials p n) f) ↔ InImage (matrices p n) (member p n g Ks (min t t)) (scalar (polynomials p n) (element (polynomials p n) f) g)
        at_element f =
            through (turned (single_member f)) (through (m f) (through (scalar_columns_read p n f g (columns_of p n Ks t) S stable_fits) (subst (λ x. InImage (matrices p n) (member p n g Ks t) (scalar (polynomials p n) (element (polynomials p n) f) g) ↔ InImage (matrices p n) (member p n g Ks x) (scalar (polynomials p n) (element (polynomials p n) f) g)) (sym min_same) ((λ h. h), (λ h. h)))))

        members : (a : Mat (polynomials p n) 1 1) → InImage (matrices p n) (read (polynomials p n) 1 (length fs) (row p n fs)) a ↔ InImage (matrices p n) (member p n g Ks (min t t)) (scalar (polynomials p n) a g)
        members a =
            subst (λ x. InImage (matrices p n) (read (polynomials p n) 1 (length fs) (row p n fs)) x ↔ InImage (matrices p n) (member p n g Ks (min t t)) (scalar (polynomials p n) x g)) (single (polynomials_laws p n) (frobenius_twist p n) (element (polynomials p n) (a zero only zero only)) a refl) (at_element (a zero only zero only))
