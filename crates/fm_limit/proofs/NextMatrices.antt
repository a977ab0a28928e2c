-- The next matrix of a lift exists: the columns that it has to solve lie in the image.
use Rattle.std.proofs.Common.{ℕ, suc, ◌<◌, ◌≤◌, ◌≡◌, List, length, sym, ap, ◌∙◌, subst, subst₂, arith}
use Rattle.fm_gfp.specs.Primes.{prime_value}
use Rattle.fm_gfp.specs.declared.prime.Prime.{Prime}
use Rattle.fm_gfp.proofs.Residues.{prime_positive}
use Rattle.fm_algebra.specs.Matrices.{Matrices, IsMatrices}
use Rattle.fm_algebra.specs.Families.{mul, read}
use Rattle.fm_algebra.specs.Image.{InImage as InFamilyImage}
use Rattle.fm_algebra.proofs.Generation.{GeneratesKernel as KernelOf, Flat}
use Rattle.fm_algebra.proofs.Images.{mul_nil, kernel_product, kernel_matrix, kernel_twist}
use Rattle.fm_algebra.specs.Polynomials.{Polynomial, polynomials}
use Rattle.fm_algebra.specs.PolynomialMatrices.{PolynomialMatrix, HasShape, GeneratesKernel, matrix_product, matrix_transpose, matrix_twist}
use Rattle.fm_limit.specs.ResolvedIdeal.{matrix_at, columns_of, rank, row, IsResolutionOf, IsFrobeniusLiftOf, IsLiftOfIdentityOf}
use Rattle.fm_limit.specs.Facts.{ColumnsInImage}
use Rattle.fm_limit.specs.Classes.{matrices, complex_of, theta_of, lambda_of}
use Rattle.fm_limit.specs.DirectSystem.{degree}
use Rattle.fm_limit.proofs.Resolutions.{IsResolution, IsFrobeniusLift, IsLiftOfIdentity}
use Rattle.fm_limit.proofs.Homotopy.{lift_moves, upper_square}
use Rattle.fm_limit.proofs.Moves.{Moves}
use Rattle.fm_limit.proofs.FactsRead.{matrices_laws, matrices_flat, matrices_power, resolution_read}
use Rattle.fm_limit.proofs.MatrixWords.{product_read, product_fits, twist_read, twist_fits, transpose_read, transpose_fits, unit_read, kernel_from, columns_from}

module _ (M : Matrices) (L : IsMatrices M) where
  open M use {Mat, ◌⊛◌, flip, twist, nil}

  infixl 70 ◌⊛◌
  -- a move takes cocycles of stage 0 to the image of Z^[p]
  morphism_inside : Flat M → {mid high g : ℕ} (above : Mat mid high) (theta : Mat mid mid) (s : Mat high high) (Z : Mat mid g) → theta ⊛ twist 1 above ≡ above ⊛ s → KernelOf M Z (flip above) → InFamilyImage M (twist 1 Z) (flip theta ⊛ Z)
  morphism_inside F {mid} {high} {g} above theta s Z square kernel =
      kernel_matrix L (twist 1 Z) (twist 1 (flip above)) (kernel_twist L F 1 Z (flip above) kernel) (flip theta ⊛ Z)
      (ap (λ X. X ⊛ (flip theta ⊛ Z)) (L.twist_flip 1 above)
      ∙ sym (L.assoc (flip (twist 1 above)) (flip theta) Z)
      ∙ ap (λ X. X ⊛ Z) (sym (L.flip_mul theta (twist 1 above)) ∙ ap (λ X. flip X) square ∙ L.flip_mul above s)
      ∙ L.assoc (flip s) (flip above) Z
      ∙ ap (λ X. flip s ⊛ X) (kernel_product L Z (flip above) kernel)
      ∙ mul_nil L (flip s))

  -- a lift of the identity takes a cocycle to a cocycle
  identity_inside : {mS hS mT hT gS gT : ℕ} (aboveS : Mat mS hS) (aboveT : Mat mT hT) (lambda : Mat mS mT) (s : Mat hS hT) (ZS : Mat mS gS) (ZT : Mat mT gT) → aboveS ⊛ s ≡ lambda ⊛ aboveT
      → KernelOf M ZS (flip aboveS) → KernelOf M ZT (flip aboveT) → InFamilyImage M ZT (flip lambda ⊛ ZS)
  identity_inside aboveS aboveT lambda s ZS ZT square kS kT =
      kernel_matrix L ZT (flip aboveT) kT (flip lambda ⊛ ZS)
      (sym (L.assoc (flip aboveT) (flip lambda) ZS)
      ∙ ap (λ X. X ⊛ ZS) (sym (L.flip_mul lambda aboveT) ∙ ap (λ X. flip X) (sym square) ∙ L.flip_mul aboveS s)
      ∙ L.assoc (flip s) (flip aboveS) ZS
      ∙ ap (λ X. flip s ⊛ X) (kernel_product L ZS (flip aboveS) kS)
      ∙ mul_nil L (flip s))

-- ---- Frobenius lifts
module _ (p : Prime) (n : ℕ) {fs : List (Polynomial p n)} {i : ℕ} {ds : List (PolynomialMatrix p n)} (R : IsResolutionOf p n fs i ds) where
  pub inside : (j : ℕ) → j ≤ i → j < length ds
  inside j h = let c = R.count in omega (arith, c, h)

  -- a lift through a lower degree, read over families
  lift_read : (j : ℕ) (ts : List (PolynomialMatrix p n)) → j ≤ i → IsFrobeniusLiftOf p n j ds ts → IsFrobeniusLift (matrices p n) j (complex_of p n ds) (theta_of p n ds ts)
  lift_read j ts h f = record {
    first = ap (read (polynomials p n) 1 1) f.first ∙ unit_read p n 1;
    square = λ k b.
        let c = f.count in
        let d = R.fits k (inside k (omega (arith, b, h))) in
        sym (product_read p n (rank p n ds k) (columns_of p n ds k) (columns_of p n ds k) (matrix_at p n ds k) (matrix_at p n ts (suc k)) d (f.fits (suc k) (omega (arith, b, c))))
        ∙ ap (read (polynomials p n) (rank p n ds k) (columns_of p n ds k)) (f.square k b)
        ∙ product_read p n (rank p n ds k) (rank p n ds k) (columns_of p n ds k) (matrix_at p n ts k) (matrix_twist p n 1 (matrix_at p n ds k)) (f.fits k (omega (arith, b, c))) (twist_fits p n 1 (rank p n ds k) (columns_of p n ds k) (matrix_at p n ds k) d)
        ∙ ap (λ X. mul (polynomials p n) (read (polynomials p n) (rank p n ds k) (rank p n ds k) (matrix_at p n ts k)) X) (twist_read p n 1 (rank p n ds k) (columns_of p n ds k) (matrix_at p n ds k) d);
  }

  pub lower_read : (j : ℕ) → j ≤ i → IsResolution (matrices p n) (length fs) (read (polynomials p n) 1 (length fs) (row p n fs)) j (complex_of p n ds)
  lower_read j h = let W = resolution_read p n R in record { generators = W.generators; exact = λ k b. W.exact k (omega (arith, b, h)) }

  pub moves_at : (j : ℕ) (ts : List (PolynomialMatrix p n)) → j ≤ i → IsFrobeniusLiftOf p n j ds ts → Moves (matrices p n) (degree (matrices p n) j (complex_of p n ds) (theta_of p n ds ts))
  moves_at j ts h f = lift_moves (matrices_laws p n) (prime_value p) (prime_positive p) (matrices_power p n) j (lower_read j h) (lift_read j ts h f)

  -- the columns of theta_j * d_(j+1)^[p] lie in the image of d_(j+1)
  pub liftable : (j : ℕ) (ts : List (PolynomialMatrix p n)) → j ≤ i → IsFrobeniusLiftOf p n j ds ts
      → HasShape p n (rank p n ds j) (columns_of p n ds j) (matrix_product p n (matrix_at p n ts j) (matrix_twist p n 1 (matrix_at p n ds j)))
      × ColumnsInImage p n (matrix_at p n ds j) (matrix_product p n (matrix_at p n ts j) (matrix_twist p n 1 (matrix_at p n ds j)))
  liftable j ts h f =
      let a = rank p n ds j in
      let c = columns_of p n ds j in
      let d = matrix_at p n ds j in
      let t = matrix_at p n ts j in
      let df = R.fits j (inside j h) in
      let tf = f.fits j (let k = f.count in omega (arith, k)) in
      let wf = twist_fits p n 1 a c d df in
      let whole = product_fits p n a a c t (matrix_twist p n 1 d) tf wf in
      let s = (moves_at j ts h f).upper in (
        whole,
        (columns_from p n a c c d (matrix_product p n t (matrix_twist p n 1 d)) df whole).1 (
          s.0,
          sym s.1 ∙ sym (product_read p n a a c t (matrix_twist p n 1 d) tf wf ∙ ap (λ X. mul (polynomials p n) (read (polynomials p n) a a t) X) (twist_read p n 1 a c d df)),
        ),
      )

  -- the columns of the transpose of theta_i times Z lie in the image of Z^[p]
  pub morphism_exists : (ts : List (PolynomialMatrix p n)) (f : IsFrobeniusLiftOf p n i ds ts) (g : ℕ) (Z : PolynomialMatrix p n) → HasShape p n (rank p n ds i) g Z → GeneratesKernel p n Z (matrix_transpose p n (matrix_at p n ds i))
      → ColumnsInImage p n (matrix_twist p n 1 Z) (matrix_product p n (matrix_transpose p n (matrix_at p n ts i)) Z)
  morphism_exists ts f g Z z_shape cocycles =
      let P = polynomials p n in
      let mid = rank p n ds i in
      let high = columns_of p n ds i in
      let d = matrix_at p n ds i in
      let theta = matrix_at p n ts i in
      let d_shape = R.fits i (inside i (omega arith)) in
      let theta_shape = f.fits i (let c = f.count in omega (arith, c)) in
      let kernel = subst (KernelOf (matrices p n) (read P mid g Z)) (transpose_read p n mid high d d_shape) (kernel_from p n high mid g Z (matrix_transpose p n d) (transpose_fits p n mid high d d_shape) z_shape cocycles) in
      let s = (moves_at i ts (omega arith) f).upper in
      let m = morphism_inside (matrices p n) (matrices_laws p n) (matrices_flat p n) (read P mid high d) (read P mid mid theta) s.0 (read P mid g Z) s.1 kernel in
      (columns_from p n mid g g (matrix_twist p n 1 Z) (matrix_product p n (matrix_transpose p n theta) Z) (twist_fits p n 1 mid g Z z_shape) (product_fits p n mid mid g (matrix_transpose p n theta) Z (transpose_fits p n mid mid theta theta_shape) z_shape)).1
      (subst₂ (λ A W. InFamilyImage (matrices p n) A W) (sym (twist_read p n 1 mid g Z z_shape))
      (ap (λ Y. mul P Y (read P mid g Z)) (sym (transpose_read p n mid mid theta theta_shape)) ∙ sym (product_read p n mid mid g (matrix_transpose p n theta) Z (transpose_fits p n mid mid theta theta_shape) z_shape)) m)

-- ---- lifts of the identity, from the resolution ds of the inner ideal to the resolution us of the outer one
module _ (p : Prime) (n : ℕ) {fs gs : List (Polynomial p n)} {i : ℕ} {ds us : List (PolynomialMatrix p n)} (D : IsResolutionOf p n gs i ds) (S : IsResolutionOf p n fs i us)
    (contained : InFamilyImage (matrices p n) (read (polynomials p n) 1 (length fs) (row p n fs)) (read (polynomials p n) 1 (length gs) (row p n gs))) where
  pub identity_below : (j : ℕ) (ls : List (PolynomialMatrix p n)) → j ≤ i → IsLiftOfIdentityOf p n j ds us ls → IsLiftOfIdentity (matrices p n) j (complex_of p n ds) (complex_of p n us) (lambda_of p n ds us ls)
  identity_below j ls b l = record {
    first = ap (read (polynomials p n) 1 1) l.first ∙ unit_read p n 1;
    square = λ k h.
        let c = l.count in
        sym (product_read p n (rank p n us k) (columns_of p n us k) (columns_of p n ds k) (matrix_at p n us k) (matrix_at p n ls (suc k)) (S.fits k (inside p n S k (omega (arith, h, b)))) (l.fits (suc k) (omega (arith, h, c))))
        ∙ ap (read (polynomials p n) (rank p n us k) (columns_of p n ds k)) (l.square k h)
        ∙ product_read p n (rank p n us k) (rank p n ds k) (columns_of p n ds k) (matrix_at p n ls k) (matrix_at p n ds k) (l.fits k (omega (arith, h, c))) (D.fits k (inside p n D k (omega (arith, h, b))));
  }

  -- lambda_j goes with the next differentials
  pub next_square : (j : ℕ) (ls : List (PolynomialMatrix p n)) → j ≤ i → IsLiftOfIdentityOf p n j ds us ls
      → InFamilyImage (matrices p n) (read (polynomials p n) (rank p n us j) (columns_of p n us j) (matrix_at p n us j))
      (mul (polynomials p n) (read (polynomials p n) (rank p n us j) (rank p n ds j) (matrix_at p n ls j)) (read (polynomials p n) (rank p n ds j) (columns_of p n ds j) (matrix_at p n ds j)))
  next_square j ls b l = upper_square (matrices_laws p n) j (complex_of p n ds) (complex_of p n us) (lambda_of p n ds us ls) (lower_read p n D j b) (lower_read p n S j b) (identity_below j ls b l)
      contained

  pub product_fits_at : (j : ℕ) (ls : List (PolynomialMatrix p n)) → j ≤ i → IsLiftOfIdentityOf p n j ds us ls → HasShape p n (rank p n us j) (columns_of p n ds j) (matrix_product p n (matrix_at p n ls j) (matrix_at p n ds j))
  product_fits_at j ls b l = product_fits p n (rank p n us j) (rank p n ds j) (columns_of p n ds j) (matrix_at p n ls j) (matrix_at p n ds j) (l.fits j (let c = l.count in omega (arith, c))) (D.fits j (inside p n D j b))

  pub identity_exists : (j : ℕ) (ls : List (PolynomialMatrix p n)) → j ≤ i → IsLiftOfIdentityOf p n j ds us ls → ColumnsInImage p n (matrix_at p n us j) (matrix_product p n (matrix_at p n ls j) (matrix_at p n ds j))
  identity_exists j ls b l = (columns_from p n (rank p n us j) (columns_of p n us j) (columns_of p n ds j) (matrix_at p n us j) (matrix_product p n (matrix_at p n ls j) (matrix_at p n ds j)) (S.fits j (inside p n S j b)) (product_fits_at j ls b l)).1
      (subst (InFamilyImage (matrices p n) (read (polynomials p n) (rank p n us j) (columns_of p n us j) (matrix_at p n us j)))
      (sym (product_read p n (rank p n us j) (rank p n ds j) (columns_of p n ds j) (matrix_at p n ls j) (matrix_at p n ds j) (l.fits j (let c = l.count in omega (arith, c))) (D.fits j (inside p n D j b)))) (next_square j ls b l))

  -- the columns of the transpose of lambda_i times the source's Z lie in the image of the target's
  pub phi_exists : (ls : List (PolynomialMatrix p n)) (f : IsLiftOfIdentityOf p n i ds us ls) (gS gT : ℕ) (ZS ZT : PolynomialMatrix p n) → HasShape p n (rank p n us i) gS ZS → HasShape p n (rank p n ds i) gT ZT
      → GeneratesKernel p n ZS (matrix_transpose p n (matrix_at p n us i)) → GeneratesKernel p n ZT (matrix_transpose p n (matrix_at p n ds i))
      → ColumnsInImage p n ZT (matrix_product p n (matrix_transpose p n (matrix_at p n ls i)) ZS)
  phi_exists ls f gS gT ZS ZT s_shape t_shape kS kT =
      let P = polynomials p n in
      let mS = rank p n us i in
      let mT = rank p n ds i in
      let lambda = matrix_at p n ls i in
      let lambda_shape = f.fits i (let c = f.count in omega (arith, c)) in
      let B = matrix_product p n (matrix_transpose p n lambda) ZS in
      let B_shape = product_fits p n mT mS gS (matrix_transpose p n lambda) ZS (transpose_fits p n mS mT lambda lambda_shape) s_shape in
      let hS = columns_of p n us i in
      let hT = columns_of p n ds i in
      let uf = S.fits i (inside p n S i (omega arith)) in
      let df = D.fits i (inside p n D i (omega arith)) in
      let k1 = subst (KernelOf (matrices p n) (read P mS gS ZS)) (transpose_read p n mS hS (matrix_at p n us i) uf) (kernel_from p n hS mS gS ZS (matrix_transpose p n (matrix_at p n us i)) (transpose_fits p n mS hS (matrix_at p n us i) uf) s_shape kS) in
      let k2 = subst (KernelOf (matrices p n) (read P mT gT ZT)) (transpose_read p n mT hT (matrix_at p n ds i) df) (kernel_from p n hT mT gT ZT (matrix_transpose p n (matrix_at p n ds i)) (transpose_fits p n mT hT (matrix_at p n ds i) df) t_shape kT) in
      let q = next_square i ls (omega arith) f in
      let m = identity_inside (matrices p n) (matrices_laws p n) (read P mS hS (matrix_at p n us i)) (read P mT hT (matrix_at p n ds i)) (read P mS mT lambda) q.0 (read P mS gS ZS) (read P mT gT ZT) q.1 k1 k2 in
      (columns_from p n mT gT gS ZT B t_shape B_shape).1 (subst (InFamilyImage (matrices p n) (read P mT gT ZT))
      (ap (λ Y. mul P Y (read P mS gS ZS)) (sym (transpose_read p n mS mT lambda lambda_shape)) ∙ sym (product_read p n mT mS gS (matrix_transpose p n lambda) ZS (transpose_fits p n mS mT lambda lambda_shape) s_shape)) m)
