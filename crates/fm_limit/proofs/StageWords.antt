-- Cocycles, coboundaries and moves in words of lists
use Rattle.std.proofs.Common.{ℕ, suc, ◌+◌, ◌≡◌, ◌∙◌, ◌↔◌, sym, ap, subst, arith, add-zero, List, length}
use Rattle.fm_gfp.specs.declared.prime.Prime.{Prime}
use Rattle.fm_algebra.specs.Families.{mul, flip, each, vector, nil, read}
use Rattle.fm_algebra.specs.Image as image
use Rattle.fm_algebra.specs.Polynomials.{Polynomial, polynomials, frobenius_twist}
use Rattle.fm_algebra.specs.PolynomialMatrices.{HasShape, matrix_transpose, matrix_twist, vector_product, InImage, InKernel, PolynomialMatrix, GeneratesKernel}
use Rattle.fm_algebra.proofs.Tables.{vector_apply, length-apply, vector_injective, list_of, length-list_of, vector_list_of}
use Rattle.fm_algebra.proofs.ListImages.{turned}
use Rattle.fm_limit.specs.Resolution.{rank_before}
use Rattle.fm_limit.specs.System as system
use Rattle.fm_limit.specs.DirectSystem.{IsCocycle, IsCoboundary, move, moved, IsKilledBy}
use Rattle.fm_limit.specs.ResolvedIdeal.{ResolvedIdeal, matrix_at, columns_of, differential, IsResolved}
use Rattle.fm_limit.specs.Classes.{matrices, degree_in, length_in, vector_in, moved_once, IsClass, IsCoboundaryAfter}
use Rattle.fm_limit.proofs.Moves.{cocycle_moves}
use Rattle.fm_limit.proofs.FactsRead.{matrices_laws, moves_read, below_read, below_fits, matrices_flat}
use Rattle.fm_limit.proofs.MatrixWords.{image_words, kernel_words, kernel_length, dual_fits, dual_read, transpose_read, transpose_fits, kernel_from, twist_read, twist_fits}
use Rattle.fm_limit.specs.Facts.{AreCoordinates}
use Rattle.fm_algebra.proofs.Generation.{GeneratesKernel as KernelOf}
use Rattle.fm_algebra.proofs.Images.{kernel_twist}

module _ (p : Prime) (n : ℕ) where
  module _ {i : ℕ} {I : ResolvedIdeal p n} (r : IsResolved p n i I) where
    above_fits : HasShape p n (length_in p n i I) (columns_of p n I.differentials i) (matrix_at p n I.differentials i)
    above_fits = (r.resolution).fits i (let c = (r.resolution).count in omega arith)

    theta_fits : HasShape p n (length_in p n i I) (length_in p n i I) (matrix_at p n I.lift i)
    theta_fits = (r.frobenius).fits i (let c = (r.frobenius).count in omega arith)

    -- (e, z) is a class exactly if the transpose of d_(i+1)^[q] sends z to 0
    pub class_words : (e : ℕ) (z : List (Polynomial p n)) → IsClass p n i I e z ↔ InKernel p n (matrix_transpose p n (matrix_twist p n e (matrix_at p n I.differentials i))) z
    class_words e z =
        let a = length_in p n i I in
        let b = columns_of p n I.differentials i in
        let A = matrix_transpose p n (matrix_twist p n e (matrix_at p n I.differentials i)) in
        let s = dual_fits p n e a b (matrix_at p n I.differentials i) above_fits in
        let k : length z ≡ a → InKernel p n A z ↔ IsCocycle (matrices p n) (degree_in p n i I) e (vector_in p n i I z) = λ l. subst (λ X. InKernel p n A z ↔ image.InKernel (matrices p n) X (vector (polynomials p n) a z)) (dual_read p n e a b (matrix_at p n I.differentials i) above_fits) (kernel_words p n b a A z s l) in (
          λ c. (k c.fits).1 c.cocycle,
          λ h. let l = kernel_length p n b a A z s h in record { fits = l; cocycle = (k l).0 h },
        )

    -- no moves make z a coboundary exactly if z is in the image of the transpose of d_i^[q]
    pub coboundary_words : (e : ℕ) (z : List (Polynomial p n)) → length z ≡ length_in p n i I
        → IsCoboundaryAfter p n i I 0 e z ↔ InImage p n (matrix_transpose p n (matrix_twist p n e (differential p n I.differentials i))) z
    unfolding IsCoboundaryAfter system.moved
    coboundary_words e z l =
        let a = rank_before (columns_of p n I.differentials) i in
        let b = length_in p n i I in
        let d = differential p n I.differentials i in
        let A = matrix_transpose p n (matrix_twist p n e d) in
        let f = below_fits p n r.resolution in
        let h : InImage p n A z ↔ IsCoboundary (matrices p n) (degree_in p n i I) e (vector_in p n i I z) = subst (λ X. InImage p n A z ↔ image.InImage (matrices p n) X (vector (polynomials p n) b z)) (dual_read p n e a b d f ∙ ap (λ Y. flip (polynomials p n) {m = a} {n = b} (each (polynomials p n) (frobenius_twist p n e) {m = a} {n = b} Y)) (below_read p n I.differentials i)) (image_words p n b a A z (dual_fits p n e a b d f) l) in
        turned (subst (λ x. InImage p n A z ↔ IsCoboundary (matrices p n) (degree_in p n i I) x (vector_in p n i I z)) (sym (add-zero e)) h)

    pub moved_read : (e : ℕ) (z : List (Polynomial p n)) → vector_in p n i I (moved_once p n i I e z) ≡ move (matrices p n) (degree_in p n i I) e (vector_in p n i I z)
    unfolding moved_once vector_product HasShape
    moved_read e z =
        let a = length_in p n i I in
        let t = matrix_at p n I.lift i in
        let s = dual_fits p n e a a t theta_fits in
        vector_apply (polynomials p n) a a (matrix_transpose p n (matrix_twist p n e t)) z s.0 s.1 ∙ ap (λ X. mul (polynomials p n) X (vector (polynomials p n) a z)) (dual_read p n e a a t theta_fits)

    length_moved : (e : ℕ) (z : List (Polynomial p n)) → length (moved_once p n i I e z) ≡ length_in p n i I
    unfolding moved_once vector_product HasShape
    length_moved e z =
        let a = length_in p n i I in
        let s = dual_fits p n e a a (matrix_at p n I.lift i) theta_fits in
        length-apply (polynomials p n) (matrix_transpose p n (matrix_twist p n e (matrix_at p n I.lift i))) z ∙ s.0

    -- one move, and then s more
    pub move_words : (s e : ℕ) (z : List (Polynomial p n)) → IsCoboundaryAfter p n i I (suc s) e z ↔ IsCoboundaryAfter p n i I s (suc e) (moved_once p n i I e z)
    unfolding IsCoboundaryAfter system.moved
    move_words s e z =
        let q : e + suc s ≡ suc e + s = omega arith in
        let y = moved (matrices p n) (degree_in p n i I) s (suc e) (move (matrices p n) (degree_in p n i I) e (vector_in p n i I z)) in
        let h : IsKilledBy (matrices p n) (degree_in p n i I) s (suc e) (move (matrices p n) (degree_in p n i I) e (vector_in p n i I z)) ↔ IsKilledBy (matrices p n) (degree_in p n i I) s (suc e) (vector_in p n i I (moved_once p n i I e z)) = subst (λ x. IsKilledBy (matrices p n) (degree_in p n i I) s (suc e) (move (matrices p n) (degree_in p n i I) e (vector_in p n i I z)) ↔ IsKilledBy (matrices p n) (degree_in p n i I) s (suc e) x) (sym (moved_read e z)) ((λ h. h), (λ h. h)) in
        subst (λ x. IsCoboundary (matrices p n) (degree_in p n i I) x y ↔ IsKilledBy (matrices p n) (degree_in p n i I) s (suc e) (vector_in p n i I (moved_once p n i I e z))) (sym q) h

    -- a class is moved to a class
    pub class_moves : (e : ℕ) (z : List (Polynomial p n)) → IsClass p n i I e z → IsClass p n i I (suc e) (moved_once p n i I e z)
    class_moves e z c = record {
      fits = length_moved e z;
      cocycle = subst (λ x. IsCocycle (matrices p n) (degree_in p n i I) (suc e) x) (sym (moved_read e z)) (cocycle_moves (matrices_laws p n) (moves_read p n r) e (vector_in p n i I z) c.cocycle);
    }

    -- a class is the twist of generators of the cocycles times its coordinates
    pub coordinates_words : (Z : PolynomialMatrix p n) → HasShape p n (length_in p n i I) (length Z.columns) Z → GeneratesKernel p n Z (matrix_transpose p n (matrix_at p n I.differentials i))
        → (e : ℕ) (z : List (Polynomial p n)) → IsClass p n i I e z → (w : List (Polynomial p n)) × AreCoordinates p n Z e z w
    unfolding vector_product HasShape
    coordinates_words Z s k e z c =
        let P = polynomials p n in
        let a = length_in p n i I in
        let b = columns_of p n I.differentials i in
        let g = length Z.columns in
        let d = matrix_at p n I.differentials i in
        let kernel = subst (KernelOf (matrices p n) (read P a g Z)) (transpose_read p n a b d above_fits) (kernel_from p n b a g Z (matrix_transpose p n d) (transpose_fits p n a b d above_fits) s k) in
        let h = ((kernel_twist (matrices_laws p n) (matrices_flat p n) e (read P a g Z) (flip P {m = a} {n = b} (read P a b d)) kernel) (vector_in p n i I z)).1 (subst (λ X. mul P X (vector_in p n i I z) ≡ nil P b 1) (sym ((matrices_laws p n).twist_flip e (read P a b d))) c.cocycle) in
        let w : List (Polynomial p n) = list_of P g h.0 in
        let l : length w ≡ g = length-list_of P g h.0 in
        let t = twist_fits p n e a g Z s in (
          w,
          (
            l,
            vector_injective P a (vector_product p n (matrix_twist p n e Z) w) z (length-apply P (matrix_twist p n e Z) w ∙ t.0) c.fits
                (vector_apply P a g (matrix_twist p n e Z) w t.0 t.1 ∙ ap (λ M. mul P M (vector P g w)) (twist_read p n e a g Z s) ∙ ap (λ v. mul P (each P (frobenius_twist p n e) (read P a g Z)) v) (vector_list_of P g h.0) ∙ h.1),
          ),
        )
