-- The twist of a resolution resolves the Frobenius power of the ideal
use Rattle.std.proofs.Common.{ℕ, zero, suc, ◌<◌, ◌≤◌, ◌≡◌, ◌∙◌, ◌↔◌, refl, sym, ap, subst, arith, List, [], ◌∷◌, length, map}
use Rattle.std.proofs.lemmas.List.{length-map, get_or-map}
use Rattle.fm_gfp.specs.declared.prime.Prime.{Prime}
use Rattle.fm_algebra.specs.Families.{flip, each, read, vector}
use Rattle.fm_algebra.specs.Image as image
use Rattle.fm_algebra.specs.Polynomials.{Polynomial, polynomials, frobenius_twist}
use Rattle.fm_algebra.specs.PolynomialMatrices.{PolynomialMatrix, HasShape, matrix_zero, matrix_twist, InImage, GeneratesKernel}
use Rattle.fm_algebra.proofs.Concrete.{polynomials_laws, polynomials_frobenius}
use Rattle.fm_algebra.proofs.FamilyLaws.{twist_zero}
use Rattle.fm_algebra.proofs.Tables.{read_injective, vector_map}
use Rattle.fm_algebra.proofs.Images.{within_twist}
use Rattle.fm_algebra.proofs.PolynomialMatrices.{kernel_of_twist}
use Rattle.fm_algebra.proofs.ListImages.{through, turned}
use Rattle.fm_limit.specs.ResolvedIdeal.{matrix_at, columns_of, rank, row, InIdeal, IsResolutionOf}
use Rattle.fm_limit.specs.Classes.{matrices}
use Rattle.fm_limit.proofs.FactsRead.{matrices_laws, resolution_read}
use Rattle.fm_limit.proofs.MatrixWords.{image_words, shape_columns, twist_read, twist_fits, row_fits, row_read}

module _ (p : Prime) (n e : ℕ) where
  abbrev powers : List (Polynomial p n) → List (Polynomial p n)
  powers fs = map (frobenius_twist p n e) fs

  abbrev twists : List (PolynomialMatrix p n) → List (PolynomialMatrix p n)
  twists ds = map (matrix_twist p n e) ds

  powers_read : (fs : List (Polynomial p n)) → read (polynomials p n) 1 (length fs) (row p n (powers fs)) ≡ flip (polynomials p n) (vector (polynomials p n) (length fs) (powers fs))
  powers_read fs =
      subst (λ g. read (polynomials p n) 1 g (row p n (powers fs)) ≡ flip (polynomials p n) (vector (polynomials p n) g (powers fs))) (length-map fs (frobenius_twist p n e)) (row_read p n (powers fs))

  row_powers : (fs : List (Polynomial p n)) → row p n (powers fs) ≡ matrix_twist p n e (row p n fs)
  unfolding HasShape flip each
  row_powers fs =
      let g = length fs in
      let a : HasShape p n 1 g (row p n (powers fs)) = subst (λ x. HasShape p n 1 x (row p n (powers fs))) (length-map fs (frobenius_twist p n e)) (row_fits p n (powers fs)) in
      let b = twist_fits p n e 1 g (row p n fs) (row_fits p n fs) in
      read_injective (polynomials p n) 1 g (row p n (powers fs)) (matrix_twist p n e (row p n fs)) a b
      (powers_read fs
      ∙ ap (flip (polynomials p n) {m = g} {n = 1}) (vector_map (polynomials p n) (frobenius_twist p n e) (twist_zero (polynomials_laws p n) (polynomials_frobenius p n) e) g fs)
      ∙ sym (twist_read p n e 1 g (row p n fs) (row_fits p n fs) ∙ ap (each (polynomials p n) (frobenius_twist p n e) {m = 1} {n = g}) (row_read p n fs)))

  -- matrix j of the twists
  at_twist : (ds : List (PolynomialMatrix p n)) (j : ℕ) → j < length ds → matrix_at p n (twists ds) j ≡ matrix_twist p n e (matrix_at p n ds j)
  unfolding matrix_at
  at_twist ds j b = get_or-map (matrix_twist p n e) ds j (matrix_zero p n 0 0) (matrix_zero p n 0 0) b

  module _ {fs : List (Polynomial p n)} {i : ℕ} {ds : List (PolynomialMatrix p n)} (r : IsResolutionOf p n fs i ds) where
    inside : (j : ℕ) → j ≤ i → j < length ds
    inside j b = let c = r.count in omega arith

    same_columns : (j : ℕ) → j ≤ i → columns_of p n (twists ds) j ≡ columns_of p n ds j
    same_columns j b =
        let f = r.fits j (inside j b) in
        ap (λ A. length A.columns) (at_twist ds j (inside j b)) ∙ shape_columns p n (rank p n ds j) (columns_of p n ds j) (matrix_twist p n e (matrix_at p n ds j)) (twist_fits p n e (rank p n ds j) (columns_of p n ds j) (matrix_at p n ds j) f)

    same_rank : (j : ℕ) → j ≤ i → rank p n (twists ds) j ≡ rank p n ds j
    same_rank zero b = refl
    same_rank (suc j) b = same_columns j (omega arith)

    fits_twist : (j : ℕ) → j ≤ i → HasShape p n (rank p n (twists ds) j) (columns_of p n (twists ds) j) (matrix_at p n (twists ds) j)
    fits_twist j b =
        subst (λ A. HasShape p n (rank p n (twists ds) j) (columns_of p n (twists ds) j) A) (sym (at_twist ds j (inside j b))) (subst (λ a. HasShape p n a (columns_of p n (twists ds) j) (matrix_twist p n e (matrix_at p n ds j))) (sym (same_rank j b)) (subst (λ k. HasShape p n (rank p n ds j) k (matrix_twist p n e (matrix_at p n ds j))) (sym (same_columns j b)) (twist_fits p n e (rank p n ds j) (columns_of p n ds j) (matrix_at p n ds j) (r.fits j (inside j b)))))

    -- the entries of the twist of d_1 generate what the powers of the generators do
    first_twist : (f : Polynomial p n) → InImage p n (matrix_twist p n e (matrix_at p n ds 0)) (f ∷ []) ↔ InImage p n (matrix_twist p n e (row p n fs)) (f ∷ [])
    first_twist f =
        let c = columns_of p n ds zero in
        let g = length fs in
        let s = (resolution_read p n r).generators in
        let A = read (polynomials p n) 1 c (matrix_at p n ds zero) in
        let B = read (polynomials p n) 1 g (row p n fs) in
        let df : HasShape p n 1 c (matrix_at p n ds zero) = r.fits zero (inside zero (omega arith)) in
        let v = vector (polynomials p n) 1 (f ∷ []) in
        let both : image.InImage (matrices p n) (each (polynomials p n) (frobenius_twist p n e) {m = 1} {n = c} A) v ↔ image.InImage (matrices p n) (each (polynomials p n) (frobenius_twist p n e) {m = 1} {n = g} B) v = (within_twist (matrices_laws p n) e A B (λ u h. (s u).0 h) v, within_twist (matrices_laws p n) e B A (λ u h. (s u).1 h) v) in
        let a = subst (λ X. InImage p n (matrix_twist p n e (matrix_at p n ds zero)) (f ∷ []) ↔ image.InImage (matrices p n) X v) (twist_read p n e 1 c (matrix_at p n ds zero) df) (image_words p n 1 c (matrix_twist p n e (matrix_at p n ds zero)) (f ∷ []) (twist_fits p n e 1 c (matrix_at p n ds zero) df) refl) in
        let b = subst (λ X. InImage p n (matrix_twist p n e (row p n fs)) (f ∷ []) ↔ image.InImage (matrices p n) X v) (twist_read p n e 1 g (row p n fs) (row_fits p n fs)) (image_words p n 1 g (matrix_twist p n e (row p n fs)) (f ∷ []) (twist_fits p n e 1 g (row p n fs) (row_fits p n fs)) refl) in
        through a (through both (turned b))

    pub twisted_words : IsResolutionOf p n (powers fs) i (twists ds)
    unfolding InIdeal
    twisted_words = record {
      count = length-map ds (matrix_twist p n e) ∙ r.count;
      fits = λ j b. let c = r.count in let l = length-map ds (matrix_twist p n e) in fits_twist j (omega arith);
      first = λ f. subst (λ A. InImage p n A (f ∷ []) ↔ InImage p n (row p n (powers fs)) (f ∷ [])) (sym (at_twist ds zero (inside zero (omega arith)))) (subst (λ B. InImage p n (matrix_twist p n e (matrix_at p n ds 0)) (f ∷ []) ↔ InImage p n B (f ∷ [])) (sym (row_powers fs)) (first_twist f));
      exact = λ j b.
          let k = kernel_of_twist p n e (matrix_at p n ds j) (matrix_at p n ds (suc j)) (r.exact j b) in
          subst (λ C. GeneratesKernel p n C (matrix_at p n (twists ds) j)) (sym (at_twist ds (suc j) (inside (suc j) b))) (subst (λ A. GeneratesKernel p n (matrix_twist p n e (matrix_at p n ds (suc j))) A) (sym (at_twist ds j (inside j (omega arith)))) k);
    }
