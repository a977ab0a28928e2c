-- The row of annihilators
use Rattle.std.proofs.Common.{ℕ, zero, ◌*◌, ◌/◌, ◌%◌, ◌<◌, ◌≡◌, ◌∙◌, ◌↔◌, sym, ap, subst, arith, cond, eqb, List, [], ◌∷◌, length, map, get_or}
use Rattle.std.proofs.lemmas.List.{length-map, get_or-map}
use Rattle.fm_gfp.specs.declared.prime.Prime.{Prime}
use Rattle.fm_algebra.specs.Families.{flip, read, vector}
use Rattle.fm_algebra.specs.Matrix.{component, entry, listed, table, scalar_matrix}
use Rattle.fm_algebra.specs.Polynomials.{Polynomial, polynomials}
use Rattle.fm_algebra.specs.PolynomialMatrices.{PolynomialMatrix, HasShape, matrix_scalar, InImage, InPreimage}
use Rattle.fm_algebra.proofs.Concrete.{polynomials_laws}
use Rattle.fm_algebra.proofs.ListImages.{through, turned}
use Rattle.fm_algebra.proofs.Tables.{cols_table, get_or-listed, length-listed, read_injective}
use Rattle.fm_limit.specs.ResolvedIdeal.{row}
use Rattle.fm_limit.specs.Facts.{ColumnsInImage, IsAnnihilatorRow, unit_column, diagonal_blocks, first_entries}
use Rattle.fm_limit.proofs.Blocks.{column_of, blocks_image}
use Rattle.fm_limit.proofs.MatrixWords.{row_fits, row_read}

module _ (p : Prime) (n : ℕ) where
  -- the columns of a times the unit matrix
  scalar_columns : (a : Polynomial p n) (g : ℕ) → length (matrix_scalar p n a g).columns ≡ g
  unfolding matrix_scalar scalar_matrix table
  scalar_columns a g = length-listed g (λ j. listed g (λ i. cond (eqb i j) a (polynomials p n).zero))

  scalar_column : (K : PolynomialMatrix p n) (a : Polynomial p n) (c : ℕ) → c < K.rows → get_or (matrix_scalar p n a K.rows).columns c [] ≡ column_of (polynomials_laws p n) K a c
  unfolding matrix_scalar scalar_matrix table column_of
  scalar_column K a c h = get_or-listed K.rows c [] (λ j. listed K.rows (λ i. cond (eqb i j) a (polynomials p n).zero)) h

  -- V * a is in the image of the blocks exactly if a times the unit matrix has its columns in im K
  preimage_columns : (K : PolynomialMatrix p n) (a : Polynomial p n) → InPreimage p n (unit_column p n K.rows) (diagonal_blocks p n K) (a ∷ []) ↔ ColumnsInImage p n K (matrix_scalar p n a K.rows)
  unfolding InPreimage InImage unit_column diagonal_blocks
  preimage_columns K a = (
    λ h c b.
        let u : c < K.rows = subst (λ x. c < x) (scalar_columns a K.rows) b in
        subst (λ v. InImage p n K v) (sym (scalar_column K a c u)) ((blocks_image (polynomials_laws p n) K a).0 h.1 c u),
    λ f. (
      sym (cols_table (polynomials p n) (K.rows * K.rows) 1 (λ i j. cond (eqb (i / K.rows) (i % K.rows)) (polynomials p n).one (polynomials p n).zero)),
      (blocks_image (polynomials_laws p n) K a).1 (λ c u. subst (λ v. InImage p n K v) (scalar_column K a c u) (f c (subst (λ x. c < x) (sym (scalar_columns a K.rows)) u))),
    ),
  )

  pub annihilator_fact : {K P : PolynomialMatrix p n} → IsAnnihilatorRow p n K P → (a : Polynomial p n) → InImage p n P (a ∷ []) ↔ ColumnsInImage p n K (matrix_scalar p n a K.rows)
  annihilator_fact {K} {P} A a = through (turned (A.generates (a ∷ []))) (preimage_columns K a)

  -- a row is the row of its entries
  pub entries_row : {P : PolynomialMatrix p n} → HasShape p n 1 (length P.columns) P → row p n (first_entries p n P) ≡ P
  unfolding HasShape first_entries component entry flip
  entries_row {P} s =
      let fs : List (Polynomial p n) = first_entries p n P in
      let l : length fs ≡ length P.columns = length-map P.columns (λ c. component (polynomials p n) c 0) in
      let f : HasShape p n 1 (length P.columns) (row p n fs) = subst (λ x. HasShape p n 1 x (row p n fs)) l (row_fits p n fs) in
      read_injective (polynomials p n) 1 (length P.columns) (row p n fs) P f s (subst (λ x. read (polynomials p n) 1 x (row p n fs) ≡ flip (polynomials p n) (vector (polynomials p n) x fs)) l (row_read p n fs) ∙ (λ t i a j b. at i a j b t))
    where
      at : (i : ℕ) → i < 1 → (j : ℕ) → j < length P.columns → get_or (map (λ c. component (polynomials p n) c 0) P.columns) j (polynomials p n).zero ≡ get_or (get_or P.columns j []) i (polynomials p n).zero
      at i a j b = let z : zero ≡ i = omega arith in get_or-map (λ c. component (polynomials p n) c 0) P.columns j [] (polynomials p n).zero b ∙ ap (λ x. get_or (get_or P.columns j []) x (polynomials p n).zero) z
