-- Printed polynomials and matrices: what they mean, and that they can be written.
use Rattle.std.proofs.Common.{ℕ, ◌≡◌, ◌<◌, ◌^◌, true, List, [], ◌∷◌, All, map, length, refl, sym, ap, ap₂, ◌∙◌, subst, arith}
use Rattle.std.specs.List.{list_all}
use Rattle.std.proofs.lemmas.Bool.{and_parts}
use Rattle.std.proofs.lemmas.List.{length-map}
use Rattle.std.proofs.lemmas.List.Elements.{All-head, All-tail}
use Rattle.fm_text.specs.SumOfTerms.{IsPolynomialOf}
use Rattle.fm_algebra.specs.Polynomials.{Polynomial}
use Rattle.fm_poly.specs.declared.ring.Ring.{Ring}
use Rattle.fm_poly.specs.declared.term.Term.{Term}
use Rattle.fm_poly.specs.Polys.{PolyValue, IsCanonical, meaning}
use Rattle.fm_poly.proofs.KeptTerms.{lists_unique}
use Rattle.fm_vec.specs.Components.{vector_meaning, components_meaning, component_meaning}
use Rattle.fm_vec.proofs.Components.{component_canonical}
use Rattle.fm_mat.specs.Matrices.{MatrixValue, column_meaning, columns_meaning, matrix_meaning}
use Rattle.fm_complete.proofs.Meanings.{meaning_is}
use Rattle.fm_graphs.specs.Listing.{VectorOf, terms_of}
use Rattle.fm_graphs.specs.Graphs.{MatrixOf}
use Rattle.fm_graphs.specs.Within.{is_within, are_within, IsMatrixWithin}
use Rattle.fm_graphs.specs.Sizes.{IsMatrixAtMost}
use Rattle.fm_graphs.proofs.Listing.{terms_vector, terms_mean}
use Rattle.fm_graphs.proofs.WithinPolynomials.{written_within}
use Rattle.fm_words.specs.Words.{AreNames}
use Rattle.fm_problem.specs.declared.problem.Problem.{Problem}
use Rattle.fm_cert.specs.Writable.{IsWritablePolynomial, AreWritablePolynomials, AreWritableVectors}
use Rattle.fm_report.specs.Parts.{meant, part_value, part_values}
use Rattle.fm_report.proofs.NamingsSaid.{IsGood, given_of, parts_of}
use Rattle.fm_answers.specs.Printed.{printed, printed_vector, grid_of, grids_of}

module _ (r : Ring) where
  first_of : {A : Type 0} (x y : A) (xs ys : List A) → x ∷ xs ≡ y ∷ ys → x ≡ y
  first_of x y xs ys e = cc

  -- ---- polynomials
  pub printed_means : (f : Polynomial r.prime r.vars) → meaning r (printed r f).terms ≡ f
  unfolding vector_meaning components_meaning component_meaning
  printed_means f =
      first_of (meaning r (printed r f).terms) f [] [] (meaning_is r 1 (terms_of r (f ∷ [])) ∙ terms_mean r 1 (f ∷ []) refl)

  pub printed_canonical : (f : Polynomial r.prime r.vars) → IsCanonical r (printed r f).terms
  printed_canonical f = let v = terms_vector r 1 (f ∷ []) refl in component_canonical r 1 (terms_of r (f ∷ [])) v.falls v.proper

  pub printed_back : (ts : List Term) → IsCanonical r ts → printed r (meaning r ts) ≡ record { ring = r; terms = ts }
  printed_back ts c =
      ap (λ us. record { ring = r; terms = us })
      (lists_unique r (printed r (meaning r ts)).terms ts (printed_canonical (meaning r ts)) c (printed_means (meaning r ts)))

  pub printed_writable : (f : Polynomial r.prime r.vars) → is_within r.prime r.vars f ≡ true → IsWritablePolynomial r (printed r f)
  printed_writable f h = record {
    of_ring = refl;
    canonical = printed_canonical f;
    within = written_within r (printed r f).terms (printed_canonical f)
        (subst (λ g. is_within r.prime r.vars g ≡ true) (sym (printed_means f)) h);
  }

  -- ---- vectors
  pub vector_means : (v : VectorOf r) → meant r (printed_vector r v) ≡ v
  vector_means [] = refl
  vector_means (f ∷ v) = ap₂ (λ g w. g ∷ w) (printed_means f) (vector_means v)

  pub vector_writable : (v : VectorOf r) → are_within r.prime r.vars v ≡ true → AreWritablePolynomials r (printed_vector r v)
  vector_writable [] h = tt
  vector_writable (f ∷ v) h = (printed_writable f (and_parts _ _ h).0, vector_writable v (and_parts _ _ h).1)

  pub vector_back : (fs : List PolyValue) → All (IsPolynomialOf r) fs → printed_vector r (column_meaning r fs) ≡ fs
  vector_back [] k = refl
  vector_back (f ∷ fs) k =
      let first = All-head (IsPolynomialOf r) f fs k in
      ap₂ (λ g gs. g ∷ gs) (printed_back f.terms first.canonical ∙ ap (λ q. record { ring = q; terms = f.terms }) (sym first.of_ring))
      (vector_back fs (All-tail (IsPolynomialOf r) f fs k))

  -- ---- matrices
  pub columns_mean : (vs : List (VectorOf r)) → map (meant r) (map (printed_vector r) vs) ≡ vs
  columns_mean [] = refl
  columns_mean (v ∷ vs) = ap₂ (λ w ws. w ∷ ws) (vector_means v) (columns_mean vs)

  pub matrix_means : (A : MatrixOf r) → part_value r (given_of (grid_of r A)) ≡ A
  unfolding part_value
  matrix_means A = ap (λ vs. record { rows = A.rows; columns = vs }) (columns_mean A.columns)

  pub matrices_mean : (As : List (MatrixOf r)) → part_values r (parts_of (grids_of r As)) ≡ As
  matrices_mean [] = refl
  matrices_mean (A ∷ As) = ap₂ (λ B Bs. B ∷ Bs) (matrix_means A) (matrices_mean As)

  pub columns_writable : (vs : List (VectorOf r)) → list_all (are_within r.prime r.vars) vs ≡ true
      → AreWritableVectors r (map (printed_vector r) vs)
  columns_writable [] h = tt
  columns_writable (v ∷ vs) h = (vector_writable v (and_parts _ _ h).0, columns_writable vs (and_parts _ _ h).1)

  pub columns_back : (cs : List (List PolyValue)) → All (All (IsPolynomialOf r)) cs → map (printed_vector r) (columns_meaning r cs) ≡ cs
  columns_back [] k = refl
  columns_back (c ∷ cs) k = ap₂ (λ d ds. d ∷ ds) (vector_back c (All-head (All (IsPolynomialOf r)) c cs k)) (columns_back cs (All-tail (All (IsPolynomialOf r)) c cs k))

  pub grid_back : (A : MatrixValue) → All (All (IsPolynomialOf r)) A.columns
      → grid_of r (matrix_meaning r A) ≡ record { rows = A.rows; columns = A.columns }
  grid_back A k = ap (λ cs. record { rows = A.rows; columns = cs }) (columns_back A.columns k)

-- ---- in a report
module _ (q : Problem) (h : AreNames q.vars) (l : length q.vars ≡ q.ring.vars) (most : ℕ) (few : most < 2 ^ 64) where
  pub grid_good : (A : MatrixOf q.ring) → IsMatrixWithin q.ring A → IsMatrixAtMost q.ring most A → IsGood q h l (grid_of q.ring A)
  grid_good A within sizes = record {
    rows = let n = sizes.rows in omega (arith, n, few);
    few = let n = sizes.columns in let m = length-map A.columns (printed_vector q.ring) in omega (arith, n, m, few);
    writable = columns_writable q.ring A.columns within;
  }
