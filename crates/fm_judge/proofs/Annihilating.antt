-- The row of annihilators of the stable kernel, and the ideal of its entries that aren't zero.
use Rattle.std.proofs.Common.{◌≡◌, ℕ, suc, ◌*◌, ◌↔◌, Bool, true, false, not, List, [], ◌∷◌, map, length, Some, refl, sym, ap, ◌∙◌, subst, subst₂}
use Rattle.std.specs.List.{filter}
use Rattle.fm_algebra.specs.Matrix.{component}
use Rattle.fm_algebra.specs.Polynomials.{Polynomial}
use Rattle.fm_algebra.specs.PolynomialMatrices.{HasShape, InImage, GeneratesPreimage}
use Rattle.fm_limit.specs.ResolvedIdeal.{matrix_at, row, InIdeal}
use Rattle.fm_limit.specs.Facts.{IsAnnihilatorRow, unit_column, diagonal_blocks, first_entries}
use Rattle.fm_limit.specs.Verdicts.{support}
use Rattle.fm_limit.proofs.AnnihilatorRows.{entries_row}
use Rattle.fm_limit.proofs.MatrixWords.{shape_columns}
use Rattle.fm_limit.proofs.VerdictLaws.{annihilator_verdict}
use Rattle.fm_poly.specs.Polys.{PolyValue}
use Rattle.fm_poly.specs.declared.ring.Ring.{Ring}
use Rattle.fm_groebner.proofs.Setting.{In, in_map}
use Rattle.fm_groebner.proofs.Numbers.{in_of_map}
use Rattle.fm_graphs.specs.Graphs.{MatrixOf}
use Rattle.fm_graphs.specs.Listing.{VectorOf, terms_of}
use Rattle.fm_graphs.specs.Trims.{is_zero, is_nonzero}
use Rattle.fm_graphs.proofs.Columns.{AllLong, Spanned, shape_of, span_own, span_within}
use Rattle.fm_graphs.proofs.Graphs.{in_filter, filter_in}
use Rattle.fm_graphs.proofs.Preimages.{zero_spanned}
use Rattle.fm_answers.proofs.PrintedMatrices.{matrix_means}
use Rattle.fm_plan.proofs.Answers.{unit_shape}
use Rattle.fm_report.specs.Parts.{Part, meant, part_value}
use Rattle.fm_report.specs.Sheets.{Block, numbered}
use Rattle.fm_parts.specs.Shapes.{rows_of, fits}
use Rattle.fm_parts.specs.Conditions.{Log, preimage, lists, nonzero_entries}
use Rattle.fm_parts.specs.Meanings.{Says}
use Rattle.fm_parts.proofs.Shapes.{part_shape}
use Rattle.fm_judge.specs.Goals.{Goal}
use Rattle.fm_judge.specs.Claims.{unit_column_part, blocks_part}
use Rattle.fm_judge.proofs.Goods.{value_at, renamed, columns_are}
use Rattle.fm_judge.proofs.Lifting.{ideal_of}
use Rattle.fm_judge.proofs.Chains.{Kernels, Repeating}
use Rattle.fm_judge.proofs.Verdicts.{IsRight, printed_columns, stable_rows}

-- ---- zeros among generators
module _ (r : Ring) where
  abbrev entries : List (Polynomial r.prime r.vars) → List (VectorOf r)
  entries fs = map (λ (f : Polynomial r.prime r.vars). f ∷ []) fs

  abbrev nonzero : Polynomial r.prime r.vars → Bool
  nonzero f = is_nonzero r (f ∷ [])

  entries_long : (fs : List (Polynomial r.prime r.vars)) → AllLong r.prime r.vars 1 (entries fs)
  entries_long fs v i = ap length (sym (in_of_map (λ (f : Polynomial r.prime r.vars). f ∷ []) fs i).2)

  first_back : (fs : List (Polynomial r.prime r.vars)) → first_entries r.prime r.vars (record { rows = 1; columns = entries fs }) ≡ fs
  unfolding first_entries component
  first_back [] = refl
  first_back (f ∷ fs) = ap (λ gs. f ∷ gs) (first_back fs)

  row_is : (fs : List (Polynomial r.prime r.vars)) → row r.prime r.vars fs ≡ record { rows = 1; columns = entries fs }
  row_is fs = ap (row r.prime r.vars) (sym (first_back fs)) ∙ entries_row r.prime r.vars (shape_of r.prime r.vars 1 (entries fs) (entries_long fs))

  -- the span of all is that of those which aren't zero
  zeros_left_out : (fs : List (Polynomial r.prime r.vars)) (v : VectorOf r) → Spanned r.prime r.vars 1 (entries (filter nonzero fs)) v ↔ Spanned r.prime r.vars 1 (entries fs) v
  zeros_left_out fs v = (span_within r.prime r.vars 1 r.order (entries (filter nonzero fs)) (entries fs) forth v, span_within r.prime r.vars 1 r.order (entries fs) (entries (filter nonzero fs)) back v)
    where
      forth : (u : VectorOf r) → In (entries (filter nonzero fs)) u → Spanned r.prime r.vars 1 (entries fs) u
      forth u i =
          let x = in_of_map (λ (f : Polynomial r.prime r.vars). f ∷ []) (filter nonzero fs) i in
          span_own r.prime r.vars 1 r.order (entries fs) u (subst (In (entries fs)) x.2 (in_map (λ (f : Polynomial r.prime r.vars). f ∷ []) (in_filter nonzero fs x.0 x.1).0)) (ap length (sym x.2))

      one : (f : Polynomial r.prime r.vars) → In fs f → (b : Bool) → is_zero (terms_of r (f ∷ [])) ≡ b → Spanned r.prime r.vars 1 (entries (filter nonzero fs)) (f ∷ [])
      one f i true e = zero_spanned r 1 (entries (filter nonzero fs)) (f ∷ []) refl e
      one f i false e = span_own r.prime r.vars 1 r.order (entries (filter nonzero fs)) (f ∷ []) (in_map (λ (f : Polynomial r.prime r.vars). f ∷ []) (filter_in nonzero fs f i (ap not e))) refl

      back : (u : VectorOf r) → In (entries fs) u → Spanned r.prime r.vars 1 (entries (filter nonzero fs)) u
      back u i =
          let x = in_of_map (λ (f : Polynomial r.prime r.vars). f ∷ []) fs i in
          subst (Spanned r.prime r.vars 1 (entries (filter nonzero fs))) x.2 (one x.0 x.1 (is_zero (terms_of r (x.0 ∷ []))) refl)

  -- the ideal of the entries of a row that aren't zero
  nonzero_row : (A : MatrixOf r) → HasShape r.prime r.vars 1 (length A.columns) A → (a : Polynomial r.prime r.vars) → InIdeal r.prime r.vars (nonzero_entries r A) a ↔ InImage r.prime r.vars A (a ∷ [])
  unfolding InIdeal first_entries
  nonzero_row A s a =
      let fs = first_entries r.prime r.vars A in
      let is : record { rows = 1; columns = entries fs } ≡ A = sym (row_is fs) ∙ entries_row r.prime r.vars s in
      subst₂ (λ X Y. InImage r.prime r.vars X (a ∷ []) ↔ InImage r.prime r.vars Y (a ∷ [])) (sym (row_is (filter nonzero fs))) is (zeros_left_out fs (a ∷ []))

-- ---- the support
module _ (r : Ring) (g : Goal) (t : ℕ) (b : Block) (R : Repeating r g t b) where
  abbrev K : MatrixOf r
  K = matrix_at r.prime r.vars (Kernels r g b) t

  pub support_right : (fs : List PolyValue) (Q P X W : Part) (log : Log) → fits P ≡ true → numbered b.kernels (suc t) ≡ Some Q → Says r (preimage log (unit_column_part r (rows_of Q)) (blocks_part r Q) P X W)
      → Says r (lists fs P) → IsRight r (support g.degree (ideal_of r g b) (meant r fs))
  support_right fs Q P X W log f_P i h l =
      let V = unit_column r.prime r.vars (rows_of Q) in
      let D = diagonal_blocks r.prime r.vars (part_value r Q) in
      let one : rows_of P ≡ 1 = h.0 ∙ printed_columns r V ∙ shape_columns r.prime r.vars (rows_of Q * rows_of Q) 1 V (unit_shape r (rows_of Q)) in
      let shape : HasShape r.prime r.vars 1 (length (part_value r P).columns) (part_value r P) = renamed r (part_value r P) one (columns_are r P f_P) (part_shape r P f_P) in
      let annihilators : IsAnnihilatorRow r.prime r.vars K (part_value r P) = record {
        fits = shape;
        generates = subst₂ (GeneratesPreimage r.prime r.vars (part_value r P)) (matrix_means r V ∙ ap (unit_column r.prime r.vars) (stable_rows r g t b R Q i))
            (matrix_means r D ∙ ap (diagonal_blocks r.prime r.vars) (sym (value_at r b.kernels t Q i).1)) h.1;
      } in (
        R.facts.resolved,
        annihilator_verdict r.prime r.vars R.facts (part_value r P) annihilators (meant r fs) (λ a. subst (λ gs. InIdeal r.prime r.vars gs a ↔ InImage r.prime r.vars (part_value r P) (a ∷ [])) (sym l) (nonzero_row r (part_value r P) shape a)),
      )
