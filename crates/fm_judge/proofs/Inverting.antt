-- Powers of a polynomial that send everything into the stable kernel, and colons of the stable kernel by them.
use Rattle.std.proofs.Common.{◌≡◌, ℕ, suc, ◌-◌, ◌<◌, ◌≤◌, true, List, [], ◌∷◌, ◌++◌, length, Some, None, refl, sym, ap, ◌∙◌, subst, subst₂, arith}
use Rattle.std.proofs.lemmas.List.{length-append, length-map}
use native.Mathlib.Decide.{dec_lt}
use Rattle.fm_algebra.specs.Polynomials.{Polynomial, polynomial_power}
use Rattle.fm_algebra.specs.PolynomialMatrices.{HasShape, GeneratesPreimage, matrix_scalar}
use Rattle.fm_limit.specs.ResolvedIdeal.{matrix_at}
use Rattle.fm_limit.specs.Facts.{ColumnsInImage, IsColons}
use Rattle.fm_limit.specs.Verdicts.{inverting}
use Rattle.fm_limit.proofs.MatrixWords.{shape_rows}
use Rattle.fm_limit.proofs.VerdictLaws.{inverting_yes_verdict, inverting_no_verdict}
use Rattle.fm_poly.specs.Polys.{PolyValue, meaning}
use Rattle.fm_poly.specs.declared.ring.Ring.{Ring}
use Rattle.fm_graphs.specs.Graphs.{MatrixOf}
use Rattle.fm_answers.proofs.PrintedMatrices.{matrix_means}
use Rattle.fm_plan.proofs.Chains.{old_at, new_at}
use Rattle.fm_report.specs.Parts.{Part, times, part_value, part_values}
use Rattle.fm_report.specs.Sheets.{Block, numbered}
use Rattle.fm_parts.specs.Shapes.{rows_of, columns_of, fits}
use Rattle.fm_parts.specs.Conditions.{Log, equal, outside, preimage}
use Rattle.fm_parts.specs.Meanings.{Says}
use Rattle.fm_parts.proofs.Shapes.{part_shape}
use Rattle.fm_judge.specs.Goals.{Goal}
use Rattle.fm_judge.specs.Claims.{unit_part, scalar_part, power_part, colon_at}
use Rattle.fm_judge.proofs.Options.{followed}
use Rattle.fm_judge.proofs.Goods.{AreGood, good_append, good_at, value_at, values_append, renamed, rows_are, columns_are}
use Rattle.fm_judge.proofs.Lifting.{ideal_of}
use Rattle.fm_judge.proofs.Chains.{Kernels, Repeating, multiple_columns}
use Rattle.fm_judge.proofs.Verdicts.{IsRight, scalar_columns, stable_rows, column_outside, proper_not_everything}

module _ (r : Ring) (g : Goal) (t : ℕ) (b : Block) (R : Repeating r g t b) (f : PolyValue) where
  abbrev K : MatrixOf r
  K = matrix_at r.prime r.vars (Kernels r g b) t

  abbrev F : Polynomial r.prime r.vars
  F = meaning r f.terms

  -- ---- powers
  -- f^k sends everything into the stable kernel
  abbrev pub Lands : ℕ → Type 0
  Lands k = ColumnsInImage r.prime r.vars K (matrix_scalar r.prime r.vars (polynomial_power r.prime r.vars k F) K.rows)

  pub lands : (k : ℕ) (P W : Part) → numbered b.kernels (suc t) ≡ Some P → Says r (equal (power_part r f k (rows_of P)) (times P W)) → Lands k
  unfolding part_value
  lands k P W i h =
      let A = matrix_scalar r.prime r.vars (polynomial_power r.prime r.vars k F) (rows_of P) in
      subst₂ (λ B n. ColumnsInImage r.prime r.vars B (matrix_scalar r.prime r.vars (polynomial_power r.prime r.vars k F) n)) (sym (value_at r b.kernels t P i).1) (stable_rows r g t b R P i)
      (multiple_columns r P W A h.1 (sym (matrix_means r A) ∙ h.4))

  pub lands_not : (k : ℕ) (log : Log) (P : Part) (c : ℕ) (by : List ℕ) → numbered b.kernels (suc t) ≡ Some P → 0 < c → c ≤ columns_of (power_part r f k (rows_of P))
      → Says r (outside log 0 P (power_part r f k (rows_of P)) c by) → ¬ (Lands k)
  lands_not k log P c by i some few h l =
      let A = matrix_scalar r.prime r.vars (polynomial_power r.prime r.vars k F) (rows_of P) in
      column_outside r log P A c by (good_at b.kernels (suc t) P R.chained.good i) some few h
      (subst₂ (λ B n. ColumnsInImage r.prime r.vars B (matrix_scalar r.prime r.vars (polynomial_power r.prime r.vars k F) n)) (value_at r b.kernels t P i).1 (sym (stable_rows r g t b R P i)) l)

  pub inverted_right : (k : ℕ) → Lands k → ((j : ℕ) → suc j ≡ k → ¬ (Lands j)) → IsRight r (inverting g.degree (ideal_of r g b) F (Some k))
  inverted_right k l before = (R.facts.resolved, inverting_yes_verdict r.prime r.vars R.facts F k l before)

  -- ---- colons
  -- C_0, C_1, ..
  abbrev pub Members : List Part → List (MatrixOf r)
  Members found = K ∷ part_values r found

  -- C_1 .. C_j are the colons of C_0 by powers of f
  pub record Colons (found : List Part) : Type 0 where
    pub good : AreGood found
    pub fits : (j : ℕ) → j ≤ length found → HasShape r.prime r.vars K.rows (length (matrix_at r.prime r.vars (Members found) j).columns) (matrix_at r.prime r.vars (Members found) j)
    pub step : (j : ℕ) → j < length found → GeneratesPreimage r.prime r.vars (matrix_at r.prime r.vars (Members found) (suc j)) (matrix_scalar r.prime r.vars F K.rows) (matrix_at r.prime r.vars (Members found) j)

  stable_shape : HasShape r.prime r.vars K.rows (length K.columns) K
  stable_shape = let s = R.chained.chain.fits t (omega arith) in renamed r K (sym (shape_rows r.prime r.vars (length (part_value r R.chained.U).columns) (length K.columns) K s)) refl s

  pub colons_begin : Colons []
  unfolding matrix_at
  colons_begin = record {
    good = tt;
    fits = λ j l. let z : 0 ≡ j = omega (arith, l) in
        subst (λ x. HasShape r.prime r.vars K.rows (length (matrix_at r.prime r.vars (K ∷ []) x).columns) (matrix_at r.prime r.vars (K ∷ []) x)) z stable_shape;
    step = λ j l. absurd (omega (arith, l));
  }

  -- what C_j means
  pub member_is : (parts : List Part) (logs : List Log) (found : List Part) (j : ℕ) (C : Part) → AreGood found → colon_at r g b parts logs t found j ≡ Some C
      → (fits C ≡ true) × (matrix_at r.prime r.vars (Members found) j ≡ part_value r C)
  member_is parts logs found j C good e =
      let a = followed (numbered b.kernels (suc t)) (λ P. numbered (P ∷ found) (suc j)) C e in
      let v = (value_at r b.kernels t a.0 a.1).1 in (
        good_at (a.0 ∷ found) (suc j) C (good_at b.kernels (suc t) a.0 R.chained.good a.1, good) a.2,
        ap (λ A. matrix_at r.prime r.vars (A ∷ part_values r found) j) v ∙ (value_at r (a.0 ∷ found) j C a.2).1,
      )

  -- `colon j+1`
  module _ (found : List Part) (C : Colons found) (P D : Part) (log : Log) (X W : Part) (f_P : fits P ≡ true) (f_D : fits D ≡ true) (is : matrix_at r.prime r.vars (Members found) (length found) ≡ part_value r D)
      (h : Says r (preimage log (scalar_part r F (rows_of D)) D P X W)) where
    abbrev k : ℕ
    k = length found

    abbrev Ms : List (MatrixOf r)
    Ms = Members found

    abbrev longer : List Part
    longer = found ++ P ∷ []

    count : length Ms ≡ suc k
    count = ap suc (length-map found (part_value r))

    all : Members longer ≡ Ms ++ part_value r P ∷ []
    all = ap (λ xs. K ∷ xs) (values_append r found P)

    old : (j : ℕ) → j ≤ k → matrix_at r.prime r.vars (Members longer) j ≡ matrix_at r.prime r.vars Ms j
    old j l = ap (λ xs. matrix_at r.prime r.vars xs j) all ∙ old_at r.prime r.vars Ms (part_value r P) j (let c = count in omega (arith, c, l))

    new : matrix_at r.prime r.vars (Members longer) (suc k) ≡ part_value r P
    new = ap (λ xs. matrix_at r.prime r.vars xs (suc k)) all ∙ new_at r.prime r.vars Ms (part_value r P) (suc k) (sym count)

    rows : rows_of D ≡ K.rows
    rows = rows_are r D f_D ∙ ap (λ (A : MatrixOf r). A.rows) (sym is) ∙ shape_rows r.prime r.vars K.rows (length (matrix_at r.prime r.vars Ms k).columns) (matrix_at r.prime r.vars Ms k) (C.fits k (omega arith))

    high : rows_of P ≡ K.rows
    high = h.0 ∙ scalar_columns r F (rows_of D) ∙ rows

    here : GeneratesPreimage r.prime r.vars (part_value r P) (matrix_scalar r.prime r.vars F K.rows) (matrix_at r.prime r.vars Ms k)
    here = subst₂ (GeneratesPreimage r.prime r.vars (part_value r P)) (matrix_means r (matrix_scalar r.prime r.vars F (rows_of D)) ∙ ap (matrix_scalar r.prime r.vars F) rows) (sym is) h.1

    many : length longer ≡ suc k
    many = length-append found (P ∷ []) ∙ omega arith

    pub colon_named : Colons longer
    colon_named = record {
      good = good_append found P C.good f_P;
      fits = λ j l. elim (dec_lt j (suc k)) [
        | yes w ↦ subst (λ A. HasShape r.prime r.vars K.rows (length A.columns) A) (sym (old j (omega (arith, w)))) (C.fits j (omega (arith, w)))
        | no w ↦
            let e : suc k ≡ j = (let m = many in omega (arith, w, l, m)) in
            subst (λ x. HasShape r.prime r.vars K.rows (length (matrix_at r.prime r.vars (Members longer) x).columns) (matrix_at r.prime r.vars (Members longer) x)) e
            (subst (λ A. HasShape r.prime r.vars K.rows (length A.columns) A) (sym new) (renamed r (part_value r P) high (columns_are r P f_P) (part_shape r P f_P)))
      ];
      step = λ j l. elim (dec_lt j k) [
        | yes w ↦ subst₂ (λ A B. GeneratesPreimage r.prime r.vars A (matrix_scalar r.prime r.vars F K.rows) B) (sym (old (suc j) w)) (sym (old j (omega (arith, w)))) (C.step j w)
        | no w ↦
            let e : k ≡ j = (let m = many in omega (arith, w, l, m)) in
            subst (λ x. GeneratesPreimage r.prime r.vars (matrix_at r.prime r.vars (Members longer) (suc x)) (matrix_scalar r.prime r.vars F K.rows) (matrix_at r.prime r.vars (Members longer) x)) e
            (subst₂ (λ A B. GeneratesPreimage r.prime r.vars A (matrix_scalar r.prime r.vars F K.rows) B) (sym new) (sym (old k (omega arith))) here)
      ];
    }

  -- C_j adds nothing to C_(j-1)
  abbrev pub Settled : List Part → Type 0
  Settled found = ColumnsInImage r.prime r.vars (matrix_at r.prime r.vars (Members found) (length found - 1)) (matrix_at r.prime r.vars (Members found) (length found))

  pub settled : (found : List Part) (C D W : Part) → matrix_at r.prime r.vars (Members found) (length found - 1) ≡ part_value r C → matrix_at r.prime r.vars (Members found) (length found) ≡ part_value r D
      → Says r (equal D (times C W)) → Settled found
  unfolding part_value
  settled found C D W c d h = subst₂ (ColumnsInImage r.prime r.vars) (sym c) (sym d) (multiple_columns r C W (part_value r D) h.1 h.4)

  -- no power sends everything into the stable kernel
  pub never_right : (found : List Part) → Colons found → 0 < length found → Settled found → (C : Part) → fits C ≡ true → matrix_at r.prime r.vars (Members found) (length found - 1) ≡ part_value r C
      → (log : Log) (c : ℕ) (by : List ℕ) → 0 < c → c ≤ columns_of (unit_part r (rows_of C)) → Says r (outside log 0 C (unit_part r (rows_of C)) c by) → IsRight r (inverting g.degree (ideal_of r g b) F None)
  unfolding matrix_at
  never_right found cs some_found settled C f_C is log c by some few h =
      let k = length found - 1 in
      let next : suc k ≡ length found = omega (arith, some_found) in
      let colons : IsColons r.prime r.vars K F (Members found) k = record {
        fits = λ j l. cs.fits j (omega (arith, l, next));
        first = λ v. ((λ x. x), (λ x. x));
        step = λ j l. cs.step j (omega (arith, l, next));
      } in (
        R.facts.resolved,
        inverting_no_verdict r.prime r.vars R.facts F (Members found) k colons
            (subst (λ j. ColumnsInImage r.prime r.vars (matrix_at r.prime r.vars (Members found) k) (matrix_at r.prime r.vars (Members found) j)) (sym next) settled)
            (proper_not_everything r log C (matrix_at r.prime r.vars (Members found) k) c by is f_C some few h),
      )
