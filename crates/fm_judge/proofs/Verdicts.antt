-- What certificates of one base show: verdicts, and that the matrices are what they are said to be.
use Rattle.std.proofs.Common.{◌≡◌, ℕ, zero, suc, ◌<◌, ◌≤◌, true, false, List, [], ◌∷◌, length, Some, refl, sym, ap, ◌∙◌, subst, subst₂, arith}
use Rattle.std.proofs.lemmas.Bool.{false≢true}
use Rattle.std.proofs.lemmas.List.{length-map}
use Rattle.fm_algebra.specs.Polynomials.{Polynomial}
use Rattle.fm_algebra.specs.PolynomialMatrices.{HasShape, InImage, matrix_unit, matrix_scalar}
use Rattle.fm_limit.specs.ResolvedIdeal.{matrix_at, InIdeal}
use Rattle.fm_limit.specs.Facts.{ColumnsInImage, IsEverything}
use Rattle.fm_limit.specs.Verdicts.{Verdict, RestsOn, Holds, zero_limit, root, member, ext}
use Rattle.fm_limit.proofs.MatrixWords.{scalar_fits, shape_columns}
use Rattle.fm_limit.proofs.VerdictLaws.{zero_verdict, root_verdict}
use Rattle.fm_poly.specs.Polys.{PolyValue, meaning}
use Rattle.fm_poly.specs.declared.ring.Ring.{Ring}
use Rattle.fm_graphs.specs.Graphs.{MatrixOf}
use Rattle.fm_answers.proofs.PrintedMatrices.{matrix_means}
use Rattle.fm_answers.specs.Printed.{printed_vector}
use Rattle.fm_report.specs.Parts.{Part, times, meant, part_value}
use Rattle.fm_report.specs.Sheets.{Block, numbered}
use Rattle.fm_report.specs.Verdicts.{part_at, root_of, ext_of}
use Rattle.fm_parts.specs.Shapes.{rows_of, columns_of, fits}
use Rattle.fm_parts.specs.Conditions.{Log, equal, outside}
use Rattle.fm_parts.specs.Meanings.{Says}
use Rattle.fm_parts.proofs.Shapes.{part_shape}
use Rattle.fm_judge.specs.Goals.{Goal, told_generators, told_relations}
use Rattle.fm_judge.specs.Claims.{printed_part, unit_part, scalar_part, row_part, column_part}
use Rattle.fm_judge.proofs.Goods.{good_at, value_at, rows_are, columns_are}
use Rattle.fm_judge.proofs.Resolving.{Told, row_means}
use Rattle.fm_judge.proofs.Lifting.{Presented, ideal_of}
use Rattle.fm_judge.proofs.Chains.{Kernels, Repeating, multiple_columns, not_inside, not_all_inside}

-- the verdict holds, on what it rests on
abbrev pub IsRight : (r : Ring) → Verdict r.prime r.vars → Type 0
IsRight r v = RestsOn r.prime r.vars v × Holds r.prime r.vars v

-- the columns of a matrix, as the tables have it; and those of a polynomial times the unit matrix
pub printed_columns : (r : Ring) (A : MatrixOf r) → columns_of (printed_part r A) ≡ length A.columns
printed_columns r A = length-map A.columns (printed_vector r)

pub scalar_columns : (r : Ring) (a : Polynomial r.prime r.vars) (n : ℕ) → columns_of (scalar_part r a n) ≡ n
scalar_columns r a n = printed_columns r (matrix_scalar r.prime r.vars a n) ∙ shape_columns r.prime r.vars n n (matrix_scalar r.prime r.vars a n) (scalar_fits r.prime r.vars a n)

module _ (r : Ring) where
  -- im K is everything, where K times W is the unit matrix
  pub whole_everything : (K W : Part) (A : MatrixOf r) → A ≡ part_value r K → fits K ≡ true → Says r (equal (times K W) (unit_part r (rows_of K))) → IsEverything r.prime r.vars A
  unfolding part_value
  whole_everything K W A is f h =
      let rows : A.rows ≡ rows_of K = ap (λ (B : MatrixOf r). B.rows) is ∙ sym (rows_are r K f) in
      subst₂ (ColumnsInImage r.prime r.vars) (sym is) (ap (matrix_unit r.prime r.vars) (sym rows))
      (multiple_columns r K W (matrix_unit r.prime r.vars (rows_of K)) h.0 (sym (h.4 ∙ matrix_means r (matrix_unit r.prime r.vars (rows_of K)))))

  -- not all columns of a matrix are inside, where one lies outside
  pub columns_outside : (m k : ℕ) (log : Log) (K : Part) (B : MatrixOf r) (c : ℕ) (by : List ℕ) → HasShape r.prime r.vars m k (part_value r K) → 0 < c → c ≤ columns_of (printed_part r B)
      → Says r (outside log 0 K (printed_part r B) c by) → ¬ (ColumnsInImage r.prime r.vars (part_value r K) B)
  columns_outside m k log K B c by s some few h all =
      let u = matrix_means r B in
      let wide : length (part_value r (printed_part r B)).columns ≡ columns_of (printed_part r B) = ap (λ (A : MatrixOf r). length A.columns) u ∙ sym (printed_columns r B) in
      not_inside r m k (part_value r K) (part_value r (printed_part r B)) c s some (omega (arith, few, wide)) (h some few) (subst (ColumnsInImage r.prime r.vars (part_value r K)) (sym u) all)

  pub column_outside : (log : Log) (K : Part) (B : MatrixOf r) (c : ℕ) (by : List ℕ) → fits K ≡ true → 0 < c → c ≤ columns_of (printed_part r B) → Says r (outside log 0 K (printed_part r B) c by)
      → ¬ (ColumnsInImage r.prime r.vars (part_value r K) B)
  column_outside log K B c by f = columns_outside (rows_of K) (columns_of K) log K B c by (part_shape r K f)

  -- im K is not everything, where a column of the unit matrix lies outside
  pub proper_not_everything : (log : Log) (K : Part) (A : MatrixOf r) (c : ℕ) (by : List ℕ) → A ≡ part_value r K → fits K ≡ true → 0 < c → c ≤ columns_of (unit_part r (rows_of K))
      → Says r (outside log 0 K (unit_part r (rows_of K)) c by) → ¬ (IsEverything r.prime r.vars A)
  proper_not_everything log K A c by is f some few h all =
      let rows : A.rows ≡ rows_of K = ap (λ (B : MatrixOf r). B.rows) is ∙ sym (rows_are r K f) in
      column_outside log K (matrix_unit r.prime r.vars (rows_of K)) c by f some few h (subst₂ (ColumnsInImage r.prime r.vars) is (ap (matrix_unit r.prime r.vars) rows) all)

  -- ---- membership
  pub member_yes : (fs : List PolyValue) (f : PolyValue) (d W : Part) → Says r (equal d (row_part fs)) → Says r (equal (times d W) (column_part (f ∷ []))) → IsRight r (member (meant r fs) (meaning r f.terms) true)
  unfolding InIdeal part_value
  member_yes fs f d W h k =
      let inside : InImage r.prime r.vars (part_value r d) (meaning r f.terms ∷ []) = multiple_columns r d W (part_value r (column_part (f ∷ []))) k.0 (sym k.4) 0 (omega arith) in
      (tt, (λ x. subst (λ A. InImage r.prime r.vars A (meaning r f.terms ∷ [])) (h.4 ∙ row_means r fs) inside, λ x. refl))

  pub member_no : (fs : List PolyValue) (f : PolyValue) (d : Part) (log : Log) (by : List ℕ) → Says r (equal d (row_part fs)) → Says r (outside log 0 d (column_part (f ∷ [])) 1 by) → IsRight r (member (meant r fs) (meaning r f.terms) false)
  unfolding InIdeal part_value
  member_no fs f d log by h k =
      let none = not_all_inside r d (part_value r (column_part (f ∷ []))) 1 h.0 (omega arith) (omega arith) (k (omega arith) (omega arith)) in
      (tt, (λ x. absurd (false≢true x), λ x. absurd (none (only (subst (λ A. InImage r.prime r.vars A (meaning r f.terms ∷ [])) (sym (h.4 ∙ row_means r fs)) x)))))
    where
      only : InImage r.prime r.vars (part_value r d) (meaning r f.terms ∷ []) → ColumnsInImage r.prime r.vars (part_value r d) (part_value r (column_part (f ∷ [])))
      only x zero l = x
      only x (suc c) l = absurd (omega (arith, l))

module _ (r : Ring) (g : Goal) (t : ℕ) (b : Block) (R : Repeating r g t b) where
  abbrev A : MatrixOf r
  A = matrix_at r.prime r.vars (Kernels r g b) t

  pub stable_rows : (P : Part) → numbered b.kernels (suc t) ≡ Some P → rows_of P ≡ A.rows
  stable_rows P i = rows_are r P (good_at b.kernels (suc t) P R.chained.good i) ∙ ap (λ (B : MatrixOf r). B.rows) (sym (value_at r b.kernels t P i).1)

  -- ---- zero
  pub zero_yes : (K W : Part) → numbered b.kernels (suc t) ≡ Some K → Says r (equal (times K W) (unit_part r (rows_of K))) → IsRight r (zero_limit g.degree (ideal_of r g b) true t)
  zero_yes K W i h = (
    R.facts.resolved,
    zero_verdict r.prime r.vars R.facts R.chained.first true
        ((λ x. whole_everything r K W A (value_at r b.kernels t K i).1 (good_at b.kernels (suc t) K R.chained.good i) h), λ x. refl),
  )

  pub zero_no : (K : Part) (log : Log) (c : ℕ) (by : List ℕ) → numbered b.kernels (suc t) ≡ Some K → 0 < c → c ≤ columns_of (unit_part r (rows_of K)) → Says r (outside log 0 K (unit_part r (rows_of K)) c by)
      → IsRight r (zero_limit g.degree (ideal_of r g b) false t)
  zero_no K log c by i some few h = (
    R.facts.resolved,
    zero_verdict r.prime r.vars R.facts R.chained.first false
        ((λ x. absurd (false≢true x)), λ x. absurd (proper_not_everything r log K A c by (value_at r b.kernels t K i).1 (good_at b.kernels (suc t) K R.chained.good i) some few h x)),
  )

  -- ---- roots
  pub root_right : IsRight r (root_of r g.degree g.generators b (length (part_at r b.cocycles 0).columns) t)
  unfolding matrix_at
  root_right =
      let C = R.chained in
      let z : part_at r b.cocycles 0 ≡ part_value r C.Z = ap (λ xs. part_at r xs 0) C.Z_is in
      let u : part_at r b.morphism 0 ≡ part_value r C.U = ap (λ xs. part_at r xs 0) C.U_is in
      subst₂ (λ Z U. IsRight r (root g.degree (ideal_of r g b) Z A U (length Z.columns) t)) (sym z) (sym u) (R.facts.resolved, root_verdict r.prime r.vars R.facts C.first)

-- ---- Ext
pub ext_right : (r : Ring) (g : Goal) (b : Block) → Presented r g b → (m n : ℕ) → told_generators g.aim ≡ Some m → told_relations g.aim ≡ Some n → IsRight r (ext_of r g.degree g.generators b m n)
unfolding matrix_at
ext_right r g b P m n e e' =
    let R = P.relations in
    let C = R.cocycles in
    let z : part_at r b.cocycles 0 ≡ part_value r C.Z = ap (λ xs. part_at r xs 0) C.is in
    let k : part_at r b.kernels 0 ≡ part_value r R.N = ap (λ xs. part_at r xs 0) R.is in
    let u : part_at r b.morphism 0 ≡ part_value r P.U = ap (λ xs. part_at r xs 0) P.is in
    let of_z : length (part_value r C.Z).columns ≡ m = sym (columns_are r C.Z C.good) ∙ sym (subst (λ o. Told o (columns_of C.Z)) e C.told) in
    let of_n : length (part_value r R.N).columns ≡ n = sym (columns_are r R.N R.good) ∙ sym (subst (λ o. Told o (columns_of R.N)) e' R.told) in
    subst (λ Z. IsRight r (ext g.degree (ideal_of r g b) Z (part_at r b.kernels 0) (part_at r b.morphism 0) m n)) (sym z)
    (subst₂ (λ N U. IsRight r (ext g.degree (ideal_of r g b) (part_value r C.Z) N U m n)) (sym k) (sym u) (C.base.resolved, (of_z, of_n, P.presents)))
