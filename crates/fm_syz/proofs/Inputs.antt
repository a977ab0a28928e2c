-- The completed graph of a matrix: its inputs are the columns of the graph, and its run is that of their completion.
use Rattle.std.proofs.Common.{ℕ, ◌<◌, ◌^◌, ◌≡◌, Option, Result, Ok, Err, inl, inr, List, [], ◌∷◌, length, map, sym, ap, ◌∙◌, subst, arith}
use Rattle.std.specs.Prelude.{IfOk}
use Rattle.fm_algebra.specs.Polynomials.{Polynomial}
use Rattle.fm_algebra.specs.PolynomialMatrices.{HasShape, matrix_above, matrix_unit}
use Rattle.fm_groebner.specs.Graphs.{graph}
use Rattle.fm_poly.specs.declared.ring.Ring.{Ring}
use Rattle.fm_poly.specs.Polys.{PolyValue}
use Rattle.fm_term.specs.declared.vterm.VTerm.{VTerm}
use Rattle.fm_vec.specs.Vectors.{VectorValue}
use Rattle.fm_complete.specs.Completions.{Completion, completed}
use Rattle.fm_complete.specs.Divisions as divisions
use Rattle.fm_complete.proofs.Standing.{length_terms}
use Rattle.fm_run.specs.Runs.{Halt, Halts, ready}
use Rattle.fm_run.proofs.Following.{after_value}
use Rattle.fm_run.proofs.Calls.{halts_row}
use Rattle.fm_mat.specs.Matrices.{MatrixValue, AreColumns, column_meaning, columns_meaning, matrix_meaning}
use Rattle.fm_mat.proofs.Steps.{map_length}
use Rattle.fm_graphs.specs.Listing.{terms_of}
use Rattle.fm_graphs.specs.Graphs.{MatrixOf, IsCompletedGraph, graph_run}
use Rattle.fm_graphs.proofs.Columns.{AllLong, shape_of}
use Rattle.fm_graphs.proofs.Graphs.{graph_is}
use Rattle.fm_complete.proofs.PendingPairs.{in_cases}
use Rattle.fm_syz.specs.GraphValues.{GraphValue, graph_meaning}

pub if_ok : {A E : Type 0} (r : Result A E) {P Q : A → Type 0} → ((a : A) → P a → Q a) → IfOk r P → IfOk r Q
if_ok (Ok a) f h = f a h
if_ok (Err e) f h = tt

-- the terms of the columns of the graph of a
abbrev pub graph_terms : (r : Ring) → MatrixValue → List (List VTerm)
graph_terms r a = map (terms_of r) (graph r.prime r.vars (matrix_meaning r a)).columns

-- what stands above the unit matrix
pub graph_inputs : (r s t : Ring) (n : ℕ) (a unit whole : MatrixValue) (columns : List (List PolyValue)) → s ≡ r → t ≡ r → n ≡ length a.columns
    → matrix_meaning t unit ≡ matrix_unit t.prime t.vars n → matrix_meaning r whole ≡ matrix_above r.prime r.vars (matrix_meaning r a) (matrix_meaning r unit)
    → columns ≡ whole.columns → map (terms_of s) (columns_meaning s columns) ≡ graph_terms r a
graph_inputs r s t n a unit whole columns ring ring' count is above same =
    ap (λ (q : Ring). map (terms_of q) (columns_meaning q columns)) ring
    ∙ ap (λ cs. map (terms_of r) (columns_meaning r cs)) same
    ∙ ap (λ (m : MatrixOf r). map (terms_of r) m.columns) above
    ∙ ap (λ (u : MatrixOf r). map (terms_of r) (matrix_above r.prime r.vars (matrix_meaning r a) u).columns) (subst (λ (q : Ring). matrix_meaning q unit ≡ matrix_unit q.prime q.vars n) ring' is)
    ∙ ap (λ k. map (terms_of r) (matrix_above r.prime r.vars (matrix_meaning r a) (matrix_unit r.prime r.vars k)).columns) (count ∙ sym (map_length _ a.columns))

pub inputs_few : (s : Ring) (a whole : MatrixValue) (columns : List (List PolyValue)) (out : List VectorValue) → divisions.terms_of out ≡ map (terms_of s) (columns_meaning s columns)
    → columns ≡ whole.columns → length whole.columns ≡ length a.columns → length a.columns < 2 ^ 32 → length out < 2 ^ 32
inputs_few s a whole columns out terms same count few =
    let e : length out ≡ length a.columns = sym (length_terms out) ∙ ap (λ (ts : List (List VTerm)). length ts) terms
    ∙ map_length (terms_of s) (columns_meaning s columns) ∙ map_length _ columns ∙ ap (λ (cs : List (List PolyValue)). length cs) same ∙ count in
    omega (arith, e, few)

module _ (r s : Ring) (a : MatrixValue) (inputs columns : List VectorValue) (units : ℕ) (ring : s ≡ r) (same : inputs ≡ columns) (terms : divisions.terms_of columns ≡ graph_terms r a) where
  completion_is : completed s (divisions.terms_of inputs) units ≡ completed r (graph_terms r a) units
  completion_is = ap (λ (q : Ring). completed q (divisions.terms_of inputs) units) ring ∙ ap (λ ts. completed r ts units) (ap divisions.terms_of same ∙ terms)

  -- a completion that stopped
  pub graph_halts : (new : ℕ) (o : Option Halt) → Halts units new (completed s (divisions.terms_of inputs) units) o → Halts units new (graph_run r (matrix_meaning r a) units) o
  unfolding graph_run
  graph_halts new o h =
      halts_row (completed r (graph_terms r a)) (λ c. ready (record { matrix = matrix_meaning r a; members = c.members; log = c.log })) units new (λ c u. omega arith) o
      (subst (λ d. Halts units new d o) completion_is h)

  -- a completion that ended
  pub graph_ends : (c : Completion) (left : ℕ) (g : GraphValue) → completed s (divisions.terms_of inputs) units ≡ record { end = Ok c; left = left }
      → graph_meaning r g ≡ record { matrix = matrix_meaning r a; members = c.members; log = c.log } → graph_run r (matrix_meaning r a) units ≡ record { end = Ok (graph_meaning r g); left = left }
  unfolding graph_run
  graph_ends c left g e made =
      after_value (completed r (graph_terms r a)) (λ c. ready (record { matrix = matrix_meaning r a; members = c.members; log = c.log })) units left c (sym completion_is ∙ e)
      ∙ (λ i. record { end = Ok (sym made i); left = left })

-- the columns of a matrix have its length
pub columns_long : (r : Ring) (m : ℕ) (cs : List (List PolyValue)) → AreColumns r m cs → AllLong r.prime r.vars m (columns_meaning r cs)
columns_long r m [] shape v i = elim i [ ]
columns_long r m (c ∷ cs) shape v i = elim (in_cases (column_meaning r c) (columns_meaning r cs) v i) [
  | inl e ↦ ap (λ (x : List (Polynomial r.prime r.vars)). length x) e ∙ map_length _ c ∙ shape.1
  | inr j ↦ columns_long r m cs shape.2 v j
]

pub matrix_shape : (r : Ring) (a : MatrixValue) → AreColumns r a.rows a.columns → HasShape r.prime r.vars a.rows (length (columns_meaning r a.columns)) (matrix_meaning r a)
matrix_shape r a shape = shape_of r.prime r.vars a.rows (columns_meaning r a.columns) (columns_long r a.rows a.columns shape)

-- the members complete the graph
pub graph_is_complete : (r s : Ring) (a : MatrixValue) (inputs columns : List VectorValue) (units left : ℕ) (c : Completion) → s ≡ r → inputs ≡ columns → divisions.terms_of columns ≡ graph_terms r a
    → AreColumns r a.rows a.columns → completed s (divisions.terms_of inputs) units ≡ record { end = Ok c; left = left } → IsCompletedGraph r (record { matrix = matrix_meaning r a; members = c.members; log = c.log })
unfolding graph_run
graph_is_complete r s a inputs columns units left c ring same terms shape e =
    (graph_is r (matrix_meaning r a) (matrix_shape r a shape) units left (record { matrix = matrix_meaning r a; members = c.members; log = c.log })
    (after_value (completed r (graph_terms r a)) (λ c. ready (record { matrix = matrix_meaning r a; members = c.members; log = c.log })) units left c (sym (completion_is r s a inputs columns units ring same terms) ∙ e))).0

pub unit_at : (r s : Ring) (n m : ℕ) (unit : MatrixValue) → s ≡ r → n ≡ m → matrix_meaning s unit ≡ matrix_unit s.prime s.vars n → matrix_meaning r unit ≡ matrix_unit r.prime r.vars m
unit_at r s n m unit ring same is = subst (λ (q : Ring). matrix_meaning q unit ≡ matrix_unit q.prime q.vars n) ring is ∙ ap (matrix_unit r.prime r.vars) same
