-- Calls that trim the columns of a matrix.
use Rattle.std.proofs.Common.{ℕ, ◌-◌, ◌≤◌, ◌≡◌, ◌↔◌, Bool, not, Result, Ok, Err, List, [], ◌∷◌, ◌++◌, length, map, get_or, sym, ap, ap₂, ◌∙◌, subst, arith}
use Rattle.std.specs.Prelude.{IfOk}
use Rattle.std.specs.List.{filter}
use Rattle.fm_algebra.specs.PolynomialMatrices.{InImage}
use Rattle.fm_poly.specs.declared.ring.Ring.{Ring}
use Rattle.fm_poly.specs.Polys.{PolyValue}
use Rattle.fm_term.specs.declared.vterm.VTerm.{VTerm}
use Rattle.fm_run.specs.declared.stop.Stop.{Stop}
use Rattle.fm_run.specs.Runs.{Spends, Follows}
use Rattle.fm_run.proofs.Ends.{Ends}
use Rattle.fm_mat.specs.Matrices.{MatrixValue, AreColumns, columns_meaning, matrix_meaning}
use Rattle.fm_mat.proofs.Steps.{map_length}
use Rattle.fm_graphs.specs.Listing.{VectorOf, terms_of}
use Rattle.fm_graphs.specs.Graphs.{MatrixOf}
use Rattle.fm_graphs.specs.Trims.{is_zero, is_nonzero, trimmed}
use Rattle.fm_graphs.proofs.Spending.{trim_spends}
use Rattle.fm_vec.specs.Vectors.{VectorValue}
use Rattle.fm_complete.specs.Divisions as divisions
use Rattle.fm_complete.proofs.Standing.{length_terms}
use Rattle.fm_syz.specs.Numbers.{numbers_from, AreRising, column_at, columns_at}
use Rattle.fm_syz.proofs.Inputs.{if_ok, columns_long}
use Rattle.fm_syz.proofs.Numbering.{all_terms, terms_numbered, rising_from, rising_filter, rising_few, trim_rises, kept_span_the_same, kept_are_free}

pub trimmed_spends : (r : Ring) (column : ℕ → VectorOf r) (ks : List ℕ) → Spends (trimmed r column ks)
unfolding trimmed
trimmed_spends r column ks = trim_spends r column [] ks

-- what a call that trims vectors of a ring says, and one that trims columns of a matrix; X is a list of numbers in the program
abbrev pub TrimFollows : {X : Type 0} → (X → List ℕ) → (r : Ring) → List (List VTerm) → List ℕ → Result X Stop → (old new : ℕ) → Type 0
TrimFollows items r ts ks answer old new = (column : ℕ → VectorOf r) → ts ≡ map (λ k. terms_of r (column k)) ks → Follows items answer old new (trimmed r column ks old)

abbrev pub MatrixTrim : {X : Type 0} → (X → List ℕ) → (r : Ring) → MatrixValue → List ℕ → Result X Stop → (old new : ℕ) → Type 0
MatrixTrim items r a ks answer old new = Follows items answer old new (trimmed r (column_at r (matrix_meaning r a)) ks old)

abbrev pub nonzero_of : (r : Ring) → MatrixValue → List ℕ
nonzero_of r a = filter (λ k. is_nonzero r (column_at r (matrix_meaning r a) k)) (numbers_from 1 (length a.columns))

-- the terms of the columns
pub made_count : (s : Ring) (columns all : List (List PolyValue)) (vs : List VectorValue) → divisions.terms_of vs ≡ map (terms_of s) (columns_meaning s columns) → columns ≡ all → length vs ≡ length all
made_count s columns all vs is same =
    sym (length_terms vs) ∙ ap (λ (ts : List (List VTerm)). length ts) is ∙ map_length (terms_of s) (columns_meaning s columns) ∙ map_length _ columns ∙ ap (λ (cs : List (List PolyValue)). length cs) same

-- some numbers of a list
pub filter_few : (P : ℕ → Bool) (n : ℕ) (ks : List ℕ) → ks ≡ filter P (numbers_from 1 n) → length ks ≤ n
filter_few P n ks is = subst (λ (js : List ℕ). length js ≤ n) (sym is) (rising_few n (filter P (numbers_from 1 n)) (rising_filter P 0 n (numbers_from 1 n) (rising_from 0 n n (omega arith))))

module _ (r s : Ring) (a : MatrixValue) (columns : List (List PolyValue)) (ts : List (List VTerm)) (ring : s ≡ r) (same : columns ≡ a.columns) (is : ts ≡ map (terms_of s) (columns_meaning s columns)) where
  pub terms_of_columns : ts ≡ map (terms_of r) (columns_meaning r a.columns)
  terms_of_columns = is ∙ ap (λ (q : Ring). map (terms_of q) (columns_meaning q columns)) ring ∙ ap (λ cs. map (terms_of r) (columns_meaning r cs)) same

  module _ {X : Type 0} (items : X → List ℕ) (ks : List ℕ) (answer : Result X Stop) (old new : ℕ) where
    -- all of them are trimmed
    pub all_follow : (n : ℕ) → n ≡ length a.columns → ks ≡ numbers_from 1 n → (us : List (List VTerm)) → us ≡ ts → TrimFollows items s us ks answer old new → MatrixTrim items r a (numbers_from 1 (length a.columns)) answer old new
    all_follow n count numbers us same_terms f =
        let cs = columns_meaning r a.columns in
        subst (λ ls. MatrixTrim items r a ls answer old new) (numbers ∙ ap (numbers_from 1) count)
        (subst (λ (q : Ring). TrimFollows items q us ks answer old new) ring f (column_at r (matrix_meaning r a))
        (same_terms ∙ all_terms r cs ts n terms_of_columns (count ∙ sym (map_length _ a.columns)) ∙ ap (map (λ k. terms_of r (column_at r (matrix_meaning r a) k))) (sym numbers)))

    -- those that are not zero are trimmed
    pub nonzero_follow : (us : List (List VTerm)) → ks ≡ filter (λ k. not (is_zero (get_or ts (k - 1) []))) (numbers_from 1 (length ts)) → us ≡ map (λ k. get_or ts (k - 1) []) ks → TrimFollows items s us ks answer old new
        → MatrixTrim items r a (nonzero_of r a) answer old new
    nonzero_follow us numbers read f =
        let read_is = terms_numbered r (columns_meaning r a.columns) ts terms_of_columns in
        let count : length ts ≡ length a.columns = ap (λ (vs : List (List VTerm)). length vs) terms_of_columns ∙ map_length (terms_of r) (columns_meaning r a.columns) ∙ map_length _ a.columns in
        subst (λ ls. MatrixTrim items r a ls answer old new) (numbers ∙ ap₂ (λ (t : ℕ → List VTerm) n. filter (λ k. not (is_zero (t k))) (numbers_from 1 n)) read_is count)
        (subst (λ (q : Ring). TrimFollows items q us ks answer old new) ring f (column_at r (matrix_meaning r a)) (read ∙ ap (λ (t : ℕ → List VTerm). map t ks) read_is))

-- ---- what the answer is worth
module _ (r : Ring) (a : MatrixValue) {X : Type 0} (items : X → List ℕ) (ks : List ℕ) (answer : Result X Stop) (old new : ℕ) (f : MatrixTrim items r a ks answer old new) where
  came_to : IfOk answer (λ out. Ends (trimmed r (column_at r (matrix_meaning r a)) ks old) (items out) new)
  came_to = go answer f
    where
      go : (answer : Result X Stop) → MatrixTrim items r a ks answer old new → IfOk answer (λ out. Ends (trimmed r (column_at r (matrix_meaning r a)) ks old) (items out) new)
      go (Ok out) f = f
      go (Err stop) f = tt

  pub trim_is_rising : AreRising 0 (length a.columns) ks → IfOk answer (λ out. AreRising 0 (length a.columns) (items out))
  trim_is_rising rises = if_ok answer (λ out e. trim_rises r (column_at r (matrix_meaning r a)) ks 0 (length a.columns) rises old new (items out) e) came_to

pub all_rise : (n : ℕ) → AreRising 0 n (numbers_from 1 n)
all_rise n = rising_from 0 n n (omega arith)

pub nonzero_rise : (r : Ring) (a : MatrixValue) → AreRising 0 (length a.columns) (nonzero_of r a)
nonzero_rise r a = rising_filter (λ k. is_nonzero r (column_at r (matrix_meaning r a) k)) 0 (length a.columns) (numbers_from 1 (length a.columns)) (all_rise (length a.columns))

module _ (r : Ring) (a : MatrixValue) (shape : AreColumns r a.rows a.columns) {X : Type 0} (items : X → List ℕ) (answer : Result X Stop) (old new : ℕ) (f : MatrixTrim items r a (numbers_from 1 (length a.columns)) answer old new) where
  abbrev A : MatrixOf r
  A = matrix_meaning r a

  ends : IfOk answer (λ out. Ends (trimmed r (column_at r A) (numbers_from 1 (length A.columns)) old) (items out) new)
  ends = subst (λ n. IfOk answer (λ out. Ends (trimmed r (column_at r A) (numbers_from 1 n) old) (items out) new)) (sym (map_length _ a.columns)) (came_to r a items (numbers_from 1 (length a.columns)) answer old new f)

  pub trim_spans : IfOk answer (λ out. (v : VectorOf r) → InImage r.prime r.vars (columns_at r A (items out)) v ↔ InImage r.prime r.vars A v)
  trim_spans = if_ok answer (λ out e. kept_span_the_same r A (columns_long r a.rows a.columns shape) old new (items out) e) ends

  pub trim_frees : IfOk answer (λ out. (former later : List ℕ) (k : ℕ) → (items out) ≡ former ++ k ∷ later → ¬ (InImage r.prime r.vars (columns_at r A (former ++ later)) (column_at r A k)))
  trim_frees = if_ok answer (λ out e. kept_are_free r A (columns_long r a.rows a.columns shape) old new (items out) e) ends
