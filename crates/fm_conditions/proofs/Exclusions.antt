-- Conditions on columns outside of images, step by step.
use Rattle.std.proofs.Common.{◌≡◌, ℕ, ◌+◌, ◌-◌, ◌<◌, ◌^◌, true, ◌&&◌, nat_eq, List, [], get_or, length, Result, Ok, Err, sym, ap₂, ◌∙◌, subst}
use Rattle.std.proofs.lemmas.Bool.{and_parts, eqb-true}
use Rattle.std.specs.List.{list_all}
use Rattle.fm_gfp.specs.Primes.{prime_value}
use Rattle.fm_words.specs.Steps.{◌>>=◌}
use Rattle.fm_poly.specs.declared.ring.Ring.{Ring}
use Rattle.fm_term.specs.declared.vterm.VTerm.{VTerm}
use Rattle.fm_vec.specs.Multiples.{twist_fits}
use Rattle.fm_complete.specs.Divisions.{AreMembers}
use Rattle.fm_mat.specs.Matrices.{MatrixValue, matrix_meaning}
use Rattle.fm_graphs.specs.Graphs.{MatrixOf}
use Rattle.fm_report.specs.Parts.{Part}
use Rattle.fm_parts.specs.Shapes.{rows_of, columns_of, fits, have_one_shape}
use Rattle.fm_parts.specs.Values.{same_matrix}
use Rattle.fm_parts.specs.Replays.{Reason, Exponents, Reduction, needs, reduce_by}
use Rattle.fm_parts.specs.Conditions.{Log, outside, shapes_fit, evaluated, above_zeros, twisted_members, is_outside, holds_outside}
use Rattle.fm_parts.proofs.Shapes.{one_shape}
use Rattle.fm_pres.specs.Kept.{IsValue}
use Rattle.fm_conditions.specs.declared.kept_log.KeptLog.{KeptLog}
use Rattle.fm_conditions.specs.declared.why.Refused.{Refused}
use Rattle.fm_conditions.specs.Meanings.{IsKeptLog, log_of}
use Rattle.fm_conditions.specs.Generators.{twisting, excluding}
use Rattle.fm_conditions.specs.Reasons.{Judges}
use Rattle.fm_conditions.proofs.Judgements.{value_view, end_view, goes_on, grouped, evaluated_is, refused_first, judged_next, judged_so}

-- what the shapes of such a condition tell
pub record OutsideShapes (log : Log) (A V : Part) : Type 0 where
  pub matrix : fits A ≡ true
  pub vector : fits V ≡ true
  pub logged_rows : rows_of log.part ≡ rows_of A
  pub logged_columns : columns_of log.part ≡ columns_of A
  pub rows : rows_of V ≡ rows_of A

pub outside_shapes : (log : Log) (e : ℕ) (A V : Part) (column : ℕ) (by : List ℕ) → shapes_fit (outside log e A V column by) ≡ true → OutsideShapes log A V
outside_shapes log e A V column by fit =
    let a = and_parts (fits A) (fits V && (have_one_shape log.part A && nat_eq (rows_of V) (rows_of A))) fit in
    let b = and_parts (fits V) (have_one_shape log.part A && nat_eq (rows_of V) (rows_of A)) a.1 in
    let d = and_parts (have_one_shape log.part A) (nat_eq (rows_of V) (rows_of A)) b.1 in
    let shape = one_shape log.part A d.0 in
    record {
      matrix = a.0;
      vector = b.0;
      logged_rows = shape.0;
      logged_columns = shape.1;
      rows = eqb-true (rows_of V) (rows_of A) d.1;
    }

module _ (r : Ring) (ps : List Part) (l : KeptLog) (kept : IsKeptLog r ps l) (A V : Part) (s : OutsideShapes (log_of ps l) A V) (a : MatrixValue) (v : IsValue r A a) where
  pub graph_members : AreMembers r (a.rows + length a.columns) l.members.items
  graph_members = subst (λ n. AreMembers r n l.members.items) (ap₂ (λ m n. m + n) (s.logged_rows ∙ sym v.rows) (s.logged_columns ∙ sym v.columns)) kept.members

  pub graph_room : a.rows + length a.columns < 2 ^ 32
  graph_room = subst (λ n. n < 2 ^ 32) (ap₂ (λ m n. m + n) (s.logged_rows ∙ sym v.rows) (s.logged_columns ∙ sym v.columns)) kept.room

module _ (r : Ring) where
  -- the members are twisted first
  pub excluding_is : (m e : ℕ) (members : List (List VTerm)) (by : List ℕ) (start : List VTerm) → excluding r m e members by start
      ≡ (twisting r e members >>= λ twisted. reduce_by r Reduction twisted by start >>= λ rest. needs (is_outside m twisted rest) Reduction)
  excluding_is m e members by start =
      sym (grouped (needs (list_all (twist_fits (prime_value r.prime ^ e)) members) Exponents) (λ _. Ok (twisted_members r e members))
      (λ twisted. reduce_by r Reduction twisted by start >>= λ rest. needs (is_outside m twisted rest) Reduction))

  -- where the values of the log's part and of A are known
  pub outside_is : (log : Log) (e : ℕ) (A V : Part) (column : ℕ) (by : List ℕ) (l a : MatrixValue) → IsValue r log.part l → IsValue r A a → holds_outside r log e A V column by
      ≡ (needs (same_matrix r (matrix_meaning r l) (matrix_meaning r a)) Reduction >>= λ _. evaluated r V >>= λ v. excluding r (rows_of A) e log.members by (above_zeros r (get_or v.columns (column - 1) []) (columns_of A)))
  outside_is log e A V column by l a first second =
      let rest = λ (v : MatrixOf r). excluding r (rows_of A) e log.members by (above_zeros r (get_or v.columns (column - 1) []) (columns_of A)) in
      goes_on (evaluated r log.part) (matrix_meaning r l) (λ (k : MatrixOf r). evaluated r A >>= λ h. needs (same_matrix r k h) Reduction >>= λ _. evaluated r V >>= rest) (evaluated_is r log.part l first)
      ∙ goes_on (evaluated r A) (matrix_meaning r a) (λ (h : MatrixOf r). needs (same_matrix r (matrix_meaning r l) h) Reduction >>= λ _. evaluated r V >>= rest) (evaluated_is r A a second)

-- step by step
module _ (r : Ring) (log : Log) (e : ℕ) (A V : Part) (column : ℕ) (by : List ℕ) where
  abbrev from_vector : MatrixOf r → Result (Unit {0}) Reason
  from_vector v = excluding r (rows_of A) e log.members by (above_zeros r (get_or v.columns (column - 1) []) (columns_of A))

  abbrev from_same : Unit {0} → Result (Unit {0}) Reason
  from_same u = evaluated r V >>= from_vector

  abbrev from_matrix : MatrixOf r → MatrixOf r → Result (Unit {0}) Reason
  from_matrix k h = needs (same_matrix r k h) Reduction >>= from_same

  abbrev from_logged : MatrixOf r → Result (Unit {0}) Reason
  from_logged k = evaluated r A >>= from_matrix k

  -- the value of the log's part is not formed
  pub logged_refused : (why : Refused) → Judges (value_view r) (Err why) (evaluated r log.part) → Judges end_view (Err why) (holds_outside r log e A V column by)
  logged_refused why h = refused_first (value_view r) end_view why (evaluated r log.part) from_logged h

  -- that of A is not formed
  pub matrix_refused : (l : MatrixValue) (why : Refused) → IsValue r log.part l → Judges (value_view r) (Err why) (evaluated r A) → Judges end_view (Err why) (holds_outside r log e A V column by)
  matrix_refused l why v h =
      judged_next end_view (Err why) (evaluated r log.part) (matrix_meaning r l) from_logged (evaluated_is r log.part l v)
      (refused_first (value_view r) end_view why (evaluated r A) (from_matrix (matrix_meaning r l)) h)

  module _ (l a : MatrixValue) (first : IsValue r log.part l) (second : IsValue r A a) where
    abbrev same_test : Result (Unit {0}) Reason
    same_test = needs (same_matrix r (matrix_meaning r l) (matrix_meaning r a)) Reduction

    from_start : (x : Result (Unit {0}) Refused) → Judges end_view x (same_test >>= from_same) → Judges end_view x (holds_outside r log e A V column by)
    from_start x h = judged_so end_view x (same_test >>= from_same) (holds_outside r log e A V column by) (sym (outside_is r log e A V column by l a first second)) h

    -- the log is of another matrix
    pub other_matrix : (why : Refused) → Judges end_view (Err why) same_test → Judges end_view (Err why) (holds_outside r log e A V column by)
    other_matrix why h = from_start (Err why) (refused_first end_view end_view why same_test from_same h)

    -- the value of V is not formed
    pub vector_refused : (why : Refused) → same_test ≡ Ok (tt {0}) → Judges (value_view r) (Err why) (evaluated r V) → Judges end_view (Err why) (holds_outside r log e A V column by)
    vector_refused why t h = from_start (Err why) (judged_next end_view (Err why) same_test tt from_same t (refused_first (value_view r) end_view why (evaluated r V) from_vector h))

    -- all turns on the reduction
    pub reduction_left : (v : MatrixValue) (x : Result (Unit {0}) Refused) → same_test ≡ Ok (tt {0}) → IsValue r V v
        → Judges end_view x (excluding r a.rows e log.members by (above_zeros r (get_or (matrix_meaning r v).columns (column - 1) []) (length a.columns)))
        → Judges end_view x (holds_outside r log e A V column by)
    reduction_left v x t w h =
        from_start x (judged_next end_view x same_test tt from_same t (judged_next end_view x (evaluated r V) (matrix_meaning r v) from_vector (evaluated_is r V v w)
        (subst (λ (n : ℕ). Judges end_view x (excluding r (rows_of A) e log.members by (above_zeros r (get_or (matrix_meaning r v).columns (column - 1) []) n))) second.columns
        (subst (λ (m : ℕ). Judges end_view x (excluding r m e log.members by (above_zeros r (get_or (matrix_meaning r v).columns (column - 1) []) (length a.columns)))) second.rows h))))

    -- where what it goes by is read again
    pub reduction_read : (v : MatrixValue) (x : Result (Unit {0}) Refused) (q : Ring) (m n : ℕ) (members : List (List VTerm)) → q ≡ r → m ≡ a.rows → n ≡ length a.columns → members ≡ log.members
        → same_test ≡ Ok (tt {0}) → IsValue r V v → Judges end_view x (excluding q m e members by (above_zeros q (get_or (matrix_meaning q v).columns (column - 1) []) n))
        → Judges end_view x (holds_outside r log e A V column by)
    reduction_read v x q m n members eq em en es t w h =
        reduction_left v x t w
        (subst (λ (gs : List (List VTerm)). Judges end_view x (excluding r a.rows e gs by (above_zeros r (get_or (matrix_meaning r v).columns (column - 1) []) (length a.columns)))) es
        (subst (λ (k : ℕ). Judges end_view x (excluding r a.rows e members by (above_zeros r (get_or (matrix_meaning r v).columns (column - 1) []) k))) en
        (subst (λ (k : ℕ). Judges end_view x (excluding r k e members by (above_zeros r (get_or (matrix_meaning r v).columns (column - 1) []) n))) em
        (subst (λ (s : Ring). Judges end_view x (excluding s m e members by (above_zeros s (get_or (matrix_meaning s v).columns (column - 1) []) n))) eq h))))
