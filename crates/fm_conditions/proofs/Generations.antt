-- Conditions on generators, step by step.
use Rattle.std.proofs.Common.{◌≡◌, ℕ, ◌+◌, ◌<◌, ◌^◌, true, ◌&&◌, nat_eq, List, length, Result, Ok, Err, sym, ap₂, ◌∙◌, subst}
use Rattle.std.proofs.lemmas.Bool.{and_parts, eqb-true}
use Rattle.fm_words.specs.Steps.{◌>>=◌}
use Rattle.fm_poly.specs.declared.ring.Ring.{Ring}
use Rattle.fm_term.specs.declared.vterm.VTerm.{VTerm}
use Rattle.fm_groebner.specs.Syzygies.{lower_members, syzygies, first_rows}
use Rattle.fm_complete.specs.Divisions.{AreMembers, terms_of}
use Rattle.fm_mat.specs.Matrices.{MatrixValue, matrix_meaning}
use Rattle.fm_graphs.specs.Graphs.{MatrixOf}
use Rattle.fm_report.specs.Parts.{Part, stack, times}
use Rattle.fm_parts.specs.Shapes.{rows_of, columns_of, fits, have_one_shape}
use Rattle.fm_parts.specs.Values.{same_matrix, is_zero_matrix}
use Rattle.fm_parts.specs.Replays.{Reason, Value, needs}
use Rattle.fm_parts.specs.Conditions.{Log, generators_fit, evaluated, holds_generating}
use Rattle.fm_parts.proofs.Shapes.{factors, one_shape}
use Rattle.fm_pres.specs.Kept.{IsValue}
use Rattle.fm_pres.proofs.Shapes.{fits_small}
use Rattle.fm_conditions.specs.declared.kept_log.KeptLog.{KeptLog}
use Rattle.fm_conditions.specs.declared.why.Refused.{Refused}
use Rattle.fm_conditions.specs.Meanings.{IsKeptLog, log_of}
use Rattle.fm_conditions.specs.Generators.{vanishing, covering}
use Rattle.fm_conditions.specs.Reasons.{Judges}
use Rattle.fm_conditions.proofs.Judgements.{value_view, end_view, goes_on, grouped, evaluated_is, judged_so, refused_first, judged_next}

-- what the shapes of such a condition tell
pub record GeneratorShapes (log : Log) (G : Part) (n : ℕ) (C X W : Part) : Type 0 where
  pub logged_rows : rows_of log.part ≡ rows_of G
  pub logged_columns : columns_of log.part ≡ columns_of G
  pub matrix : fits G ≡ true
  pub front : rows_of C ≡ n
  pub under : fits (stack C X) ≡ true
  pub inner : columns_of G ≡ rows_of C + rows_of X
  pub cover : fits (times C W) ≡ true
  pub syzygies : length (lower_members (rows_of G) log.members) < 2 ^ 32

pub generator_shapes : (log : Log) (G : Part) (front : ℕ) (C X W : Part) → generators_fit log G front C X W ≡ true → GeneratorShapes log G front C X W
generator_shapes log G front C X W fit =
    let count = length (lower_members (rows_of G) log.members) in
    let a = and_parts (have_one_shape log.part G) (nat_eq (rows_of C) front && (fits (times G (stack C X)) && (fits (times C W) && nat_eq (columns_of W) count))) fit in
    let b = and_parts (nat_eq (rows_of C) front) (fits (times G (stack C X)) && (fits (times C W) && nat_eq (columns_of W) count)) a.1 in
    let d = and_parts (fits (times G (stack C X))) (fits (times C W) && nat_eq (columns_of W) count) b.1 in
    let e = and_parts (fits (times C W)) (nat_eq (columns_of W) count) d.1 in
    let shape = one_shape log.part G a.0 in
    let product = factors G (stack C X) d.0 in
    record {
      logged_rows = shape.0;
      logged_columns = shape.1;
      matrix = product.0;
      front = eqb-true (rows_of C) front b.0;
      under = product.1;
      inner = product.2;
      cover = e.0;
      syzygies = subst (λ n. n < 2 ^ 32) (eqb-true (columns_of W) count e.1) (fits_small W (factors C W e.0).1).1;
    }

module _ (r : Ring) (ps : List Part) (l : KeptLog) (kept : IsKeptLog r ps l) (G : Part) (front : ℕ) (C X W : Part) (s : GeneratorShapes (log_of ps l) G front C X W) (g : MatrixValue) (v : IsValue r G g) where
  pub own_members : AreMembers r (g.rows + length g.columns) l.members.items
  own_members = subst (λ n. AreMembers r n l.members.items) (ap₂ (λ m n. m + n) (s.logged_rows ∙ sym v.rows) (s.logged_columns ∙ sym v.columns)) kept.members

  pub own_syzygies : length (lower_members g.rows (terms_of l.members.items)) < 2 ^ 32
  own_syzygies = subst (λ m. length (lower_members m (terms_of l.members.items)) < 2 ^ 32) (sym v.rows) s.syzygies

  pub own_inner : rows_of C + rows_of X ≡ length g.columns
  own_inner = sym s.inner ∙ sym v.columns

-- where the values of the log's part and of G are known
module _ (r : Ring) (log : Log) (G C X W : Part) (l g : MatrixValue) (first : IsValue r log.part l) (second : IsValue r G g) where
  pub generating_is : holds_generating r log G C X W
      ≡ (needs (same_matrix r (matrix_meaning r l) (matrix_meaning r g)) Value >>= λ _. vanishing r G C X >>= λ _. covering r log.members (matrix_meaning r g) C W)
  generating_is =
      let rest = λ (h : MatrixOf r). evaluated r (times G (stack C X)) >>= λ product. needs (is_zero_matrix r product) Value >>= λ _. covering r log.members h C W in
      goes_on (evaluated r log.part) (matrix_meaning r l) (λ (k : MatrixOf r). evaluated r G >>= λ h. needs (same_matrix r k h) Value >>= λ _. rest h) (evaluated_is r log.part l first)
      ∙ goes_on (evaluated r G) (matrix_meaning r g) (λ (h : MatrixOf r). needs (same_matrix r (matrix_meaning r l) h) Value >>= λ _. rest h) (evaluated_is r G g second)
      ∙ (λ i. needs (same_matrix r (matrix_meaning r l) (matrix_meaning r g)) Value
      >>= λ _. sym (grouped (evaluated r (times G (stack C X))) (λ product. needs (is_zero_matrix r product) Value) (λ _. covering r log.members (matrix_meaning r g) C W)) i)

  abbrev same_test : Result (Unit {0}) Reason
  same_test = needs (same_matrix r (matrix_meaning r l) (matrix_meaning r g)) Value

  abbrev zero_test : Unit {0} → Result (Unit {0}) Reason
  zero_test u = vanishing r G C X >>= λ _. covering r log.members (matrix_meaning r g) C W

  abbrev last_test : Unit {0} → Result (Unit {0}) Reason
  last_test u = covering r log.members (matrix_meaning r g) C W

  -- the log is of another matrix
  pub other_matrix : (why : Refused) → Judges end_view (Err why) same_test → Judges end_view (Err why) (holds_generating r log G C X W)
  other_matrix why h = judged_so end_view (Err why) (same_test >>= zero_test) (holds_generating r log G C X W) (sym generating_is) (refused_first end_view end_view why same_test zero_test h)

  -- the product is not zero
  pub no_zero : (why : Refused) → same_test ≡ Ok (tt {0}) → Judges end_view (Err why) (vanishing r G C X) → Judges end_view (Err why) (holds_generating r log G C X W)
  no_zero why e h =
      judged_so end_view (Err why) (same_test >>= zero_test) (holds_generating r log G C X W) (sym generating_is)
      (judged_next end_view (Err why) same_test tt zero_test e (refused_first end_view end_view why (vanishing r G C X) last_test h))

  -- all turns on the syzygies
  pub cover_left : (x : Result (Unit {0}) Refused) → same_test ≡ Ok (tt {0}) → vanishing r G C X ≡ Ok (tt {0}) → Judges end_view x (covering r log.members (matrix_meaning r g) C W)
      → Judges end_view x (holds_generating r log G C X W)
  cover_left x e z h =
      judged_so end_view x (same_test >>= zero_test) (holds_generating r log G C X W) (sym generating_is)
      (judged_next end_view x same_test tt zero_test e (judged_next end_view x (vanishing r G C X) tt last_test z h))

-- where the value of the log's part is not formed, or that of G
module _ (r : Ring) (log : Log) (G C X W : Part) where
  abbrev from_matrix : MatrixOf r → MatrixOf r → Result (Unit {0}) Reason
  from_matrix k h =
      needs (same_matrix r k h) Value >>= λ _. evaluated r (times G (stack C X)) >>= λ product. needs (is_zero_matrix r product) Value >>= λ _. covering r log.members h C W

  abbrev from_logged : MatrixOf r → Result (Unit {0}) Reason
  from_logged k = evaluated r G >>= from_matrix k

  pub logged_refused : (why : Refused) → Judges (value_view r) (Err why) (evaluated r log.part) → Judges end_view (Err why) (holds_generating r log G C X W)
  logged_refused why h = refused_first (value_view r) end_view why (evaluated r log.part) from_logged h

  pub matrix_refused : (l : MatrixValue) (why : Refused) → IsValue r log.part l → Judges (value_view r) (Err why) (evaluated r G) → Judges end_view (Err why) (holds_generating r log G C X W)
  matrix_refused l why v h =
      judged_next end_view (Err why) (evaluated r log.part) (matrix_meaning r l) from_logged (evaluated_is r log.part l v)
      (refused_first (value_view r) end_view why (evaluated r G) (from_matrix (matrix_meaning r l)) h)

-- the syzygies by the members against C * W
module _ (r : Ring) (members : List (List VTerm)) (g : MatrixOf r) (C W : Part) where
  abbrev cover_test : MatrixOf r → Result (Unit {0}) Reason
  cover_test cover = needs (same_matrix r (first_rows r.prime r.vars (rows_of C) (syzygies r.prime r.vars g members)) cover) Value

  pub cover_refused : (why : Refused) → Judges (value_view r) (Err why) (evaluated r (times C W)) → Judges end_view (Err why) (covering r members g C W)
  cover_refused why h = refused_first (value_view r) end_view why (evaluated r (times C W)) cover_test h

  pub cover_next : (cover first : MatrixValue) (x : Result (Unit {0}) Refused) → IsValue r (times C W) cover
      → matrix_meaning r first ≡ first_rows r.prime r.vars (rows_of C) (syzygies r.prime r.vars g members)
      → Judges end_view x (needs (same_matrix r (matrix_meaning r first) (matrix_meaning r cover)) Value) → Judges end_view x (covering r members g C W)
  cover_next cover first x v e h =
      judged_next end_view x (evaluated r (times C W)) (matrix_meaning r cover) cover_test (evaluated_is r (times C W) cover v)
      (subst (λ (m : MatrixOf r). Judges end_view x (needs (same_matrix r m (matrix_meaning r cover)) Value)) e h)
