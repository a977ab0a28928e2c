-- The conditions of the lines of certificates.
use Rattle.std.specs.Prelude.{ℕ, ◌-◌, ◌^◌, Bool, true, false, ◌&&◌, not, nat_eq, nat_le, List, [], ◌∷◌, ◌++◌, map, length, get_or, Result, Ok, Err}
use Rattle.std.specs.List.{list_all, list_any, filter}
use Rattle.fm_gfp.specs.Primes.{prime_value}
use Rattle.fm_words.specs.Steps.{◌>>=◌, or_fault}
use Rattle.fm_poly.specs.Polys.{PolyValue}
use Rattle.fm_poly.specs.declared.ring.Ring.{Ring}
use Rattle.fm_term.specs.declared.vterm.VTerm.{VTerm}
use Rattle.fm_term.specs.Multiples.{twisted}
use Rattle.fm_groebner.specs.Graphs.{zero_vector}
use Rattle.fm_groebner.specs.Syzygies.{lower_members, syzygies, first_rows}
use Rattle.fm_vec.specs.Multiples.{twist_fits}
use Rattle.fm_complete.specs.Divisors.{head_divides}
use Rattle.fm_graphs.specs.Listing.{VectorOf, terms_of}
use Rattle.fm_graphs.specs.Graphs.{MatrixOf}
use Rattle.fm_graphs.specs.Trims.{is_nonzero}
use Rattle.fm_mat.specs.Columns.{row_of}
use Rattle.fm_report.specs.Parts.{Part, beside, stack, times, meant}
use Rattle.fm_parts.specs.Shapes.{rows_of, columns_of, fits, have_one_shape}
use Rattle.fm_parts.specs.Values.{value_of, same_vector, same_matrix, is_zero_matrix}
use Rattle.fm_parts.specs.Replays.{Reason, Shape, Exponents, Value, Reduction, needs, reduce_by}

-- a log that was complete at its end: the part whose graph was completed, and the members
pub record Log : Type 0 where
  pub part : Part
  pub members : List (List VTerm)

-- A condition; parts and logs stand for themselves here. Columns count from 1.
pub data Condition : Type 0 where
  -- A = B
  equal : (A B : Part) → Condition
  -- B has as many rows as A has columns
  follows : (A B : Part) → Condition
  -- The log is of a part whose value is A. A * C = 0, where C stands above an X without rows, and the syzygies of A by the log are C * W.
  kernel : (log : Log) (A C X W : Part) → Condition
  -- The log is of a part whose value is [A | B]. [A | B] * (C above X) = 0, and the first rows of the syzygies of [A | B] by the log, as many as
  -- A has columns, are C * W.
  preimage : (log : Log) (A B C X W : Part) → Condition
  -- The log is of a part whose value is A. This column of V, above zeros and reduced by the members of the log twisted e times, as the numbers
  -- say, ends with a head in the upper block that no member's head divides.
  outside : (log : Log) (e : ℕ) (A V : Part) (column : ℕ) (by : List ℕ) → Condition
  -- the entries of the first row of P that aren't zero are these, in their order
  lists : (fs : List PolyValue) (P : Part) → Condition
  -- the number k of the answer is n
  agrees : (k n : ℕ) → Condition
  -- it never holds
  never : Condition

-- ---- shapes

-- those of a log of G, and of G * (C above X) and C * W, where C has this many rows and W a column for each syzygy
abbrev pub generators_fit : Log → Part → ℕ → (C X W : Part) → Bool
generators_fit log G front C X W =
    have_one_shape log.part G && (nat_eq (rows_of C) front && (fits (times G (stack C X)) && (fits (times C W)
    && nat_eq (columns_of W) (length (lower_members (rows_of G) log.members)))))

abbrev pub shapes_fit : Condition → Bool
shapes_fit (equal A B) = fits A && (fits B && have_one_shape A B)
shapes_fit (follows A B) = nat_eq (rows_of B) (columns_of A)
shapes_fit (kernel log A C X W) = generators_fit log A (columns_of A) C X W
shapes_fit (preimage log A B C X W) = generators_fit log (beside A B) (columns_of A) C X W
shapes_fit (outside log e A V column by) = fits A && (fits V && (have_one_shape log.part A && nat_eq (rows_of V) (rows_of A)))
shapes_fit (lists fs P) = true
shapes_fit (agrees k n) = true
shapes_fit never = true

-- ---- the last test of a reduction

-- the head stands in the first m components, and no member's head divides it
abbrev pub is_outside : ℕ → List (List VTerm) → List VTerm → Bool
is_outside m members [] = false
is_outside m members (s ∷ ss) = nat_le s.component m && not (list_any (λ g. head_divides g s) members)

module _ (r : Ring) where
  -- the value, or Exponents
  abbrev pub evaluated : Part → Result (MatrixOf r) Reason
  evaluated a = or_fault Exponents (value_of r a)

  -- the entries of the first row that aren't zero
  abbrev pub nonzero_entries : MatrixOf r → VectorOf r
  nonzero_entries A = filter (λ f. is_nonzero r (f ∷ [])) (row_of r.prime r.vars 0 A.columns)

  -- v above zeros
  abbrev pub above_zeros : VectorOf r → ℕ → List VTerm
  above_zeros v c = terms_of r (v ++ zero_vector r.prime r.vars c)

  abbrev pub twisted_members : ℕ → List (List VTerm) → List (List VTerm)
  twisted_members e members = map (twisted (prime_value r.prime ^ e)) members

  -- the log is one of G; G * (C above X) = 0; and the first rows of the syzygies are C * W
  abbrev pub holds_generating : Log → (G C X W : Part) → Result (Unit {0}) Reason
  holds_generating log G C X W =
      evaluated log.part >>= λ logged. evaluated G >>= λ g. needs (same_matrix r logged g) Value >>= λ _.
      evaluated (times G (stack C X)) >>= λ product. needs (is_zero_matrix r product) Value >>= λ _.
      evaluated (times C W) >>= λ cover. needs (same_matrix r (first_rows r.prime r.vars (rows_of C) (syzygies r.prime r.vars g log.members)) cover) Value

  abbrev pub holds_outside : Log → ℕ → (A V : Part) → ℕ → List ℕ → Result (Unit {0}) Reason
  holds_outside log e A V column by =
      evaluated log.part >>= λ logged. evaluated A >>= λ a. needs (same_matrix r logged a) Reduction >>= λ _.
      evaluated V >>= λ v. needs (list_all (twist_fits (prime_value r.prime ^ e)) log.members) Exponents >>= λ _.
      reduce_by r Reduction (twisted_members e log.members) by (above_zeros (get_or v.columns (column - 1) []) (columns_of A)) >>= λ rest.
      needs (is_outside (rows_of A) (twisted_members e log.members) rest) Reduction

  -- a condition whose shapes fit holds, or why not: each value is formed when it is reached
  unfoldable pub holds : Condition → Result (Unit {0}) Reason
  holds (equal A B) = evaluated A >>= λ a. evaluated B >>= λ b. needs (same_matrix r a b) Value
  holds (follows A B) = Ok tt
  holds (kernel log A C X W) = holds_generating log A C X W
  holds (preimage log A B C X W) = holds_generating log (beside A B) C X W
  holds (outside log e A V column by) = holds_outside log e A V column by
  holds (lists fs P) = evaluated P >>= λ A. needs (same_vector r (meant r fs) (nonzero_entries A)) Value
  holds (agrees k n) = needs (nat_eq k n) Value
  holds never = Err Value

  abbrev pub all_hold : List Condition → Result (Unit {0}) Reason
  all_hold [] = Ok tt
  all_hold (c ∷ cs) = holds c >>= λ _. all_hold cs

  -- the shapes of all conditions of a line come first, then each condition in its order
  unfoldable pub judged : List Condition → Result (Unit {0}) Reason
  judged cs = needs (list_all shapes_fit cs) Shape >>= λ _. all_hold cs
