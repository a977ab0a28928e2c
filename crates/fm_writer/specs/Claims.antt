-- The lines of certificates as a program has them, and the claims that they are.
use Rattle.std.specs.Prelude.{ℕ, ◌≡◌, ◌<◌, ◌^◌, List, [], ◌∷◌, map, length}
use Rattle.fm_complete.specs.Bases.{entry_value}
use Rattle.fm_cert.specs.Kinds as kinds
use Rattle.fm_cert.specs.Lines.{Row}
use Rattle.fm_mat.specs.Matrices.{MatrixValue, AreColumns}
use Rattle.fm_poly.specs.declared.ring.Ring.{Ring}
use Rattle.fm_report.specs.Parts.{Part, given, twist, flip, beside}
use Rattle.fm_vec.specs.Components.{AreOver}
use Rattle.fm_standard.specs.Writing as writing
use Rattle.fm_standard.specs.Writing.{Reference, part, Numbered, references_written, plain_claim, part_claim, shown_claim, generated_claim, log_claim}
use Rattle.fm_standard.specs.Small.{AreSmallLines}
use Rattle.fm_writer.specs.declared.operand.Operand.{Operand}
use Rattle.fm_writer.specs.declared.operand.Operand.TheVariants as operands
use Rattle.fm_writer.specs.declared.operand.Whole.{Whole}
use Rattle.fm_writer.specs.declared.operand.Whole.TheVariants as wholes
use Rattle.fm_writer.specs.declared.claim.Shown.{Shown}
use Rattle.fm_writer.specs.declared.claim.Claim.{Claim}
use Rattle.fm_writer.specs.declared.claim.Claim.TheVariants as claims
use Rattle.fm_writer.specs.Kinds.{named_line, exact_line, generating_line, excluding_line}
use Rattle.fm_writer.specs.Writers.{WriterValue, with_lines}

-- ---- parts
abbrev pub given_of : MatrixValue → Part
given_of m = given m.rows m.columns

abbrev pub operand_part : Operand → Part
operand_part (operands.Matrix m) = given_of m.now
operand_part (operands.Columns rows columns) = given rows columns.now
operand_part (operands.Vector v) = given (length v.now) (v.now ∷ [])
operand_part (operands.Flip m) = flip (given_of m.now)
operand_part (operands.Twist m) = twist (given_of m.now) 1
operand_part (operands.Join m n) = beside (given_of m.now) (given_of n.now)
operand_part (operands.TwistOfJoin m n) = twist (beside (given_of m.now) (given_of n.now)) 1

abbrev pub whole_part : Whole → Part
whole_part (wholes.One o) = operand_part o
whole_part (wholes.Beside m o) = beside (given_of m.now) (operand_part o)

-- ---- claims
-- the log, X and W
abbrev pub shown_names : Shown → List Reference
shown_names s = writing.log (whole_part s.whole) (map entry_value s.log.now) ∷ part (given_of s.x.now) ∷ part (given_of s.w.now) ∷ []

abbrev pub claim_value : Claim → writing.Claim
claim_value (claims.Datum name degree) = plain_claim (Row kinds.Datum (name.now, (degree, tt)))
claim_value (claims.Named kind operand) = part_claim (operand_part operand) (named_line kind)
claim_value (claims.Exact number s) =
    shown_claim (whole_part s.whole) (map entry_value s.log.now) (given_of s.x.now) (given_of s.w.now) (exact_line number)
claim_value (claims.Generating kind found s) =
    generated_claim (given_of found.now) (whole_part s.whole) (map entry_value s.log.now) (given_of s.x.now) (given_of s.w.now) (generating_line kind)
claim_value (claims.Excluding kind whole log column by) =
    log_claim (whole_part whole) (map entry_value log.now) (λ n. excluding_line kind n column by.now)

abbrev pub claim_values : List Claim → List writing.Claim
claim_values xs = map claim_value xs

-- ---- what can be printed over n variables
abbrev pub IsOperandOver : ℕ → Operand → Type 0
IsOperandOver n (operands.Matrix m) = m.now.ring.vars ≡ n
IsOperandOver n (operands.Columns rows columns) = (r : Ring) × (r.vars ≡ n) × AreColumns r rows columns.now
IsOperandOver n (operands.Vector v) = (r : Ring) × (r.vars ≡ n) × AreOver r v.now × (length v.now < 2 ^ 32)
IsOperandOver n (operands.Flip m) = m.now.ring.vars ≡ n
IsOperandOver n (operands.Twist m) = m.now.ring.vars ≡ n
IsOperandOver n (operands.Join a b) = (a.now.ring.vars ≡ n) × (b.now.ring.vars ≡ n)
IsOperandOver n (operands.TwistOfJoin a b) = (a.now.ring.vars ≡ n) × (b.now.ring.vars ≡ n)

abbrev pub IsWholeOver : ℕ → Whole → Type 0
IsWholeOver n (wholes.One o) = IsOperandOver n o
IsWholeOver n (wholes.Beside m o) = (m.now.ring.vars ≡ n) × IsOperandOver n o

abbrev pub IsShownOver : ℕ → Shown → Type 0
IsShownOver n s = IsWholeOver n s.whole × (s.x.now.ring.vars ≡ n) × (s.w.now.ring.vars ≡ n)

abbrev pub IsClaimOver : ℕ → Claim → Type 0
IsClaimOver n (claims.Datum name degree) = Unit {0}
IsClaimOver n (claims.Named kind operand) = IsOperandOver n operand
IsClaimOver n (claims.Exact number s) = IsShownOver n s
IsClaimOver n (claims.Generating kind found s) = (found.now.ring.vars ≡ n) × IsShownOver n s
IsClaimOver n (claims.Excluding kind whole log column by) = IsWholeOver n whole

abbrev pub AreClaimsOver : ℕ → List Claim → Type 0
AreClaimsOver n [] = Unit {0}
AreClaimsOver n (x ∷ xs) = IsClaimOver n x × AreClaimsOver n xs

-- from old to new these were written, in lines whose numbers are small; ns are their numbers
pub record HasNumbers (old : WriterValue) (xs : List Reference) (new : WriterValue) (ns : List ℕ) : Type 0 where
  pub page : new ≡ with_lines old (references_written old.names xs old.shelf).lines (references_written old.names xs old.shelf).shelf
  pub numbers : (references_written old.names xs old.shelf).numbers ≡ ns
  pub small : AreSmallLines (references_written old.names xs old.shelf).lines
