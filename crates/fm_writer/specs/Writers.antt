-- What is written of a certificate.
use Rattle.std.specs.Prelude.{ℕ, ◌≡◌, ◌<◌, ◌^◌, ◌++◌, ◌∷◌, [], List, map, Vec, codes, decimal}
use Rattle.std.specs.Global.{Global}
use Rattle.fm_words.specs.Parts.{Bytes}
use Rattle.fm_cert.specs.Lines.{Line, line_words, lines_text}
use Rattle.fm_report.specs.Parts.{Part}
use Rattle.fm_standard.specs.Writing.{Shelf, Written, Claim, part_written, claims_written, certificate_lines}
use Rattle.fm_standard.specs.Small.{IsSmallLine, AreSmallLines}

-- what contracts see of a writer: the names of the variables, the text so far, and what has a number
pub record WriterValue : Type 0 where
  pub names : List Bytes
  pub text : Bytes
  pub shelf : Shelf

-- the texts that byte vectors hold
abbrev pub texts_of : List (Vec ℕ Global) → List Bytes
texts_of ts = map (λ t. t.items) ts

-- the same writer after these lines, when these things have numbers
abbrev pub with_lines : WriterValue → List Line → Shelf → WriterValue
with_lines w lines shelf = record { names = w.names; text = w.text ++ lines_text w.names lines; shelf = shelf }

-- from old to new this was written, in lines whose numbers are small; k is the number
pub record HasNumbered (old : WriterValue) (v : Written) (new : WriterValue) (k : ℕ) : Type 0 where
  pub page : new ≡ with_lines old v.lines v.shelf
  pub number : v.number ≡ k
  pub small : AreSmallLines v.lines

-- a part
abbrev pub HasPart : WriterValue → Part → WriterValue → ℕ → Type 0
HasPart old a new k = HasNumbered old (part_written old.names a old.shelf) new k

-- from old to new these claims were written
pub record HasClaimed (old : WriterValue) (cs : List Claim) (new : WriterValue) : Type 0 where
  pub page : new ≡ with_lines old (claims_written old.names cs old.shelf).lines (claims_written old.names cs old.shelf).shelf
  pub small : AreSmallLines (claims_written old.names cs old.shelf).lines

-- from old to new this line was written, and its numbers are small
pub record HasLine (old : WriterValue) (l : Line) (new : WriterValue) : Type 0 where
  pub page : new ≡ with_lines old (l ∷ []) old.shelf
  pub small : IsSmallLine l

-- the text of the lines of a certificate that claims these, whose numbers are small
pub record IsCertificate (names : List Bytes) (cs : List Claim) (text : Bytes) : Type 0 where
  pub is : text ≡ lines_text names (certificate_lines names cs)
  pub small : AreSmallLines (certificate_lines names cs)

-- The line of a form, for each number that it may have: `part`, the number, and these words. Its other numbers are small.
pub record IsFormLine (names rest : List Bytes) (line : ℕ → Line) : Type 0 where
  pub words : (k : ℕ) → line_words names (line k) ≡ codes "part" ∷ decimal k ∷ rest
  pub small : (k : ℕ) → k < 2 ^ 64 → IsSmallLine (line k)
