-- The standard writer. Before each line of a certificate stand the parts and the logs that it names and that have no number yet, in the order in
-- which it names them: a log's part before the log, and operands before what is made of them. Equal forms have one number, and a part has one log.
use Rattle.std.specs.Prelude.{ℕ, zero, suc, if◌then◌else◌, nat_eq, Bool, List, [], ◌∷◌, ◌++◌, map, length, drop, get_or, Option, Some, None}
use Rattle.fm_groebner.specs.Logs.{Start, Input, Pair, Skip, Entry}
use Rattle.fm_words.specs.Parts.{Bytes}
use Rattle.fm_words.specs.Words.{same_bytes}
use Rattle.fm_cert.specs.Kinds as kinds
use Rattle.fm_cert.specs.Lines.{Line, Row, line_words}
use Rattle.fm_cert.specs.Pieces.{words_text}
use Rattle.fm_report.specs.Parts.{Part, given, twist, flip, beside, stack, times, pick}

-- What has a number in a query: the forms of parts, each by its text, and the logs, each by the number of its part.
pub record Shelf : Type 0 where
  pub forms : List Bytes
  pub logs : List ℕ

abbrev pub bare : Shelf
bare = record { forms = []; logs = [] }

-- what is written so that something has a number: the lines, what has a number after them, and the number
pub record Written : Type 0 where
  pub lines : List Line
  pub shelf : Shelf
  pub number : ℕ

-- what is written first, and then what needs its number
abbrev pub written_then : Written → (ℕ → Shelf → Written) → Written
written_then w next =
    let v = next w.number w.shelf in
    record { lines = w.lines ++ v.lines; shelf = v.shelf; number = v.number }

-- the place of the first of these that passes a test, counted from 1
abbrev pub place_from : {A : Type 0} → ℕ → (A → Bool) → List A → Option ℕ
place_from k test [] = None
place_from k test (x ∷ xs) = if test x then Some (suc k) else place_from (suc k) test xs

-- ---- parts

-- the text of the form of a part: what stands behind the number of its line
abbrev pub form_text : List Bytes → Line → Bytes
form_text names l = words_text (drop 2 (line_words names l))

-- what is written of a form, by its place among those that have a number
abbrev pub form_at : List Bytes → (ℕ → Line) → Shelf → Option ℕ → Written
form_at names line s (Some k) = record { lines = []; shelf = s; number = k }
form_at names line s None = record {
  lines = line (suc (length s.forms)) ∷ [];
  shelf = record { forms = s.forms ++ form_text names (line zero) ∷ []; logs = s.logs };
  number = suc (length s.forms);
}

-- a form, of which the line is given for each number that it may have
unfoldable pub form_written : List Bytes → (ℕ → Line) → Shelf → Written
form_written names line s = form_at names line s (place_from zero (λ text. same_bytes text (form_text names (line zero))) s.forms)

-- the `part` lines of the seven forms; columns count from 1 as they are written
abbrev pub given_line : (rows : ℕ) → List (List Rattle.fm_poly.specs.Polys.PolyValue) → ℕ → Line
given_line rows columns k = Row kinds.Given (k, (rows, (columns, tt)))

abbrev pub twist_line : (a e k : ℕ) → Line
twist_line a e k = Row kinds.Twist (k, (a, (e, tt)))

abbrev pub flip_line : (a k : ℕ) → Line
flip_line a k = Row kinds.Flip (k, (a, tt))

abbrev pub beside_line : (a b k : ℕ) → Line
beside_line a b k = Row kinds.Beside (k, (a, (b, tt)))

abbrev pub stack_line : (a b k : ℕ) → Line
stack_line a b k = Row kinds.Stack (k, (a, (b, tt)))

abbrev pub times_line : (a b k : ℕ) → Line
times_line a b k = Row kinds.Times (k, (a, (b, tt)))

abbrev pub pick_line : (a : ℕ) (columns : List ℕ) (k : ℕ) → Line
pick_line a columns k = Row kinds.Pick (k, (a, (map suc columns, tt)))

module _ (names : List Bytes) where
  -- a part, its operands first
  abbrev pub part_written : Part → Shelf → Written
  part_written (given rows columns) s = form_written names (given_line rows columns) s
  part_written (twist a e) s = written_then (part_written a s) (λ j. form_written names (twist_line j e))
  part_written (flip a) s = written_then (part_written a s) (λ j. form_written names (flip_line j))
  part_written (beside a b) s = written_then (part_written a s) (λ j s. written_then (part_written b s) (λ k. form_written names (beside_line j k)))
  part_written (stack a b) s = written_then (part_written a s) (λ j s. written_then (part_written b s) (λ k. form_written names (stack_line j k)))
  part_written (times a b) s = written_then (part_written a s) (λ j s. written_then (part_written b s) (λ k. form_written names (times_line j k)))
  part_written (pick a columns) s = written_then (part_written a s) (λ j. form_written names (pick_line j columns))

-- ---- logs

abbrev pub start_line : Start → List ℕ → Bool → Line
start_line (Input k) by keep = Row kinds.Input (k, (by, (keep, tt)))
start_line (Pair a b) by keep = Row kinds.Pair (a, (b, (by, (keep, tt))))
start_line (Skip a b k) by keep = Row kinds.Skip (a, (b, (k, tt)))

abbrev pub entry_line : Entry → Line
entry_line e = start_line e.start e.by e.keep

-- the lines of the log with number n, of the part with number k
abbrev pub log_lines : (n k : ℕ) → List Entry → List Line
log_lines n k entries = Row kinds.Log (n, (k, tt)) ∷ map entry_line entries ++ Row kinds.EndLog tt ∷ []

-- what is written of the log of part k, by its place among the logs
abbrev pub log_at : List Entry → ℕ → Shelf → Option ℕ → Written
log_at entries k s (Some n) = record { lines = []; shelf = s; number = n }
log_at entries k s None = record {
  lines = log_lines (suc (length s.logs)) k entries;
  shelf = record { forms = s.forms; logs = s.logs ++ k ∷ [] };
  number = suc (length s.logs);
}

unfoldable pub log_written : List Entry → ℕ → Shelf → Written
log_written entries k s = log_at entries k s (place_from zero (λ j. nat_eq j k) s.logs)

-- ---- claims

-- what a line names by a number: a part; or a completion of the graph of a part, by its log
pub data Reference : Type 0 where
  part : Part → Reference
  log : Part → List Entry → Reference

-- a line of a certificate, by the numbers of what it names, in their order
pub record Claim : Type 0 where
  pub names : List Reference
  pub line : List ℕ → Line

-- the lines that stand before a line, what has a number after them, and the numbers that it names
pub record Numbered : Type 0 where
  pub lines : List Line
  pub shelf : Shelf
  pub numbers : List ℕ

-- lines, and what has a number after them
pub record Page : Type 0 where
  pub lines : List Line
  pub shelf : Shelf

module _ (names : List Bytes) where
  abbrev pub reference_written : Reference → Shelf → Written
  reference_written (part a) s = part_written names a s
  reference_written (log a entries) s = written_then (part_written names a s) (log_written entries)

  abbrev pub references_written : List Reference → Shelf → Numbered
  references_written [] s = record { lines = []; shelf = s; numbers = [] }
  references_written (x ∷ xs) s =
      let w = reference_written x s in
      let v = references_written xs w.shelf in
      record { lines = w.lines ++ v.lines; shelf = v.shelf; numbers = w.number ∷ v.numbers }

  unfoldable pub claim_written : Claim → Shelf → Page
  claim_written c s =
      let w = references_written c.names s in
      record { lines = w.lines ++ c.line w.numbers ∷ []; shelf = w.shelf }

  abbrev pub claims_written : List Claim → Shelf → Page
  claims_written [] s = record { lines = []; shelf = s }
  claims_written (c ∷ cs) s =
      let w = claim_written c s in
      let v = claims_written cs w.shelf in
      record { lines = w.lines ++ v.lines; shelf = v.shelf }

  -- the lines of a certificate that claims these
  unfoldable pub certificate_lines : List Claim → List Line
  certificate_lines cs = (claims_written cs bare).lines

-- ---- claims of one part, of generators, and of a column that lies outside

-- number k of a list, counted from 0
abbrev pub at : List ℕ → ℕ → ℕ
at ns k = get_or ns k 0

-- a line that names nothing
abbrev pub plain_claim : Line → Claim
plain_claim l = record { names = []; line = λ ns. l }

-- a line that names one part
abbrev pub part_claim : Part → (ℕ → Line) → Claim
part_claim a line = record { names = part a ∷ []; line = λ ns. line (at ns 0) }

-- a line that names a log of G, X and W
abbrev pub shown_claim : (G : Part) → List Entry → (X W : Part) → ((n x w : ℕ) → Line) → Claim
shown_claim G entries X W line = record { names = log G entries ∷ part X ∷ part W ∷ []; line = λ ns. line (at ns 0) (at ns 1) (at ns 2) }

-- a line that names P, a log of G, X and W
abbrev pub generated_claim : (P G : Part) → List Entry → (X W : Part) → ((p n x w : ℕ) → Line) → Claim
generated_claim P G entries X W line =
    record { names = part P ∷ log G entries ∷ part X ∷ part W ∷ []; line = λ ns. line (at ns 0) (at ns 1) (at ns 2) (at ns 3) }

-- a line that names a log of A alone
abbrev pub log_claim : (A : Part) → List Entry → (ℕ → Line) → Claim
log_claim A entries line = record { names = log A entries ∷ []; line = λ ns. line (at ns 0) }
