-- Reports as they are written, and what they say.
use Rattle.std.specs.Prelude.{◌≡◌, ℕ, suc, List, [], ◌∷◌, ◌++◌, length, Some, None}
use Rattle.fm_words.specs.Words.{AreNames}
use Rattle.fm_words.specs.Parts.{Bytes}
use Rattle.fm_problem.specs.Sound.{IsProblem, HasSmallExponents}
use Rattle.fm_problem.specs.declared.ideal.Ideal.{Ideal}
use Rattle.fm_problem.specs.declared.problem.Problem.{Problem}
use Rattle.fm_problem.specs.declared.query.Query.{Query}
use Rattle.fm_cert.specs.Fields.{Values}
use Rattle.fm_cert.specs.Kinds.{EndKind, end_row}
use Rattle.fm_cert.specs.Kinds as kinds
use Rattle.fm_cert.specs.Lines.{Line, Question, Row, line_text, lines_text}
use Rattle.fm_cert.specs.Questions.{head_lines, question_line}
use Rattle.fm_cert.specs.Writable.{IsWritableLine}
use Rattle.fm_report.specs.Sheets.{Sheet, ring_in, names_in, say}
use Rattle.fm_report.specs.Verdicts.{Stated}
use Rattle.fm_report.specs.Reading.{stated_by, sheet_after}

-- a query, how it ends, and the lines that stand under an answer
pub record QueryReport : Type 0 where
  pub question : Query
  pub kind : EndKind
  pub values : Values (end_row kind)
  pub lines : List Line

-- ---- lines

-- the lines of a query: its question, its end, what stands under an answer, and its last line
abbrev pub block_lines : Problem → ℕ → QueryReport → List Line
block_lines q k b = Question k (question_line q b.question) ∷ Row (kinds.Ended b.kind) b.values ∷ b.lines ++ Row kinds.Done (k, tt) ∷ []

-- the lines of the queries, counted from k on
abbrev pub query_lines : Problem → ℕ → List QueryReport → List Line
query_lines q k [] = []
query_lines q k (b ∷ bs) = block_lines q k b ++ query_lines q (suc k) bs

-- those of a report of this version
abbrev pub report_lines : ℕ → Problem → List QueryReport → List Line
report_lines version q bs = head_lines version q ++ (query_lines q 1 bs ++ Row kinds.EndReport tt ∷ [])

-- the text of a report on queries of a problem
unfoldable pub report_text : ℕ → Problem → List QueryReport → Bytes
report_text version q bs = lines_text q.vars (report_lines version q bs)

-- ---- what lines say

-- what the lines state that are said after a sheet
abbrev pub says : Sheet → List Line → List Stated
says s [] = []
says s (l ∷ ls) = stated_by s l ++ says (sheet_after s (say s l)) ls

-- the sheet after these lines
abbrev pub after : Sheet → List Line → Sheet
after s [] = s
after s (l ∷ ls) = after (sheet_after s (say s l)) ls

-- a line that can be written over variables with these names, and said after a sheet
pub record IsWritableAfter (names : List Bytes) (s : Sheet) (l : Line) : Type 0 where
  pub named : AreNames (names_in s.head)
  pub listed : length (names_in s.head) ≡ (ring_in s.head).vars
  pub printed : line_text (names_in s.head) l ≡ line_text names l
  pub writable : IsWritableLine (ring_in s.head) s.asked l
  pub next : Sheet
  pub said : say s l ≡ Some next

-- lines that can be written and said one after another
abbrev pub AreWritable : List Bytes → Sheet → List Line → Type 0
AreWritable names s [] = Unit {0}
AreWritable names s (l ∷ ls) = IsWritableAfter names s l × AreWritable names (sheet_after s (say s l)) ls

-- ---- reports

-- a problem with these ideals and no query
abbrev pub begun : Problem → List Ideal → Problem
begun q ideals = record { ring = q.ring; vars = q.vars; ideals = ideals; queries = [] }

-- between the queries, after k of them
unfoldable pub between : Problem → ℕ → Sheet
between q k =
    record { head = Some (begun q q.ideals); count = k; asked = None; answer = None; parts = []; finished = []; block = None; identity = [] }

-- a block that can be written after k queries, and that ends its query
pub record IsWritableBlock (q : Problem) (k : ℕ) (b : QueryReport) : Type 0 where
  pub lines : AreWritable q.vars (between q k) (block_lines q (suc k) b)
  pub ends : after (between q k) (block_lines q (suc k) b) ≡ between q (suc k)

abbrev pub AreWritableBlocks : Problem → ℕ → List QueryReport → Type 0
AreWritableBlocks q k [] = Unit {0}
AreWritableBlocks q k (b ∷ bs) = IsWritableBlock q k b × AreWritableBlocks q (suc k) bs

-- what a block says after k queries
abbrev pub block_says : Problem → ℕ → QueryReport → List Stated
block_says q k b = says (between q k) (block_lines q (suc k) b)

-- what the blocks of a report say, one after another
abbrev pub report_says : Problem → ℕ → List QueryReport → List Stated
report_says q k [] = []
report_says q k (b ∷ bs) = block_says q k b ++ report_says q (suc k) bs

-- a report that can be written: of a problem as it is read, with blocks that can be written
pub record IsWritable (q : Problem) (bs : List QueryReport) : Type 0 where
  pub problem : IsProblem q
  pub exponents : HasSmallExponents q
  pub blocks : AreWritableBlocks q 0 bs
