-- When the text of a report is valid, and else its first bad line with the reason.
use Rattle.std.specs.Prelude.{ℕ, suc, ◌+◌, ◌≡◌, Bool, true, false, ◌&&◌, ◌||◌, if◌then◌else◌, nat_eq, nat_lt, nat_le, List, [], ◌∷◌, ◌++◌, length, Option, Some, None, is_some, Result, Ok, Err}
use Rattle.std.specs.List.{list_all}
use Rattle.fm_gfp.specs.Primes.{prime_of, prime_value}
use Rattle.fm_gfp.specs.declared.prime.Prime.{Prime}
use Rattle.fm_words.specs.Parts.{Bytes}
use Rattle.fm_words.specs.Steps.{◌>>=◌, or_fault, place}
use Rattle.fm_words.specs.Words.{same_bytes}
use Rattle.fm_problem.specs.Problems.{ideal_names}
use Rattle.fm_problem.specs.Statements.{RingLine, OrderLine, IdealLine}
use Rattle.fm_problem.specs.declared.problem.Problem.{Problem}
use Rattle.fm_problem.specs.declared.query.Query.{Query}
use Rattle.fm_term.specs.declared.vterm.VTerm.{VTerm}
use Rattle.fm_groebner.specs.Logs.{Entry, Input, Pair, Skip}
use Rattle.fm_cert.specs.Fields.{Values}
use Rattle.fm_cert.specs.Kinds.{EndKind, Kind, end_row, row}
use Rattle.fm_cert.specs.Kinds as kinds
use Rattle.fm_cert.specs.Lines.{Line, Head, Question, Row}
use Rattle.fm_report.specs.Parts.{Part, pick, part_value}
use Rattle.fm_report.specs.Sheets.{Sheet, Block, blank, new_block, ring_in, numbered, is_answer, say}
use Rattle.fm_report.specs.Reading.{line_in, lines_from}
use Rattle.fm_parts.specs.Shapes.{SIZE, rows_of, columns_of, fits, is_shallow}
use Rattle.fm_parts.specs.Values.{is_within_bound}
use Rattle.fm_parts.specs.Replays.{Reason, Truncated, Form, Exponents, Reference, Shape, Depth, Value, BadLog, needs, Replay, nothing_replayed, replay_entry, graph_inputs, is_whole}
use Rattle.fm_parts.specs.Conditions.{Log, judged}
use Rattle.fm_judge.specs.Goals.{Goal, goal_of, target_goal}
use Rattle.fm_judge.specs.Places.{Place, datum, datum_beyond, differential, end, first_place}
use Rattle.fm_judge.specs.Claims.{Claim, claim}
use Rattle.fm_judge.specs.Tasks.{may_end}

-- a log that is being replayed
pub record OpenLog : Type 0 where
  pub part : Part
  pub replay : Replay

-- where the next line stands: in the head, between queries, under a query, in its certificate, in a log, before `done`, and after the report
pub data Stage : Type 0 where
  at_start at_ring at_order between_queries at_answer : Stage
  in_certificate : (goal : Goal) (place : Place) → Stage
  in_log : (goal : Goal) (place : Place) (log : OpenLog) → Stage
  at_done at_end : Stage

-- What has been said, where the next line stands, the version of the report, the logs of the query at hand, and how many queries have an
-- answer and how many have none.
pub record State : Type 0 where
  pub sheet : Sheet
  pub stage : Stage
  pub version : ℕ
  pub logs : List Log
  pub verdicts : ℕ
  pub passed : ℕ

unfoldable pub start : State
start = record { sheet = blank; stage = at_start; version = 0; logs = []; verdicts = 0; passed = 0 }

abbrev pub moved_to : State → Sheet → Stage → State
moved_to s sheet stage = record s { sheet = sheet; stage = stage }

-- the line is said, and the next stands there
abbrev pub said_then : State → Reason → Line → Stage → Result State Reason
said_then s why l stage = or_fault why (say s.sheet l) >>= λ sheet. Ok (moved_to s sheet stage)

-- ---- the head and the ends of queries

-- a report of version 1 has a prime of at most 13
abbrev pub is_small_prime : Option Prime → Bool
is_small_prime None = false
is_small_prime (Some p) = nat_le (prime_value p) 13

abbrev pub ring_line : State → ℕ → List Bytes → Result State Reason
ring_line s n names = needs (nat_eq s.version 2 || is_small_prime (prime_of n)) Form >>= λ _. said_then s Form (Head (RingLine n names)) at_order

abbrev pub goal_in : Option Problem → Option Query → (kind : EndKind) → Values (end_row kind) → Option Goal
goal_in (Some q) (Some z) kind v = goal_of q z kind v
goal_in q z kind v = None

abbrev pub may_end_in : Option Query → (kind : EndKind) → Values (end_row kind) → Bool
may_end_in (Some z) kind v = may_end z kind v
may_end_in None kind v = false

-- what stands in a place; after the last only `done`
abbrev pub stage_at : Goal → Place → Stage
stage_at g end = at_done
stage_at g place = in_certificate g place

abbrev pub answer_line : State → (kind : EndKind) → Values (end_row kind) → Result State Reason
answer_line s kind v =
    or_fault Form (goal_in s.sheet.head s.sheet.asked kind v) >>= λ g. or_fault Form (say s.sheet (Row (kinds.Ended kind) v)) >>= λ sheet.
    Ok (record s { sheet = sheet; stage = stage_at g (first_place g.aim); verdicts = suc s.verdicts })

abbrev pub passed_line : State → (kind : EndKind) → Values (end_row kind) → Result State Reason
passed_line s kind v =
    needs (may_end_in s.sheet.asked kind v) Form >>= λ _. or_fault Form (say s.sheet (Row (kinds.Ended kind) v)) >>= λ sheet.
    Ok (record s { sheet = sheet; stage = at_done; passed = suc s.passed })

abbrev pub end_line : State → (kind : EndKind) → Values (end_row kind) → Result State Reason
end_line s kind v = if is_answer kind then answer_line s kind v else passed_line s kind v

-- ---- parts and logs

-- the columns that are picked exist
abbrev pub columns_exist : Part → Bool
columns_exist (pick a js) = list_all (λ j. nat_lt j (columns_of a)) js
columns_exist a = true

-- a part: its number is the next, its operands and picked columns exist, its shapes fit, and it isn't too deep
abbrev pub part_line : State → Stage → ℕ → Line → Result State Reason
part_line s stage k l =
    needs (nat_eq k (suc (length s.sheet.parts))) Form >>= λ _. or_fault Reference (say s.sheet l) >>= λ sheet.
    or_fault Reference (numbered sheet.parts k) >>= λ a. needs (columns_exist a) Reference >>= λ _.
    needs (fits a) Shape >>= λ _. needs (is_shallow a) Depth >>= λ _. Ok (moved_to s sheet stage)

-- `log K A`
abbrev pub log_line : State → Goal → Place → (k a : ℕ) → Result State Reason
log_line s g p k a =
    needs (nat_eq k (suc (length s.logs))) Form >>= λ _. or_fault Reference (numbered s.sheet.parts a) >>= λ x.
    needs (nat_lt (rows_of x + columns_of x) SIZE) Shape >>= λ _. needs (is_within_bound (ring_in s.sheet.head) x) Exponents >>= λ _.
    Ok (record s { stage = in_log g p (record { part = x; replay = nothing_replayed }) })

abbrev pub inputs_in : State → OpenLog → List (List VTerm)
inputs_in s log = graph_inputs (ring_in s.sheet.head) (part_value (ring_in s.sheet.head) log.part)

abbrev pub entry_line : State → Goal → Place → OpenLog → Entry → Result State Reason
entry_line s g p log e =
    replay_entry (ring_in s.sheet.head) (inputs_in s log) log.replay e >>= λ x.
    Ok (record s { stage = in_log g p (record { part = log.part; replay = x }) })

-- `end`
abbrev pub end_log_line : State → Goal → Place → OpenLog → Result State Reason
end_log_line s g p log =
    needs (is_whole (inputs_in s log) log.replay) BadLog >>= λ _.
    Ok (record s { stage = in_certificate g p; logs = s.logs ++ record { part = log.part; members = log.replay.members } ∷ [] })

abbrev pub log_entry : State → Goal → Place → OpenLog → (kind : Kind) → Values (row kind) → Result State Reason
log_entry s g p log kinds.Input (k, (by, (keep, u))) = entry_line s g p log (record { start = Input k; by = by; keep = keep })
log_entry s g p log kinds.Pair (a, (b, (by, (keep, u)))) = entry_line s g p log (record { start = Pair a b; by = by; keep = keep })
log_entry s g p log kinds.Skip (a, (b, (k, u))) = needs (nat_eq s.version 2) Form >>= λ _. entry_line s g p log (record { start = Skip a b k; by = []; keep = false })
log_entry s g p log kinds.EndLog u = end_log_line s g p log
log_entry s g p log kind v = Err Form

-- ---- the other lines of certificates

abbrev pub names_ideal : Option Problem → Bytes → Bool
names_ideal None name = false
names_ideal (Some q) name = is_some (place 0 name (ideal_names q))

-- `datum NAME I`: an ideal of the head, and the goal's, with its degree; this goal is shown from there on
abbrev pub datum_line : State → Goal → Bytes → ℕ → Result State Reason
datum_line s g name i =
    needs (names_ideal s.sheet.head name) Reference >>= λ _. needs (same_bytes name g.name && nat_eq i g.degree) Value >>= λ _.
    said_then s Value (Row kinds.Datum (name, (i, tt))) (in_certificate g (differential 0))

-- the block at hand; before `datum` it has no matrices
abbrev pub block_at : Option Block → Block
block_at None = new_block 0 0
block_at (Some b) = b

abbrev pub claim_in : State → Goal → Sheet → Place → (kind : Kind) → Values (row kind) → Option Claim
claim_in s g sheet p kind v = claim (ring_in s.sheet.head) g (block_at sheet.block) sheet.parts s.logs p kind v

-- the line of a place: its form, then what it names, then its conditions on what has been named with it
abbrev pub place_line : State → Goal → Place → (kind : Kind) → Values (row kind) → Result State Reason
place_line s g p kind v =
    needs (is_some (claim_in s g s.sheet p kind v)) Form >>= λ _. or_fault Reference (say s.sheet (Row kind v)) >>= λ sheet.
    or_fault Form (claim_in s g sheet p kind v) >>= λ c. or_fault Reference c.conditions >>= λ cs.
    judged (ring_in s.sheet.head) cs >>= λ _. Ok (moved_to s sheet (stage_at g c.next))

abbrev pub datum_place : State → Goal → Place → Bytes → ℕ → Result State Reason
datum_place s g datum name i = datum_line s g name i
datum_place s g (datum_beyond t) name i = datum_line s (target_goal g (block_at s.sheet.block) t) name i
datum_place s g p name i = Err Form

abbrev pub certificate_line : State → Goal → Place → (kind : Kind) → Values (row kind) → Result State Reason
certificate_line s g p kinds.Given (k, v) = part_line s (in_certificate g p) k (Row kinds.Given (k, v))
certificate_line s g p kinds.Twist (k, v) = part_line s (in_certificate g p) k (Row kinds.Twist (k, v))
certificate_line s g p kinds.Flip (k, v) = part_line s (in_certificate g p) k (Row kinds.Flip (k, v))
certificate_line s g p kinds.Beside (k, v) = part_line s (in_certificate g p) k (Row kinds.Beside (k, v))
certificate_line s g p kinds.Stack (k, v) = part_line s (in_certificate g p) k (Row kinds.Stack (k, v))
certificate_line s g p kinds.Times (k, v) = part_line s (in_certificate g p) k (Row kinds.Times (k, v))
certificate_line s g p kinds.Pick (k, v) = part_line s (in_certificate g p) k (Row kinds.Pick (k, v))
certificate_line s g p kinds.Log (k, (a, u)) = log_line s g p k a
certificate_line s g p kinds.Datum (name, (i, u)) = datum_place s g p name i
certificate_line s g p kind v = place_line s g p kind v

-- ---- all lines

-- the state after a line that was read, or why it is bad
abbrev pub judged_at : State → Stage → Line → Result State Reason
judged_at s at_start (Row kinds.Report (v, u)) = needs (nat_eq v 1 || nat_eq v 2) Form >>= λ _. Ok (record s { stage = at_ring; version = v })
judged_at s at_ring (Head (RingLine n names)) = ring_line s n names
judged_at s at_order (Head (OrderLine o)) = said_then s Form (Head (OrderLine o)) between_queries
judged_at s between_queries (Head (IdealLine name texts)) = needs (nat_eq s.sheet.count 0) Form >>= λ _. said_then s Form (Head (IdealLine name texts)) between_queries
judged_at s between_queries (Question k question) =
    or_fault Form (say s.sheet (Question k question)) >>= λ sheet. Ok (record s { sheet = sheet; stage = at_answer; logs = [] })
judged_at s between_queries (Row kinds.EndReport u) = Ok (record s { stage = at_end })
judged_at s at_answer (Row (kinds.Ended kind) v) = end_line s kind v
judged_at s (in_certificate g p) (Row kind v) = certificate_line s g p kind v
judged_at s (in_log g p log) (Row kind v) = log_entry s g p log kind v
judged_at s at_done (Row kinds.Done (k, u)) = said_then s Form (Row kinds.Done (k, u)) between_queries
judged_at s stage line = Err Form

unfoldable pub judged_line : State → Line → Result State Reason
judged_line s l = judged_at s s.stage l

-- ---- lines that can't be read

-- the digits after `^` are left out
abbrev pub is_digit : ℕ → Bool
is_digit b = nat_le 48 b && nat_le b 57

abbrev pub capped_from : (after seen : Bool) → Bytes → Bytes
capped_from after seen [] = if seen then 48 ∷ [] else []
capped_from after seen (b ∷ bs) =
    if after && is_digit b then capped_from true true bs
    else (if seen then 48 ∷ b ∷ capped_from (nat_eq b 94) false bs else b ∷ capped_from (nat_eq b 94) false bs)

-- the text with 0 for each exponent that is written
abbrev pub without_exponents : Bytes → Bytes
without_exponents text = capped_from false false text

abbrev pub unless_form : Result State Reason → Reason
unless_form (Err Form) = Form
unless_form result = Exponents

-- A row that can't be read has no form; but where it could be read and stand there with other exponents, one of them is above the bound.
abbrev pub unread : State → Option Line → Reason
unread s (Some (Row kind v)) = unless_form (judged_line s (Row kind v))
unread s line = Form

abbrev pub judged_read : State → Bytes → Option Line → Result State Reason
judged_read s text (Some l) = judged_line s l
judged_read s text None = Err (unread s (line_in s.sheet (without_exponents text)))

unfoldable pub step : State → Bytes → Result State Reason
step s text = judged_read s text (line_in s.sheet text)

-- a bad line, with its number from 1 on
pub record BadLine : Type 0 where
  pub line : ℕ
  pub why : Reason

pub record Counts : Type 0 where
  pub verdicts : ℕ
  pub passed : ℕ

abbrev pub ended : ℕ → State → Stage → Result State BadLine
ended n s at_end = Ok s
ended n s stage = Err (record { line = n; why = Truncated })

abbrev pub at_line : ℕ → Result State Reason → Result State BadLine
at_line n (Ok s) = Ok s
at_line n (Err why) = Err (record { line = n; why = why })

-- the lines from number n on, each judged by what stands before it
abbrev pub judged_lines : ℕ → State → List Bytes → Result State BadLine
judged_lines n s [] = ended n s s.stage
judged_lines n s (l ∷ ls) = at_line n (step s l) >>= λ t. judged_lines (suc n) t ls

-- what stands behind the last LF, where something does
abbrev pub unended_from : Bytes → Bytes → List Bytes
unended_from [] [] = []
unended_from (b ∷ line) [] = (b ∷ line) ∷ []
unended_from line (b ∷ bs) = if nat_eq b 10 then unended_from [] bs else unended_from (line ++ b ∷ []) bs

abbrev pub all_lines : Bytes → List Bytes
all_lines text = lines_from [] text ++ unended_from [] text

-- The judgement of a text: how many queries have an answer and how many have none; or its first bad line with the reason.
unfoldable pub judgement : Bytes → Result Counts BadLine
judgement text = judged_lines 1 start (all_lines text) >>= λ s. Ok (record { verdicts = s.verdicts; passed = s.passed })

pub record IsValid (text : Bytes) : Type 0 where
  pub counts : Counts
  pub accepted : judgement text ≡ Ok counts
