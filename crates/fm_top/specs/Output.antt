-- What a run answers: a function of the words and the text.
use Rattle.std.specs.Prelude.{ℕ, List, [], ◌∷◌, ◌++◌, ◌≡◌, length, Option, Some, None, Result, Ok, Err, codes, decimal, nat_eq, nat_lt, if◌then◌else◌}
use Rattle.std.specs.Option.{option_map}
use Rattle.fm_base.specs.declared.status.Status.{Status}
use Rattle.fm_base.specs.declared.status.Status.TheVariants.{Done, Refused, Usage, Unanswered, Problem, TooLong}
use Rattle.fm_problem.specs.declared.problem.Problem as problems
use Rattle.fm_problem.specs.Faults.{Fault, fault_text}
use Rattle.fm_problem.specs.Problems.{problem_of}
use Rattle.fm_report.specs.Holding.{VerdictsHold}
use Rattle.fm_parts.specs.Replays.{Reason, Truncated, Form, Exponents, Reference, Shape, Depth, Value, BadEntry, BadLog, Reduction}
use Rattle.fm_judge.specs.Judging.{Counts as JudgedCounts, BadLine, judgement}
use Rattle.fm_answers.specs.Answers.{are_answered}
use Rattle.fm_certificates.specs.Reports.{certified_bytes, certified_reports}
use Rattle.fm_top.specs.declared.call.Call.{Call}
use Rattle.fm_top.specs.declared.call.Call.TheVariants.{Decide, Check, Sample}
use Rattle.fm_decide.specs.Counts.{counts_of}
use Rattle.fm_decide.specs.declared.counts.Counts.{Counts}
use Rattle.fm_sample.specs.Samples.{sample_problem}
use Rattle.fm_top.specs.Words.{call_of, default_budget}

-- a status and the bytes written
pub record Output : Type 0 where
  pub status : Status
  pub bytes : List ℕ

-- the longest problem text and the longest certificate, in bytes
abbrev pub problem_limit : ℕ
problem_limit = 1048576

abbrev pub certificate_limit : ℕ
certificate_limit = 268435456

-- a line with its end
abbrev pub line_of : List ℕ → List ℕ
line_of text = text ++ 10 ∷ []

abbrev pub usage : Output
usage = record { status = Usage; bytes = line_of (codes "usage: fmod decide [--budget N] | check | sample N") }

-- the line of the first fault
abbrev pub faulted : Fault → Output
faulted f = record { status = Problem; bytes = codes "line " ++ (decimal f.line ++ (codes ": " ++ line_of (fault_text f.kind))) }

-- the report of a problem, with certificates; the status tells whether each query is answered
abbrev pub reported : ℕ → problems.Problem → Output
reported units q = record { status = if are_answered (certified_reports units q q.queries) then Done else Unanswered; bytes = certified_bytes units q }

abbrev pub judged : ℕ → Result problems.Problem Fault → Output
judged units (Ok q) = reported units q
judged units (Err f) = faulted f

-- what a problem text within the limit gives, with this number of units for each query
unfoldable pub decided : ℕ → List ℕ → Output
decided units text = judged units (problem_of text)

-- the line of a certificate that is accepted: how many queries have an answer, and how many have none
abbrev pub accepted_line : (verdicts passed : ℕ) → List ℕ
accepted_line verdicts passed = codes "accepted verdicts " ++ (decimal verdicts ++ (codes " passed " ++ line_of (decimal passed)))

-- the word for what is wrong with a line
abbrev pub reason_text : Reason → List ℕ
reason_text Truncated = codes "truncated"
reason_text Form = codes "form"
reason_text Exponents = codes "exponents"
reason_text Reference = codes "reference"
reason_text Shape = codes "shape"
reason_text Depth = codes "depth"
reason_text Value = codes "value"
reason_text BadEntry = codes "entry"
reason_text BadLog = codes "log"
reason_text Reduction = codes "reduction"

-- the line of a certificate that is refused: its first bad line
abbrev pub refused_line : ℕ → Reason → List ℕ
refused_line n why = codes "refused line " ++ (decimal n ++ (codes " " ++ line_of (reason_text why)))

abbrev pub found : Result JudgedCounts BadLine → Output
found (Ok c) = record { status = Done; bytes = accepted_line c.verdicts c.passed }
found (Err b) = record { status = Refused; bytes = refused_line b.line b.why }

-- what a text within the limit gives as a certificate
unfoldable pub checked : List ℕ → Output
checked text = found (judgement text)

-- the line that counts how the queries of a sample end
abbrev pub summary_line : (number queries : ℕ) → Counts → List ℕ
summary_line number queries c =
    codes "sample " ++ decimal number ++ (codes " queries " ++ decimal queries ++ (codes " yes " ++ decimal c.yes ++ (codes " no " ++ decimal c.no
    ++ (codes " unanswered " ++ line_of (decimal c.unanswered)))))

abbrev pub summed : ℕ → problems.Problem → Counts → Output
summed number q c =
    record { status = if nat_eq c.unanswered 0 then Done else Unanswered; bytes = summary_line number (length q.queries) c }

-- the summary of the problem that is drawn from a number, each query of it with the default number of units
unfoldable pub sampled : ℕ → Output
sampled number = let q = sample_problem number in summed number q (counts_of (certified_reports default_budget q q.queries))

-- the longest text that a call lets be read, in bytes
abbrev pub limit_of : Option Call → ℕ
limit_of None = 0
limit_of (Some (Decide units)) = problem_limit
limit_of (Some Check) = certificate_limit
limit_of (Some (Sample number)) = 0

-- the longest text that words let be read
abbrev pub text_limit : List (List ℕ) → ℕ
text_limit words = limit_of (call_of words)

-- what a call gives on a text within its limit
abbrev pub answered : Call → List ℕ → Output
answered (Decide units) text = decided units text
answered Check text = checked text
answered (Sample number) text = sampled number

-- an input longer than the limit
abbrev pub too_long : Output
too_long = record { status = TooLong; bytes = [] }

-- what a call gives on a text that it reads
abbrev pub answered_within : Call → List ℕ → Output
answered_within call text = if nat_lt (limit_of (Some call)) (length text) then too_long else answered call text

-- what a call gives on a text
abbrev pub output_within : Option Call → List ℕ → Output
output_within None text = usage
output_within (Some (Sample number)) text = sampled number
output_within (Some (Decide units)) text = answered_within (Decide units) text
output_within (Some Check) text = answered_within Check text

-- the output of words and a text
unfoldable pub output_of : List (List ℕ) → List ℕ → Output
output_of words text = output_within (call_of words) text

abbrev pub determined_within : Option Call → Option (List ℕ) → Option Output
determined_within None told = Some usage
determined_within (Some (Sample number)) told = Some (sampled number)
determined_within (Some (Decide units)) told = option_map (answered_within (Decide units)) told
determined_within (Some Check) told = option_map (answered_within Check) told

-- the output where it is determined: the words need no text, or the text is told
unfoldable pub determined_output : List (List ℕ) → Option (List ℕ) → Option Output
determined_output words told = determined_within (call_of words) told

-- each beginning of the bytes states only verdicts that hold
abbrev pub HoldThroughout : List ℕ → Type 0
HoldThroughout bytes = (front back : List ℕ) → bytes ≡ front ++ back → VerdictsHold front
