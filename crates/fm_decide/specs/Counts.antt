-- Counts of how queries end.
use Rattle.std.specs.Prelude.{ℕ, Bool, false, not, List, is_some, count_by}
use Rattle.fm_cert.specs.Fields.{Values}
use Rattle.fm_cert.specs.Kinds.{EndKind, end_row}
use Rattle.fm_cert.specs.Kinds as kinds
use Rattle.fm_report.specs.Reports.{QueryReport}
use Rattle.fm_answers.specs.Answers.{is_unanswered}
use Rattle.fm_decide.specs.declared.counts.Counts.{Counts}

-- the end is an answer whose line begins with `answer yes`
abbrev pub says_yes : (kind : EndKind) → Values (end_row kind) → Bool
says_yes kinds.Zero values = values.0
says_yes kinds.Class values = is_some values.0
says_yes kinds.Invert values = is_some values.0
says_yes kinds.Member values = values.0
says_yes kind values = false

-- the end is an answer whose line begins with `answer no`
abbrev pub says_no : (kind : EndKind) → Values (end_row kind) → Bool
says_no kinds.Zero values = not values.0
says_no kinds.Class values = not (is_some values.0)
says_no kinds.Invert values = not (is_some values.0)
says_no kinds.Member values = not values.0
says_no kind values = false

module _ (bs : List QueryReport) where
  abbrev pub yes_count : ℕ
  yes_count = count_by (λ b. says_yes b.kind b.values) bs

  abbrev pub no_count : ℕ
  no_count = count_by (λ b. says_no b.kind b.values) bs

  abbrev pub unanswered_count : ℕ
  unanswered_count = count_by (λ b. is_unanswered b.kind) bs

-- how many of the queries with these reports are answered with yes, with no, and not at all
abbrev pub counts_of : List QueryReport → Counts
counts_of bs = record { yes = yes_count bs; no = no_count bs; unanswered = unanswered_count bs }
