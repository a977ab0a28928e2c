-- What the bytes of a report state: its lines are read one by one, each by what stands before it.
use Rattle.std.specs.Prelude.{ℕ, Bool, false, if◌then◌else◌, nat_eq, List, [], ◌∷◌, ◌++◌, codes, Option, Some, None}
use Rattle.std.specs.List.{list_any}
use Rattle.fm_words.specs.Options.{◌>>=◌}
use Rattle.fm_words.specs.Parts.{Bytes}
use Rattle.fm_words.specs.Words.{words, same_bytes}
use Rattle.fm_problem.specs.declared.problem.Problem.{Problem}
use Rattle.fm_problem.specs.declared.query.Query.{Query}
use Rattle.fm_cert.specs.Kinds as kinds
use Rattle.fm_cert.specs.Lines.{Line, Row, line_of}
use Rattle.fm_report.specs.Sheets.{Block, Answer, Sheet, blank, ring_in, names_in, blocks_of, say}
use Rattle.fm_report.specs.Verdicts.{Stated, unreadable, verdict_of, block_root, stated}

-- ---- what a line states, by what was said before it

-- a `done` line states the verdict of the query that it ends, if that was answered
abbrev pub stated_at_done : Sheet → Option Problem → Option Query → Option Answer → List Stated
stated_at_done s q z None = []
stated_at_done s (Some q) (Some z) (Some a) = stated q.ring (verdict_of q.ring q.ideals z a.kind a.values (blocks_of s) s.identity) ∷ []
stated_at_done s q z (Some a) = unreadable ∷ []

-- a `stable` line under an answer states the root of its block
abbrev pub stated_at_stable : Option Problem → Option Block → Option Answer → ℕ → List Stated
stated_at_stable (Some q) (Some b) (Some a) t = stated q.ring (block_root q.ring q.ideals b t) ∷ []
stated_at_stable q b a t = []

abbrev pub stated_by : Sheet → Line → List Stated
stated_by s (Row kinds.Done v) = stated_at_done s s.head s.asked s.answer
stated_by s (Row kinds.Stable (t, more)) = stated_at_stable s.head s.block s.answer t
stated_by s line = []

-- ---- lines

-- the words that begin lines on which verdicts rest
abbrev pub resting_words : List Bytes
resting_words =
    codes "ring" ∷ codes "ideal" ∷ codes "query" ∷ codes "answer" ∷ codes "datum" ∷ codes "part" ∷ codes "d" ∷ codes "theta" ∷ codes "lambda"
    ∷ codes "Z" ∷ codes "N" ∷ codes "U" ∷ codes "K" ∷ codes "cocycles" ∷ codes "relations" ∷ codes "morphism" ∷ codes "chain" ∷ codes "stable" ∷ codes "done" ∷ []

abbrev pub rests_on : List Bytes → Bool
rests_on [] = false
rests_on (w ∷ ws) = list_any (same_bytes w) resting_words

-- a line that can't be read, or can't stand there: nothing is stated where no verdict rests on it
abbrev pub broken : Bytes → List Stated
broken text = if rests_on (words text) then unreadable ∷ [] else []

-- the line that a text is, over the ring of the head and under the query at hand
unfoldable pub line_in : Sheet → Bytes → Option Line
line_in s text = line_of (ring_in s.head) (names_in s.head) s.asked text

abbrev pub said_of : Sheet → Option Line → Option Sheet
said_of s o = o >>= say s

abbrev pub states : Sheet → Bytes → Option Line → Option Sheet → List Stated
states s text (Some l) (Some t) = stated_by s l
states s text None o = broken text
states s text (Some l) None = broken text

-- a line that can't be said changes nothing
abbrev pub sheet_after : Sheet → Option Sheet → Sheet
sheet_after s None = s
sheet_after s (Some t) = t

-- what the lines state that are read after what was said
abbrev pub reading : Sheet → List Bytes → List Stated
reading s [] = []
reading s (l ∷ ls) = states s l (line_in s l) (said_of s (line_in s l)) ++ reading (sheet_after s (said_of s (line_in s l))) ls

-- the lines that have ended, where the bytes `line` stand before
abbrev pub lines_from : Bytes → Bytes → List Bytes
lines_from line [] = []
lines_from line (b ∷ bs) = if nat_eq b 10 then line ∷ lines_from [] bs else lines_from (line ++ b ∷ []) bs

-- What the bytes of a report, or of its beginning, state. A line counts once its LF is there.
unfoldable pub statements : Bytes → List Stated
statements bytes = reading blank (lines_from [] bytes)
