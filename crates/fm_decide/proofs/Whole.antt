-- The pieces of a report make the report.
use Rattle.std.proofs.Common.{◌≡◌, ◌∙◌, ℕ, List, [], ◌∷◌, ◌++◌, sym, ap, subst, append_assoc, append-nil}
use Rattle.fm_words.specs.Parts.{Bytes}
use Rattle.fm_problem.specs.declared.problem.Problem.{Problem}
use Rattle.fm_cert.specs.Kinds as kinds
use Rattle.fm_cert.specs.Lines.{Line, Question, Row, line_text, lines_text}
use Rattle.fm_cert.specs.Said.{end_line}
use Rattle.fm_cert.specs.Questions.{head_lines, question_line}
use Rattle.fm_cert.proofs.LinesWritten.{line_first, no_lines, text_append}
use Rattle.fm_report.specs.Reports.{QueryReport, block_lines, query_lines, report_text}
use Rattle.fm_problem.specs.declared.query.Query.{Query}
use Rattle.fm_certificates.specs.Reports.{certified_bytes, certified_reports}
use Rattle.fm_decide.specs.declared.ended.Answer.{Answer}
use Rattle.fm_decide.specs.Given.{IsAnswerOf, report_with}

-- one line
one_line : (names : List Bytes) (l : Line) → lines_text names (l ∷ []) ≡ line_text names l ++ 10 ∷ []
one_line names l = line_first names l [] ∙ ap (λ y. (line_text names l ++ 10 ∷ []) ++ y) (no_lines names) ∙ append-nil (line_text names l ++ 10 ∷ [])

pub report_written : (units : ℕ) (q : Problem) (s0 s1 s2 s3 : Bytes) → s0 ≡ [] → s1 ≡ s0 ++ lines_text q.vars (head_lines 2 q)
    → s2 ≡ s1 ++ lines_text q.vars (query_lines q 1 (certified_reports units q q.queries))
    → s3 ≡ s2 ++ (line_text q.vars (Row kinds.EndReport tt) ++ 10 ∷ []) → s3 ≡ certified_bytes units q
unfolding certified_bytes report_text
report_written units q s0 s1 s2 s3 e0 e1 e2 e3 =
    let head = lines_text q.vars (head_lines 2 q) in
    let blocks = query_lines q 1 (certified_reports units q q.queries) in
    let last : Line = Row kinds.EndReport tt in
    e3 ∙ ap (λ y. y ++ (line_text q.vars last ++ 10 ∷ [])) (e2 ∙ ap (λ y. y ++ lines_text q.vars blocks) (e1 ∙ ap (λ y. y ++ head) e0))
    ∙ ap (λ y. (head ++ lines_text q.vars blocks) ++ y) (sym (one_line q.vars last))
    ∙ append_assoc head (lines_text q.vars blocks) (lines_text q.vars (last ∷ []))
    ∙ ap (λ y. head ++ y) (sym (text_append q.vars blocks (last ∷ []))) ∙ sym (text_append q.vars (head_lines 2 q) (blocks ++ last ∷ []))

-- the lines of a block
block_written : (q : Problem) (k : ℕ) (b : QueryReport) (s0 s1 s2 s3 s4 : Bytes)
    → s1 ≡ s0 ++ (line_text q.vars (Question k (question_line q b.question)) ++ 10 ∷ [])
    → s2 ≡ s1 ++ (line_text q.vars (Row (kinds.Ended b.kind) b.values) ++ 10 ∷ []) → s3 ≡ s2 ++ lines_text q.vars b.lines
    → s4 ≡ s3 ++ (line_text q.vars (Row kinds.Done (k, tt)) ++ 10 ∷ []) → s4 ≡ s0 ++ lines_text q.vars (block_lines q k b)
block_written q k b s0 s1 s2 s3 s4 e1 e2 e3 e4 =
    let text : Line → Bytes = λ l. line_text q.vars l ++ 10 ∷ [] in
    let asked : Line = Question k (question_line q b.question) in
    let ended : Line = Row (kinds.Ended b.kind) b.values in
    let done : Line = Row kinds.Done (k, tt) in
    let rest = lines_text q.vars b.lines in
    e4 ∙ ap (λ y. y ++ text done) (e3 ∙ ap (λ y. y ++ rest) (e2 ∙ ap (λ y. y ++ text ended) e1))
    ∙ append_assoc ((s0 ++ text asked) ++ text ended) rest (text done) ∙ append_assoc (s0 ++ text asked) (text ended) (rest ++ text done)
    ∙ append_assoc s0 (text asked) (text ended ++ (rest ++ text done))
    ∙ ap (λ y. s0 ++ (text asked ++ (text ended ++ (rest ++ y)))) (sym (one_line q.vars done))
    ∙ ap (λ y. s0 ++ (text asked ++ (text ended ++ y))) (sym (text_append q.vars b.lines (done ∷ [])))
    ∙ ap (λ y. s0 ++ (text asked ++ y)) (sym (line_first q.vars ended (b.lines ++ done ∷ [])))
    ∙ ap (λ y. s0 ++ y) (sym (line_first q.vars asked (ended ∷ b.lines ++ done ∷ [])))

-- the lines of a query, by its answer
pub answer_written : (q : Problem) (k : ℕ) (z : Query) (a : Answer) (b : QueryReport) (s0 s1 s2 s3 s4 : Bytes) → IsAnswerOf q z a b
    → s1 ≡ s0 ++ (line_text q.vars (Question k (question_line q z)) ++ 10 ∷ []) → s2 ≡ s1 ++ (line_text q.vars (end_line a.end) ++ 10 ∷ []) → s3 ≡ s2 ++ a.certificate.items
    → s4 ≡ s3 ++ (line_text q.vars (Row kinds.Done (k, tt)) ++ 10 ∷ []) → s4 ≡ s0 ++ lines_text q.vars (block_lines q k b)
answer_written q k z a b s0 s1 s2 s3 s4 h e1 e2 e3 e4 =
    subst (λ b. s4 ≡ s0 ++ lines_text q.vars (block_lines q k b)) h.report
    (block_written q k (report_with z a b.lines) s0 s1 s2 s3 s4 e1 e2 (e3 ∙ ap (λ y. s2 ++ y) h.text) e4)
