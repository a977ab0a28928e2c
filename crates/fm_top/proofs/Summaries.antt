-- The summary of a sample states nothing.
use Rattle.std.proofs.Common.{◌≡◌, ◌∙◌, ℕ, true, List, [], ◌∷◌, ◌++◌, length, codes, decimal, append_assoc, refl, sym, ap, subst}
use Rattle.fm_words.specs.Parts.{Bytes}
use Rattle.fm_report.proofs.Silent.{message_holds}
use Rattle.fm_decide.proofs.FaultLines.{is_one_line, one_line_append, decimal_one_line}
use Rattle.fm_certificates.specs.Reports.{certified_reports}
use Rattle.fm_decide.specs.Counts.{counts_of}
use Rattle.fm_decide.specs.declared.counts.Counts.{Counts}
use Rattle.fm_problem.specs.declared.problem.Problem.{Problem}
use Rattle.fm_sample.specs.Samples.{sample_problem}
use Rattle.fm_top.specs.Output.{HoldThroughout, Output, sampled, summary_line, summed}
use Rattle.fm_top.specs.Words.{default_budget}

-- words and a number, and the rest of the line
counted : (w : Bytes) (n : ℕ) (rest : Bytes) → is_one_line w ≡ true → is_one_line rest ≡ true → is_one_line (w ++ decimal n ++ rest) ≡ true
counted w n rest h k = one_line_append (w ++ decimal n) rest (one_line_append w (decimal n) h (decimal_one_line n)) k

-- a line with its end
ended : (front rest whole : Bytes) → rest ++ 10 ∷ [] ≡ whole → (front ++ rest) ++ 10 ∷ [] ≡ front ++ whole
ended front rest whole e = append_assoc front rest (10 ∷ []) ∙ ap (λ x. front ++ x) e

module _ (number queries : ℕ) (c : Counts) where
  abbrev no_answers : Bytes
  no_answers = codes " unanswered " ++ decimal c.unanswered

  abbrev noes : Bytes
  noes = codes " no " ++ decimal c.no ++ no_answers

  abbrev yeses : Bytes
  yeses = codes " yes " ++ decimal c.yes ++ noes

  abbrev asked : Bytes
  asked = codes " queries " ++ decimal queries ++ yeses

  abbrev line : Bytes
  line = codes "sample " ++ decimal number ++ asked

  one_line : is_one_line line ≡ true
  one_line =
      counted (codes "sample ") number asked refl (counted (codes " queries ") queries yeses refl (counted (codes " yes ") c.yes noes refl
      (counted (codes " no ") c.no no_answers refl (one_line_append (codes " unanswered ") (decimal c.unanswered) refl (decimal_one_line c.unanswered)))))

  whole : line ++ 10 ∷ [] ≡ summary_line number queries c
  whole =
      ended (codes "sample " ++ decimal number) asked _ (ended (codes " queries " ++ decimal queries) yeses _ (ended (codes " yes " ++ decimal c.yes) noes _
      (ended (codes " no " ++ decimal c.no) no_answers _ (append_assoc (codes " unanswered ") (decimal c.unanswered) (10 ∷ [])))))

  pub summary_holds : HoldThroughout (summary_line number queries c)
  summary_holds front back e = message_holds line one_line refl front back (whole ∙ e)

-- the summary by its parts
module _ (number : ℕ) (q : Problem) (c : Counts) (drawn : q ≡ sample_problem number) (counted : c ≡ counts_of (certified_reports default_budget q q.queries)) where
  pub sampled_by : summed number q c ≡ sampled number
  unfolding sampled
  sampled_by = ap (summed number q) counted ∙ ap (λ (p : Problem). summed number p (counts_of (certified_reports default_budget p p.queries))) drawn

  pub states_nothing : (bytes : Bytes) → bytes ≡ summary_line number (length q.queries) c → HoldThroughout bytes
  states_nothing bytes are = subst HoldThroughout (sym are) (summary_holds number (length q.queries) c)

-- words and numbers that are appended, one after another
pub appended : (w₁ w₂ w₃ w₄ w₅ l₀ l₁ l₂ l₃ l₄ l₅ l₆ : Bytes) (m₁ m₂ m₃ m₄ m₅ n₁ n₂ n₃ n₄ n₅ : ℕ) → l₀ ≡ [] → m₁ ≡ n₁ → m₂ ≡ n₂ → m₃ ≡ n₃ → m₄ ≡ n₄ → m₅ ≡ n₅
    → l₁ ≡ l₀ ++ (w₁ ++ decimal m₁) → l₂ ≡ l₁ ++ (w₂ ++ decimal m₂) → l₃ ≡ l₂ ++ (w₃ ++ decimal m₃) → l₄ ≡ l₃ ++ (w₄ ++ decimal m₄) → l₅ ≡ l₄ ++ (w₅ ++ decimal m₅)
    → l₆ ≡ l₅ ++ 10 ∷ []
    → l₆ ≡ (w₁ ++ decimal n₁) ++ ((w₂ ++ decimal n₂) ++ ((w₃ ++ decimal n₃) ++ ((w₄ ++ decimal n₄) ++ (w₅ ++ (decimal n₅ ++ 10 ∷ [])))))
appended w₁ w₂ w₃ w₄ w₅ l₀ l₁ l₂ l₃ l₄ l₅ l₆ m₁ m₂ m₃ m₄ m₅ n₁ n₂ n₃ n₄ n₅ none i₁ i₂ i₃ i₄ i₅ e₁ e₂ e₃ e₄ e₅ e₆ =
    let a = w₁ ++ decimal n₁ in
    let b = w₂ ++ decimal n₂ in
    let c = w₃ ++ decimal n₃ in
    let d = w₄ ++ decimal n₄ in
    let rest = w₅ ++ (decimal n₅ ++ 10 ∷ []) in
    let one : l₁ ≡ a = e₁ ∙ ap (λ (l : Bytes). l ++ (w₁ ++ decimal m₁)) none ∙ ap (λ (n : ℕ). w₁ ++ decimal n) i₁ in
    let two : l₂ ≡ a ++ b = e₂ ∙ ap (λ (l : Bytes). l ++ (w₂ ++ decimal m₂)) one ∙ ap (λ (n : ℕ). a ++ (w₂ ++ decimal n)) i₂ in
    let three : l₃ ≡ (a ++ b) ++ c = e₃ ∙ ap (λ (l : Bytes). l ++ (w₃ ++ decimal m₃)) two ∙ ap (λ (n : ℕ). (a ++ b) ++ (w₃ ++ decimal n)) i₃ in
    let four : l₄ ≡ ((a ++ b) ++ c) ++ d = e₄ ∙ ap (λ (l : Bytes). l ++ (w₄ ++ decimal m₄)) three ∙ ap (λ (n : ℕ). ((a ++ b) ++ c) ++ (w₄ ++ decimal n)) i₄ in
    let five : l₅ ≡ (((a ++ b) ++ c) ++ d) ++ (w₅ ++ decimal n₅) =
    e₅ ∙ ap (λ (l : Bytes). l ++ (w₅ ++ decimal m₅)) four ∙ ap (λ (n : ℕ). (((a ++ b) ++ c) ++ d) ++ (w₅ ++ decimal n)) i₅ in
    e₆ ∙ ap (λ (l : Bytes). l ++ 10 ∷ []) five
    ∙ append_assoc (((a ++ b) ++ c) ++ d) (w₅ ++ decimal n₅) (10 ∷ [])
    ∙ ap (λ (z : Bytes). (((a ++ b) ++ c) ++ d) ++ z) (append_assoc w₅ (decimal n₅) (10 ∷ []))
    ∙ append_assoc ((a ++ b) ++ c) d rest ∙ append_assoc (a ++ b) c (d ++ rest) ∙ append_assoc a b (c ++ (d ++ rest))
