-- The blocks that are written, one query after another.
use Rattle.std.proofs.Common.{◌≡◌, ◌≤◌, ◌+◌, ℕ, suc, Bool, true, false, not, ◌&&◌, List, [], ◌∷◌, ◌++◌, All, length, refl, sym, ap, ap₂, subst, ◌∙◌, append_assoc, append-nil, arith}
use Rattle.std.proofs.lemmas.List.{nil_from_length}
use Rattle.std.proofs.lemmas.List.Elements.{All-tail}
use Rattle.fm_poly.specs.declared.ring.Ring.{Ring}
use Rattle.fm_words.specs.Parts.{Bytes}
use Rattle.fm_problem.specs.declared.problem.Problem.{Problem}
use Rattle.fm_problem.specs.declared.query.Query.{Query}
use Rattle.fm_problem.specs.declared.query.Query as queries
use Rattle.fm_problem.specs.Sound.{IsQueryOf}
use Rattle.fm_cert.specs.Lines.{lines_text}
use Rattle.fm_cert.specs.Said.{IsQueryOver}
use Rattle.fm_cert.proofs.LinesWritten.{no_lines, over_variables, text_append}
use Rattle.fm_report.specs.Reports.{QueryReport, block_lines, query_lines}
use Rattle.fm_answers.specs.Answers.{are_answered, is_unanswered}
use Rattle.fm_standard.specs.Small.{AreSmallLines}
use Rattle.fm_certificates.specs.Reports.{AreSmallReports, certified_report, certified_reports}

module _ (units : ℕ) (q : Problem) where
  abbrev Shown : Bytes → ℕ → List Query → Bytes
  Shown now number left = now ++ lines_text q.vars (query_lines q (number + 1) (certified_reports units q left))

  -- one more query is written
  query_written : (z : Query) (rest left : List Query) (b : QueryReport) (number : ℕ) (old new whole : Bytes) → certified_reports units q left ≡ b ∷ certified_reports units q rest
      → new ≡ old ++ lines_text q.vars (block_lines q (number + 1) b) → Shown old number left ≡ whole → Shown new (number + 1) rest ≡ whole
  query_written z rest left b number old new whole e n h =
      let after : number + 1 + 1 ≡ suc (number + 1) = omega arith in
      ap₂ (λ x k. x ++ lines_text q.vars (query_lines q k (certified_reports units q rest))) n after
      ∙ append_assoc old (lines_text q.vars (block_lines q (number + 1) b)) (lines_text q.vars (query_lines q (suc (number + 1)) (certified_reports units q rest)))
      ∙ ap (λ l. old ++ l) (sym (text_append q.vars (block_lines q (number + 1) b) (query_lines q (suc (number + 1)) (certified_reports units q rest))))
      ∙ ap (λ bs. old ++ lines_text q.vars (query_lines q (number + 1) bs)) (sym e) ∙ h

  regroup : (a b c : Bool) → ((a && b) && c) ≡ (a && (b && c))
  regroup true b c = refl
  regroup false b c = refl

  -- what is written, and what the queries that are left add to it: the text, whether all are answered, and that their certificates have small numbers
  abbrev pub IsLeft : Bytes → Bool → ℕ → Bytes → Bool → List Query → Type 0
  IsLeft now all number whole total left =
      (Shown now number left ≡ whole) × ((all && are_answered (certified_reports units q left)) ≡ total) × All (IsQueryOf q) left × (number + length left ≤ length q.queries)
      × (AreSmallReports (certified_reports units q left) → AreSmallReports (certified_reports units q q.queries))

  -- a query is answered
  pub answered : (z : Query) (rest left : List Query) (number : ℕ) (old new whole : Bytes) (all done new_all total : Bool) → left ≡ z ∷ rest
      → new ≡ old ++ lines_text q.vars (block_lines q (number + 1) (certified_report units q z)) → done ≡ not (is_unanswered (certified_report units q z).kind)
      → AreSmallLines (certified_report units q z).lines → new_all ≡ (all && done) → IsLeft old all number whole total left → IsLeft new new_all (number + 1) whole total rest
  answered z rest left number old new whole all done new_all total e n d small na h =
      let b = certified_report units q z in
      let cut : certified_reports units q left ≡ b ∷ certified_reports units q rest = ap (certified_reports units q) e in
      let count : number + length (z ∷ rest) ≤ length q.queries = subst (λ l. number + length l ≤ length q.queries) e h.3 in (
        query_written z rest left b number old new whole cut n h.0,
        ap (λ x. x && are_answered (certified_reports units q rest)) (na ∙ ap (λ x. all && x) d)
            ∙ regroup all (not (is_unanswered b.kind)) (are_answered (certified_reports units q rest)) ∙ ap (λ bs. all && are_answered bs) (sym cut) ∙ h.1,
        All-tail (IsQueryOf q) z rest (subst (All (IsQueryOf q)) e h.2),
        omega (arith, count),
        λ later. h.4 (subst AreSmallReports (sym cut) (small, later)),
      )

  -- no query is left
  pub finished : (left : List Query) (number : ℕ) (now whole : Bytes) → length left ≡ 0 → Shown now number left ≡ whole → now ≡ whole
  finished left number now whole e h =
      sym (append-nil now) ∙ ap (λ y. now ++ y) (sym (no_lines q.vars))
      ∙ ap (λ l. now ++ lines_text q.vars (query_lines q (number + 1) (certified_reports units q l))) (sym (nil_from_length left e)) ∙ h

  -- the certificates of no queries have small numbers
  pub none_small : (left : List Query) → length left ≡ 0 → AreSmallReports (certified_reports units q left)
  none_small [] e = tt
  none_small (z ∷ left) e = absurd (omega (arith, e))

pub and_true : (a b : Bool) → a ≡ true → b ≡ (a && b)
and_true a b e = ap (λ x. x && b) (sym e)

pub and_false : (a b : Bool) → a ≡ false → a ≡ (a && b)
and_false a b e = e ∙ ap (λ x. x && b) (sym e)

-- ---- polynomials over the variables

-- the polynomials of a query are over the variables of its problem
pub query_over : (q : Problem) (z : Query) → IsQueryOf q z → IsQueryOver q.ring.vars z
query_over q (queries.TheVariants.Zero i k) of = tt
query_over q (queries.TheVariants.Class i k e z) of = over_variables q.ring q.ring.vars z refl of.3
query_over q (queries.TheVariants.Root i k) of = tt
query_over q (queries.TheVariants.Invert i k f) of = ap (λ (x : Ring). x.vars) (sym of.2.of_ring)
query_over q (queries.TheVariants.Support i k) of = tt
query_over q (queries.TheVariants.Map i k j) of = tt
query_over q (queries.TheVariants.Member k f) of = ap (λ (x : Ring). x.vars) (sym of.1.of_ring)
query_over q (queries.TheVariants.Resolution i k) of = tt
query_over q (queries.TheVariants.ExtOf i k) of = tt
