-- The report with certificates of a problem that is read states what holds.
use Rattle.std.proofs.Common.{ℕ, suc, ◌+◌, ◌≡◌, ◌<◌, ◌^◌, List, [], ◌∷◌, ◌++◌, All, length, Ok, arith}
use Rattle.std.proofs.lemmas.List.Elements.{All-head, All-tail}
use Rattle.fm_words.specs.Parts.{Bytes}
use Rattle.fm_problem.specs.declared.problem.Problem.{Problem}
use Rattle.fm_problem.specs.declared.query.Query.{Query}
use Rattle.fm_problem.specs.Problems.{problem_of}
use Rattle.fm_problem.specs.Sound.{IsQueryOf, IsProblem, AreSmallQueries, HasSmallExponents}
use Rattle.fm_problem.proofs.SoundProblems.{problem_sound}
use Rattle.fm_problem.proofs.SmallExponents.{problem_within}
use Rattle.fm_report.specs.Holding.{AllHold, VerdictsHold}
use Rattle.fm_report.specs.Reports.{QueryReport, AreWritableBlocks, block_says, report_says}
use Rattle.fm_report.proofs.Holding.{all_hold_append}
use Rattle.fm_report.proofs.ReportsRead.{report_holds}
use Rattle.fm_certificates.specs.Reports.{AreSmallReports, certified_bytes, certified_report, certified_reports}
use Rattle.fm_certificates.proofs.Reports.{query_good}
use Rattle.fm_answers.proofs.ShortClasses.{AreShort, problem_short}

module _ (q : Problem) (sound : IsProblem q) (small : HasSmallExponents q) (units : ℕ) (enough : units < 2 ^ 32) where
  record GoodFrom (k : ℕ) (bs : List QueryReport) : Type 0 where
    writable : AreWritableBlocks q k bs
    holds : AllHold (report_says q k bs)

  queries_good : (k : ℕ) (zs : List Query) → k + length zs < 2 ^ 64 → All (IsQueryOf q) zs → AreSmallQueries zs → AreShort zs → AreSmallReports (certified_reports units q zs)
      → GoodFrom k (certified_reports units q zs)
  queries_good k [] few of low short lines = record { writable = tt; holds = tt }
  queries_good k (z ∷ zs) few of low short lines =
      let g = query_good q sound small k (omega (arith, few)) units enough z (All-head (IsQueryOf q) z zs of) low.0 short.0 lines.0 in
      let rest = queries_good (suc k) zs (omega (arith, few)) (All-tail (IsQueryOf q) z zs of) low.1 short.1 lines.1 in
      record {
        writable = (g.writable, rest.writable);
        holds = all_hold_append (block_says q k (certified_report units q z)) (report_says q (suc k) (certified_reports units q zs)) g.holds rest.holds;
      }

  problem_holds : AreShort q.queries → AreSmallReports (certified_reports units q q.queries) → (front back : Bytes) → certified_bytes units q ≡ front ++ back → VerdictsHold front
  unfolding certified_bytes
  problem_holds short lines front back e =
      let count = sound.few_queries in
      let g = queries_good 0 q.queries (omega (arith, count)) sound.asked small.queries short lines in
      report_holds 2 q (certified_reports units q q.queries) (omega arith) (record { problem = sound; exponents = small; blocks = g.writable }) g.holds front back e

pub text_holds : (text : Bytes) (units : ℕ) (q : Problem) → length text < 2 ^ 64 → units < 2 ^ 32 → problem_of text ≡ Ok q → AreSmallReports (certified_reports units q q.queries)
    → (front back : Bytes) → certified_bytes units q ≡ front ++ back → VerdictsHold front
text_holds text units q few enough h lines front back e = problem_holds q (problem_sound text q h) (problem_within text q h) units enough (problem_short text q few h) lines front back e
