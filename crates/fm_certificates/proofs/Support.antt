-- The certificate of an answer on the support.
use Rattle.std.proofs.Common.{ℕ, suc, ◌<◌, ◌^◌, length, Some, refl, ap, ◌∙◌}
use Rattle.fm_limit.specs.Facts.{first_entries}
use Rattle.fm_limit.specs.Verdicts.{support}
use Rattle.fm_graphs.specs.Trims.{Preimage}
use Rattle.fm_problem.specs.declared.problem.Problem.{Problem}
use Rattle.fm_problem.specs.declared.query.Query as queries
use Rattle.fm_problem.specs.Sound.{IsQueryOf, IsProblem, IsSmallQuery, HasSmallExponents}
use Rattle.fm_cert.specs.Fields.{Values}
use Rattle.fm_cert.specs.Kinds.{end_row}
use Rattle.fm_cert.specs.Kinds as kinds
use Rattle.fm_cert.specs.Writable.{AreNotZero}
use Rattle.fm_report.specs.Parts.{meant}
use Rattle.fm_report.specs.Sheets.{Answer}
use Rattle.fm_plan.specs.Results as plan_results
use Rattle.fm_plan.specs.Queries.{BaseOf, found_support, verdict}
use Rattle.fm_plan.specs.Within.{IsFoundWithin}
use Rattle.fm_plan.proofs.Bases.{Based}
use Rattle.fm_plan.proofs.Answers.{Right}
use Rattle.fm_answers.specs.Printed.{printed_vector}
use Rattle.fm_answers.specs.Answers.{ideal_at}
use Rattle.fm_answers.proofs.PrintedMatrices.{vector_means, vector_writable}
use Rattle.fm_standard.specs.Small.{AreSmallLines}
use Rattle.fm_standard.proofs.CertificatesSaid.{Good}
use Rattle.fm_certificates.specs.Certificates.{support_claims, found_lines}
use Rattle.fm_certificates.specs.Reports.{certified_answer}
use Rattle.fm_certificates.proofs.Idle.{support_idle}
use Rattle.fm_certificates.proofs.OneIdeal.{same_about, of_base, base_good}

module _ (q : Problem) (sound : IsProblem q) (small : HasSmallExponents q) (k : ℕ) (few : suc k < 2 ^ 64) (i m : ℕ) (there : m < length q.ideals) where
  pub support_certified : (of : IsQueryOf q (queries.TheVariants.Support i m)) (low : IsSmallQuery (queries.TheVariants.Support i m)) (b : BaseOf q.ring) → Based q.ring i (ideal_at q m) b → (a : Preimage q.ring)
      → Right q.ring (found_support i (ideal_at q m) b a) → IsFoundWithin q.ring (found_support i (ideal_at q m) b a)
      → AreNotZero q.ring (printed_vector q.ring (first_entries q.ring.prime q.ring.vars a.found)) → AreSmallLines (found_lines q (queries.TheVariants.Support i m) (found_support i (ideal_at q m) b a))
      → Good q sound small k few (queries.TheVariants.Support i m) of low (certified_answer q (queries.TheVariants.Support i m) (found_support i (ideal_at q m) b a))
  unfolding verdict
  support_certified of low b B a right w some lines =
      let r = q.ring in
      let z = queries.TheVariants.Support i m in
      let entries = first_entries r.prime r.vars a.found in
      let values : Values (end_row kinds.Support) = (printed_vector r entries, tt) in
      let answer : Answer = record { kind = kinds.Support; values = values } in
      base_good q sound small k few z of low i m there (same_about m i) (found_support i (ideal_at q m) b a) right w tt lines kinds.Support values refl refl
      ((vector_writable r entries w.2, some), tt) b B (support_claims r b a) refl (support_idle q (suc k) z answer b a)
      (of_base q sound small k few z of low i m there b (λ I. support i I (meant r (printed_vector r entries)))
      ∙ ap (λ es. Some (support i (plan_results.resolved r (ideal_at q m) b.ext) es)) (vector_means r entries))
