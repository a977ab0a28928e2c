-- The certificate of an answer on membership.
use Rattle.std.proofs.Common.{ℕ, suc, ◌<◌, ◌^◌, [], refl}
use Rattle.fm_limit.specs.Verdicts.{member}
use Rattle.fm_poly.specs.Polys.{PolyValue, meaning}
use Rattle.fm_graphs.specs.Graphs.{Graph, Inside}
use Rattle.fm_problem.specs.declared.problem.Problem.{Problem}
use Rattle.fm_problem.specs.declared.query.Query as queries
use Rattle.fm_problem.specs.Sound.{IsQueryOf, IsProblem, IsSmallQuery, HasSmallExponents}
use Rattle.fm_cert.specs.Fields.{Values}
use Rattle.fm_cert.specs.Kinds.{end_row}
use Rattle.fm_cert.specs.Kinds as kinds
use Rattle.fm_cert.specs.Lines.{Row}
use Rattle.fm_report.specs.Parts.{meant}
use Rattle.fm_report.specs.Sheets.{Answer}
use Rattle.fm_plan.specs.Queries.{found_member, is_yes, verdict}
use Rattle.fm_plan.specs.Within.{IsFoundWithin}
use Rattle.fm_plan.proofs.Answers.{Right}
use Rattle.fm_answers.specs.Answers.{ideal_at}
use Rattle.fm_answers.proofs.Blocks.{of_there}
use Rattle.fm_standard.specs.Small.{AreSmallLines}
use Rattle.fm_standard.specs.Writing.{at}
use Rattle.fm_standard.specs.Said.{nothing}
use Rattle.fm_standard.proofs.LinesPut.{member_puts}
use Rattle.fm_standard.proofs.CertificatesSaid.{Good}
use Rattle.fm_certificates.specs.Certificates.{matrix_part, inside_claims, found_lines}
use Rattle.fm_certificates.specs.Reports.{certified_answer}
use Rattle.fm_certificates.proofs.Idle.{idle_claim, idle_put, inside_idle}
use Rattle.fm_certificates.proofs.OneIdeal.{found_good}

module _ (q : Problem) (sound : IsProblem q) (small : HasSmallExponents q) (k : ℕ) (few : suc k < 2 ^ 64) (m : ℕ) (f : PolyValue) where
  pub member_certified : (of : IsQueryOf q (queries.TheVariants.Member m f)) (low : IsSmallQuery (queries.TheVariants.Member m f)) (g : Graph q.ring) (y : Inside q.ring)
      → Right q.ring (found_member (ideal_at q m) (meaning q.ring f.terms) g y) → IsFoundWithin q.ring (found_member (ideal_at q m) (meaning q.ring f.terms) g y)
      → AreSmallLines (found_lines q (queries.TheVariants.Member m f) (found_member (ideal_at q m) (meaning q.ring f.terms) g y))
      → Good q sound small k few (queries.TheVariants.Member m f) of low (certified_answer q (queries.TheVariants.Member m f) (found_member (ideal_at q m) (meaning q.ring f.terms) g y))
  unfolding verdict
  member_certified of low g y right w lines =
      let r = q.ring in
      let z = queries.TheVariants.Member m f in
      let values : Values (end_row kinds.Member) = (is_yes r y, tt) in
      let answer : Answer = record { kind = kinds.Member; values = values } in
      let claims = inside_claims r g y (λ p. Row kinds.Cofactors (p, tt)) (λ n c by. Row kinds.Foreign (n, (by, tt))) in
      found_good q sound small k few z of low (found_member (ideal_at q m) (meaning r f.terms) g y) right w tt lines kinds.Member values refl refl (tt, tt) nothing (
        nothing,
        member_puts q (suc k) m f answer [] [] 1 (matrix_part r g.matrix),
        idle_put q (suc k) z answer claims
            (inside_idle q (suc k) z answer g y _ _ (λ A. idle_claim q (suc k) z answer _ kinds.Cofactors (λ ns. (at ns 0, tt)) refl)
            (λ A entries c by. idle_claim q (suc k) z answer _ kinds.Foreign (λ ns. (at ns 0, (by, tt))) refl)) nothing,
      )
      (of_there q sound small m of.0 (λ fs. member (meant r fs) (meaning r f.terms) (is_yes r y)))
