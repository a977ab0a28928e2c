-- The report of an answer on membership.
use Rattle.std.proofs.Common.{ℕ, suc, ◌<◌, ◌^◌, List, [], ◌∷◌, refl, arith}
use Rattle.fm_limit.specs.Verdicts.{member}
use Rattle.fm_poly.specs.Polys.{PolyValue, meaning}
use Rattle.fm_graphs.specs.Graphs.{Graph, Inside}
use Rattle.fm_graphs.specs.Within.{IsGraphWithin}
use Rattle.fm_graphs.specs.Sizes.{IsGraphAtMost}
use Rattle.fm_problem.specs.declared.problem.Problem.{Problem}
use Rattle.fm_problem.specs.declared.query.Query as queries
use Rattle.fm_problem.specs.Sound.{IsQueryOf, IsProblem, IsSmallQuery, HasSmallExponents}
use Rattle.fm_cert.specs.Kinds as kinds
use Rattle.fm_cert.specs.Naming.{Naming, naming_lines, differentials}
use Rattle.fm_report.specs.Parts.{meant}
use Rattle.fm_report.specs.Sheets.{Answer}
use Rattle.fm_report.proofs.NamingsSaid.{names_said, member_puts}
use Rattle.fm_plan.specs.Queries.{found_member, is_yes, verdict}
use Rattle.fm_answers.specs.Printed.{grid_of}
use Rattle.fm_answers.specs.Answers.{ideal_at, found_report}
use Rattle.fm_answers.proofs.Namings.{good}
use Rattle.fm_answers.proofs.Blocks.{Good, nothing, names_are, body_good, of_there}
use Rattle.fm_answers.proofs.OneIdeal.{IsRight, held}

module _ (q : Problem) (sound : IsProblem q) (small : HasSmallExponents q) (k : ℕ) (few : suc k < 2 ^ 64) (most : ℕ) (enough : most < 2 ^ 33) (m : ℕ) (f : PolyValue) where
  pub member_report : (of : IsQueryOf q (queries.TheVariants.Member m f)) (low : IsSmallQuery (queries.TheVariants.Member m f)) (g : Graph q.ring) (y : Inside q.ring)
      → IsRight q.ring (found_member (ideal_at q m) (meaning q.ring f.terms) g y) → IsGraphWithin q.ring g → IsGraphAtMost q.ring most g
      → Good q sound small k few (queries.TheVariants.Member m f) of low (found_report q (queries.TheVariants.Member m f) (found_member (ideal_at q m) (meaning q.ring f.terms) g y))
  unfolding verdict
  member_report of low g y right w s =
      let z = queries.TheVariants.Member m f in
      let found = found_member (ideal_at q m) (meaning q.ring f.terms) g y in
      let a : Answer = record { kind = kinds.Member; values = (is_yes q.ring y, tt) } in
      let xs : List Naming = differentials 1 (grid_of q.ring g.matrix ∷ []) in
      let h = names_are q sound small k few z of low in
      let l = sound.bounded.named in
      let names = names_said q h l (suc k) z a [] xs nothing nothing tt (good q h l most enough g.matrix w.matrix s.matrix, tt) (omega arith)
      (nothing, member_puts q h l (suc k) m f a [] 1 (grid_of q.ring g.matrix) (omega arith), refl) in
      body_good q sound small k few z of low kinds.Member (is_yes q.ring y, tt) refl refl (tt, tt) (naming_lines q.vars xs []) names.grids nothing names.leads (verdict q.ring found)
      (of_there q sound small m of.0 (λ fs. member (meant q.ring fs) (meaning q.ring f.terms) (is_yes q.ring y))) (held q.ring found right)
