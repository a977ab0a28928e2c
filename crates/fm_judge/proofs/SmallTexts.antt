-- The conditions of the small text, and of a line in its place.
use Rattle.std.proofs.Common.{◌≡◌, Bool, true, [], ◌∷◌, Some, codes, Result, Ok, refl, sym, ap, ◌∙◌}
use Rattle.fm_algebra.specs.Matrix.{table, listed, entry, transpose, unit_matrix, scalar_matrix, product}
use Rattle.fm_algebra.specs.PolynomialMatrices.{matrix_transpose, matrix_unit, matrix_scalar, matrix_product}
use Rattle.fm_words.specs.Steps.{◌>>=◌}
use Rattle.fm_poly.specs.Polys.{PolyValue}
use Rattle.fm_poly.specs.declared.ring.Ring.{Ring}
use Rattle.fm_text.specs.SumOfTerms.{sum_of_terms}
use Rattle.fm_text.specs.Certificates.{certificate_polynomial}
use Rattle.fm_problem.specs.declared.query.Query as queries
use Rattle.fm_cert.specs.Fields.{exact_number, read_polynomial, read_vector}
use Rattle.fm_cert.specs.Kinds as kinds
use Rattle.fm_cert.specs.Lines.{line_of}
use Rattle.fm_report.specs.Parts.{Part, given, times, part_value}
use Rattle.fm_report.specs.Sheets.{Sheet, new_block, blank, say}
use Rattle.fm_report.specs.Reading.{line_in}
use Rattle.fm_parts.specs.Values.{is_within_bound, value_of, same_matrix}
use Rattle.fm_parts.specs.Replays.{Reason, Value, needs}
use Rattle.fm_parts.specs.Conditions.{equal, agrees, holds, judged}
use Rattle.fm_parts.proofs.SameValues.{matrix_itself}
use Rattle.fm_judge.specs.Goals.{goal_of}
use Rattle.fm_judge.specs.Claims.{row_part, power_part, factored_part, claim}
use Rattle.fm_judge.specs.Places.{power}
use Rattle.fm_judge.specs.Judging.{State, at_done, Counts, BadLine, at_line, judged_lines, start, judged_line, step, judgement}
use Rattle.fm_judge.specs.Examples.{no_rows, on_inverting, small_text, small_ring, small_generator, small_problem, small_row}

-- a row of one generator is the row of this generator
row_is : (r : Ring) (f : PolyValue) → part_value r (given 1 ((f ∷ []) ∷ [])) ≡ part_value r (row_part (f ∷ []))
unfolding part_value matrix_transpose transpose table listed entry
row_is r f = refl

pub row_judged : (r : Ring) (f : PolyValue) → judged r (equal (given 1 ((f ∷ []) ∷ [])) (row_part (f ∷ [])) ∷ agrees 1 1 ∷ agrees 1 1 ∷ []) ≡ Ok tt
unfolding judged holds value_of is_within_bound
row_judged r f = ap (λ b. needs b Value >>= λ _. Ok tt) (ap (same_matrix r (part_value r (given 1 ((f ∷ []) ∷ [])))) (sym (row_is r f)) ∙ matrix_itself r (part_value r (given 1 ((f ∷ []) ∷ []))))

-- what has been said after the line `d 1 1`
abbrev said : Sheet
said = record {
  head = Some small_problem;
  count = 1;
  asked = Some (queries.TheVariants.Resolution 0 0);
  answer = Some (record { kind = kinds.Ranks; values = (1 ∷ 1 ∷ [], tt) });
  parts = small_row ∷ [];
  finished = [];
  block = Some (record { ideal = 0; degree = 0; differentials = small_row ∷ []; lift = []; cocycles = []; kernels = []; morphism = [] });
  identity = [];
}

abbrev after_row : State
after_row = record { sheet = said; stage = at_done; version = 2; logs = []; verdicts = 1; passed = 0 }

-- what is left of the judgement, by that of the conditions of this line
abbrev rest : Result (Unit {0}) Reason → Result Counts BadLine
rest x = (at_line 9 (x >>= λ _. Ok after_row) >>= λ s. judged_lines 10 s (codes "done 1" ∷ codes "end report" ∷ [])) >>= λ s. Ok (record { verdicts = s.verdicts; passed = s.passed })

comes_to : judgement small_text ≡ rest (judged small_ring (equal small_row (row_part (small_generator ∷ [])) ∷ agrees 1 1 ∷ agrees 1 1 ∷ []))
unfolding judgement start step judged_line goal_of line_in line_of say blank new_block exact_number read_polynomial read_vector certificate_polynomial sum_of_terms claim
comes_to = refl

ends_well : rest (Ok tt) ≡ Ok (record { verdicts = 1; passed = 0 })
unfolding step judged_line line_in line_of say exact_number
ends_well = refl

pub small_judged : judgement small_text ≡ Ok (record { verdicts = 1; passed = 0 })
small_judged = comes_to ∙ ap rest (row_judged small_ring small_generator) ∙ ends_well

-- ---- the power 0 of x annihilates the module without generators
abbrev one_part : Part
one_part = factored_part small_ring small_generator 0

-- what is left of the judgement of `power 3`, by the test whether f^0 is what it is
abbrev after_factors : Bool → Result State Reason
after_factors b =
    (needs b Value >>= λ _. holds small_ring (equal (power_part small_ring small_generator 0 0) (times no_rows no_rows)) >>= λ _. Ok (tt {0})) >>= λ _.
    Ok (record (on_inverting (Some 0) no_rows (power small_generator 0 0)) { stage = at_done })

power_comes_to : step (on_inverting (Some 0) no_rows (power small_generator 0 0)) (codes "power 3") ≡ after_factors (same_matrix small_ring (part_value small_ring one_part) (part_value small_ring one_part))
unfolding step judged_line claim line_in line_of say exact_number judged holds value_of is_within_bound matrix_unit matrix_scalar unit_matrix scalar_matrix table listed
power_comes_to = refl

power_ends : after_factors true ≡ Ok (record (on_inverting (Some 0) no_rows (power small_generator 0 0)) { stage = at_done })
unfolding holds value_of is_within_bound same_matrix part_value matrix_scalar matrix_product scalar_matrix product table listed
power_ends = refl

pub power_judged : step (on_inverting (Some 0) no_rows (power small_generator 0 0)) (codes "power 3") ≡ Ok (record (on_inverting (Some 0) no_rows (power small_generator 0 0)) { stage = at_done })
power_judged = power_comes_to ∙ ap after_factors (matrix_itself small_ring (part_value small_ring one_part)) ∙ power_ends
