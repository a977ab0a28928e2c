use mathlib.Core.Path.{refl}
use Rattle.fm_algebra.specs.Matrix.{unit_matrix, scalar_matrix, product, joined, table, listed}
use Rattle.fm_algebra.specs.PolynomialMatrices.{matrix_unit, matrix_product, matrix_beside}
use Rattle.fm_report.specs.Parts.{part_value}
use Rattle.fm_cert.specs.Fields.{exact_number}
use Rattle.fm_cert.specs.Lines.{line_of}
use Rattle.fm_report.specs.Sheets.{new_block, say}
use Rattle.fm_report.specs.Reading.{line_in}
use Rattle.fm_parts.specs.Values.{is_within_bound, value_of, same_matrix}
use Rattle.fm_parts.specs.Conditions.{holds, judged}
use Rattle.fm_judge.specs.Claims.{claim}
use Rattle.fm_judge.specs.Judging.{judged_line, step}
use Rattle.fm_judge.proofs.laws.lines_on_a_map_are_judged.Goals as goal

pub returns-clause-other_side : goal.returns-clause-other_side
unfolding step judged_line claim line_in line_of say new_block exact_number judged holds value_of is_within_bound same_matrix part_value matrix_unit matrix_product matrix_beside unit_matrix scalar_matrix product joined table listed
returns-clause-other_side c = refl

pub returns-clause-other_ideal : goal.returns-clause-other_ideal
unfolding step judged_line claim line_in line_of say new_block exact_number judged holds value_of is_within_bound same_matrix part_value matrix_unit matrix_product matrix_beside unit_matrix scalar_matrix product joined table listed
returns-clause-other_ideal c = refl

pub returns-clause-other_degree : goal.returns-clause-other_degree
unfolding step judged_line claim line_in line_of say new_block exact_number judged holds value_of is_within_bound same_matrix part_value matrix_unit matrix_product matrix_beside unit_matrix scalar_matrix product joined table listed
returns-clause-other_degree c = refl

pub returns-clause-no_second_block : goal.returns-clause-no_second_block
unfolding step judged_line claim line_in line_of say new_block exact_number judged holds value_of is_within_bound same_matrix part_value matrix_unit matrix_product matrix_beside unit_matrix scalar_matrix product joined table listed
returns-clause-no_second_block c = refl

pub returns-clause-second_first : goal.returns-clause-second_first
unfolding step judged_line claim line_in line_of say new_block exact_number judged holds value_of is_within_bound same_matrix part_value matrix_unit matrix_product matrix_beside unit_matrix scalar_matrix product joined table listed
returns-clause-second_first c = refl

pub returns-clause-no_lambda : goal.returns-clause-no_lambda
unfolding step judged_line claim line_in line_of say new_block exact_number judged holds value_of is_within_bound same_matrix part_value matrix_unit matrix_product matrix_beside unit_matrix scalar_matrix product joined table listed
returns-clause-no_lambda c = refl

pub returns-clause-long_lambda : goal.returns-clause-long_lambda
unfolding step judged_line claim line_in line_of say new_block exact_number judged holds value_of is_within_bound same_matrix part_value matrix_unit matrix_product matrix_beside unit_matrix scalar_matrix product joined table listed
returns-clause-long_lambda c = refl

pub returns-clause-no_phi : goal.returns-clause-no_phi
unfolding step judged_line claim line_in line_of say new_block exact_number judged holds value_of is_within_bound same_matrix part_value matrix_unit matrix_product matrix_beside unit_matrix scalar_matrix product joined table listed
returns-clause-no_phi c = refl

pub returns-clause-long_phi : goal.returns-clause-long_phi
unfolding step judged_line claim line_in line_of say new_block exact_number judged holds value_of is_within_bound same_matrix part_value matrix_unit matrix_product matrix_beside unit_matrix scalar_matrix product joined table listed
returns-clause-long_phi c = refl

pub returns-clause-no_multiple : goal.returns-clause-no_multiple
unfolding step judged_line claim line_in line_of say new_block exact_number judged holds value_of is_within_bound same_matrix part_value matrix_unit matrix_product matrix_beside unit_matrix scalar_matrix product joined table listed
returns-clause-no_multiple c = refl

pub returns-clause-other_answer : goal.returns-clause-other_answer
unfolding step judged_line claim line_in line_of say new_block exact_number judged holds value_of is_within_bound same_matrix part_value matrix_unit matrix_product matrix_beside unit_matrix scalar_matrix product joined table listed
returns-clause-other_answer c = refl

pub returns-clause-no_column : goal.returns-clause-no_column
unfolding step judged_line claim line_in line_of say new_block exact_number judged holds value_of is_within_bound same_matrix part_value matrix_unit matrix_product matrix_beside unit_matrix scalar_matrix product joined table listed
returns-clause-no_column c = refl

pub returns-clause-long_fibre : goal.returns-clause-long_fibre
unfolding step judged_line claim line_in line_of say new_block exact_number judged holds value_of is_within_bound same_matrix part_value matrix_unit matrix_product matrix_beside unit_matrix scalar_matrix product joined table listed
returns-clause-long_fibre c = refl

pub returns-clause-no_member : goal.returns-clause-no_member
unfolding step judged_line claim line_in line_of say new_block exact_number judged holds value_of is_within_bound same_matrix part_value matrix_unit matrix_product matrix_beside unit_matrix scalar_matrix product joined table listed
returns-clause-no_member c = refl

pub returns-clause-long_link : goal.returns-clause-long_link
unfolding step judged_line claim line_in line_of say new_block exact_number judged holds value_of is_within_bound same_matrix part_value matrix_unit matrix_product matrix_beside unit_matrix scalar_matrix product joined table listed
returns-clause-long_link c = refl

pub returns-clause-too_early : goal.returns-clause-too_early
unfolding step judged_line claim line_in line_of say new_block exact_number judged holds value_of is_within_bound same_matrix part_value matrix_unit matrix_product matrix_beside unit_matrix scalar_matrix product joined table listed
returns-clause-too_early c = refl

pub returns-clause-open_end : goal.returns-clause-open_end
unfolding step judged_line claim line_in line_of say new_block exact_number judged holds value_of is_within_bound same_matrix part_value matrix_unit matrix_product matrix_beside unit_matrix scalar_matrix product joined table listed
returns-clause-open_end c = refl

pub returns-clause-no_link_yet : goal.returns-clause-no_link_yet
unfolding step judged_line claim line_in line_of say new_block exact_number judged holds value_of is_within_bound same_matrix part_value matrix_unit matrix_product matrix_beside unit_matrix scalar_matrix product joined table listed
returns-clause-no_link_yet c = refl

pub returns-clause-closed : goal.returns-clause-closed
unfolding step judged_line claim line_in line_of say new_block exact_number judged holds value_of is_within_bound same_matrix part_value matrix_unit matrix_product matrix_beside unit_matrix scalar_matrix product joined table listed
returns-clause-closed c = refl

pub returns-clause-no_unit_vector : goal.returns-clause-no_unit_vector
unfolding step judged_line claim line_in line_of say new_block exact_number judged holds value_of is_within_bound same_matrix part_value matrix_unit matrix_product matrix_beside unit_matrix scalar_matrix product joined table listed
returns-clause-no_unit_vector c = refl

pub returns-clause-other_number : goal.returns-clause-other_number
unfolding step judged_line claim line_in line_of say new_block exact_number judged holds value_of is_within_bound same_matrix part_value matrix_unit matrix_product matrix_beside unit_matrix scalar_matrix product joined table listed
returns-clause-other_number c = refl

pub returns-clause-everything : goal.returns-clause-everything
unfolding step judged_line claim line_in line_of say new_block exact_number judged holds value_of is_within_bound same_matrix part_value matrix_unit matrix_product matrix_beside unit_matrix scalar_matrix product joined table listed
returns-clause-everything c = refl

pub returns-clause-other_stage : goal.returns-clause-other_stage
unfolding step judged_line claim line_in line_of say new_block exact_number judged holds value_of is_within_bound same_matrix part_value matrix_unit matrix_product matrix_beside unit_matrix scalar_matrix product joined table listed
returns-clause-other_stage c = refl
