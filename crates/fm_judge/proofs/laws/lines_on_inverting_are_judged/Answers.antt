use mathlib.Core.Path.{refl}
use Rattle.fm_algebra.specs.Matrix.{unit_matrix, scalar_matrix, product, table, listed}
use Rattle.fm_algebra.specs.PolynomialMatrices.{matrix_unit, matrix_scalar, matrix_product}
use Rattle.fm_report.specs.Parts.{part_value}
use Rattle.fm_cert.specs.Fields.{exact_number}
use Rattle.fm_cert.specs.Lines.{line_of}
use Rattle.fm_report.specs.Sheets.{new_block, say}
use Rattle.fm_report.specs.Reading.{line_in}
use Rattle.fm_parts.specs.Values.{is_within_bound, value_of, same_matrix}
use Rattle.fm_parts.specs.Conditions.{holds, judged}
use Rattle.fm_judge.specs.Claims.{claim}
use Rattle.fm_judge.specs.Judging.{judged_line, step}
use Rattle.fm_judge.proofs.SmallTexts.{power_judged}
use Rattle.fm_judge.proofs.laws.lines_on_inverting_are_judged.Goals as goal

pub returns-clause-no_part : goal.returns-clause-no_part
unfolding step judged_line claim line_in line_of say new_block exact_number judged holds value_of is_within_bound same_matrix part_value matrix_unit matrix_scalar matrix_product unit_matrix scalar_matrix product table listed
returns-clause-no_part c = refl

pub returns-clause-few_columns : goal.returns-clause-few_columns
unfolding step judged_line claim line_in line_of say new_block exact_number judged holds value_of is_within_bound same_matrix part_value matrix_unit matrix_scalar matrix_product unit_matrix scalar_matrix product table listed
returns-clause-few_columns c = refl

pub returns-clause-first_power : goal.returns-clause-first_power
returns-clause-first_power c = power_judged

pub returns-clause-no_power : goal.returns-clause-no_power
unfolding step judged_line claim line_in line_of say new_block exact_number judged holds value_of is_within_bound same_matrix part_value matrix_unit matrix_scalar matrix_product unit_matrix scalar_matrix product table listed
returns-clause-no_power c = refl

pub returns-clause-no_column : goal.returns-clause-no_column
unfolding step judged_line claim line_in line_of say new_block exact_number judged holds value_of is_within_bound same_matrix part_value matrix_unit matrix_scalar matrix_product unit_matrix scalar_matrix product table listed
returns-clause-no_column c = refl

pub returns-clause-no_log : goal.returns-clause-no_log
unfolding step judged_line claim line_in line_of say new_block exact_number judged holds value_of is_within_bound same_matrix part_value matrix_unit matrix_scalar matrix_product unit_matrix scalar_matrix product table listed
returns-clause-no_log c = refl

pub returns-clause-no_member : goal.returns-clause-no_member
unfolding step judged_line claim line_in line_of say new_block exact_number judged holds value_of is_within_bound same_matrix part_value matrix_unit matrix_scalar matrix_product unit_matrix scalar_matrix product table listed
returns-clause-no_member c = refl

pub returns-clause-no_colon_yet : goal.returns-clause-no_colon_yet
unfolding step judged_line claim line_in line_of say new_block exact_number judged holds value_of is_within_bound same_matrix part_value matrix_unit matrix_scalar matrix_product unit_matrix scalar_matrix product table listed
returns-clause-no_colon_yet c = refl

pub returns-clause-second_first : goal.returns-clause-second_first
unfolding step judged_line claim line_in line_of say new_block exact_number judged holds value_of is_within_bound same_matrix part_value matrix_unit matrix_scalar matrix_product unit_matrix scalar_matrix product table listed
returns-clause-second_first c = refl

pub returns-clause-long_colon : goal.returns-clause-long_colon
unfolding step judged_line claim line_in line_of say new_block exact_number judged holds value_of is_within_bound same_matrix part_value matrix_unit matrix_scalar matrix_product unit_matrix scalar_matrix product table listed
returns-clause-long_colon c = refl

pub returns-clause-other_number : goal.returns-clause-other_number
unfolding step judged_line claim line_in line_of say new_block exact_number judged holds value_of is_within_bound same_matrix part_value matrix_unit matrix_scalar matrix_product unit_matrix scalar_matrix product table listed
returns-clause-other_number c = refl

pub returns-clause-settled : goal.returns-clause-settled
unfolding step judged_line claim line_in line_of say new_block exact_number judged holds value_of is_within_bound same_matrix part_value matrix_unit matrix_scalar matrix_product unit_matrix scalar_matrix product table listed
returns-clause-settled c = refl

pub returns-clause-no_unit_vector : goal.returns-clause-no_unit_vector
unfolding step judged_line claim line_in line_of say new_block exact_number judged holds value_of is_within_bound same_matrix part_value matrix_unit matrix_scalar matrix_product unit_matrix scalar_matrix product table listed
returns-clause-no_unit_vector c = refl
