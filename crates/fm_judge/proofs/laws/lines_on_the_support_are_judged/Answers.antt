use mathlib.Core.Path.{refl}
use Rattle.fm_algebra.specs.Matrix.{table, listed}
use Rattle.fm_limit.specs.Facts.{unit_column, diagonal_blocks}
use Rattle.fm_report.specs.Parts.{part_value}
use Rattle.fm_cert.specs.Fields.{exact_number}
use Rattle.fm_cert.specs.Lines.{line_of}
use Rattle.fm_report.specs.Sheets.{new_block, say}
use Rattle.fm_report.specs.Reading.{line_in}
use Rattle.fm_parts.specs.Values.{is_within_bound, value_of, same_matrix}
use Rattle.fm_parts.specs.Conditions.{holds, judged}
use Rattle.fm_judge.specs.Claims.{claim}
use Rattle.fm_judge.specs.Judging.{judged_line, step}
use Rattle.fm_judge.proofs.laws.lines_on_the_support_are_judged.Goals as goal

pub returns-clause-no_part : goal.returns-clause-no_part
unfolding step judged_line claim line_in line_of say new_block exact_number judged holds value_of is_within_bound same_matrix part_value unit_column diagonal_blocks table listed
returns-clause-no_part c = refl

pub returns-clause-no_log : goal.returns-clause-no_log
unfolding step judged_line claim line_in line_of say new_block exact_number judged holds value_of is_within_bound same_matrix part_value unit_column diagonal_blocks table listed
returns-clause-no_log c = refl

pub returns-clause-long_column : goal.returns-clause-long_column
unfolding step judged_line claim line_in line_of say new_block exact_number judged holds value_of is_within_bound same_matrix part_value unit_column diagonal_blocks table listed
returns-clause-long_column c = refl

pub returns-clause-other_line : goal.returns-clause-other_line
unfolding step judged_line claim line_in line_of say new_block exact_number judged holds value_of is_within_bound same_matrix part_value unit_column diagonal_blocks table listed
returns-clause-other_line c = refl

pub returns-clause-done_too_early : goal.returns-clause-done_too_early
unfolding step judged_line claim line_in line_of say new_block exact_number judged holds value_of is_within_bound same_matrix part_value unit_column diagonal_blocks table listed
returns-clause-done_too_early c = refl
