use mathlib.Core.Path.{refl}
use Rattle.fm_text.specs.SumOfTerms.{sum_of_terms}
use Rattle.fm_text.specs.Certificates.{certificate_polynomial}
use Rattle.fm_cert.specs.Fields.{exact_number, read_polynomial, read_vector}
use Rattle.fm_cert.specs.Lines.{line_of}
use Rattle.fm_report.specs.Sheets.{new_block, blank, say}
use Rattle.fm_report.specs.Reading.{line_in}
use Rattle.fm_judge.specs.Goals.{goal_of}
use Rattle.fm_judge.specs.Claims.{claim}
use Rattle.fm_judge.specs.Judging.{start, judged_line, step, judgement}
use Rattle.fm_judge.proofs.laws.short_texts_are_judged.Goals as goal

pub returns-clause-passed : goal.returns-clause-passed
unfolding judgement start step judged_line goal_of line_in line_of say blank new_block exact_number read_polynomial read_vector certificate_polynomial sum_of_terms claim
returns-clause-passed c = refl

pub returns-clause-refused : goal.returns-clause-refused
unfolding judgement start step judged_line goal_of line_in line_of say blank new_block exact_number read_polynomial read_vector certificate_polynomial sum_of_terms claim
returns-clause-refused c = refl

pub returns-clause-other_part : goal.returns-clause-other_part
unfolding judgement start step judged_line goal_of line_in line_of say blank new_block exact_number read_polynomial read_vector certificate_polynomial sum_of_terms claim
returns-clause-other_part c = refl

pub returns-clause-other_number : goal.returns-clause-other_number
unfolding judgement start step judged_line goal_of line_in line_of say blank new_block exact_number read_polynomial read_vector certificate_polynomial sum_of_terms claim
returns-clause-other_number c = refl

pub returns-clause-other_line : goal.returns-clause-other_line
unfolding judgement start step judged_line goal_of line_in line_of say blank new_block exact_number read_polynomial read_vector certificate_polynomial sum_of_terms claim
returns-clause-other_line c = refl

pub returns-clause-no_part : goal.returns-clause-no_part
unfolding judgement start step judged_line goal_of line_in line_of say blank new_block exact_number read_polynomial read_vector certificate_polynomial sum_of_terms claim
returns-clause-no_part c = refl

pub returns-clause-few_ranks : goal.returns-clause-few_ranks
unfolding judgement start step judged_line goal_of line_in line_of say blank new_block exact_number read_polynomial read_vector certificate_polynomial sum_of_terms claim
returns-clause-few_ranks c = refl

pub returns-clause-other_answer : goal.returns-clause-other_answer
unfolding judgement start step judged_line goal_of line_in line_of say blank new_block exact_number read_polynomial read_vector certificate_polynomial sum_of_terms claim
returns-clause-other_answer c = refl

pub returns-clause-refusal : goal.returns-clause-refusal
unfolding judgement start step judged_line goal_of line_in line_of say blank new_block exact_number read_polynomial read_vector certificate_polynomial sum_of_terms claim
returns-clause-refusal c = refl

pub returns-clause-exponent : goal.returns-clause-exponent
unfolding judgement start step judged_line goal_of line_in line_of say blank new_block exact_number read_polynomial read_vector certificate_polynomial sum_of_terms claim
returns-clause-exponent c = refl

pub returns-clause-number_and_exponent : goal.returns-clause-number_and_exponent
unfolding judgement start step judged_line goal_of line_in line_of say blank new_block exact_number read_polynomial read_vector certificate_polynomial sum_of_terms claim
returns-clause-number_and_exponent c = refl

pub returns-clause-name_and_exponent : goal.returns-clause-name_and_exponent
unfolding judgement start step judged_line goal_of line_in line_of say blank new_block exact_number read_polynomial read_vector certificate_polynomial sum_of_terms claim
returns-clause-name_and_exponent c = refl

pub returns-clause-long_column : goal.returns-clause-long_column
unfolding judgement start step judged_line goal_of line_in line_of say blank new_block exact_number read_polynomial read_vector certificate_polynomial sum_of_terms claim
returns-clause-long_column c = refl

pub returns-clause-few_columns : goal.returns-clause-few_columns
unfolding judgement start step judged_line goal_of line_in line_of say blank new_block exact_number read_polynomial read_vector certificate_polynomial sum_of_terms claim
returns-clause-few_columns c = refl

pub returns-clause-own_operand : goal.returns-clause-own_operand
unfolding judgement start step judged_line goal_of line_in line_of say blank new_block exact_number read_polynomial read_vector certificate_polynomial sum_of_terms claim
returns-clause-own_operand c = refl

pub returns-clause-other_ideal : goal.returns-clause-other_ideal
unfolding judgement start step judged_line goal_of line_in line_of say blank new_block exact_number read_polynomial read_vector certificate_polynomial sum_of_terms claim
returns-clause-other_ideal c = refl

pub returns-clause-other_degree : goal.returns-clause-other_degree
unfolding judgement start step judged_line goal_of line_in line_of say blank new_block exact_number read_polynomial read_vector certificate_polynomial sum_of_terms claim
returns-clause-other_degree c = refl

pub returns-clause-nothing_follows : goal.returns-clause-nothing_follows
unfolding judgement start step judged_line goal_of line_in line_of say blank new_block exact_number read_polynomial read_vector certificate_polynomial sum_of_terms claim
returns-clause-nothing_follows c = refl

pub returns-clause-other_query : goal.returns-clause-other_query
unfolding judgement start step judged_line goal_of line_in line_of say blank new_block exact_number read_polynomial read_vector certificate_polynomial sum_of_terms claim
returns-clause-other_query c = refl

pub returns-clause-old_prime : goal.returns-clause-old_prime
unfolding judgement start step judged_line goal_of line_in line_of say blank new_block exact_number read_polynomial read_vector certificate_polynomial sum_of_terms claim
returns-clause-old_prime c = refl

pub returns-clause-empty : goal.returns-clause-empty
unfolding judgement start step judged_line goal_of line_in line_of say blank new_block exact_number read_polynomial read_vector certificate_polynomial sum_of_terms claim
returns-clause-empty c = refl

pub returns-clause-cut : goal.returns-clause-cut
unfolding judgement start step judged_line goal_of line_in line_of say blank new_block exact_number read_polynomial read_vector certificate_polynomial sum_of_terms claim
returns-clause-cut c = refl

pub returns-clause-inverted : goal.returns-clause-inverted
unfolding judgement start step judged_line goal_of line_in line_of say blank new_block exact_number read_polynomial read_vector certificate_polynomial sum_of_terms claim
returns-clause-inverted c = refl

pub returns-clause-not_inverted : goal.returns-clause-not_inverted
unfolding judgement start step judged_line goal_of line_in line_of say blank new_block exact_number read_polynomial read_vector certificate_polynomial sum_of_terms claim
returns-clause-not_inverted c = refl

pub returns-clause-supported : goal.returns-clause-supported
unfolding judgement start step judged_line goal_of line_in line_of say blank new_block exact_number read_polynomial read_vector certificate_polynomial sum_of_terms claim
returns-clause-supported c = refl

pub returns-clause-mapped : goal.returns-clause-mapped
unfolding judgement start step judged_line goal_of line_in line_of say blank new_block exact_number read_polynomial read_vector certificate_polynomial sum_of_terms claim
returns-clause-mapped c = refl

pub returns-clause-half_an_answer : goal.returns-clause-half_an_answer
unfolding judgement start step judged_line goal_of line_in line_of say blank new_block exact_number read_polynomial read_vector certificate_polynomial sum_of_terms claim
returns-clause-half_an_answer c = refl

pub returns-clause-no_certificate : goal.returns-clause-no_certificate
unfolding judgement start step judged_line goal_of line_in line_of say blank new_block exact_number read_polynomial read_vector certificate_polynomial sum_of_terms claim
returns-clause-no_certificate c = refl
