use mathlib.Core.Path.{refl}
use Rattle.fm_text.specs.SumOfTerms.{sum_of_terms}
use Rattle.fm_text.specs.Certificates.{certificate_polynomial}
use Rattle.fm_cert.specs.Fields.{exact_number, read_polynomial, read_vector}
use Rattle.fm_cert.specs.Lines.{line_of}
use Rattle.fm_report.specs.Sheets.{new_block, blank, say}
use Rattle.fm_report.specs.Reading.{line_in, statements}
use Rattle.fm_report.proofs.laws.examples.broken_lines_state_what_never_holds.Goals as goal

pub returns-clause-pair : goal.returns-clause-pair
unfolding statements line_in line_of say blank new_block exact_number read_polynomial read_vector certificate_polynomial sum_of_terms
returns-clause-pair c = refl

pub returns-clause-entry : goal.returns-clause-entry
unfolding statements line_in line_of say blank new_block exact_number read_polynomial read_vector certificate_polynomial sum_of_terms
returns-clause-entry c = refl

pub returns-clause-number : goal.returns-clause-number
unfolding statements line_in line_of say blank new_block exact_number read_polynomial read_vector certificate_polynomial sum_of_terms
returns-clause-number c = refl

pub returns-clause-ideal : goal.returns-clause-ideal
unfolding statements line_in line_of say blank new_block exact_number read_polynomial read_vector certificate_polynomial sum_of_terms
returns-clause-ideal c = refl

pub returns-clause-ring : goal.returns-clause-ring
unfolding statements line_in line_of say blank new_block exact_number read_polynomial read_vector certificate_polynomial sum_of_terms
returns-clause-ring c = refl

pub returns-clause-question : goal.returns-clause-question
unfolding statements line_in line_of say blank new_block exact_number read_polynomial read_vector certificate_polynomial sum_of_terms
returns-clause-question c = refl

pub returns-clause-done : goal.returns-clause-done
unfolding statements line_in line_of say blank new_block exact_number read_polynomial read_vector certificate_polynomial sum_of_terms
returns-clause-done c = refl

pub returns-clause-matrix : goal.returns-clause-matrix
unfolding statements line_in line_of say blank new_block exact_number read_polynomial read_vector certificate_polynomial sum_of_terms
returns-clause-matrix c = refl

pub returns-clause-part : goal.returns-clause-part
unfolding statements line_in line_of say blank new_block exact_number read_polynomial read_vector certificate_polynomial sum_of_terms
returns-clause-part c = refl

pub returns-clause-silent : goal.returns-clause-silent
unfolding statements line_in line_of say blank new_block exact_number read_polynomial read_vector certificate_polynomial sum_of_terms
returns-clause-silent c = refl
