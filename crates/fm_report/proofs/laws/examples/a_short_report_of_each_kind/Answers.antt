use mathlib.Core.Path.{refl}
use Rattle.fm_text.specs.SumOfTerms.{sum_of_terms}
use Rattle.fm_text.specs.Certificates.{certificate_polynomial}
use Rattle.fm_cert.specs.Fields.{exact_number, read_polynomial, read_vector}
use Rattle.fm_cert.specs.Lines.{line_of}
use Rattle.fm_report.specs.Sheets.{new_block, blank, say}
use Rattle.fm_report.specs.Reading.{line_in, statements}
use Rattle.fm_report.proofs.laws.examples.a_short_report_of_each_kind.Goals as goal

pub returns-clause-class : goal.returns-clause-class
unfolding statements line_in line_of say blank new_block exact_number read_polynomial read_vector certificate_polynomial sum_of_terms
returns-clause-class c = refl

pub returns-clause-zero : goal.returns-clause-zero
unfolding statements line_in line_of say blank new_block exact_number read_polynomial read_vector certificate_polynomial sum_of_terms
returns-clause-zero c = refl

pub returns-clause-root : goal.returns-clause-root
unfolding statements line_in line_of say blank new_block exact_number read_polynomial read_vector certificate_polynomial sum_of_terms
returns-clause-root c = refl

pub returns-clause-invert : goal.returns-clause-invert
unfolding statements line_in line_of say blank new_block exact_number read_polynomial read_vector certificate_polynomial sum_of_terms
returns-clause-invert c = refl

pub returns-clause-support : goal.returns-clause-support
unfolding statements line_in line_of say blank new_block exact_number read_polynomial read_vector certificate_polynomial sum_of_terms
returns-clause-support c = refl

pub returns-clause-map : goal.returns-clause-map
unfolding statements line_in line_of say blank new_block exact_number read_polynomial read_vector certificate_polynomial sum_of_terms
returns-clause-map c = refl

pub returns-clause-member : goal.returns-clause-member
unfolding statements line_in line_of say blank new_block exact_number read_polynomial read_vector certificate_polynomial sum_of_terms
returns-clause-member c = refl

pub returns-clause-resolution : goal.returns-clause-resolution
unfolding statements line_in line_of say blank new_block exact_number read_polynomial read_vector certificate_polynomial sum_of_terms
returns-clause-resolution c = refl

pub returns-clause-ext : goal.returns-clause-ext
unfolding statements line_in line_of say blank new_block exact_number read_polynomial read_vector certificate_polynomial sum_of_terms
returns-clause-ext c = refl
