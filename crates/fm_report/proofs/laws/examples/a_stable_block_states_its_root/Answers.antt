use mathlib.Core.Path.{refl}
use Rattle.fm_text.specs.SumOfTerms.{sum_of_terms}
use Rattle.fm_text.specs.Certificates.{certificate_polynomial}
use Rattle.fm_cert.specs.Fields.{exact_number, read_polynomial, read_vector}
use Rattle.fm_cert.specs.Lines.{line_of}
use Rattle.fm_report.specs.Sheets.{new_block, blank, say}
use Rattle.fm_report.specs.Reading.{line_in, statements}
use Rattle.fm_report.proofs.laws.examples.a_stable_block_states_its_root.Goals as goal

pub returns : goal.returns
unfolding statements line_in line_of say blank new_block exact_number read_polynomial read_vector certificate_polynomial sum_of_terms
returns c = refl
