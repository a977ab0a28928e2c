use Rattle.fm_text.proofs.Bytes.{decimal_is, decimal_is_number, number_value}
use Rattle.fm_text.proofs.laws.printed_numbers_are_read_back.Goals as goal

pub returns-clause-digits : goal.returns-clause-digits
returns-clause-digits c = decimal_is_number

pub returns-clause-exact : goal.returns-clause-exact
returns-clause-exact c = λ n h. (decimal_is n h).exact

pub returns-clause-value : goal.returns-clause-value
returns-clause-value c = number_value
