use Rattle.fm_cert.proofs.LinesRead.{line_read}
use Rattle.fm_cert.proofs.OneLine.{one_line}
use Rattle.fm_cert.proofs.laws.printed_lines_are_read_back.Goals as goal

pub returns-clause-read : goal.returns-clause-read
returns-clause-read c = λ r names asked l h e w. line_read r names h e asked l w

pub returns-clause-one_line : goal.returns-clause-one_line
returns-clause-one_line c = λ r names asked l h e w. one_line r names h e asked l w
