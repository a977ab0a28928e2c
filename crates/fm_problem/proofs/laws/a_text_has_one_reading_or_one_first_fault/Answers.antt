use Rattle.fm_problem.specs.Problems.{problem_of}
use Rattle.fm_problem.proofs.OneReading.{read_or_fault, not_both, same_reading, same_fault}
use Rattle.fm_problem.proofs.laws.a_text_has_one_reading_or_one_first_fault.Goals as goal

pub returns-clause-some : goal.returns-clause-some
returns-clause-some c = λ text. read_or_fault (problem_of text)

pub returns-clause-not_both : goal.returns-clause-not_both
returns-clause-not_both c = λ text. not_both (problem_of text)

pub returns-clause-one_reading : goal.returns-clause-one_reading
returns-clause-one_reading c = λ text. same_reading (problem_of text)

pub returns-clause-one_fault : goal.returns-clause-one_fault
returns-clause-one_fault c = λ text. same_fault (problem_of text)
