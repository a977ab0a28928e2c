use Rattle.fm_text.proofs.UniqueTexts.{poly_text_injective, vector_text_injective}
use Rattle.fm_text.proofs.laws.printed_texts_are_unique.Goals as goal

pub returns-clause-polynomial : goal.returns-clause-polynomial
returns-clause-polynomial c = poly_text_injective

pub returns-clause-vector : goal.returns-clause-vector
returns-clause-vector c = vector_text_injective
