use Rattle.fm_groebner.proofs.Graphs.{image_of_graph, solution_of_rest}
use Rattle.fm_groebner.proofs.laws.graphs.the_rest_decides_the_image.Goals as goal

pub returns-clause-image : goal.returns-clause-image
returns-clause-image c = λ p n o bound A members v by t r basis falling fits f is red. image_of_graph p n o A members falling basis red f v fits is

pub returns-clause-solution : goal.returns-clause-solution
returns-clause-solution c = λ p n o bound A members v by t r basis falling fits f is red. solution_of_rest p n o A members falling basis red f v fits is
