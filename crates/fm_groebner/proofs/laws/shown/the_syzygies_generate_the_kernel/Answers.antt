use Rattle.fm_groebner.proofs.Syzygies.{syzygies_generate}
use Rattle.fm_groebner.proofs.laws.shown.the_syzygies_generate_the_kernel.Goals as goal

pub returns : goal.returns
returns c = λ p n o A members B. syzygies_generate p n o A members B
