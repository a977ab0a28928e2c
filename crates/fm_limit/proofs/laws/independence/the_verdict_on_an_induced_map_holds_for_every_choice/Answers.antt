use Rattle.fm_limit.proofs.IndependenceWords.{map_verdict_words}
use Rattle.fm_limit.proofs.laws.independence.the_verdict_on_an_induced_map_holds_for_every_choice.Goals as goal

pub returns : goal.returns
returns c = λ p n i I J I2 J2 ls ms h a b o v. map_verdict_words p n (h.inner).first (h.outer).first (h.inner).second (h.outer).second (h.inner).there (h.inner).back (h.outer).there (h.outer).back h.first h.second v.0 a b o v
