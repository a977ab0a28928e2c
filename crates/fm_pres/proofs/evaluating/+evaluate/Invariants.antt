use Rattle.fm_pres.proofs.evaluating.+evaluate.Given as goal

abbrev pub decreases-evaluate : goal.decreases-evaluate
decreases-evaluate l = l.k
