use Rattle.fm_text.proofs.PrintingSteps.{factor_written}
use Rattle.fm_text.proofs.printing.push_factor.Goals as goal

pub returns-clause-ok : goal.returns-clause-ok
returns-clause-ok c = λ fs. factor_written _ _ _ _ _ _ fs c.if-exponent-eq0.false c.in_ok-push_separator.ensures.ok c.in_ok-push_power.ensures.ok
