use Rattle.std.proofs.Common.{refl}
use Rattle.fm_asked.proofs.Datums.{is_new}
use Rattle.fm_check.proofs.certificates.no_block.Goals as goal

pub returns-clause-block : goal.returns-clause-block
returns-clause-block c = λ ps.
    is_new ps (record { ideal = 0; degree = 0; differentials = c.new.result; lift = c.new-2.result; cocycles = c.new-3.result; kernels = c.new-4.result; morphism = c.new-5.result }) 0 0 refl refl c.new.ensures.items c.new-2.ensures.items c.new-3.ensures.items c.new-4.ensures.items c.new-5.ensures.items
