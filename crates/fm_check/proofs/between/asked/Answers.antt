use Rattle.std.proofs.Common.{refl, ap, ◌∙◌}
use Rattle.fm_pres.specs.Tables.{parts_in}
use Rattle.fm_check.proofs.between.asked.Goals as goal

pub returns-clause-new : goal.returns-clause-new
unfolding parts_in
returns-clause-new c =
    record { query = refl; parts = ap parts_in c.new.ensures; logs = c.new-2.ensures.items; finished = c.new-3.ensures.items; block = refl; identity = c.new-4.ensures.items }
