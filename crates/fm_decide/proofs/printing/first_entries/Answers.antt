use Rattle.fm_decide.proofs.FirstEntries.{firsts_of}
use Rattle.fm_decide.proofs.printing.first_entries.Goals as goal

pub returns-clause-value : goal.returns-clause-value
returns-clause-value c = firsts_of c.args.m.now c.ring.result c.columns.result.now c.printed_firsts.result c.ring.ensures c.columns.ensures.same c.printed_firsts.ensures.value
