use Rattle.fm_decide.proofs.FirstEntries.{first_copied, none_is}
use Rattle.fm_decide.proofs.printing.printed_first.Goals as goal

pub returns-in-Some : goal.returns-in-Some
returns-in-Some c =
    first_copied c.args.ring c.copy.result c.in-Some.entry.now _ c.args.entries.now c.in-Some.ensures.cases.0 c.requires c.terms-terms.ensures.canonical c.copy.ensures

pub returns-in-None : goal.returns-in-None
returns-in-None c = none_is c.args.ring c.zero.result c.args.entries.now c.in-None.ensures.cases c.zero.ensures.ring c.zero.ensures.none
