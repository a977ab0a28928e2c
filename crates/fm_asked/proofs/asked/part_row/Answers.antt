use Rattle.fm_pres.specs.Tables.{parts_in}
use Rattle.fm_asked.proofs.Grown.{grown_extends, asked_kept, says_kept}
use Rattle.fm_asked.proofs.asked.part_row.Goals as goal

pub returns-clause-asked : goal.returns-clause-asked
returns-clause-asked c =
    asked_kept c.args.ring c.args.asked.now c.add_part.new.table c.add_part.ensures.ring
    (grown_extends (parts_in c.args.asked.now.table) (parts_in c.add_part.new.table) c.add_part.result c.add_part.ensures.grown c.add_part.ensures.unchanged) c.requires.asked

pub returns-clause-judged : goal.returns-clause-judged
returns-clause-judged c s stage w = c.add_part.ensures.judged s stage w.parts

pub returns-clause-says : goal.returns-clause-says
returns-clause-says c s stage w =
    says_kept c.args.ring c.args.asked.now c.add_part.new.table s stage
    (grown_extends (parts_in c.args.asked.now.table) (parts_in c.add_part.new.table) c.add_part.result c.add_part.ensures.grown c.add_part.ensures.unchanged) c.requires.asked w
