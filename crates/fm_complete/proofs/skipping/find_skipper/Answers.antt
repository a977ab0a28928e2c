use Rattle.std.proofs.Common.{◌∙◌, sym, ap}
use Rattle.fm_complete.specs.Divisions.{terms_of}
use Rattle.fm_complete.specs.Indexed.{first_skipper}
use Rattle.fm_complete.proofs.Indexed.{each_term, skipper_is}
use Rattle.fm_complete.proofs.skipping.find_skipper.Goals as goal

pub first_skipping-requires-clause-heads : goal.first_skipping-requires-clause-heads
first_skipping-requires-clause-heads c =
    let ms = terms_of c.args.members.now in
    each_term c.args.ring c.args.rows ms c.args.p.now.component c.row.result.now c.requires.heads.vectors (c.row.ensures c.args.ring c.args.rows ms c.requires.heads)

pub returns : goal.returns
returns c =
    let ms = terms_of c.args.members.now in
    c.first_skipping.ensures ∙ ap (first_skipper c.args.pending.now.pairs c.args.p.now) (c.row.ensures c.args.ring c.args.rows ms c.requires.heads) ∙ sym (skipper_is c.args.pending.now.pairs c.args.p.now 1 ms)
