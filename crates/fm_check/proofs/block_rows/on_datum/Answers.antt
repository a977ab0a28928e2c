use Rattle.fm_check.specs.Standings.{parts_of}
use Rattle.fm_check.proofs.block_rows.on_datum.Goals as goal

pub begin_block-requires-in-DatumBeyond-clause-goal : goal.begin_block-requires-in-DatumBeyond-clause-goal
begin_block-requires-in-DatumBeyond-clause-goal c =
    c.in_ok-cross-in-DatumBeyond.ensures.sound c.args.problem.now (parts_of c.args.asked.now) c.requires.ideals c.requires.certificate.goal c.requires.asked.named.0
