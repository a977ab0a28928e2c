use Rattle.fm_problem.proofs.AsciiNames.{name_is_utf8}
use Rattle.fm_problem.proofs.names.name_of.Goals as goal

pub unreachable-requires : goal.unreachable-requires
unreachable-requires c = c.in-Err.ensures.cases.0 (name_is_utf8 c.args.word.now c.requires)
