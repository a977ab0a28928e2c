use Rattle.std.proofs.Common.{◌∙◌}
use Rattle.fm_syz.proofs.blocks.lower_part.Goals as goal

pub returns : goal.returns
returns c r n ring rows = c.new.ensures ∙ c.in_ok-lower.ensures r n ring rows
