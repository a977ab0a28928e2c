use Rattle.std.proofs.Common.{refl}
use Rattle.std.proofs.lemmas.Bool.{lt-ltb}
use Rattle.fm_pres.proofs.Nodes.{parts_length}
use Rattle.fm_pres.proofs.judging.is_part.Goals as goal

pub returns-then-k-gt0 : goal.returns-then-k-gt0
returns-then-k-gt0 c = rw (lt-ltb 0 c.args.k c.if-k-gt0.true, parts_length c.args.nodes.now) refl
