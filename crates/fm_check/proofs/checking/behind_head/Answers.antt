use Rattle.std.proofs.Common.{refl}
use Rattle.fm_report.specs.Sheets.{blank}
use Rattle.fm_check.proofs.checking.behind_head.Goals as goal

pub returns-clause-tells : goal.returns-clause-tells
unfolding blank
returns-clause-tells c = record { head = refl; version = refl; count = refl; verdicts = refl; passed = refl }
