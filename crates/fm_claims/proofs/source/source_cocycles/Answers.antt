use Rattle.std.proofs.Common.{List, ap}
use Rattle.fm_report.specs.Parts.{Part}
use Rattle.fm_report.specs.Sheets.{numbered}
use Rattle.fm_claims.proofs.FurtherAims.{no_cocycles}
use Rattle.fm_claims.proofs.source.source_cocycles.Goals as goal

pub returns-in_default : goal.returns-in_default
returns-in_default c = record {
  part = λ q ps. ap (λ (xs : List Part). numbered xs 1) (no_cocycles q ps c.args.aim.now c.in_default.not-Incoming);
  there = λ q ps a. tt;
}
