use Rattle.std.proofs.Common.{suc, List, ap}
use Rattle.fm_report.specs.Parts.{Part}
use Rattle.fm_report.specs.Sheets.{numbered}
use Rattle.fm_judge.specs.Claims.{source_of}
use Rattle.fm_places.specs.Meanings.{aim_of}
use Rattle.fm_claims.proofs.FurtherAims.{no_kernels}
use Rattle.fm_claims.proofs.source.source_kernel.Goals as goal

pub returns-in_default : goal.returns-in_default
returns-in_default c = record {
  part = λ q ps. ap (λ (xs : List Part). numbered xs (suc (source_of (aim_of q ps c.args.aim.now)).repeat)) (no_kernels q ps c.args.aim.now c.in_default.not-Incoming);
  there = λ q ps a. tt;
}
