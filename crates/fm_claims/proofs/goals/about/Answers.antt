use Rattle.std.proofs.Common.{refl, arith}
use Rattle.fm_places.specs.Meanings.{aim_of}
use Rattle.fm_claims.proofs.Asked.{about_one, about_none}
use Rattle.fm_claims.proofs.goals.about.Goals as goal

pub returns-then-ideal-len : goal.returns-then-ideal-len
returns-then-ideal-len c = λ ps a s.
    about_none c.args.problem.now ps c.args.ideal c.args.degree (aim_of c.args.problem.now ps c.args.aim) (omega arith)

pub returns : goal.returns
returns c = λ ps a s. about_one c.args.problem.now ps c.args.ideal c.args.degree c.args.aim _ refl a s (omega arith)
