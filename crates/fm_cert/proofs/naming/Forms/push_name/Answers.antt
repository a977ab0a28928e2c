use Rattle.fm_cert.proofs.PartsNamed.{line_over}
use Rattle.fm_cert.proofs.naming.Forms.push_name.Goals as goal

pub returns-in_ok-push-in-Known-clause-over : goal.returns-in_ok-push-in-Known-clause-over
returns-in_ok-push-in-Known-clause-over c =
    line_over c.args.problem.now.ring.vars _ _ _ c.in_ok-push-in-Known.ensures.items c.requires.before (c.line.ensures.over c.args.problem.now.ring.vars)

pub returns-in_ok-push-in-New-2-clause-over : goal.returns-in_ok-push-in-New-2-clause-over
returns-in_ok-push-in-New-2-clause-over c =
    let n = c.args.problem.now.ring.vars in
    line_over n _ _ _ c.in_ok-push-in-New-2.ensures.items (line_over n _ _ _ c.in_ok-push-in-New.ensures.items c.requires.before c.requires.over)
    (c.line-in-New.ensures.over n)
