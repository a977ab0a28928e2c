use Rattle.std.proofs.Common.{◌∙◌, ◌++◌, ap}
use Rattle.fm_cert.proofs.LinesWritten.{text_of_words}
use Rattle.fm_cert.proofs.heads.push_query.Goals as goal

pub returns : goal.returns
returns c = c.in_ok-push_question.ensures ∙ ap (λ y. c.args.out.now.items ++ y) (text_of_words c.args.problem.now.vars _)
