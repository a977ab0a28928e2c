use Rattle.std.proofs.Common.{◌∙◌, ◌++◌, ap}
use Rattle.fm_cert.proofs.LinesWritten.{text_of_words}
use Rattle.fm_cert.specs.Said.{line_value}
use Rattle.fm_cert.proofs.line.Line.push.Goals as goal

pub returns : goal.returns
returns c =
    c.in_ok-push_words.ensures
    ∙ ap (λ y. c.args.out.now.items ++ y) (text_of_words c.args.problem.now.vars (line_value c.args.problem.now c.args.self.now))
