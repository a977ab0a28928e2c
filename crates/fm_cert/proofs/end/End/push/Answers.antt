use Rattle.std.proofs.Common.{◌∙◌, ◌++◌, map, string_bytes, ap}
use Rattle.fm_cert.proofs.LinesWritten.{text_of_words}
use Rattle.fm_cert.specs.Lines.{line_words}
use Rattle.fm_cert.specs.Pieces.{words_text}
use Rattle.fm_cert.specs.Said.{end_line}
use Rattle.fm_cert.proofs.end.End.push.Goals as goal

pub returns : goal.returns
returns c =
    c.in_ok-push_end.ensures
    ∙ ap (λ names. c.args.out.now.items ++ words_text (line_words names (end_line c.args.self.now))) c.as_slice.ensures
    ∙ ap (λ y. c.args.out.now.items ++ y) (text_of_words c.args.problem.now.vars (end_line c.args.self.now))
