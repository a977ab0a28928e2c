use Rattle.std.proofs.Common.{◌∙◌, ◌++◌, map, string_bytes, sym, ap}
use Rattle.fm_cert.proofs.PiecesWritten.{vector_text_of}
use Rattle.fm_cert.specs.Fields.{polynomial_word}
use Rattle.fm_cert.specs.Statements.{vector_of_texts}
use Rattle.fm_cert.proofs.forms.vector_word.Goals as goal

pub returns : goal.returns
returns c =
    c.in_ok-push_parenthesized.ensures
    ∙ ap (λ y. y ++ vector_of_texts (map (polynomial_word (map string_bytes c.args.names.now)) c.args.entries.now)) c.new-word.ensures.items
    ∙ sym (vector_text_of (map string_bytes c.args.names.now) c.args.entries.now)
