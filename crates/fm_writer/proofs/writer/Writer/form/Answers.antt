use Rattle.std.proofs.Common.{◌++◌, map, ap, ◌∙◌}
use Rattle.std.specs.Prelude.{string_bytes}
use Rattle.std.specs.List.{flat_map}
use Rattle.fm_words.specs.Parts.{Bytes}
use Rattle.fm_cert.specs.Pieces.{piece_words, row_words, words_text}
use Rattle.fm_writer.specs.Writers.{WriterValue}
use Rattle.fm_writer.proofs.writer.Writer.form.Goals as goal

pub returns : goal.returns
returns c = λ line is.
    c.number.ensures c.args.word.now (flat_map (piece_words c.args.self.now.names) c.args.pieces.now) line
    (c.in_ok-push_row.ensures ∙ ap (λ (xs : Bytes). xs ++ words_text (row_words (map string_bytes c.self.inside.names.now) c.args.word.now c.args.pieces.now)) c.new-form.ensures.items
    ∙ ap (λ (w : WriterValue). words_text (row_words w.names c.args.word.now c.args.pieces.now)) c.self.view_is) is
