use Rattle.std.proofs.Common.{◌≡◌, [], ◌∷◌, ◌++◌, map, sym, ap, ◌∙◌, subst, List}
use Rattle.std.specs.List.{flat_map}
use Rattle.fm_cert.specs.Fields.{vector_word}
use Rattle.fm_cert.specs.Pieces.{AreOverVariables, ArePiecesOver, piece_words}
use Rattle.fm_mat.specs.Matrices.{AreColumns}
use Rattle.fm_poly.specs.Polys.{PolyValue}
use Rattle.fm_words.specs.Parts.{Bytes}
use Rattle.fm_cert.proofs.PiecesWritten.{vector_text_of}
use Rattle.fm_writer.proofs.Pages.{entries_over, pieces_more, pieces_over}
use Rattle.fm_writer.proofs.writer.push_vectors.Goals as goal

pub returns-in_default-clause-over : goal.returns-in_default-clause-over
returns-in_default-clause-over c = λ r rows shape before. (c.columns.invariant.over r rows shape before).1

pub columns-preserved : goal.columns-preserved
columns-preserved c = record {
  words = λ names. pieces_more (piece_words names) c.columns.pieces.items c.push.new.self.items _ (vector_word names c.in-Some.column.now) (map (vector_word names) c.in-Some.later.now) _
      c.in_ok-push.ensures.items (ap (λ (w : Bytes). w ∷ []) (sym (vector_text_of names c.entries.result.now)) ∙ ap (λ (es : List PolyValue). vector_word names es ∷ []) c.entries.ensures)
      (subst (λ (cs : List (List PolyValue)). flat_map (piece_words names) c.columns.pieces.items ++ map (vector_word names) cs ≡ flat_map (piece_words names) c.args.pieces.now.items ++ map (vector_word names) c.args.columns.now)
      c.in-Some.ensures.cases.0 (c.columns.invariant.words names));
  over = λ r rows shape before.
      let all = c.columns.invariant.over r rows shape before in
      let here = subst (λ (cs : List (List PolyValue)). AreColumns r rows cs) c.in-Some.ensures.cases.0 all.0 in (
        here.2,
        subst (λ ps. ArePiecesOver r.vars ps) (sym c.in_ok-push.ensures.items)
            (pieces_over r.vars c.columns.pieces.items _ all.1 (subst (λ (es : List PolyValue). AreOverVariables r.vars es) (sym c.entries.ensures) (entries_over r c.in-Some.column.now here.0))),
      );
}
