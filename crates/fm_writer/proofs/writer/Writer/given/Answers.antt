use Rattle.std.proofs.Common.{List, length, subst, sym}
use Rattle.fm_cert.specs.Pieces.{ArePiecesOver}
use Rattle.fm_cert.specs.declared.piece.Piece.{Piece}
use Rattle.fm_cert.specs.declared.piece.Piece.TheVariants.{Number}
use Rattle.fm_writer.proofs.Pages.{pieces_over}
use Rattle.fm_writer.proofs.writer.Writer.given.Goals as goal

pub form-requires : goal.form-requires
form-requires c =
    let s = c.requires.shape in
    let none : ArePiecesOver s.0.vars c.new-pieces.result.items = subst (λ (ps : List Piece). ArePiecesOver s.0.vars ps) (sym c.new-pieces.ensures.items) tt in
    let one : ArePiecesOver s.0.vars c.push.new.self.items =
    subst (λ (ps : List Piece). ArePiecesOver s.0.vars ps) (sym c.in_ok-push.ensures.items) (pieces_over s.0.vars c.new-pieces.result.items (Number c.from.result) none tt) in
    let both : ArePiecesOver s.0.vars c.push-2.new.self.items =
    subst (λ (ps : List Piece). ArePiecesOver s.0.vars ps) (sym c.in_ok-push-2.ensures.items) (pieces_over s.0.vars c.push.new.self.items (Number (length c.args.columns.now)) one tt) in
    subst (λ n. ArePiecesOver n c.deref.result.now) s.1
    (subst (λ (ps : List Piece). ArePiecesOver s.0.vars ps) (sym c.deref.ensures.value) (c.in_ok-push_vectors.ensures.over s.0 c.args.rows s.2 both))
