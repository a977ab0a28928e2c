-- Lines whose kinds have no polynomials.
use Rattle.std.proofs.Common.{◌≡◌, Bool, true, false, List, Option, Some, refl, sym}
use Rattle.std.specs.Prelude.{codes, if◌then◌else◌}
use Rattle.fm_poly.specs.declared.ring.Ring.{Ring}
use Rattle.fm_words.specs.Parts.{Bytes}
use Rattle.fm_words.specs.Words.{same_bytes}
use Rattle.fm_cert.specs.Kinds.{Kind, row, unanswered_kind, refused_kind, closing_kind, kind_among, by_first}
use Rattle.fm_lines.specs.declared.row.Row as program
use Rattle.fm_lines.specs.KindLines.{kind_line, plain_kind_line}
use Rattle.fm_lines.specs.PlainKinds.{plain_kind}
use Rattle.fm_lines.specs.Rows.{row_line, IsRowOver}
use Rattle.fm_lines.proofs.PlainRows.{may_be_plain, same_after, plain_after, unanswered_plain, refused_plain, closing_plain, among_plain}
use Rattle.fm_lines.proofs.PlainOver.{row_over}

tests : (a b c : Bool) (x y z u : Option Kind) → may_be_plain x ≡ true → may_be_plain y ≡ true → may_be_plain z ≡ true → may_be_plain u ≡ true
    → may_be_plain (if a then x else (if b then y else (if c then z else u))) ≡ true
tests true b c x y z u h k l m = h
tests false true c x y z u h k l m = k
tests false false true x y z u h k l m = l
tests false false false x y z u h k l m = m

kinds_plain : (w : Bytes) (ws : List Bytes) → may_be_plain (plain_kind w ws) ≡ true
kinds_plain w ws =
    tests (same_bytes w (codes "unanswered")) (same_bytes w (codes "refused")) (same_bytes w (codes "end")) (unanswered_kind ws) (refused_kind ws) (closing_kind ws) (kind_among w by_first)
    (unanswered_plain ws) (refused_plain ws) (closing_plain ws) (among_plain w by_first refl)

-- such a line says the same over each ring
pub same_plain : (r : Ring) (names : List Bytes) (w : Bytes) (ws : List Bytes) → plain_kind_line (plain_kind w ws) ws ≡ kind_line r names (plain_kind w ws) ws
same_plain r names w ws = sym (same_after r names (plain_kind w ws) ws (kinds_plain w ws))

-- its row is of each ring
pub over_plain : (r : Ring) (w : Bytes) (ws : List Bytes) (row : program.Row) → Some (row_line row) ≡ plain_kind_line (plain_kind w ws) ws → IsRowOver r row
over_plain r w ws row e = row_over r row (plain_after (plain_kind w ws) ws (row_line row) (kinds_plain w ws) e)
