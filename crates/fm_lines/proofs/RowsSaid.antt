-- Rows without polynomials among all rows.
use Rattle.std.proofs.Common.{◌≡◌, Bool, false, List, ◌∷◌, Option, Some, None, Result, Ok, Err, option_map, sym, ap, ◌∙◌}
use Rattle.std.specs.Prelude.{IfOk, IfSome, codes, if◌then◌else◌}
use Rattle.fm_poly.specs.declared.ring.Ring.{Ring}
use Rattle.fm_words.specs.Parts.{Bytes}
use Rattle.fm_words.specs.Words.{same_bytes}
use Rattle.fm_problem.specs.declared.query.Query.{Query}
use Rattle.fm_cert.specs.Kinds.{part_kind, kind_of}
use Rattle.fm_lines.specs.declared.row.Row as program
use Rattle.fm_lines.specs.KindLines.{kind_line, plain_kind_line}
use Rattle.fm_lines.specs.PlainKinds.{answered, plain_kind}
use Rattle.fm_lines.specs.Rows.{row_line, IsRowOver}
use Rattle.fm_lines.proofs.PlainKinds.{same_plain, over_plain}

pub plain_row_said : {E : Type 0} (r : Ring) (names : List Bytes) (asked : Option Query) (w : Bytes) (ws : List Bytes) (res : Result (Option program.Row) E)
    → same_bytes w (codes "part") ≡ false → same_bytes w (codes "answer") ≡ false
    → IfOk res (λ o. option_map row_line o ≡ plain_kind_line (plain_kind w ws) ws) → IfOk res (λ o. option_map row_line o ≡ kind_line r names (kind_of asked (w ∷ ws)) ws)
plain_row_said r names asked w ws (Ok o) h k p =
    p ∙ same_plain r names w ws
    ∙ sym (ap (λ (t : Bool). kind_line r names (if t then part_kind ws else (if same_bytes w (codes "answer") then answered asked else plain_kind w ws)) ws) h
    ∙ ap (λ (t : Bool). kind_line r names (if t then answered asked else plain_kind w ws) ws) k)
plain_row_said r names asked w ws (Err e) h k p = tt

pub plain_row_over : {E : Type 0} (r : Ring) (w : Bytes) (ws : List Bytes) (res : Result (Option program.Row) E)
    → IfOk res (λ o. option_map row_line o ≡ plain_kind_line (plain_kind w ws) ws) → IfOk res (λ o. IfSome o (λ row. IsRowOver r row))
plain_row_over r w ws (Ok None) p = tt
plain_row_over r w ws (Ok (Some row)) p = over_plain r w ws row p
plain_row_over r w ws (Err e) p = tt
