use Rattle.std.proofs.Common.{nat_eq, length, sym, ap, ◌∙◌, subst, arith}
use Rattle.std.specs.Prelude.{Vec}
use Rattle.std.specs.Global.{Global}
use Rattle.std.specs.List.{list_all}
use Rattle.fm_mat.specs.Matrices.{AreColumns}
use Rattle.fm_poly.specs.Polys.{PolyValue}
use Rattle.fm_asked.proofs.GivenColumns.{columns_are, many_rows, many_columns, not_long}
use Rattle.fm_asked.proofs.forms.given.Goals as goal

pub returns-then-rows : goal.returns-then-rows
returns-then-rows c = let h = c.if-rows.true in many_rows c.args.rows c.args.columns.items (omega (arith, h))

pub returns-then-len : goal.returns-then-len
returns-then-len c =
    let h = c.if-len.true in
    let len = c.len.ensures in
    many_columns c.args.rows c.args.columns.items (omega (arith, h, len, c.args.columns.ok))

pub returns-then-not-are_long : goal.returns-then-not-are_long
returns-then-not-are_long c =
    not_long c.args.rows c.args.columns.items c.are_long.result
    (c.are_long.ensures ∙ ap (list_all (λ (x : Vec PolyValue Global). nat_eq (length x.items) c.args.rows)) c.deref.ensures.value) c.if-not-are_long.true

pub new-requires-clause-shape : goal.new-requires-clause-shape
new-requires-clause-shape c =
    subst (AreColumns c.args.ring c.args.rows) (sym c.in-Ok.ensures)
    (columns_are c.args.ring c.args.rows c.args.columns.items c.requires
    (sym (c.are_long.ensures ∙ ap (list_all (λ (x : Vec PolyValue Global). nat_eq (length x.items) c.args.rows)) c.deref.ensures.value) ∙ c.if-not-are_long.false))
