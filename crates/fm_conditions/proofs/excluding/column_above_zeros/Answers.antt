use Rattle.std.proofs.Common.{◌-◌, ◌∙◌, length, sym, ap, arith, List}
use Rattle.fm_poly.specs.Polys.{PolyValue}
use Rattle.fm_vec.specs.Vectors.{VectorValue}
use Rattle.fm_parts.specs.Conditions.{above_zeros}
use Rattle.fm_conditions.proofs.AboveZeros.{zeros_only, column_at, column_read, no_column}
use Rattle.fm_conditions.proofs.Formed.{if_ok}
use Rattle.fm_conditions.proofs.excluding.column_above_zeros.Goals as goal

pub returns-then-column-columns-clause-terms : goal.returns-then-column-columns-clause-terms
returns-then-column-columns-clause-terms c =
    let s = c.args.size in
    let beyond = c.if-column-columns.true in
    let count = ap (λ (cs : List (List PolyValue)). length cs) c.columns-columns.ensures.same in
    ap (λ (x : VectorValue). x.terms) c.from_falling.ensures ∙ c.new.ensures.items ∙ sym (zeros_only s.ring s.width)
    ∙ ap (λ v. above_zeros s.ring v s.width) (sym (no_column s.ring c.args.v.now.columns (c.args.column - 1) (omega (arith, beyond, count))))

pub entries_above_zeros-requires-clause-over : goal.entries_above_zeros-requires-clause-over
entries_above_zeros-requires-clause-over c =
    let within = c.if-column-columns.false in
    let low = c.requires.column in
    (column_at c.args.size.ring c.args.v.now c.columns-columns.result.now (c.args.column - 1) c.index-columns-column.result c.entries.result.now c.requires.ring c.columns-columns.ensures.same
    c.columns-columns.ensures.shape (omega (arith, within, low)) c.index-columns-column.is c.entries.ensures).0

pub entries_above_zeros-requires-clause-rows : goal.entries_above_zeros-requires-clause-rows
entries_above_zeros-requires-clause-rows c =
    let within = c.if-column-columns.false in
    let low = c.requires.column in
    (column_at c.args.size.ring c.args.v.now c.columns-columns.result.now (c.args.column - 1) c.index-columns-column.result c.entries.result.now c.requires.ring c.columns-columns.ensures.same
    c.columns-columns.ensures.shape (omega (arith, within, low)) c.index-columns-column.is c.entries.ensures).1 ∙ c.requires.rows

pub returns-clause-terms : goal.returns-clause-terms
returns-clause-terms c =
    let s = c.args.size in
    let within = c.if-column-columns.false in
    let low = c.requires.column in
    let i = c.args.column - 1 in
    let means = column_read s.ring c.args.v.now.columns c.columns-columns.result.now i c.index-columns-column.result c.entries.result.now c.columns-columns.ensures.same (omega (arith, within, low))
    c.index-columns-column.is c.entries.ensures in
    if_ok c.entries_above_zeros.result (λ w h. h ∙ ap (λ v. above_zeros s.ring v s.width) means) c.entries_above_zeros.ensures.terms
