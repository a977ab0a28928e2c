use Rattle.std.proofs.Common.{◌<◌, ◌∙◌, sym, ap, subst}
use Rattle.fm_mat.specs.Matrices.{MatrixValue}
use Rattle.fm_conditions.proofs.FirstRows.{read_is, firsts_are, first_count, first_are}
use Rattle.fm_conditions.proofs.syzygies.first_syzygies.Goals as goal

pub new-requires-clause-few : goal.new-requires-clause-few
new-requires-clause-few c =
    let g = c.args.g.now in
    let r = g.ring in
    let members = c.args.members.now in
    let columns = c.in_ok-columns.columns.items in
    let read = read_is r c.ring.result g members columns c.rows.result c.cols.result c.ring.ensures c.rows.ensures c.cols.ensures c.in_ok-columns.ensures.value in
    let first = firsts_are r c.ring-2.result c.args.rows c.in_ok-first.first.items c.deref.result.now columns c.ring-2.ensures c.deref.ensures.value c.in_ok-first.ensures.value in
    subst (λ n. n < 4294967296) (sym (first_count r g members columns read c.args.rows c.in_ok-first.first.items first)) c.requires.few

pub returns-clause-value : goal.returns-clause-value
returns-clause-value c = λ r e.
    let g = c.args.g.now in
    let members = c.args.members.now in
    let columns = c.in_ok-columns.columns.items in
    let read = read_is r c.ring.result g members columns c.rows.result c.cols.result (c.ring.ensures ∙ e) c.rows.ensures c.cols.ensures c.in_ok-columns.ensures.value in
    let first = firsts_are r c.ring-2.result c.args.rows c.in_ok-first.first.items c.deref.result.now columns (c.ring-2.ensures ∙ e) c.deref.ensures.value c.in_ok-first.ensures.value in
    first_are r g members columns read c.args.rows c.in_ok-first.first.items c.new.result first (ap (λ (x : MatrixValue). x.rows) c.new.ensures) (ap (λ (x : MatrixValue). x.columns) c.new.ensures)
