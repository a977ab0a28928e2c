use Rattle.std.proofs.Common.{length, ap, sym, ◌∙◌, subst, arith}
use Rattle.fm_poly.specs.declared.ring.Ring.{Ring}
use Rattle.fm_poly.specs.Polys.{PolyValue, meaning}
use Rattle.fm_vec.specs.Components.{AreOver}
use Rattle.fm_mat.specs.Matrices.{column_meaning, columns_meaning}
use Rattle.fm_mat.proofs.Steps.{map_length}
use Rattle.fm_complete.specs.Divisions.{terms_of}
use Rattle.fm_complete.specs.Standing.{values}
use Rattle.fm_run.proofs.Calls.{wanted}
use Rattle.fm_graphs.specs.Trims.{spanned}
use Rattle.fm_graphs.proofs.Spending.{spanned_spends}
use Rattle.fm_syz.proofs.ImageTests.{test_follows, test_decides}
use Rattle.fm_syz.proofs.TrimCalls.{made_count}
use Rattle.fm_syz.proofs.spanning.is_in_image.Goals as goal

pub returns-in_err-made-clause-follows : goal.returns-in_err-made-clause-follows
returns-in_err-made-clause-follows c =
    let r = c.args.a.now.ring in
    let cs = columns_meaning r c.args.a.now.columns in
    let w = column_meaning r c.args.v.now in
    wanted (λ yes. yes) c.from_residual.result c.args.work.now c.args.work.now (spanned r cs w c.args.work.now) c.from_residual.ensures (omega arith) (spanned_spends r cs w c.args.work.now)

pub returns-in_err-others-clause-follows : goal.returns-in_err-others-clause-follows
returns-in_err-others-clause-follows c =
    let r = c.args.a.now.ring in
    let cs = columns_meaning r c.args.a.now.columns in
    let w = column_meaning r c.args.v.now in
    wanted (λ yes. yes) c.from_residual-in_err-others.result c.args.work.now c.args.work.now (spanned r cs w c.args.work.now) c.from_residual-in_err-others.ensures (omega arith) (spanned_spends r cs w c.args.work.now)

pub returns-in_err-vector-clause-follows : goal.returns-in_err-vector-clause-follows
returns-in_err-vector-clause-follows c =
    let r = c.args.a.now.ring in
    let cs = columns_meaning r c.args.a.now.columns in
    let w = column_meaning r c.args.v.now in
    wanted (λ yes. yes) c.from_residual-in_err-vector.result c.args.work.now c.args.work.now (spanned r cs w c.args.work.now) c.from_residual-in_err-vector.ensures (omega arith) (spanned_spends r cs w c.args.work.now)

pub is_spanned-requires-clause-few : goal.is_spanned-requires-clause-few
is_spanned-requires-clause-few c =
    let borrowed = ap length c.deref-2.ensures.value in
    let count = c.in_ok-others.ensures.count ∙ ap length c.deref.ensures.value
    ∙ made_count c.ring-ring.result c.columns.result.now c.args.a.now.columns c.in_ok-made.made.items c.in_ok-made.ensures.terms c.columns.ensures.same in
    let few = c.columns.ensures.few in
    omega (arith, borrowed, count, few)

pub returns-clause-follows : goal.returns-clause-follows
returns-clause-follows c =
    let r = c.args.a.now.ring in
    let s = c.ring-ring.result in
    test_follows r s c.ring-ring.ensures c.args.a.now c.columns.result.now (terms_of (values c.deref-2.result.now)) c.columns.ensures.same
    (ap (λ os. terms_of (values os)) c.deref-2.ensures.value ∙ ap terms_of (c.in_ok-others.ensures.values ∙ c.deref.ensures.value) ∙ c.in_ok-made.ensures.terms) c.in_ok-vector.vector c.args.v.now c.in_ok-vector.ensures
    (subst (λ (q : Ring). AreOver q c.args.v.now) (sym c.ring-ring.ensures) c.requires.over) c.head-head.ensures.proper c.is_spanned.result c.args.work.now c.is_spanned.new.work c.is_spanned.ensures

pub returns-clause-decides : goal.returns-clause-decides
returns-clause-decides c =
    let r = c.args.a.now.ring in
    test_decides r c.args.a.now c.columns.ensures.shape (column_meaning r c.args.v.now) (map_length (λ (f : PolyValue). meaning r f.terms) c.args.v.now ∙ c.requires.rows) c.is_spanned.result c.args.work.now c.is_spanned.new.work (returns-clause-follows c)
