use Rattle.std.proofs.Common.{suc, ◌-◌, ◌≡◌, [], Some, map, slice_get, refl, sym, ap, ◌∙◌, subst, arith}
use Rattle.fm_limit.specs.ResolvedIdeal.{differential, rank}
use Rattle.fm_mat.specs.Matrices.{MatrixValue, columns_meaning, matrix_meaning}
use Rattle.fm_graphs.specs.Graphs.{MatrixOf}
use Rattle.fm_plan.specs.Base.{flip}
use Rattle.fm_syz.specs.GraphValues.{GraphValue}
use Rattle.fm_resolve.specs.Resolutions.{graphs_of}
use Rattle.fm_ext.specs.Exts.{differentials}
use Rattle.fm_ext.proofs.Differentials.{differential_of, columns_at, no_columns}
use Rattle.fm_ext.proofs.relations.coboundaries.Goals as goal

pub returns-then-degree-eq0-clause-value : goal.returns-then-degree-eq0-clause-value
returns-then-degree-eq0-clause-value c =
    let x = c.args.resolution.now in
    let r = x.first.matrix.ring in
    let zero : 0 ≡ c.args.degree = (let e = c.if-degree-eq0.true in omega (arith, e)) in
    ap (matrix_meaning r) c.new-then-degree-eq0.ensures ∙ ap (λ cs. record { rows = 1; columns = columns_meaning r cs }) c.new.ensures.items
    ∙ subst (λ k. ◌≡◌ {A = MatrixOf r} (record { rows = 1; columns = [] }) (flip r (differential r.prime r.vars (differentials r x) k))) zero (no_columns r (differentials r x))

pub returns-clause-rows : goal.returns-clause-rows
returns-clause-rows c =
    let x = c.args.resolution.now in
    let r = x.first.matrix.ring in
    let d = c.differential.result.now in
    let k = c.args.degree - 1 in
    let number : c.from.result - 1 ≡ k = (let e = c.from.ensures in omega (arith, e)) in
    let next : suc k ≡ c.args.degree = (let e = c.if-degree-eq0.false in omega (arith, e)) in
    let less = c.requires in
    let at = subst (λ k. slice_get (map (λ (g : GraphValue). g.matrix) (graphs_of x)) k ≡ Some d) number c.differential.ensures.same in
    subst (λ n. Rattle.std.specs.Prelude.IfOk c.flip.result (λ (m : MatrixValue). m.rows ≡ n)) (columns_at r x c.differential.ensures.resolution refl k d (omega (arith, less)) at ∙ ap (rank r.prime r.vars (differentials r x)) next) c.flip.ensures.rows

pub returns-clause-value : goal.returns-clause-value
unfolding differential
returns-clause-value c =
    let x = c.args.resolution.now in
    let r = x.first.matrix.ring in
    let d = c.differential.result.now in
    let k = c.args.degree - 1 in
    let number : c.from.result - 1 ≡ k = (let e = c.from.ensures in omega (arith, e)) in
    let next : suc k ≡ c.args.degree = (let e = c.if-degree-eq0.false in omega (arith, e)) in
    let at = subst (λ k. slice_get (map (λ (g : GraphValue). g.matrix) (graphs_of x)) k ≡ Some d) number c.differential.ensures.same in
    let same = ap (flip r) (sym (differential_of r x k d at)) ∙ ap (λ j. flip r (differential r.prime r.vars (differentials r x) j)) next in
    subst (λ (A : MatrixOf r). Rattle.std.specs.Prelude.IfOk c.flip.result (λ (m : MatrixValue). matrix_meaning r m ≡ A)) same (c.flip.ensures.value r c.differential.ensures.ring)
