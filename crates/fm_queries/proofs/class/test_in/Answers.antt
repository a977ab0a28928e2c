use Rattle.std.proofs.Common.{◌+◌, ◌-◌, ◌≡◌, Some, map, slice_get, sym, subst, arith}
use Rattle.fm_poly.specs.declared.ring.Ring.{Ring}
use Rattle.fm_mat.specs.Matrices.{column_meaning, matrix_meaning}
use Rattle.fm_graphs.specs.Graphs.{MatrixOf}
use Rattle.fm_syz.specs.GraphValues.{GraphValue}
use Rattle.fm_resolve.specs.Resolutions.{graphs_of}
use Rattle.fm_ext.proofs.Differentials.{differential_of}
use Rattle.fm_queries.specs.Founds.{FollowsQuery, class_test}
use Rattle.fm_queries.proofs.class.test_in.Goals as goal

pub returns-clause-follows : goal.returns-clause-follows
returns-clause-follows c = λ units.
    let x = c.args.resolution.now in
    let r = x.first.matrix.ring in
    let d = c.differential.result.now in
    let z = c.args.z.now in
    let number : c.from.result + 1 - 1 ≡ c.args.degree = (let e = c.from.ensures in omega (arith, e)) in
    let at = subst (λ k. slice_get (map (λ (g : GraphValue). g.matrix) (graphs_of x)) k ≡ Some d) number c.differential.ensures.same in
    subst (λ (A : MatrixOf r). FollowsQuery (λ u. tt) c.test_class.result units units (class_test r c.args.e A (column_meaning r z) units)) (sym (differential_of r x c.args.degree d at))
    (subst (λ (s : Ring). FollowsQuery (λ u. tt) c.test_class.result units units (class_test s c.args.e (matrix_meaning s d) (column_meaning s z) units)) c.differential.ensures.ring (c.test_class.ensures units))
