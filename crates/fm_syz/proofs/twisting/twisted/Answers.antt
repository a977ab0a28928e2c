use Rattle.std.proofs.Common.{rules, ◌≡◌, ◌∙◌, ◌+◌, true, false, length, map, refl, sym, ap, subst, arith}
use Rattle.fm_mat.specs.Bounds.{entries_fit}
use Rattle.fm_mat.specs.Matrices.{MatrixValue, matrix_meaning}
use Rattle.fm_algebra.specs.PolynomialMatrices.{matrix_twist}
use Rattle.fm_poly.specs.declared.ring.Ring.{Ring}
use Rattle.fm_complete.specs.Bases.{entry_value}
use Rattle.fm_complete.specs.Divisions.{AreMembers}
use Rattle.fm_graphs.specs.Graphs.{IsCompletedGraph}
use Rattle.fm_graphs.proofs.Lifts.{twisted_is}
use Rattle.fm_syz.specs.GraphValues.{GraphValue, graph_meaning}
use Rattle.fm_syz.proofs.Twists.{twist_ends, entries_pass, members_pass}
use Rattle.fm_syz.proofs.twisting.twisted.Goals as goal

pub returns-in_err-matrix-clause-exponent : goal.returns-in_err-matrix-clause-exponent
returns-in_err-matrix-clause-exponent c r units ring passes =
    entries_pass r r c.args.e c.args.g.now c.args.g.now.members units refl refl (subst (λ (m : MatrixValue). entries_fit r.prime r.vars c.args.e (matrix_meaning r m) ≡ false) c.matrix.ensures.same
    (c.in_err-matrix.ensures.exponent r (ap (λ (m : MatrixValue). m.ring) c.matrix.ensures.same ∙ ring) (search rules)))

pub overflow_add-rows : goal.overflow_add-rows
overflow_add-rows c = let a = c.rows.ensures in let b = c.width.ensures in let h = c.members-members.ensures.complete.high in omega (arith, a, b, h)

pub returns-in_err-members-clause-exponent : goal.returns-in_err-members-clause-exponent
returns-in_err-members-clause-exponent c r units ring passes =
    members_pass r c.ring.result c.args.e c.args.g.now c.members-members.result.now units (c.ring.ensures ∙ ring) c.members-members.ensures.same (c.in_err-members.ensures.exponent (search rules))

pub returns-clause-value : goal.returns-clause-value
returns-clause-value c r units ring =
    let at = ap (λ (m : MatrixValue). m.ring) c.matrix.ensures.same ∙ ring in
    twist_ends r c.ring.result c.args.e c.args.g.now c.members-members.result.now units (c.ring.ensures ∙ ring) c.members-members.ensures.same c.new.result c.in_ok-matrix.matrix c.in_ok-members.members.items _ c.new.ensures
    (subst (λ (m : MatrixValue). matrix_meaning r c.in_ok-matrix.matrix ≡ matrix_twist r.prime r.vars c.args.e (matrix_meaning r m)) c.matrix.ensures.same (c.in_ok-matrix.ensures.value r at))
    c.in_ok-members.ensures.value (c.in_ok-log.ensures ∙ c.log.ensures)
    (subst (λ (m : MatrixValue). entries_fit r.prime r.vars c.args.e (matrix_meaning r m) ≡ true) c.matrix.ensures.same (c.in_ok-matrix.ensures.fits r at))
    c.in_ok-members.ensures.fits

pub new-requires : goal.new-requires
new-requires c =
    let g = c.args.g.now in
    let M : MatrixValue = c.in_ok-matrix.matrix in
    let r = M.ring in
    let own = ap (λ (m : MatrixValue). m.ring) c.matrix.ensures.same in
    let at = sym c.in_ok-matrix.ensures.ring in
    let here : g.matrix.ring ≡ r = sym own ∙ at in
    let complete = c.members-members.ensures.complete in
    let rows = c.in_ok-matrix.ensures.rows ∙ ap (λ (m : MatrixValue). m.rows) c.matrix.ensures.same in
    let count = c.in_ok-matrix.ensures.count ∙ ap (λ (m : MatrixValue). length m.columns) c.matrix.ensures.same in
    let h : GraphValue = record { matrix = M; members = c.in_ok-members.members.items; log = map entry_value c.in_ok-log.log.items } in
    let ends = twist_ends r c.ring.result c.args.e g c.members-members.result.now 0 (c.ring.ensures ∙ here) c.members-members.ensures.same h M c.in_ok-members.members.items _ refl
    (subst (λ (m : MatrixValue). matrix_meaning r M ≡ matrix_twist r.prime r.vars c.args.e (matrix_meaning r m)) c.matrix.ensures.same (c.in_ok-matrix.ensures.value r at))
    c.in_ok-members.ensures.value (c.in_ok-log.ensures ∙ c.log.ensures)
    (subst (λ (m : MatrixValue). entries_fit r.prime r.vars c.args.e (matrix_meaning r m) ≡ true) c.matrix.ensures.same (c.in_ok-matrix.ensures.fits r at))
    c.in_ok-members.ensures.fits in
    record {
      members = subst (λ (s : Ring). AreMembers s (M.rows + length M.columns) c.in_ok-members.members.items) (c.ring.ensures ∙ here)
          (subst (λ n. AreMembers c.ring.result n c.in_ok-members.members.items) (omega (arith, c.rows.ensures, c.width.ensures, rows, count)) c.in_ok-members.ensures.members);
      few = (let n = c.in_ok-members.ensures.count in let k = ap length c.members-members.ensures.same in let f = complete.few in omega (arith, n, k, f));
      high = (let f = complete.high in omega (arith, rows, count, f));
      completed = (twisted_is r (graph_meaning r g) (subst (λ (s : Ring). IsCompletedGraph s (graph_meaning s g)) here complete.completed) c.args.e 0 0 (graph_meaning r h) ends).0;
    }
