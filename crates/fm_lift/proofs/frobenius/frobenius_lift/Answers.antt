use Rattle.std.proofs.Common.{ℕ, suc, ◌≡◌, ◌≤◌, ◌+◌, ◌∷◌, ◌++◌, [], List, IfOk, OnOk, Ok, Err, length, map, drop, refl, sym, ap, ◌∙◌, subst, arith}
use Rattle.std.proofs.lemmas.List.{map-append}
use Rattle.fm_algebra.specs.PolynomialMatrices.{matrix_unit}
use Rattle.fm_limit.specs.ResolvedIdeal.{IsFrobeniusLiftOf}
use Rattle.fm_mat.proofs.Steps.{map_length}
use Rattle.fm_lift.proofs.LiftMeaning.{is_lift}
use Rattle.fm_mat.specs.Matrices.{matrix_meaning}
use Rattle.fm_run.specs.declared.task.Name.TheVariants.{Lift}
use Rattle.fm_run.specs.Runs.{Ending}
use Rattle.fm_graphs.specs.Graphs.{MatrixOf}
use Rattle.fm_syz.specs.GraphValues.{GraphValue, graph_meaning}
use Rattle.fm_plan.specs.Base.{lifting}
use Rattle.fm_plan.specs.Tasks.{Unanswered}
use Rattle.fm_plan.specs.Following.{unanswered_by}
use Rattle.fm_lift.specs.Lifts.{AreGraphs, AreInARow, AreMatricesOver, after_the_first, graphs_meaning, matrices_meaning}
use Rattle.fm_run.proofs.Parts.{failed}
use Rattle.fm_lift.proofs.Calls.{plan_wants, told_ok, told_memory}
use Rattle.fm_lift.proofs.Chains.{Rest, chained_spends, begun, more, stops}
use Rattle.fm_lift.proofs.LiftChains.{Begins, still_begins, dropped, ends, lift_step, step_spends, lifting_chained, over_more, told}
use Rattle.fm_lift.proofs.frobenius.frobenius_lift.Goals as goal

pub returns-in_err-theta-clause-follows : goal.returns-in_err-theta-clause-follows
returns-in_err-theta-clause-follows c =
    let r = c.args.ring in
    let side = c.args.side in
    let gs : List GraphValue = map (λ g. g.now) c.args.graphs.now in
    let unit = matrix_unit r.prime r.vars 1 in
    let units = c.args.work.now in
    failed _ unanswered_by c.from_residual.result c.in_err-theta.field-0.0 units units (lifting r side 1 unit (graphs_meaning r gs) units) c.from_residual.ensures
    (plan_wants c.in_err-theta.field-0.0 units units (lifting r side 1 unit (graphs_meaning r gs) units) (told_memory c.lift_task.result c.one.result _ c.in_err-theta.ensures c.one.ensures.memory) (omega arith)
    (subst (λ (f : ℕ → Ending Unanswered (List (MatrixOf r))). (f units).left ≤ units) (sym (lifting_chained r side (graphs_meaning r gs) 1 unit)) (chained_spends (lift_step r side) (step_spends r side) (graphs_meaning r gs) 1 unit units)))

pub loop-g-init : goal.loop-g-init
loop-g-init c =
    let r = c.args.ring in
    let side = c.args.side in
    let gs : List GraphValue = map (λ g. g.now) c.args.graphs.now in
    let unit = matrix_unit r.prime r.vars 1 in
    let units = c.args.work.now in
    let theta = c.in_ok-theta.theta in
    let is = told_ok c.lift_task.result c.one.result theta c.in_ok-theta.ensures in
    let ring : theta.ring ≡ r = subst (λ x. IfOk x (λ m. m.ring ≡ r)) is c.one.ensures.ring in
    let rows : theta.rows ≡ 1 = subst (λ x. IfOk x (λ m. m.rows ≡ 1)) is c.one.ensures.rows in
    let count : length theta.columns ≡ 1 = subst (λ x. IfOk x (λ m. length m.columns ≡ 1)) is c.one.ensures.count in
    let value : matrix_meaning r theta ≡ unit = subst (λ x. IfOk x (λ m. matrix_meaning r m ≡ unit)) is c.one.ensures.value in
    let empty : matrices_meaning r c.new-thetas.result.items ≡ [] = ap (matrices_meaning r) c.new-thetas.ensures.items in
    record {
      ring = ring;
      rings = subst (AreMatricesOver r) (sym c.new-thetas.ensures.items) tt;
      square = rows ∙ sym count;
      row = subst (λ n. AreInARow r n gs) (sym count) c.requires.row;
      first = subst (λ ms. Begins unit (ms ++ matrix_meaning r theta ∷ [])) (sym empty) (ap (λ m. m ∷ []) value);
      run = subst (λ ms. Rest (lift_step r side) ms (matrix_meaning r theta) 1 (graphs_meaning r gs) units (lifting r side 1 unit (graphs_meaning r gs) units)) (sym empty)
          (subst (λ m. Rest (lift_step r side) [] m 1 (graphs_meaning r gs) units (lifting r side 1 unit (graphs_meaning r gs) units)) (sym value)
          (subst (λ (f : ℕ → Ending Unanswered (List (MatrixOf r))). Rest (lift_step r side) [] unit 1 (graphs_meaning r gs) units (f units)) (sym (lifting_chained r side (graphs_meaning r gs) 1 unit))
          (begun (lift_step r side) (step_spends r side) unit 1 (graphs_meaning r gs) units)));
      spent = omega arith;
      count = refl;
      complete = λ whole. whole;
    }

pub next_theta-requires-clause-ring : goal.next_theta-requires-clause-ring
next_theta-requires-clause-ring c =
    let h = c.loop-g.invariant in
    h.ring ∙ sym (subst (AreInARow c.args.ring (length c.loop-g.theta.columns)) (dropped (λ g. g.now) c.args.graphs.now c.loop-g.g-index c.g-item.result c.g-item.is c.loop-g-test.true) h.row).0

pub next_theta-requires-clause-rows : goal.next_theta-requires-clause-rows
next_theta-requires-clause-rows c =
    let h = c.loop-g.invariant in
    h.square ∙ sym (subst (AreInARow c.args.ring (length c.loop-g.theta.columns)) (dropped (λ g. g.now) c.args.graphs.now c.loop-g.g-index c.g-item.result c.g-item.is c.loop-g-test.true) h.row).1

pub next_theta-requires-clause-inner : goal.next_theta-requires-clause-inner
next_theta-requires-clause-inner c =
    let h = c.loop-g.invariant in
    sym (subst (AreInARow c.args.ring (length c.loop-g.theta.columns)) (dropped (λ g. g.now) c.args.graphs.now c.loop-g.g-index c.g-item.result c.g-item.is c.loop-g-test.true) h.row).1

pub returns-in_err-theta-2-clause-follows : goal.returns-in_err-theta-2-clause-follows
returns-in_err-theta-2-clause-follows c =
    let r = c.args.ring in
    let side = c.args.side in
    let gs : List GraphValue = map (λ g. g.now) c.args.graphs.now in
    let all = lifting r side 1 (matrix_unit r.prime r.vars 1) (graphs_meaning r gs) c.args.work.now in
    let h = c.loop-g.invariant in
    let g = c.g-item.result.now in
    let here = dropped (λ g. g.now) c.args.graphs.now c.loop-g.g-index c.g-item.result c.g-item.is c.loop-g-test.true in
    let row : AreInARow r (length c.loop-g.theta.columns) (g ∷ drop (suc c.loop-g.g-index) gs) = subst (AreInARow r (length c.loop-g.theta.columns)) here h.row in
    let T = matrix_meaning r c.loop-g.theta in
    let done = matrices_meaning r c.loop-g.thetas.items in
    let s = c.in_err-theta-2.field-0.0 in
    let number : c.loop-g.number + 1 ≡ suc c.loop-g.number = omega arith in
    failed _ unanswered_by c.from_residual-in_err-theta-2.result s c.args.work.now c.next_theta.new.work all c.from_residual-in_err-theta-2.ensures
    (stops (lift_step r side) (step_spends r side) done T (suc c.loop-g.number) (graph_meaning r g) (graphs_meaning r (drop (suc c.loop-g.g-index) gs)) c.loop-g.work c.next_theta.new.work all
    (subst (λ xs. Rest (lift_step r side) done T (suc c.loop-g.number) (graphs_meaning r xs) c.loop-g.work all) here h.run)
    (matrix_meaning r) (λ (ts : List (MatrixOf r)). ts) unanswered_by s c.args.work.now h.spent
    (told g.matrix.ring r row.0 side c.lift_task-in-loop-g.result (suc c.loop-g.number) (c.lift_task-in-loop-g.ensures ∙ ap (λ n. record { side = side; name = Lift; number = n }) number) c.loop-g.theta g
    c.next_theta.result (Err s) c.loop-g.work c.next_theta.new.work c.in_err-theta-2.ensures c.next_theta.ensures.follows))

pub loop-g-preserved : goal.loop-g-preserved
loop-g-preserved c =
    let r = c.args.ring in
    let side = c.args.side in
    let gs : List GraphValue = map (λ g. g.now) c.args.graphs.now in
    let unit = matrix_unit r.prime r.vars 1 in
    let all = lifting r side 1 unit (graphs_meaning r gs) c.args.work.now in
    let h = c.loop-g.invariant in
    let g = c.g-item.result.now in
    let here = dropped (λ g. g.now) c.args.graphs.now c.loop-g.g-index c.g-item.result c.g-item.is c.loop-g-test.true in
    let row : AreInARow r (length c.loop-g.theta.columns) (g ∷ drop (suc c.loop-g.g-index) gs) = subst (AreInARow r (length c.loop-g.theta.columns)) here h.row in
    let T = matrix_meaning r c.loop-g.theta in
    let done = matrices_meaning r c.loop-g.thetas.items in
    let next = c.in_ok-theta-2.theta in
    let number : c.loop-g.number + 1 ≡ suc c.loop-g.number = omega arith in
    let index : suc c.loop-g.g-index ≡ c.loop-g.g-index + 1 = omega arith in
    let is = told_ok c.lift_task-in-loop-g.result c.next_theta.result next c.in_ok-theta-2.ensures in
    let rows : next.rows ≡ length g.matrix.columns = subst (λ x. IfOk x (λ m. m.rows ≡ length g.matrix.columns)) is c.next_theta.ensures.rows in
    let count : length next.columns ≡ length g.matrix.columns = subst (λ x. IfOk x (λ m. length m.columns ≡ length g.matrix.columns)) is c.next_theta.ensures.count in
    let ring : next.ring ≡ g.matrix.ring = subst (λ x. IfOk x (λ m. m.ring ≡ g.matrix.ring)) is c.next_theta.ensures.ring in
    let kept : c.next_theta.new.thetas.items ≡ c.loop-g.thetas.items ++ c.loop-g.theta ∷ [] = subst (λ x. OnOk x (c.next_theta.new.thetas.items ≡ c.loop-g.thetas.items ++ c.loop-g.theta ∷ [])) is c.next_theta.ensures.kept in
    let grown : matrices_meaning r c.next_theta.new.thetas.items ≡ done ++ T ∷ [] = ap (matrices_meaning r) kept ∙ map-append (matrix_meaning r) c.loop-g.thetas.items (c.loop-g.theta ∷ []) in
    let step = told g.matrix.ring r row.0 side c.lift_task-in-loop-g.result (suc c.loop-g.number) (c.lift_task-in-loop-g.ensures ∙ ap (λ n. record { side = side; name = Lift; number = n }) number) c.loop-g.theta g
    c.next_theta.result (Ok next) c.loop-g.work c.next_theta.new.work c.in_ok-theta-2.ensures c.next_theta.ensures.follows in
    record {
      ring = ring ∙ row.0;
      rings = subst (AreMatricesOver r) (sym kept) (over_more r c.loop-g.thetas.items c.loop-g.theta h.rings h.ring);
      square = rows ∙ sym count;
      row = subst (λ i. AreInARow r (length next.columns) (drop i gs)) index (subst (λ n. AreInARow r n (drop (suc c.loop-g.g-index) gs)) (sym count) row.2);
      first = subst (λ ms. Begins unit (ms ++ matrix_meaning r next ∷ [])) (sym grown) (still_begins unit (done ++ T ∷ []) (matrix_meaning r next ∷ []) h.first);
      run = subst (λ ms. Rest (lift_step r side) ms (matrix_meaning r next) (suc (c.loop-g.number + 1)) (graphs_meaning r (drop (c.loop-g.g-index + 1) gs)) c.next_theta.new.work all) (sym grown)
          (subst (λ n. Rest (lift_step r side) (done ++ T ∷ []) (matrix_meaning r next) (suc n) (graphs_meaning r (drop (c.loop-g.g-index + 1) gs)) c.next_theta.new.work all) (sym number)
          (subst (λ i. Rest (lift_step r side) (done ++ T ∷ []) (matrix_meaning r next) (suc (suc c.loop-g.number)) (graphs_meaning r (drop i gs)) c.next_theta.new.work all) index
          (more (lift_step r side) (step_spends r side) done T (suc c.loop-g.number) (graph_meaning r g) (graphs_meaning r (drop (suc c.loop-g.g-index) gs)) c.loop-g.work c.next_theta.new.work all
          (subst (λ xs. Rest (lift_step r side) done T (suc c.loop-g.number) (graphs_meaning r xs) c.loop-g.work all) here h.run) (matrix_meaning r next) step)));
      spent = (let a = step_spends r side (suc c.loop-g.number) T (graph_meaning r g) c.loop-g.work in let b = ap (λ (d : Ending Unanswered (MatrixOf r)). d.left) step in let s = h.spent in omega (arith, a, b, s));
      count = (let n = h.count in omega (arith, n));
      complete = λ later. h.complete (subst AreGraphs (sym here) (c.next_theta.ensures.complete, subst (λ i. AreGraphs (drop i gs)) (sym index) later));
    }

pub returns-clause-follows : goal.returns-clause-follows
returns-clause-follows c =
    let r = c.args.ring in
    let side = c.args.side in
    let gs : List GraphValue = map (λ g. g.now) c.args.graphs.now in
    let all = lifting r side 1 (matrix_unit r.prime r.vars 1) (graphs_meaning r gs) c.args.work.now in
    let h = c.loop-g.invariant in
    let kept : c.keep.new.matrices.items ≡ c.loop-g.thetas.items ++ c.loop-g.theta ∷ [] =
    subst (λ x. OnOk x (c.keep.new.matrices.items ≡ c.loop-g.thetas.items ++ c.loop-g.theta ∷ [])) (told_ok c.lift_task-2.result c.keep.result _ c.in_ok-in_task.ensures) c.keep.ensures.items in
    sym (subst (λ xs. Rest (lift_step r side) (matrices_meaning r c.loop-g.thetas.items) (matrix_meaning r c.loop-g.theta) (suc c.loop-g.number) (graphs_meaning r xs) c.loop-g.work all)
    (ends (λ g. g.now) c.args.graphs.now c.loop-g.g-index c.loop-g-test.false) h.run)
    ∙ ap (λ ts. record { end = Ok (after_the_first ts); left = c.loop-g.work }) (sym (ap (matrices_meaning r) kept ∙ map-append (matrix_meaning r) c.loop-g.thetas.items (c.loop-g.theta ∷ [])))

pub returns-clause-first : goal.returns-clause-first
returns-clause-first c =
    let r = c.args.ring in
    let kept : c.keep.new.matrices.items ≡ c.loop-g.thetas.items ++ c.loop-g.theta ∷ [] =
    subst (λ x. OnOk x (c.keep.new.matrices.items ≡ c.loop-g.thetas.items ++ c.loop-g.theta ∷ [])) (told_ok c.lift_task-2.result c.keep.result _ c.in_ok-in_task.ensures) c.keep.ensures.items in
    subst (Begins (matrix_unit r.prime r.vars 1)) (sym (ap (matrices_meaning r) kept ∙ map-append (matrix_meaning r) c.loop-g.thetas.items (c.loop-g.theta ∷ []))) c.loop-g.invariant.first

pub returns-clause-rings : goal.returns-clause-rings
returns-clause-rings c =
    let r = c.args.ring in
    let h = c.loop-g.invariant in
    let kept : c.keep.new.matrices.items ≡ c.loop-g.thetas.items ++ c.loop-g.theta ∷ [] =
    subst (λ x. OnOk x (c.keep.new.matrices.items ≡ c.loop-g.thetas.items ++ c.loop-g.theta ∷ [])) (told_ok c.lift_task-2.result c.keep.result _ c.in_ok-in_task.ensures) c.keep.ensures.items in
    subst (AreMatricesOver r) (sym kept) (over_more r c.loop-g.thetas.items c.loop-g.theta h.rings h.ring)

pub returns-clause-lifts : goal.returns-clause-lifts
returns-clause-lifts c fs i ds R enough at =
    let r = c.args.ring in
    let gs : List GraphValue = map (λ g. g.now) c.args.graphs.now in
    let long = map_length (λ g. g.now) c.args.graphs.now in
    let complete = c.loop-g.invariant.complete (subst AreGraphs (sym (ends (λ g. g.now) c.args.graphs.now c.loop-g.g-index c.loop-g-test.false)) tt) in
    subst (λ n. IsFrobeniusLiftOf r.prime r.vars n ds (matrices_meaning r c.keep.new.matrices.items)) long
    (is_lift r fs i ds R c.args.side gs c.keep.new.matrices.items complete c.requires.row at (subst (λ n. n ≤ i) (sym long) enough) _ _ (returns-clause-follows c) (returns-clause-first c))
