use Rattle.std.proofs.Common.{ℕ, suc, ◌≡◌, ◌≤◌, ◌+◌, ◌∷◌, ◌++◌, [], List, IfOk, OnOk, Ok, Err, length, map, drop, refl, sym, ap, ◌∙◌, subst, subst₂, arith}
use Rattle.std.proofs.lemmas.List.{map-append}
use Rattle.fm_algebra.specs.PolynomialMatrices.{matrix_unit}
use Rattle.fm_mat.proofs.Steps.{map_length}
use Rattle.fm_lift.proofs.LiftMeaning.{is_identity}
use Rattle.fm_mat.specs.Matrices.{MatrixValue, matrix_meaning}
use Rattle.fm_run.specs.declared.task.Side.TheVariants.{Alone}
use Rattle.fm_run.specs.declared.task.Name.TheVariants.{Lambda}
use Rattle.fm_run.specs.Runs.{Ending}
use Rattle.fm_graphs.specs.Graphs.{MatrixOf}
use Rattle.fm_syz.specs.GraphValues.{GraphValue, graph_meaning}
use Rattle.fm_plan.specs.Queries.{over_identity}
use Rattle.fm_plan.specs.Tasks.{Unanswered}
use Rattle.fm_plan.specs.Following.{unanswered_by}
use Rattle.fm_lift.specs.Lifts.{AreAligned, AreGraphs, AreMatricesOver, after_the_first, graphs_meaning, matrices_meaning}
use Rattle.fm_run.proofs.Parts.{failed}
use Rattle.fm_lift.proofs.Calls.{plan_wants, told_ok, told_memory}
use Rattle.fm_lift.proofs.Chains.{Rest, chained_spends, begun, more, stops, rest_left}
use Rattle.fm_lift.proofs.LiftChains.{Begins, still_begins, dropped, ends, over_more}
use Rattle.fm_lift.proofs.IdentityChains.{pairs, identity_step, identity_spends, identity_chained, identity_told}
use Rattle.fm_lift.proofs.identity.over_identity.Goals as goal

pub returns-in_err-lambda-clause-follows : goal.returns-in_err-lambda-clause-follows
returns-in_err-lambda-clause-follows c =
    let r = c.args.ring in
    let ds : List MatrixValue = map (λ d. d.now) c.args.differentials.now in
    let gs : List GraphValue = map (λ g. g.now) c.args.graphs.now in
    let unit = matrix_unit r.prime r.vars 1 in
    let units = c.args.work.now in
    let all = over_identity r 1 unit (matrices_meaning r ds) (graphs_meaning r gs) units in
    failed _ unanswered_by c.from_residual.result c.in_err-lambda.field-0.0 units units all c.from_residual.ensures
    (plan_wants c.in_err-lambda.field-0.0 units units all (told_memory c.lambda_task.result c.one.result _ c.in_err-lambda.ensures c.one.ensures.memory) (omega arith)
    (subst (λ (f : ℕ → Ending Unanswered (List (MatrixOf r))). (f units).left ≤ units) (sym (identity_chained r ds gs 1 unit)) (chained_spends (identity_step r) (identity_spends r) (pairs r ds gs) 1 unit units)))

pub loop-k-init : goal.loop-k-init
loop-k-init c =
    let r = c.args.ring in
    let ds : List MatrixValue = map (λ d. d.now) c.args.differentials.now in
    let gs : List GraphValue = map (λ g. g.now) c.args.graphs.now in
    let unit = matrix_unit r.prime r.vars 1 in
    let units = c.args.work.now in
    let all = over_identity r 1 unit (matrices_meaning r ds) (graphs_meaning r gs) units in
    let lambda = c.in_ok-lambda.lambda in
    let is = told_ok c.lambda_task.result c.one.result lambda c.in_ok-lambda.ensures in
    let ring : lambda.ring ≡ r = subst (λ x. IfOk x (λ m. m.ring ≡ r)) is c.one.ensures.ring in
    let rows : lambda.rows ≡ 1 = subst (λ x. IfOk x (λ m. m.rows ≡ 1)) is c.one.ensures.rows in
    let count : length lambda.columns ≡ 1 = subst (λ x. IfOk x (λ m. length m.columns ≡ 1)) is c.one.ensures.count in
    let value : matrix_meaning r lambda ≡ unit = subst (λ x. IfOk x (λ m. matrix_meaning r m ≡ unit)) is c.one.ensures.value in
    let empty : matrices_meaning r c.new-lambdas.result.items ≡ [] = ap (matrices_meaning r) c.new-lambdas.ensures.items in
    record {
      ring = ring;
      rings = subst (AreMatricesOver r) (sym c.new-lambdas.ensures.items) tt;
      row = subst₂ (λ m n. AreAligned r m n ds gs) (sym rows) (sym count) c.requires.row;
      first = subst (λ ms. Begins unit (ms ++ matrix_meaning r lambda ∷ [])) (sym empty) (ap (λ m. m ∷ []) value);
      run = subst (λ ms. Rest (identity_step r) ms (matrix_meaning r lambda) 1 (pairs r ds gs) units all) (sym empty)
          (subst (λ m. Rest (identity_step r) [] m 1 (pairs r ds gs) units all) (sym value)
          (subst (λ (f : ℕ → Ending Unanswered (List (MatrixOf r))). Rest (identity_step r) [] unit 1 (pairs r ds gs) units (f units)) (sym (identity_chained r ds gs 1 unit))
          (begun (identity_step r) (identity_spends r) unit 1 (pairs r ds gs) units)));
      spent = omega arith;
      count = refl;
      complete = λ whole. whole;
    }

pub returns-in_err-lambda-2-clause-follows : goal.returns-in_err-lambda-2-clause-follows
returns-in_err-lambda-2-clause-follows c =
    let r = c.args.ring in
    let ds : List MatrixValue = map (λ d. d.now) c.args.differentials.now in
    let gs : List GraphValue = map (λ g. g.now) c.args.graphs.now in
    let all = over_identity r 1 (matrix_unit r.prime r.vars 1) (matrices_meaning r ds) (graphs_meaning r gs) c.args.work.now in
    let h = c.loop-k.invariant in
    let k = c.loop-k.k in
    let d = c.index-differentials-k.result.now in
    let g = c.index-graphs-k.result.now in
    let here_d = dropped (λ d. d.now) c.args.differentials.now k c.index-differentials-k.result c.index-differentials-k.is (let a = c.loop-k-test.true in omega (arith, a, c.requires.count)) in
    let here_g = dropped (λ g. g.now) c.args.graphs.now k c.index-graphs-k.result c.index-graphs-k.is (let a = c.loop-k-test.true in omega (arith, a)) in
    let L = c.loop-k.lambda in
    let row : AreAligned r L.rows (length L.columns) (d ∷ drop (suc k) ds) (g ∷ drop (suc k) gs) = subst₂ (AreAligned r L.rows (length L.columns)) here_d here_g h.row in
    let done = matrices_meaning r c.loop-k.lambdas.items in
    let s = c.in_err-lambda-2.field-0.0 in
    let number : c.loop-k.number + 1 ≡ suc c.loop-k.number = omega arith in
    failed _ unanswered_by c.from_residual-in_err-lambda-2.result s c.args.work.now c.next_lambda.new.work all c.from_residual-in_err-lambda-2.ensures
    (stops (identity_step r) (identity_spends r) done (matrix_meaning r L) (suc c.loop-k.number) (matrix_meaning r d, graph_meaning r g) (pairs r (drop (suc k) ds) (drop (suc k) gs)) c.loop-k.work c.next_lambda.new.work all
    (subst₂ (λ xs ys. Rest (identity_step r) done (matrix_meaning r L) (suc c.loop-k.number) (pairs r xs ys) c.loop-k.work all) here_d here_g h.run)
    (matrix_meaning r) (λ (ts : List (MatrixOf r)). ts) unanswered_by s c.args.work.now h.spent
    (identity_told g.matrix.ring r row.2 c.lambda_task-in-loop-k.result (suc c.loop-k.number) (c.lambda_task-in-loop-k.ensures ∙ ap (λ n. record { side = Alone; name = Lambda; number = n }) number) L d g
    c.next_lambda.result (Err s) c.loop-k.work c.next_lambda.new.work c.in_err-lambda-2.ensures c.next_lambda.ensures.follows))

pub loop-k-preserved : goal.loop-k-preserved
loop-k-preserved c =
    let r = c.args.ring in
    let ds : List MatrixValue = map (λ d. d.now) c.args.differentials.now in
    let gs : List GraphValue = map (λ g. g.now) c.args.graphs.now in
    let unit = matrix_unit r.prime r.vars 1 in
    let all = over_identity r 1 unit (matrices_meaning r ds) (graphs_meaning r gs) c.args.work.now in
    let h = c.loop-k.invariant in
    let k = c.loop-k.k in
    let d = c.index-differentials-k.result.now in
    let g = c.index-graphs-k.result.now in
    let here_d = dropped (λ d. d.now) c.args.differentials.now k c.index-differentials-k.result c.index-differentials-k.is (let a = c.loop-k-test.true in omega (arith, a, c.requires.count)) in
    let here_g = dropped (λ g. g.now) c.args.graphs.now k c.index-graphs-k.result c.index-graphs-k.is (let a = c.loop-k-test.true in omega (arith, a)) in
    let L = c.loop-k.lambda in
    let row : AreAligned r L.rows (length L.columns) (d ∷ drop (suc k) ds) (g ∷ drop (suc k) gs) = subst₂ (AreAligned r L.rows (length L.columns)) here_d here_g h.row in
    let done = matrices_meaning r c.loop-k.lambdas.items in
    let T = matrix_meaning r L in
    let next = c.in_ok-lambda-2.lambda in
    let number : c.loop-k.number + 1 ≡ suc c.loop-k.number = omega arith in
    let index : suc k ≡ k + 1 = omega arith in
    let is = told_ok c.lambda_task-in-loop-k.result c.next_lambda.result next c.in_ok-lambda-2.ensures in
    let rows : next.rows ≡ length g.matrix.columns = subst (λ x. IfOk x (λ m. m.rows ≡ length g.matrix.columns)) is c.next_lambda.ensures.rows in
    let count : length next.columns ≡ length d.columns = subst (λ x. IfOk x (λ m. length m.columns ≡ length d.columns)) is c.next_lambda.ensures.count in
    let ring : next.ring ≡ g.matrix.ring = subst (λ x. IfOk x (λ m. m.ring ≡ g.matrix.ring)) is c.next_lambda.ensures.ring in
    let kept : c.next_lambda.new.lambdas.items ≡ c.loop-k.lambdas.items ++ L ∷ [] = subst (λ x. OnOk x (c.next_lambda.new.lambdas.items ≡ c.loop-k.lambdas.items ++ L ∷ [])) is c.next_lambda.ensures.kept in
    let grown : matrices_meaning r c.next_lambda.new.lambdas.items ≡ done ++ T ∷ [] = ap (matrices_meaning r) kept ∙ map-append (matrix_meaning r) c.loop-k.lambdas.items (L ∷ []) in
    let step = identity_told g.matrix.ring r row.2 c.lambda_task-in-loop-k.result (suc c.loop-k.number) (c.lambda_task-in-loop-k.ensures ∙ ap (λ n. record { side = Alone; name = Lambda; number = n }) number) L d g
    c.next_lambda.result (Ok next) c.loop-k.work c.next_lambda.new.work c.in_ok-lambda-2.ensures c.next_lambda.ensures.follows in
    record {
      ring = ring ∙ row.2;
      rings = subst (AreMatricesOver r) (sym kept) (over_more r c.loop-k.lambdas.items L h.rings h.ring);
      row = subst (λ i. AreAligned r next.rows (length next.columns) (drop i ds) (drop i gs)) index
          (subst₂ (λ m n. AreAligned r m n (drop (suc k) ds) (drop (suc k) gs)) (sym rows) (sym count) row.4);
      first = subst (λ ms. Begins unit (ms ++ matrix_meaning r next ∷ [])) (sym grown) (still_begins unit (done ++ T ∷ []) (matrix_meaning r next ∷ []) h.first);
      run = subst (λ ms. Rest (identity_step r) ms (matrix_meaning r next) (suc (c.loop-k.number + 1)) (pairs r (drop (k + 1) ds) (drop (k + 1) gs)) c.next_lambda.new.work all) (sym grown)
          (subst (λ n. Rest (identity_step r) (done ++ T ∷ []) (matrix_meaning r next) (suc n) (pairs r (drop (k + 1) ds) (drop (k + 1) gs)) c.next_lambda.new.work all) (sym number)
          (subst (λ i. Rest (identity_step r) (done ++ T ∷ []) (matrix_meaning r next) (suc (suc c.loop-k.number)) (pairs r (drop i ds) (drop i gs)) c.next_lambda.new.work all) index
          (more (identity_step r) (identity_spends r) done T (suc c.loop-k.number) (matrix_meaning r d, graph_meaning r g) (pairs r (drop (suc k) ds) (drop (suc k) gs)) c.loop-k.work c.next_lambda.new.work all
          (subst₂ (λ xs ys. Rest (identity_step r) done T (suc c.loop-k.number) (pairs r xs ys) c.loop-k.work all) here_d here_g h.run) (matrix_meaning r next) step)));
      spent = (let a = identity_spends r (suc c.loop-k.number) T (matrix_meaning r d, graph_meaning r g) c.loop-k.work in let b = ap (λ (x : Ending Unanswered (MatrixOf r)). x.left) step in let s = h.spent in omega (arith, a, b, s));
      count = (let n = h.count in omega (arith, n));
      complete = λ later. h.complete (subst AreGraphs (sym here_g) (c.next_lambda.ensures.complete, subst (λ i. AreGraphs (drop i gs)) (sym index) later));
    }

pub returns-clause-follows : goal.returns-clause-follows
returns-clause-follows c =
    let r = c.args.ring in
    let ds : List MatrixValue = map (λ d. d.now) c.args.differentials.now in
    let gs : List GraphValue = map (λ g. g.now) c.args.graphs.now in
    let all = over_identity r 1 (matrix_unit r.prime r.vars 1) (matrices_meaning r ds) (graphs_meaning r gs) c.args.work.now in
    let h = c.loop-k.invariant in
    let L = c.loop-k.lambda in
    let kept : c.keep.new.matrices.items ≡ c.loop-k.lambdas.items ++ L ∷ [] =
    subst (λ x. OnOk x (c.keep.new.matrices.items ≡ c.loop-k.lambdas.items ++ L ∷ [])) (told_ok c.lambda_task-2.result c.keep.result _ c.in_ok-in_task.ensures) c.keep.ensures.items in
    sym (subst (λ xs. Rest (identity_step r) (matrices_meaning r c.loop-k.lambdas.items) (matrix_meaning r L) (suc c.loop-k.number) (pairs r xs (drop c.loop-k.k gs)) c.loop-k.work all)
    (ends (λ d. d.now) c.args.differentials.now c.loop-k.k (let a = c.loop-k-test.false in omega (arith, a, c.requires.count))) h.run)
    ∙ ap (λ ts. record { end = Ok (after_the_first ts); left = c.loop-k.work }) (sym (ap (matrices_meaning r) kept ∙ map-append (matrix_meaning r) c.loop-k.lambdas.items (L ∷ [])))

pub returns-clause-first : goal.returns-clause-first
returns-clause-first c =
    let r = c.args.ring in
    let L = c.loop-k.lambda in
    let kept : c.keep.new.matrices.items ≡ c.loop-k.lambdas.items ++ L ∷ [] =
    subst (λ x. OnOk x (c.keep.new.matrices.items ≡ c.loop-k.lambdas.items ++ L ∷ [])) (told_ok c.lambda_task-2.result c.keep.result _ c.in_ok-in_task.ensures) c.keep.ensures.items in
    subst (Begins (matrix_unit r.prime r.vars 1)) (sym (ap (matrices_meaning r) kept ∙ map-append (matrix_meaning r) c.loop-k.lambdas.items (L ∷ []))) c.loop-k.invariant.first

pub returns-clause-rings : goal.returns-clause-rings
returns-clause-rings c =
    let r = c.args.ring in
    let h = c.loop-k.invariant in
    let L = c.loop-k.lambda in
    let kept : c.keep.new.matrices.items ≡ c.loop-k.lambdas.items ++ L ∷ [] =
    subst (λ x. OnOk x (c.keep.new.matrices.items ≡ c.loop-k.lambdas.items ++ L ∷ [])) (told_ok c.lambda_task-2.result c.keep.result _ c.in_ok-in_task.ensures) c.keep.ensures.items in
    subst (AreMatricesOver r) (sym kept) (over_more r c.loop-k.lambdas.items L h.rings h.ring)

pub next_lambda-requires : goal.next_lambda-requires
next_lambda-requires c =
    let ds : List MatrixValue = map (λ d. d.now) c.args.differentials.now in
    let gs : List GraphValue = map (λ g. g.now) c.args.graphs.now in
    let k = c.loop-k.k in
    let here_d = dropped (λ d. d.now) c.args.differentials.now k c.index-differentials-k.result c.index-differentials-k.is (let a = c.loop-k-test.true in omega (arith, a, c.requires.count)) in
    let here_g = dropped (λ g. g.now) c.args.graphs.now k c.index-graphs-k.result c.index-graphs-k.is (let a = c.loop-k-test.true in omega (arith, a)) in
    let L = c.loop-k.lambda in
    let row : AreAligned c.args.ring L.rows (length L.columns) (c.index-differentials-k.result.now ∷ drop (suc k) ds) (c.index-graphs-k.result.now ∷ drop (suc k) gs) =
    subst₂ (AreAligned c.args.ring L.rows (length L.columns)) here_d here_g c.loop-k.invariant.row in
    record { ring = c.loop-k.invariant.ring ∙ sym row.2; rows = sym row.3; ring_d = row.0 ∙ sym row.2; inner = row.1 }

pub returns-in_err-in_task-clause-follows : goal.returns-in_err-in_task-clause-follows
returns-in_err-in_task-clause-follows c =
    let r = c.args.ring in
    let ds : List MatrixValue = map (λ d. d.now) c.args.differentials.now in
    let gs : List GraphValue = map (λ g. g.now) c.args.graphs.now in
    let all = over_identity r 1 (matrix_unit r.prime r.vars 1) (matrices_meaning r ds) (graphs_meaning r gs) c.args.work.now in
    let h = c.loop-k.invariant in
    let s = c.in_err-in_task.field-0.0 in
    failed _ unanswered_by c.from_residual-in_err-in_task.result s c.args.work.now c.loop-k.work all c.from_residual-in_err-in_task.ensures
    (plan_wants s c.args.work.now c.loop-k.work all (told_memory c.lambda_task-2.result c.keep.result s c.in_err-in_task.ensures c.keep.ensures.memory) h.spent
    (rest_left (identity_step r) (identity_spends r) (matrices_meaning r c.loop-k.lambdas.items) (matrix_meaning r c.loop-k.lambda) (suc c.loop-k.number) (pairs r (drop c.loop-k.k ds) (drop c.loop-k.k gs)) c.loop-k.work all h.run))

pub returns-clause-lifts : goal.returns-clause-lifts
returns-clause-lifts c fs gs i ds us D S contained long same at =
    let r = c.args.ring in
    let dv : List MatrixValue = map (λ d. d.now) c.args.differentials.now in
    let gv : List GraphValue = map (λ g. g.now) c.args.graphs.now in
    let count_d = map_length (λ d. d.now) c.args.differentials.now in
    let count_g = map_length (λ g. g.now) c.args.graphs.now in
    let complete = c.loop-k.invariant.complete (subst AreGraphs (sym (ends (λ g. g.now) c.args.graphs.now c.loop-k.k (let a = c.loop-k-test.false in omega (arith, a)))) tt) in
    is_identity r fs gs i ds us D S contained dv gv c.keep.new.matrices.items complete (count_d ∙ c.requires.count ∙ sym count_g) c.requires.row at (count_g ∙ long) same _ _ (returns-clause-follows c) (returns-clause-first c)
