use Rattle.std.proofs.Common.{ℕ, ◌-◌, ◌≡◌, Ok, Err, List, length, map, refl, sym, ap, ap₂, ◌∙◌, subst, arith}
use Rattle.fm_algebra.specs.PolynomialMatrices.{matrix_picked}
use Rattle.fm_poly.specs.declared.ring.Ring.{Ring}
use Rattle.fm_run.specs.declared.stop.Stop.TheVariants as stops
use Rattle.fm_run.specs.Runs.{Follows}
use Rattle.fm_run.proofs.Calls.{wanted}
use Rattle.fm_mat.specs.Columns.{AreNumbers}
use Rattle.fm_mat.specs.Matrices.{MatrixValue, columns_meaning, matrix_meaning}
use Rattle.fm_graphs.specs.Graphs.{MatrixOf, graph_run, lifted}
use Rattle.fm_graphs.specs.Trims.{generating}
use Rattle.fm_graphs.proofs.Spending.{generating_spends}
use Rattle.fm_syz.specs.GraphValues.{GraphValue, graph_meaning}
use Rattle.fm_syz.specs.GeneratorValues.{GeneratorsValue, generators_meaning, AreGenerators}
use Rattle.fm_syz.proofs.Numbering.{rising_numbers}
use Rattle.fm_syz.proofs.GeneratingRuns.{run_at, trim_stops, trim_wants, found_is, x_is, graph_stops, lift_stops, all_end}
use Rattle.fm_syz.proofs.GeneratorFacts.{they_generate}
use Rattle.fm_syz.proofs.generating.generators_of.Goals as goal

pub returns-in_err-parts-clause-follows : goal.returns-in_err-parts-clause-follows
returns-in_err-parts-clause-follows c =
    let g = c.args.g.now in
    let r = g.matrix.ring in
    let b = length g.matrix.columns - c.args.a in
    wanted (generators_meaning r g) c.from_residual.result c.args.work.now c.args.work.now (generating r c.args.a b (graph_meaning r g) c.args.work.now) c.from_residual.ensures (omega arith)
    (generating_spends r c.args.a b (graph_meaning r g) c.args.work.now)

pub returns-in-Err-clause-follows : goal.returns-in-Err-clause-follows
returns-in-Err-clause-follows c =
    let g = c.args.g.now in
    let r = g.matrix.ring in
    let b = length g.matrix.columns - c.args.a in
    let G = graph_meaning r g in
    trim_stops r c.args.a b G (generators_meaning r g) c.args.work.now c.trim_nonzero.new.work c.in-Err.stop
    (subst (λ d. Follows {X = List ℕ} (λ ks. ks) (Err c.in-Err.stop) c.args.work.now c.trim_nonzero.new.work d) (run_at r c.args.a b G c.in_ok-parts.parts.upper c.in_ok-parts.ensures.upper c.args.work.now)
    (c.in-Err.ensures.follows r c.in_ok-parts.ensures.upper_ring))

pub returns-then-a-len-gt4294967295-clause-follows : goal.returns-then-a-len-gt4294967295-clause-follows
returns-then-a-len-gt4294967295-clause-follows c =
    let g = c.args.g.now in
    let r = g.matrix.ring in
    let b = length g.matrix.columns - c.args.a in
    let G = graph_meaning r g in
    let e = sym (run_at r c.args.a b G c.in_ok-parts.parts.upper c.in_ok-parts.ensures.upper c.args.work.now) ∙ c.in-Ok.ensures.follows r c.in_ok-parts.ensures.upper_ring in
    trim_wants r c.args.a b G c.args.work.now c.trim_nonzero.new.work c.in-Ok.kept.items e (generators_meaning r g) (Err stops.Memory) (refl, refl)

pub pick-requires-clause-numbers : goal.pick-requires-clause-numbers
pick-requires-clause-numbers c =
    subst (AreNumbers (length c.in_ok-parts.parts.upper.columns)) (sym c.deref.ensures.value) (rising_numbers 0 (length c.in_ok-parts.parts.upper.columns) c.in-Ok.kept.items c.in-Ok.ensures.rising)

pub pick-requires-2-clause-numbers : goal.pick-requires-2-clause-numbers
pick-requires-2-clause-numbers c =
    subst (λ n. AreNumbers n c.deref-2.result.now) (sym c.in_ok-parts.ensures.same_count)
    (subst (AreNumbers (length c.in_ok-parts.parts.upper.columns)) (sym c.deref-2.ensures.value) (rising_numbers 0 (length c.in_ok-parts.parts.upper.columns) c.in-Ok.kept.items c.in-Ok.ensures.rising))

pub returns-in_err-found-clause-follows : goal.returns-in_err-found-clause-follows
returns-in_err-found-clause-follows c =
    let g = c.args.g.now in
    let r = g.matrix.ring in
    let b = length g.matrix.columns - c.args.a in
    let G = graph_meaning r g in
    let e = sym (run_at r c.args.a b G c.in_ok-parts.parts.upper c.in_ok-parts.ensures.upper c.args.work.now) ∙ c.in-Ok.ensures.follows r c.in_ok-parts.ensures.upper_ring in
    trim_wants r c.args.a b G c.args.work.now c.trim_nonzero.new.work c.in-Ok.kept.items e (generators_meaning r g) c.from_residual-in_err-found.result c.from_residual-in_err-found.ensures

pub returns-in_err-x-clause-follows : goal.returns-in_err-x-clause-follows
returns-in_err-x-clause-follows c =
    let g = c.args.g.now in
    let r = g.matrix.ring in
    let b = length g.matrix.columns - c.args.a in
    let G = graph_meaning r g in
    let e = sym (run_at r c.args.a b G c.in_ok-parts.parts.upper c.in_ok-parts.ensures.upper c.args.work.now) ∙ c.in-Ok.ensures.follows r c.in_ok-parts.ensures.upper_ring in
    trim_wants r c.args.a b G c.args.work.now c.trim_nonzero.new.work c.in-Ok.kept.items e (generators_meaning r g) c.from_residual-in_err-x.result c.from_residual-in_err-x.ensures

pub returns-in-Err-graph_of-clause-follows : goal.returns-in-Err-graph_of-clause-follows
returns-in-Err-graph_of-clause-follows c =
    let g = c.args.g.now in
    let r = g.matrix.ring in
    let a = c.args.a in
    let b = length g.matrix.columns - a in
    let G = graph_meaning r g in
    let units = c.args.work.now in
    let mid = c.trim_nonzero.new.work in
    let ks = c.in-Ok.kept.items in
    let found = c.in_ok-found.found in
    let x = c.in_ok-x.x in
    let e = sym (run_at r a b G c.in_ok-parts.parts.upper c.in_ok-parts.ensures.upper units) ∙ c.in-Ok.ensures.follows r c.in_ok-parts.ensures.upper_ring in
    let ring = c.in_ok-found.ensures.ring ∙ c.in_ok-parts.ensures.upper_ring in
    let M = found_is r a b G units mid ks e (matrix_meaning r found) (c.in_ok-found.ensures.value r c.in_ok-parts.ensures.upper_ring
    ∙ ap₂ (λ A js. matrix_picked r.prime r.vars A (map (λ j. j - 1) js)) c.in_ok-parts.ensures.upper c.deref.ensures.value) in
    let X = x_is r a b G units mid ks e (matrix_meaning r x) (c.in_ok-x.ensures.value r c.in_ok-parts.ensures.lower_ring
    ∙ ap₂ (λ A js. matrix_picked r.prime r.vars A (map (λ j. j - 1) js)) c.in_ok-parts.ensures.lower c.deref-2.ensures.value) in
    graph_stops r a b G units mid ks e (generators_meaning r g) (matrix_meaning r found) (matrix_meaning r x) M X (λ (h : GraphValue). graph_meaning r h) c.in-Err-graph_of.stop c.graph_of.new.work
    (subst (λ (q : Ring). Follows {X = GraphValue} (graph_meaning q) (Err c.in-Err-graph_of.stop) mid c.graph_of.new.work (graph_run q (matrix_meaning q found) mid)) ring c.in-Err-graph_of.ensures.follows)

pub returns-in-Err-lift_columns-clause-follows : goal.returns-in-Err-lift_columns-clause-follows
returns-in-Err-lift_columns-clause-follows c =
    let g = c.args.g.now in
    let r = g.matrix.ring in
    let a = c.args.a in
    let b = length g.matrix.columns - a in
    let G = graph_meaning r g in
    let units = c.args.work.now in
    let mid = c.trim_nonzero.new.work in
    let ks = c.in-Ok.kept.items in
    let found = c.in_ok-found.found in
    let x = c.in_ok-x.x in
    let h : GraphValue = c.in-Ok-graph_of.graph in
    let next = c.graph_of.new.work in
    let new = c.lift_columns.new.work in
    let e = sym (run_at r a b G c.in_ok-parts.parts.upper c.in_ok-parts.ensures.upper units) ∙ c.in-Ok.ensures.follows r c.in_ok-parts.ensures.upper_ring in
    let ring = c.in_ok-found.ensures.ring ∙ c.in_ok-parts.ensures.upper_ring in
    let ring' = ap (λ (m : MatrixValue). m.ring) c.in-Ok-graph_of.ensures.matrix ∙ ring in
    let M = found_is r a b G units mid ks e (matrix_meaning r found) (c.in_ok-found.ensures.value r c.in_ok-parts.ensures.upper_ring
    ∙ ap₂ (λ A js. matrix_picked r.prime r.vars A (map (λ j. j - 1) js)) c.in_ok-parts.ensures.upper c.deref.ensures.value) in
    let X = x_is r a b G units mid ks e (matrix_meaning r x) (c.in_ok-x.ensures.value r c.in_ok-parts.ensures.lower_ring
    ∙ ap₂ (λ A js. matrix_picked r.prime r.vars A (map (λ j. j - 1) js)) c.in_ok-parts.ensures.lower c.deref-2.ensures.value) in
    let made = subst (λ (q : Ring). graph_run q (matrix_meaning q found) mid ≡ record { end = Ok (graph_meaning q h); left = next }) ring c.in-Ok-graph_of.ensures.follows in
    lift_stops r a b G units mid ks e (generators_meaning r g) (matrix_meaning r found) (matrix_meaning r x) M X (graph_meaning r h) next made (λ (m : MatrixValue). matrix_meaning r m) c.in-Err-lift_columns.stop new
    (subst (λ (A : MatrixOf r). Follows {X = MatrixValue} (matrix_meaning r) (Err c.in-Err-lift_columns.stop) next new (lifted r (graph_meaning r h) A.columns next)) c.in_ok-parts.ensures.upper
    (subst (λ (q : Ring). Follows {X = MatrixValue} (matrix_meaning q) (Err c.in-Err-lift_columns.stop) next new (lifted q (graph_meaning q h) (columns_meaning q c.in_ok-parts.parts.upper.columns) next)) ring' c.in-Err-lift_columns.ensures.follows))

pub returns-clause-follows : goal.returns-clause-follows
returns-clause-follows c =
    let g = c.args.g.now in
    let r = g.matrix.ring in
    let a = c.args.a in
    let b = length g.matrix.columns - a in
    let G = graph_meaning r g in
    let units = c.args.work.now in
    let mid = c.trim_nonzero.new.work in
    let ks = c.in-Ok.kept.items in
    let found = c.in_ok-found.found in
    let x = c.in_ok-x.x in
    let w = c.in-Ok-lift_columns.w in
    let h : GraphValue = c.in-Ok-graph_of.graph in
    let next = c.graph_of.new.work in
    let new = c.lift_columns.new.work in
    let e = sym (run_at r a b G c.in_ok-parts.parts.upper c.in_ok-parts.ensures.upper units) ∙ c.in-Ok.ensures.follows r c.in_ok-parts.ensures.upper_ring in
    let ring = c.in_ok-found.ensures.ring ∙ c.in_ok-parts.ensures.upper_ring in
    let ring' = ap (λ (m : MatrixValue). m.ring) c.in-Ok-graph_of.ensures.matrix ∙ ring in
    let M = found_is r a b G units mid ks e (matrix_meaning r found) (c.in_ok-found.ensures.value r c.in_ok-parts.ensures.upper_ring
    ∙ ap₂ (λ A js. matrix_picked r.prime r.vars A (map (λ j. j - 1) js)) c.in_ok-parts.ensures.upper c.deref.ensures.value) in
    let X = x_is r a b G units mid ks e (matrix_meaning r x) (c.in_ok-x.ensures.value r c.in_ok-parts.ensures.lower_ring
    ∙ ap₂ (λ A js. matrix_picked r.prime r.vars A (map (λ j. j - 1) js)) c.in_ok-parts.ensures.lower c.deref-2.ensures.value) in
    let made = subst (λ (q : Ring). graph_run q (matrix_meaning q found) mid ≡ record { end = Ok (graph_meaning q h); left = next }) ring c.in-Ok-graph_of.ensures.follows in
    all_end r a b G units mid ks e (generators_meaning r g) (matrix_meaning r found) (matrix_meaning r x) M X (graph_meaning r h) next made (matrix_meaning r w) new
    (subst (λ (A : MatrixOf r). lifted r (graph_meaning r h) A.columns next ≡ record { end = Ok (matrix_meaning r w); left = new }) c.in_ok-parts.ensures.upper
    (subst (λ (q : Ring). lifted q (graph_meaning q h) (columns_meaning q c.in_ok-parts.parts.upper.columns) next ≡ record { end = Ok (matrix_meaning q w); left = new }) ring' c.in-Ok-lift_columns.ensures.follows))
    c.new.result (ap (generators_meaning r g) c.new.ensures
    ∙ (λ i. record { whole = G; found = matrix_meaning r (c.in-Ok-graph_of.ensures.matrix i); x = matrix_meaning r x; w = matrix_meaning r w; graph = graph_meaning r h }))

pub returns-clause-generate : goal.returns-clause-generate
returns-clause-generate c =
    let g = c.args.g.now in
    let r = g.matrix.ring in
    let h : GraphValue = c.in-Ok-graph_of.graph in
    let x = c.in_ok-x.x in
    let w = c.in-Ok-lift_columns.w in
    let y : GeneratorsValue = record { graph = h; x = x; w = w } in
    let graph_ring = ap (λ (m : MatrixValue). m.ring) c.in-Ok-graph_of.ensures.matrix ∙ c.in_ok-found.ensures.ring ∙ c.in_ok-parts.ensures.upper_ring in
    subst (AreGenerators g) (sym c.new.ensures)
    (they_generate g c.args.a y c.in_ok-parts.ensures.complete c.requires.part graph_ring (c.in_ok-x.ensures.ring ∙ c.in_ok-parts.ensures.lower_ring) (c.in-Ok-lift_columns.ensures.ring ∙ graph_ring)
    (ap (λ (m : MatrixValue). m.rows) c.in-Ok-graph_of.ensures.matrix ∙ c.in_ok-found.ensures.rows ∙ ap (λ (A : MatrixOf r). A.rows) c.in_ok-parts.ensures.upper)
    (c.in_ok-x.ensures.rows ∙ ap (λ (A : MatrixOf r). A.rows) c.in_ok-parts.ensures.lower) c.args.work.now c.lift_columns.new.work
    (returns-clause-follows c ∙ ap (λ (z : GeneratorsValue). record { end = Ok (generators_meaning r g z); left = c.lift_columns.new.work }) c.new.ensures))
