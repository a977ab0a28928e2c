-- The sizes of what plans of one ideal find are within their units and what is asked with.
use Rattle.std.proofs.Common.{ℕ, zero, suc, ◌+◌, ◌==◌, ◌<◌, ◌≤◌, ◌≡◌, if◌then◌else◌, Bool, true, false, Option, Some, None, List, [], ◌∷◌, map, length, take, get_or, refl, ◌∙◌, subst, arith}
use Rattle.std.proofs.lemmas.List.{length-append, length-map}
use Rattle.std.proofs.lemmas.List.FromFn.{length-map-range_with_len}
use Rattle.fm_algebra.specs.Matrix.{column_matrix, scalar_matrix, table, listed}
use Rattle.fm_algebra.specs.Polynomials.{Polynomial, polynomial_negative}
use Rattle.fm_algebra.specs.PolynomialMatrices.{matrix_column, matrix_scalar, matrix_transpose}
use Rattle.fm_limit.specs.ResolvedIdeal.{matrix_at, row}
use Rattle.fm_limit.specs.Facts.{unit_column, diagonal_blocks}
use Rattle.fm_poly.specs.declared.ring.Ring.{Ring}
use Rattle.fm_complete.specs.Reductions.{Reduced}
use Rattle.fm_run.specs.Runs.{Halt, Spends, ready, ◌>>=◌}
use Rattle.fm_run.specs.Turns.{Turn, last}
use Rattle.fm_run.proofs.Ends.{Ends, same_value, no_value, bound}
use Rattle.fm_run.proofs.Counting.{same_left, same_end, left_of, LeadsLeft, turns_lead_left}
use Rattle.fm_run.proofs.Spending.{then_spends}
use Rattle.fm_complete.specs.Completions.{numbers}
use Rattle.fm_complete.proofs.Meanings.{length_components}
use Rattle.fm_graphs.specs.Bounds.{multiplied, twisted_matrix}
use Rattle.fm_graphs.specs.Listing.{VectorOf}
use Rattle.fm_graphs.specs.Graphs.{MatrixOf, Graph, Outside, Inside, all_inside, first_outside, width, graph_run, lift_run, is_inside, lower_block, solution, with_solution, lifted, inside_run, whole_run, twisted_graph}
use Rattle.fm_graphs.specs.Trims.{Preimage, preimage_run}
use Rattle.fm_graphs.specs.Sizes.{IsMatrixAtMost, IsInsideAtMost, IsPreimageAtMost}
use Rattle.fm_graphs.proofs.Spending.{preimage_spends, twist_spends}
use Rattle.fm_graphs.proofs.Sizes.{lifted_size, inside_size, whole_size, whole_spends, twisted_graph_width, multiplied_spends, IsPaid, inside_paid, whole_paid, inside_at_most, preimage_size}
use Rattle.fm_run.specs.declared.task.Side.TheVariants.{Alone}
use Rattle.fm_plan.specs.Tasks.{Refusal, refused, wrong_length, not_a_cocycle, task, out_of_units}
use Rattle.fm_plan.specs.Results.{Resolution, Ideal, Killed, killed_at, never_killed, differentials_of, stable_index}
use Rattle.fm_plan.specs.Base.{resolution_plan, ext_plan}
use Rattle.fm_plan.specs.Queries.{BaseOf, base_of, base_plan, stable_graph, allowed, cocycle_work, lift_at, solution_of, killed_or, unless, first_nonzero, stages, chain_graphs, Colons, Coloned, whole_at, stable_at, colon_settled, colon_next, colon_turn, coloned, power_run, before_power, inverted_of, Inverted, by_power, never_inverted, Found, found_zero, found_class, found_root, found_invert, found_support, found_resolution, found_ext, found_member, ask_zero, ask_class, ask_root, ask_invert, ask_support, ask_resolution, ask_ext, ask_member, plan}
use Rattle.fm_plan.specs.Sizes.{ArePreimagesAtMost, IsInvertedAtMost, IsKilledAtMost, HasSizes}
use Rattle.fm_plan.proofs.Tasks.{task_ends}
use Rattle.fm_plan.proofs.SizesOfBases.{AreGraphsAtMost, graphs_taken, graphs_next, preimages_more, row_at_most, graph_at_most, resolution_sizes, ext_sizes, base_of_sizes, base_sizes}
use Rattle.fm_run.specs.declared.task.Name.TheVariants as names

module _ (r : Ring) where
  -- the test of a class makes no unit
  pub cocycle_spends : (e : ℕ) (d : MatrixOf r) (z : VectorOf r) → Spends (cocycle_work r e d z)
  unfolding cocycle_work
  cocycle_spends e d z =
      let test = λ (B : MatrixOf r). ready (first_nonzero r 1 (get_or B.columns 0 [])) in
      then_spends (twisted_matrix r.prime r.vars e d) (λ D. multiplied r.prime r.vars (matrix_transpose r.prime r.vars D) (matrix_column r.prime r.vars z) >>= test) (twist_spends r e d)
      (λ D. then_spends (multiplied r.prime r.vars (matrix_transpose r.prime r.vars D) (matrix_column r.prime r.vars z)) test
      (multiplied_spends r (matrix_transpose r.prime r.vars D) (matrix_column r.prime r.vars z)) (λ B units. omega arith))

module _ (r : Ring) (most : ℕ) where
  -- ---- zero, root, resolution, ext and member
  pub zero_sizes : (i : ℕ) (fs : Ideal r) → i + 2 ≤ most → length fs ≤ most → (units left : ℕ) (x : Found r) → units < most → Ends (plan r (ask_zero i fs) units) x left → HasSizes r most x
  unfolding plan
  zero_sizes i fs degree generators units left x enough ends =
      let work = λ (b : BaseOf r). whole_run r (stable_graph r b) in
      let a = bound (base_plan r Alone i fs) (λ b. task Alone names.Whole 0 (work b) >>= λ y. ready (found_zero i fs b y)) units left x ends in
      let B = base_sizes r most Alone i fs degree generators units a.between a.value enough a.first in
      let d = bound (task Alone names.Whole 0 (work a.value)) (λ y. ready (found_zero i fs a.value y)) a.between left x a.second in
      subst (HasSizes r most) {x = found_zero i fs a.value d.value} (same_value (found_zero i fs a.value d.value) x d.between left d.second) (
        B.0,
        inside_at_most r most (stable_graph r a.value).matrix.rows d.value B.0.chain.stable.rows
            (whole_size r (stable_graph r a.value) a.between d.between d.value (task_ends Alone names.Whole 0 (work a.value) a.between d.between d.value d.first)),
      )

  pub root_sizes : (i : ℕ) (fs : Ideal r) → i + 2 ≤ most → length fs ≤ most → (units left : ℕ) (x : Found r) → units < most → Ends (plan r (ask_root i fs) units) x left → HasSizes r most x
  unfolding plan
  root_sizes i fs degree generators units left x enough ends =
      let a = bound (base_plan r Alone i fs) (λ b. ready (found_root i fs b)) units left x ends in
      subst (HasSizes r most) {x = found_root i fs a.value} (same_value (found_root i fs a.value) x a.between left a.second) (base_sizes r most Alone i fs degree generators units a.between a.value enough a.first).0

  pub resolution_sizes_found : (i : ℕ) (fs : Ideal r) → i + 2 ≤ most → length fs ≤ most → (units left : ℕ) (x : Found r) → units < most → Ends (plan r (ask_resolution i fs) units) x left → HasSizes r most x
  unfolding plan
  resolution_sizes_found i fs degree generators units left x enough ends =
      let a = bound (resolution_plan r Alone i fs) (λ y. ready (found_resolution i fs y)) units left x ends in
      subst (HasSizes r most) {x = found_resolution i fs a.value} (same_value (found_resolution i fs a.value) x a.between left a.second)
      (resolution_sizes r most Alone i fs degree generators units a.between a.value enough a.first).0

  pub ext_sizes_found : (i : ℕ) (fs : Ideal r) → i + 2 ≤ most → length fs ≤ most → (units left : ℕ) (x : Found r) → units < most → Ends (plan r (ask_ext i fs) units) x left → HasSizes r most x
  unfolding plan
  ext_sizes_found i fs degree generators units left x enough ends =
      let a = bound (resolution_plan r Alone i fs) (λ y. ext_plan r Alone i y >>= λ z. ready (found_ext i fs z)) units left x ends in
      let X = resolution_sizes r most Alone i fs degree generators units a.between a.value enough a.first in
      let d = bound (ext_plan r Alone i a.value) (λ z. ready (found_ext i fs z)) a.between left x a.second in
      subst (HasSizes r most) {x = found_ext i fs d.value} (same_value (found_ext i fs d.value) x d.between left d.second)
      (ext_sizes r most Alone i a.value (omega (arith, degree)) X.0 a.between d.between d.value X.1 d.first).0

  column_columns : (v : VectorOf r) → length (matrix_column r.prime r.vars v).columns ≡ 1
  unfolding matrix_column column_matrix
  column_columns v = refl

  pub member_sizes : (fs : Ideal r) (f : Polynomial r.prime r.vars) → 1 ≤ most → length fs ≤ most → (units left : ℕ) (x : Found r) → units < most → Ends (plan r (ask_member fs f) units) x left → HasSizes r most x
  unfolding plan
  member_sizes fs f one generators units left x enough ends =
      let A = row r.prime r.vars fs in
      let work = graph_run r A in
      let column = matrix_column r.prime r.vars (f ∷ []) in
      let a = bound (task Alone names.Resolve 1 work) (λ g. task Alone names.Member 0 (inside_run r column g) >>= λ y. ready (found_member fs f g y)) units left x ends in
      let d = bound (task Alone names.Member 0 (inside_run r column a.value)) (λ y. ready (found_member fs f a.value y)) a.between left x a.second in
      let c = column_columns (f ∷ []) in
      subst (HasSizes r most) {x = found_member fs f a.value d.value} (same_value (found_member fs f a.value d.value) x d.between left d.second) (
        (graph_at_most r most A (row_at_most r most fs one generators) units a.between a.value enough (task_ends Alone names.Resolve 1 work units a.between a.value a.first)).0,
        inside_at_most r most (length column.columns) d.value (omega (arith, c, one))
            (inside_size r column a.value a.between d.between d.value (task_ends Alone names.Member 0 (inside_run r column a.value) a.between d.between d.value d.first)),
      )

  -- ---- support
  unit_column_columns : (g : ℕ) → length (unit_column r.prime r.vars g).columns ≡ 1
  unfolding unit_column table listed
  unit_column_columns g = refl

  pub support_sizes : (i : ℕ) (fs : Ideal r) → i + 2 ≤ most → length fs ≤ most → (units left : ℕ) (x : Found r) → units < most → Ends (plan r (ask_support i fs) units) x left → HasSizes r most x
  unfolding plan
  support_sizes i fs degree generators units left x enough ends =
      let work = λ (b : BaseOf r). preimage_run r (unit_column r.prime r.vars b.chain.stable.matrix.rows) (diagonal_blocks r.prime r.vars b.chain.stable.matrix) in
      let a = bound (base_plan r Alone i fs) (λ b. task Alone names.Annihilator 0 (work b) >>= λ y. ready (found_support i fs b y)) units left x ends in
      let d = bound (task Alone names.Annihilator 0 (work a.value)) (λ y. ready (found_support i fs a.value y)) a.between left x a.second in
      let B = base_sizes r most Alone i fs degree generators units a.between a.value enough a.first in
      let K = a.value.chain.stable.matrix in
      let c = unit_column_columns K.rows in
      let rest = B.1 in
      let Q = preimage_size r most (unit_column r.prime r.vars K.rows) (diagonal_blocks r.prime r.vars K) (omega (arith, c, degree)) a.between d.between d.value (omega (arith, rest))
      (task_ends Alone names.Annihilator 0 (work a.value) a.between d.between d.value d.first) in
      subst (HasSizes r most) {x = found_support i fs a.value d.value} (same_value (found_support i fs a.value d.value) x d.between left d.second) (B.0, Q)

  -- ---- class
  solution_length : (g : Graph r) (x : Reduced) → length (solution r g x) ≡ width r g
  solution_length g x = length-map (lower_block r g.matrix.rows (width r g) x.rest) (polynomial_negative r.prime r.vars) ∙ length_components r (width r g) (suc g.matrix.rows) x.rest

  -- a solution is as long as the matrix is wide, and there is none outside
  coordinates_length : (e : ℕ) (g : Graph r) (z : VectorOf r) (units left : ℕ) (y : Inside r) → Ends (lift_at r e g z units) y left → length (solution_of r y) ≤ width r g
  unfolding lift_at inside_run matrix_column column_matrix
  coordinates_length e g z units left y ends =
      let a = bound (twisted_graph r e g) (inside_run r (matrix_column r.prime r.vars z)) units left y ends in
      let h = a.value in
      let b = bound (lift_run r h z) (λ (x : Reduced). if is_inside r h x then (ready (all_inside []) >>= λ y. ready (with_solution r (solution r h x) y)) else ready (first_outside (record { column = 1; by = numbers x.steps; rest = x.rest }))) a.between left y a.second in
      let wide = twisted_graph_width r e g units a.between h a.first in
      go h b.value b.between (let l = solution_length h b.value in omega (arith, l, wide)) (is_inside r h b.value) b.second
    where
      go : (h : Graph r) (x : Reduced) (u : ℕ) → length (solution r h x) ≤ width r g → (b : Bool)
          → Ends {E = Halt} {A = Inside r} ((if b then (ready (all_inside []) >>= λ y. ready (with_solution r (solution r h x) y)) else ready (first_outside (record { column = 1; by = numbers x.steps; rest = x.rest }))) u) y left → length (solution_of r y) ≤ width r g
      go h x u long true e = subst (λ y. length (solution_of r y) ≤ width r g) (same_value (all_inside (solution r h x ∷ [])) y u left e) long
      go h x u long false e = subst (λ y. length (solution_of r y) ≤ width r g) (same_value (first_outside (record { column = 1; by = numbers x.steps; rest = x.rest })) y u left e) (omega arith)

  -- the stage at which a class is killed is that of one of the graphs
  stages_at_most : (e : ℕ) (w : VectorOf r) (s : ℕ) (before : Option Outside) (gs : List (Graph r)) → s + length gs ≤ suc most → AreGraphsAtMost r most gs → (units left : ℕ) (y : Killed r) → Ends (stages r e w s before gs units) y left → IsKilledAtMost r most y
  stages_at_most e w s before [] h G units left y ends = subst (IsKilledAtMost r most) (same_value (never_killed before) y units left ends) tt
  stages_at_most e w s before (g ∷ gs) h G units left y ends =
      let a = bound (task Alone names.Stage s (lift_at r e g w)) (killed_or r s before (λ o. stages r e w (suc s) (Some o) gs)) units left y ends in
      let wide = coordinates_length e g w units a.between a.value (task_ends Alone names.Stage s (lift_at r e g w) units a.between a.value a.first) in
      let columns = G.0.matrix.columns in
      go a.value a.between (omega (arith, wide, columns)) a.second (λ before units left y. stages_at_most e w (suc s) before gs (omega (arith, h)) G.1 units left y)
    where
      go : (x : Inside r) (u : ℕ) → length (solution_of r x) ≤ most → Ends (killed_or r s before (λ o. stages r e w (suc s) (Some o) gs) x u) y left
          → ((before : Option Outside) (units left : ℕ) (y : Killed r) → Ends (stages r e w (suc s) before gs units) y left → IsKilledAtMost r most y) → IsKilledAtMost r most y
      go (all_inside ws) u long ends rest = subst (IsKilledAtMost r most) {x = killed_at s (get_or ws 0 []) before} (same_value (killed_at s (get_or ws 0 []) before) y u left ends) (omega (arith, h), long)
      go (first_outside o) u long ends rest = rest (Some o) u left y ends

  graphs_counted : (t : ℕ) (gs : List (Graph r)) → length (take t gs) ≤ t
  graphs_counted zero gs = omega arith
  graphs_counted (suc t) [] = omega arith
  graphs_counted (suc t) (g ∷ gs) = let h = graphs_counted t gs in omega (arith, h)

  allowed_left : (test : Bool) (refusal : Refusal) (units left : ℕ) (u : Unit {0}) → Ends (allowed r test refusal units) u left → left ≤ units
  allowed_left true refusal units left u e = let h = same_left tt u units left e in omega (arith, h)
  allowed_left false refusal units left u e = absurd (no_value (refused refusal) u units left e)

  pub unless_left : (refusal : ℕ → Refusal) (o : Option ℕ) (units left : ℕ) (u : Unit {0}) → Ends (unless r refusal o units) u left → left ≤ units
  unless_left refusal None units left u e = let h = same_left tt u units left e in omega (arith, h)
  unless_left refusal (Some k) units left u e = absurd (no_value (refused (refusal k)) u units left e)

  pub class_sizes : (i : ℕ) (fs : Ideal r) (e : ℕ) (z : VectorOf r) → i + 2 ≤ most → length fs ≤ most → (units left : ℕ) (x : Found r) → units < most → Ends (plan r (ask_class i fs e z) units) x left → HasSizes r most x
  unfolding plan
  class_sizes i fs e z degree generators units left x enough ends =
      let dat = λ (y : Resolution r). matrix_at r.prime r.vars (differentials_of r y) i in
      let after_stages = λ (b : BaseOf r) (w : VectorOf r). stages r e w 0 None (chain_graphs r b) >>= λ s. ready (found_class i fs b e z w s) in
      let after_base = λ (b : BaseOf r). task Alone names.Coordinates 0 (lift_at r e b.ext.cocycles.graph z) >>= λ y. after_stages b (solution_of r y) in
      let after_length = λ (y : Resolution r). task Alone names.Test 0 (cocycle_work r e (dat y) z) >>= unless r not_a_cocycle >>= λ u'. base_of r Alone i y >>= after_base in
      let long = λ (y : Resolution r). allowed r (length z == (dat y).rows) (wrong_length (length z) (dat y).rows) in
      let a = bound (resolution_plan r Alone i fs) (λ y. long y >>= λ u. after_length y) units left x ends in
      let y = a.value in
      let X = resolution_sizes r most Alone i fs degree generators units a.between y enough a.first in
      let c = bound (long y) (λ u. after_length y) a.between left x a.second in
      let g = bound (task Alone names.Test 0 (cocycle_work r e (dat y) z) >>= unless r not_a_cocycle) (λ u'. base_of r Alone i y >>= after_base) c.between left x c.second in
      let f = bound (task Alone names.Test 0 (cocycle_work r e (dat y) z)) (unless r not_a_cocycle) c.between g.between g.value g.first in
      let k = bound (base_of r Alone i y) after_base g.between left x g.second in
      let b = k.value in
      let work = lift_at r e b.ext.cocycles.graph z in
      let j = bound (task Alone names.Coordinates 0 work) (λ y. after_stages b (solution_of r y)) k.between left x k.second in
      let w = solution_of r j.value in
      let l = bound (stages r e w 0 None (chain_graphs r b)) (λ s. ready (found_class i fs b e z w s)) j.between left x j.second in
      let one_left = allowed_left (length z == (dat y).rows) (wrong_length (length z) (dat y).rows) a.between c.between c.value c.first in
      let two_left = left_of (cocycle_work r e (dat y) z) c.between f.between f.value (cocycle_spends r e (dat y) z) (task_ends Alone names.Test 0 (cocycle_work r e (dat y) z) c.between f.between f.value f.first) in
      let three_left = unless_left not_a_cocycle f.value f.between g.between g.value f.second in
      let zero_left = X.1 in
      let B = base_of_sizes r most Alone i y (omega (arith, degree)) X.0 g.between k.between b (omega (arith, zero_left, one_left, two_left, three_left)) k.first in
      let wide = coordinates_length e b.ext.cocycles.graph z k.between j.between j.value (task_ends Alone names.Coordinates 0 work k.between j.between j.value j.first) in
      let columns = B.0.ext.cocycles.graph.matrix.columns in
      let index = B.0.chain.index in
      let count = graphs_counted (suc (stable_index r b.chain)) (b.ext.relations.graph ∷ map (λ (x : Preimage r). x.graph) b.chain.links) in
      let graphs = graphs_taken r most (suc (stable_index r b.chain)) (b.ext.relations.graph ∷ map (λ (x : Preimage r). x.graph) b.chain.links) (B.0.ext.relations.graph, graphs_next r most b.chain.links B.0.chain.links) in
      subst (HasSizes r most) {x = found_class i fs b e z w l.value} (same_value (found_class i fs b e z w l.value) x l.between left l.second)
      (B.0, omega (arith, wide, columns), stages_at_most e w 0 None (chain_graphs r b) (omega (arith, count, index)) graphs j.between l.between l.value l.first)

  -- ---- inverting
  scalar_columns : (f : Polynomial r.prime r.vars) (n : ℕ) → length (matrix_scalar r.prime r.vars f n).columns ≡ n
  unfolding matrix_scalar scalar_matrix table listed
  scalar_columns f n = length-map-range_with_len _ 0 n

  -- the colons so far: each has cost a unit
  record ColonsAtMost (c : Colons r) (left : ℕ) : Type 0 where
    colons : ArePreimagesAtMost r most c.colons
    paid : length c.colons + left < most
    graph : IsMatrixAtMost r most c.graph.matrix

  abbrev IsColonedAtMost : Coloned r → ℕ → Type 0
  IsColonedAtMost (whole_at k) left = k ≤ most
  IsColonedAtMost (stable_at colons w o) left = ArePreimagesAtMost r most colons × (length colons ≤ most) × IsMatrixAtMost r most w

  module _ (f : Polynomial r.prime r.vars) where
    lead : Turn (Colons r) (Coloned r) → ℕ → Type 0
    lead t left = LeadsLeft (out_of_units Alone names.Colon) (colon_turn r f) ColonsAtMost IsColonedAtMost t left

    settled_sizes : (c : Colons r) (x : Preimage r) (o : Outside) (y : Inside r) (units between left : ℕ) → ColonsAtMost c units → IsPreimageAtMost r most x → between < units → IsPaid r between left y → IsInsideAtMost r (length x.found.columns) y
        → lead (colon_settled r c x o y) left
    unfolding lead
    settled_sizes c x o (all_inside ws) units between left w h spent paid some =
        let longer = length-append c.colons (x ∷ []) in
        let before = w.paid in
        let columns = h.found.columns in
        (preimages_more r most c.colons x w.colons h, omega (arith, longer, before), record { rows = w.graph.columns; columns = omega (arith, some, columns) })
    settled_sizes c x o (first_outside o') units between left w h spent paid some =
        let longer = length-append c.colons (x ∷ []) in
        let before = w.paid in
        record { colons = preimages_more r most c.colons x w.colons h; paid = omega (arith, longer, before, spent, paid); graph = h.graph.matrix }

    next_sizes : (c : Colons r) (x : Preimage r) (units : ℕ) → ColonsAtMost c units → IsPreimageAtMost r most x → (before between : ℕ) → before ≤ units → (y : Inside r) → IsPaid r before between y → (left : ℕ) (t : Turn (Colons r) (Coloned r)) → Ends (colon_next r c x y between) t left → lead t left
    unfolding lead
    next_sizes c x units w h before between spent (all_inside ws) paid left t ends = let held = w.paid in same_end lead (last (whole_at (suc (length c.colons)))) t between left ends (omega (arith, held))
    next_sizes c x units w h before between spent (first_outside o) paid left t ends =
        let a = bound (inside_run r x.found c.graph) (λ z. ready (colon_settled r c x o z)) between left t ends in
        same_end lead (colon_settled r c x o a.value) t a.between left a.second
        (settled_sizes c x o a.value units between a.between w h (omega (arith, spent, paid)) (inside_paid r x.found c.graph between a.between a.value a.first) (inside_size r x.found c.graph between a.between a.value a.first))

    turn_sizes : (c : Colons r) (units left : ℕ) (t : Turn (Colons r) (Coloned r)) → ColonsAtMost c units → Ends (colon_turn r f c units) t left → lead t left
    turn_sizes c units left t w ends =
        let M = matrix_scalar r.prime r.vars f c.graph.matrix.rows in
        let after = λ (x : Preimage r). whole_run r x.graph >>= colon_next r c x in
        let e = task_ends Alone names.Colon (suc (length c.colons)) (preimage_run r M c.graph.matrix >>= after) units left t ends in
        let a = bound (preimage_run r M c.graph.matrix) after units left t e in
        let wide = scalar_columns f c.graph.matrix.rows in
        let rows = w.graph.rows in
        let held = w.paid in
        let Q = preimage_size r most M c.graph.matrix (omega (arith, wide, rows)) units a.between a.value (omega (arith, held)) a.first in
        let k = left_of (preimage_run r M c.graph.matrix) units a.between a.value (preimage_spends r M c.graph.matrix) a.first in
        let b = bound (whole_run r a.value.graph) (colon_next r c a.value) a.between left t a.second in
        next_sizes c a.value units w Q a.between b.between k b.value (whole_paid r a.value.graph a.between b.between b.value b.first) left t b.second

    coloned_sizes : (k : Graph r) → IsMatrixAtMost r most k.matrix → (y : Inside r) (units left : ℕ) (c : Coloned r) → units < most → Ends (coloned r f k y units) c left → IsColonedAtMost c left
    unfolding lead
    coloned_sizes k w (all_inside ws) units left c enough ends = same_end IsColonedAtMost (whole_at 0) c units left ends (omega arith)
    coloned_sizes k w (first_outside o) units left c enough ends =
        turns_lead_left (out_of_units Alone names.Colon) (colon_turn r f) ColonsAtMost IsColonedAtMost turn_sizes units (record { colons = []; graph = k; proper = o }) units left c
        (record { colons = tt; paid = omega (arith, enough); graph = w }) ends

    inverted_sizes : (g : Graph r) → IsMatrixAtMost r most g.matrix → (c : Coloned r) (middle : ℕ) → IsColonedAtMost c middle → (units left : ℕ) (y : Inverted r) → Ends (inverted_of r f g c units) y left → IsInvertedAtMost r most y
    inverted_sizes g G (stable_at colons w o) middle h units left y ends = subst (IsInvertedAtMost r most) (same_value (never_inverted colons w o) y units left ends) h
    inverted_sizes g G (whole_at k) middle h units left y ends =
        let ending = λ (w : MatrixOf r). before_power r k f g >>= λ o. ready (by_power k w o) in
        let lifting = λ (h : Polynomial r.prime r.vars). lifted r g (matrix_scalar r.prime r.vars h g.matrix.rows).columns >>= ending in
        let e = task_ends Alone names.Power 0 (power_run r k f >>= lifting) units left y ends in
        let a = bound (power_run r k f) lifting units left y e in
        let M = matrix_scalar r.prime r.vars a.value g.matrix.rows in
        let c = bound (lifted r g M.columns) ending a.between left y a.second in
        let d = bound (before_power r k f g) (λ o. ready (by_power k c.value o)) c.between left y c.second in
        let s = lifted_size r g M.columns a.between c.between c.value c.first in
        let s_rows = s.0 in
        let s_columns = s.1 in
        let wide = scalar_columns a.value g.matrix.rows in
        let rows = G.rows in
        let columns = G.columns in
        subst (IsInvertedAtMost r most) {x = by_power k c.value d.value} (same_value (by_power k c.value d.value) y d.between left d.second)
        (h, record { rows = omega (arith, s_rows, columns); columns = omega (arith, s_columns, wide, rows) })

  pub invert_sizes : (i : ℕ) (fs : Ideal r) (f : Polynomial r.prime r.vars) → i + 2 ≤ most → length fs ≤ most → (units left : ℕ) (x : Found r) → units < most → Ends (plan r (ask_invert i fs f) units) x left → HasSizes r most x
  unfolding plan
  invert_sizes i fs f degree generators units left x enough ends =
      let ending = λ (b : BaseOf r) (c : Coloned r). inverted_of r f (stable_graph r b) c >>= λ s. ready (found_invert i fs b f s) in
      let colons = λ (b : BaseOf r) (y : Inside r). coloned r f (stable_graph r b) y >>= ending b in
      let a = bound (base_plan r Alone i fs) (λ b. task Alone names.Colon 0 (whole_run r (stable_graph r b)) >>= colons b) units left x ends in
      let b = a.value in
      let B = base_sizes r most Alone i fs degree generators units a.between b enough a.first in
      let g = stable_graph r b in
      let c = bound (task Alone names.Colon 0 (whole_run r g)) (colons b) a.between left x a.second in
      let k = left_of (whole_run r g) a.between c.between c.value (whole_spends r g) (task_ends Alone names.Colon 0 (whole_run r g) a.between c.between c.value c.first) in
      let held = B.1 in
      let d = bound (coloned r f g c.value) (ending b) c.between left x c.second in
      let C = coloned_sizes f g B.0.chain.stable c.value c.between d.between d.value (omega (arith, k, held)) d.first in
      let e = bound (inverted_of r f g d.value) (λ s. ready (found_invert i fs b f s)) d.between left x d.second in
      subst (HasSizes r most) {x = found_invert i fs b f e.value} (same_value (found_invert i fs b f e.value) x e.between left e.second)
      (B.0, inverted_sizes f g B.0.chain.stable d.value d.between C d.between e.between e.value e.first)
