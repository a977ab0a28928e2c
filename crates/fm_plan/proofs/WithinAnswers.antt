-- Plans of one ideal that end with an answer stay within the bound on exponents.
use Rattle.std.proofs.Common.{ℕ, zero, suc, ◌==◌, ◌≡◌, ◌/◌, ◌%◌, ◌*◌, eqb, true, Option, Some, None, List, [], ◌∷◌, length, get_or, refl, sym, subst}
use Rattle.std.proofs.lemmas.Bool.{and_from, and_parts}
use Rattle.std.specs.List.{list_all}
use Rattle.fm_algebra.specs.Matrix.{component}
use Rattle.fm_algebra.specs.Power.{power}
use Rattle.fm_algebra.specs.Polynomials.{Polynomial, polynomials, polynomial_product, polynomial_power}
use Rattle.fm_algebra.specs.PolynomialMatrices.{matrix_column, matrix_scalar}
use Rattle.fm_algebra.proofs.Concrete.{polynomials_laws}
use Rattle.fm_limit.specs.ResolvedIdeal.{matrix_at, row}
use Rattle.fm_limit.specs.Facts.{unit_column, diagonal_blocks, first_entries}
use Rattle.fm_poly.specs.declared.ring.Ring.{Ring}
use Rattle.fm_mat.specs.Bounds.{product_fits}
use Rattle.fm_run.specs.Runs.{ready, ◌>>=◌, bounded}
use Rattle.fm_run.specs.Turns.{Turn, last}
use Rattle.fm_run.proofs.Ends.{Ends, same_value, bound, bounded_value, Leads, turns_lead}
use Rattle.fm_graphs.specs.Listing.{VectorOf}
use Rattle.fm_graphs.specs.Graphs.{MatrixOf, Graph, Outside, Inside, all_inside, first_outside, graph_run, lifted, inside_run, whole_run, twisted_graph}
use Rattle.fm_graphs.specs.Trims.{Preimage, preimage_run}
use Rattle.fm_graphs.specs.Within.{is_within, are_within, IsMatrixWithin, IsGraphWithin, IsInsideWithin, IsPreimageWithin}
use Rattle.fm_graphs.proofs.WithinPolynomials.{product_within}
use Rattle.fm_graphs.proofs.WithinMatrices.{one_of, all_map, zero_within, unit_within, chosen, entry_within, table_within, scalar_within, column_within}
use Rattle.fm_graphs.proofs.WithinGraphs.{test_passed, graph_ends, lifted_ends, inside_ends, whole_ends, preimage_ends}
use Rattle.fm_run.specs.declared.task.Side.TheVariants.{Alone}
use Rattle.fm_plan.specs.Tasks.{wrong_length, not_a_cocycle, task, out_of_units}
use Rattle.fm_plan.specs.Results.{Resolution, Ideal, Killed, killed_at, never_killed, differentials_of}
use Rattle.fm_plan.specs.Base.{resolution_plan, ext_plan}
use Rattle.fm_plan.specs.Queries.{BaseOf, base_of, base_plan, stable_graph, allowed, cocycle_work, lift_at, solution_of, killed_or, unless, stages, chain_graphs, Colons, Coloned, whole_at, stable_at, colon_settled, colon_next, colon_turn, coloned, power_run, before_power, inverted_of, Inverted, by_power, never_inverted, Found, found_zero, found_class, found_root, found_invert, found_support, found_resolution, found_ext, found_member, ask_zero, ask_class, ask_root, ask_invert, ask_support, ask_resolution, ask_ext, ask_member, plan}
use Rattle.fm_plan.specs.Within.{ArePreimagesWithin, IsKilledWithin, IsInvertedWithin, IsFoundWithin}
use Rattle.fm_plan.proofs.Tasks.{task_ends}
use Rattle.fm_plan.proofs.WithinBases.{row_within, preimages_more, resolution_within, ext_within, base_of_within, base_within}
use Rattle.fm_run.specs.declared.task.Name.TheVariants as names

module _ (r : Ring) where
  abbrev IdealWithin : Ideal r → Type 0
  IdealWithin fs = are_within r.prime r.vars fs ≡ true

  abbrev VectorWithin : VectorOf r → Type 0
  VectorWithin v = are_within r.prime r.vars v ≡ true

  abbrev Within : Polynomial r.prime r.vars → Type 0
  Within f = is_within r.prime r.vars f ≡ true

  -- ---- zero, root, resolution, ext and member
  pub zero_within_bound : (i : ℕ) (fs : Ideal r) → IdealWithin fs → (units left : ℕ) (x : Found r) → Ends (plan r (ask_zero i fs) units) x left → IsFoundWithin r x
  unfolding plan
  zero_within_bound i fs h units left x ends =
      let work = λ (b : BaseOf r). whole_run r (stable_graph r b) in
      let a = bound (base_plan r Alone i fs) (λ b. task Alone names.Whole 0 (work b) >>= λ y. ready (found_zero i fs b y)) units left x ends in
      let d = bound (task Alone names.Whole 0 (work a.value)) (λ y. ready (found_zero i fs a.value y)) a.between left x a.second in
      subst (IsFoundWithin r) {x = found_zero i fs a.value d.value} (same_value (found_zero i fs a.value d.value) x d.between left d.second) (
        base_within r Alone i fs h units a.between a.value a.first,
        whole_ends r (stable_graph r a.value) a.between d.between d.value (task_ends Alone names.Whole 0 (work a.value) a.between d.between d.value d.first),
      )

  pub root_within_bound : (i : ℕ) (fs : Ideal r) → IdealWithin fs → (units left : ℕ) (x : Found r) → Ends (plan r (ask_root i fs) units) x left → IsFoundWithin r x
  unfolding plan
  root_within_bound i fs h units left x ends =
      let a = bound (base_plan r Alone i fs) (λ b. ready (found_root i fs b)) units left x ends in
      subst (IsFoundWithin r) {x = found_root i fs a.value} (same_value (found_root i fs a.value) x a.between left a.second) (base_within r Alone i fs h units a.between a.value a.first)

  pub resolution_within_bound : (i : ℕ) (fs : Ideal r) → IdealWithin fs → (units left : ℕ) (x : Found r) → Ends (plan r (ask_resolution i fs) units) x left → IsFoundWithin r x
  unfolding plan
  resolution_within_bound i fs h units left x ends =
      let a = bound (resolution_plan r Alone i fs) (λ y. ready (found_resolution i fs y)) units left x ends in
      subst (IsFoundWithin r) {x = found_resolution i fs a.value} (same_value (found_resolution i fs a.value) x a.between left a.second) (resolution_within r Alone i fs h units a.between a.value a.first)

  pub ext_within_bound : (i : ℕ) (fs : Ideal r) → IdealWithin fs → (units left : ℕ) (x : Found r) → Ends (plan r (ask_ext i fs) units) x left → IsFoundWithin r x
  unfolding plan
  ext_within_bound i fs h units left x ends =
      let a = bound (resolution_plan r Alone i fs) (λ y. ext_plan r Alone i y >>= λ z. ready (found_ext i fs z)) units left x ends in
      let d = bound (ext_plan r Alone i a.value) (λ z. ready (found_ext i fs z)) a.between left x a.second in
      subst (IsFoundWithin r) {x = found_ext i fs d.value} (same_value (found_ext i fs d.value) x d.between left d.second)
      (ext_within r Alone i a.value (resolution_within r Alone i fs h units a.between a.value a.first) a.between d.between d.value d.first)

  pub member_within_bound : (fs : Ideal r) (f : Polynomial r.prime r.vars) → IdealWithin fs → Within f → (units left : ℕ) (x : Found r) → Ends (plan r (ask_member fs f) units) x left → IsFoundWithin r x
  unfolding plan
  member_within_bound fs f h k units left x ends =
      let work = graph_run r (row r.prime r.vars fs) in
      let column = matrix_column r.prime r.vars (f ∷ []) in
      let a = bound (task Alone names.Resolve 1 work) (λ g. task Alone names.Member 0 (inside_run r column g) >>= λ y. ready (found_member fs f g y)) units left x ends in
      let d = bound (task Alone names.Member 0 (inside_run r column a.value)) (λ y. ready (found_member fs f a.value y)) a.between left x a.second in
      subst (IsFoundWithin r) {x = found_member fs f a.value d.value} (same_value (found_member fs f a.value d.value) x d.between left d.second) (
        graph_ends r (row r.prime r.vars fs) (row_within r fs h) units a.between a.value (task_ends Alone names.Resolve 1 work units a.between a.value a.first),
        inside_ends r column a.value (column_within r.prime r.vars (f ∷ []) (and_from _ _ k refl)) a.between d.between d.value (task_ends Alone names.Member 0 (inside_run r column a.value) a.between d.between d.value d.first),
      )

  -- ---- support
  unit_column_within : (g : ℕ) → IsMatrixWithin r (unit_column r.prime r.vars g)
  unfolding unit_column
  unit_column_within g = table_within r.prime r.vars (g * g) 1 _ (λ i j. chosen r.prime r.vars (eqb (i / g) (i % g)) _ _ (unit_within r.prime r.vars) (zero_within r.prime r.vars))

  blocks_within : (K : MatrixOf r) → IsMatrixWithin r K → IsMatrixWithin r (diagonal_blocks r.prime r.vars K)
  unfolding diagonal_blocks
  blocks_within K w = table_within r.prime r.vars _ _ _ (λ i j.
      chosen r.prime r.vars (eqb (i / K.rows) (j / length K.columns)) _ _ (entry_within r.prime r.vars K w (i % K.rows) (j % length K.columns)) (zero_within r.prime r.vars))

  first_within : (P : MatrixOf r) → IsMatrixWithin r P → VectorWithin (first_entries r.prime r.vars P)
  unfolding first_entries component
  first_within P w = all_map (is_within r.prime r.vars) (are_within r.prime r.vars) _ (λ c h. one_of (is_within r.prime r.vars) c 0 (polynomials r.prime r.vars).zero (zero_within r.prime r.vars) h) P.columns w

  pub support_within_bound : (i : ℕ) (fs : Ideal r) → IdealWithin fs → (units left : ℕ) (x : Found r) → Ends (plan r (ask_support i fs) units) x left → IsFoundWithin r x
  unfolding plan
  support_within_bound i fs h units left x ends =
      let work = λ (b : BaseOf r). preimage_run r (unit_column r.prime r.vars b.chain.stable.matrix.rows) (diagonal_blocks r.prime r.vars b.chain.stable.matrix) in
      let a = bound (base_plan r Alone i fs) (λ b. task Alone names.Annihilator 0 (work b) >>= λ y. ready (found_support i fs b y)) units left x ends in
      let d = bound (task Alone names.Annihilator 0 (work a.value)) (λ y. ready (found_support i fs a.value y)) a.between left x a.second in
      let B = base_within r Alone i fs h units a.between a.value a.first in
      let K = a.value.chain.stable.matrix in
      let Q = preimage_ends r (unit_column r.prime r.vars K.rows) (diagonal_blocks r.prime r.vars K) (unit_column_within K.rows) (blocks_within K B.chain.stable.matrix) a.between d.between d.value
      (task_ends Alone names.Annihilator 0 (work a.value) a.between d.between d.value d.first) in
      subst (IsFoundWithin r) {x = found_support i fs a.value d.value} (same_value (found_support i fs a.value d.value) x d.between left d.second) (B, Q, first_within d.value.found Q.found)

  -- ---- class
  solution_of_within : (y : Inside r) → IsInsideWithin r y → VectorWithin (solution_of r y)
  solution_of_within (all_inside []) h = refl
  solution_of_within (all_inside (w ∷ ws)) h = (and_parts (are_within r.prime r.vars w) (list_all (are_within r.prime r.vars) ws) h).0
  solution_of_within (first_outside o) h = refl

  lift_at_within : (e : ℕ) (g : Graph r) (z : VectorOf r) → VectorWithin z → (units left : ℕ) (y : Inside r) → Ends (lift_at r e g z units) y left → VectorWithin (solution_of r y)
  unfolding lift_at
  lift_at_within e g z h units left y ends =
      let a = bound (twisted_graph r e g) (inside_run r (matrix_column r.prime r.vars z)) units left y ends in
      solution_of_within y (inside_ends r (matrix_column r.prime r.vars z) a.value (column_within r.prime r.vars z h) a.between left y a.second)

  stages_within : (e : ℕ) (w : VectorOf r) → VectorWithin w → (s : ℕ) (before : Option Outside) (gs : List (Graph r)) (units left : ℕ) (y : Killed r) → Ends (stages r e w s before gs units) y left → IsKilledWithin r y
  stages_within e w h s before [] units left y ends = subst (IsKilledWithin r) (same_value (never_killed before) y units left ends) tt
  stages_within e w h s before (g ∷ gs) units left y ends =
      let a = bound (task Alone names.Stage s (lift_at r e g w)) (killed_or r s before (λ o. stages r e w (suc s) (Some o) gs)) units left y ends in
      go a.value a.between (lift_at_within e g w h units a.between a.value (task_ends Alone names.Stage s (lift_at r e g w) units a.between a.value a.first)) a.second
      (λ before units left y. stages_within e w h (suc s) before gs units left y)
    where
      go : (x : Inside r) (u : ℕ) → VectorWithin (solution_of r x) → Ends (killed_or r s before (λ o. stages r e w (suc s) (Some o) gs) x u) y left
          → ((before : Option Outside) (units left : ℕ) (y : Killed r) → Ends (stages r e w (suc s) before gs units) y left → IsKilledWithin r y) → IsKilledWithin r y
      go (all_inside ws) u v ends rest = subst (IsKilledWithin r) (same_value (killed_at s (get_or ws 0 []) before) y u left ends) v
      go (first_outside o) u v ends rest = rest (Some o) u left y ends

  pub class_within_bound : (i : ℕ) (fs : Ideal r) (e : ℕ) (z : VectorOf r) → IdealWithin fs → VectorWithin z → (units left : ℕ) (x : Found r) → Ends (plan r (ask_class i fs e z) units) x left → IsFoundWithin r x
  unfolding plan
  class_within_bound i fs e z h v units left x ends =
      let dat = λ (y : Resolution r). matrix_at r.prime r.vars (differentials_of r y) i in
      let after_stages = λ (b : BaseOf r) (w : VectorOf r). stages r e w 0 None (chain_graphs r b) >>= λ s. ready (found_class i fs b e z w s) in
      let after_base = λ (b : BaseOf r). task Alone names.Coordinates 0 (lift_at r e b.ext.cocycles.graph z) >>= λ y. after_stages b (solution_of r y) in
      let after_length = λ (y : Resolution r). task Alone names.Test 0 (cocycle_work r e (dat y) z) >>= unless r not_a_cocycle >>= λ u'. base_of r Alone i y >>= after_base in
      let long = λ (y : Resolution r). allowed r (length z == (dat y).rows) (wrong_length (length z) (dat y).rows) in
      let a = bound (resolution_plan r Alone i fs) (λ y. long y >>= λ u. after_length y) units left x ends in
      let y = a.value in
      let c = bound (long y) (λ u. after_length y) a.between left x a.second in
      let g = bound (task Alone names.Test 0 (cocycle_work r e (dat y) z) >>= unless r not_a_cocycle) (λ u'. base_of r Alone i y >>= after_base) c.between left x c.second in
      let k = bound (base_of r Alone i y) after_base g.between left x g.second in
      let b = k.value in
      let work = lift_at r e b.ext.cocycles.graph z in
      let j = bound (task Alone names.Coordinates 0 work) (λ y. after_stages b (solution_of r y)) k.between left x k.second in
      let w = solution_of r j.value in
      let w_within = lift_at_within e b.ext.cocycles.graph z v k.between j.between j.value (task_ends Alone names.Coordinates 0 work k.between j.between j.value j.first) in
      let l = bound (stages r e w 0 None (chain_graphs r b)) (λ s. ready (found_class i fs b e z w s)) j.between left x j.second in
      subst (IsFoundWithin r) {x = found_class i fs b e z w l.value} (same_value (found_class i fs b e z w l.value) x l.between left l.second) (
        base_of_within r Alone i y (resolution_within r Alone i fs h units a.between y a.first) g.between k.between b k.first,
        w_within,
        stages_within e w w_within 0 None (chain_graphs r b) j.between l.between l.value l.first,
      )

  -- ---- inverting
  -- the colons so far
  record ColonsWithin (c : Colons r) : Type 0 where
    colons : ArePreimagesWithin r c.colons
    graph : IsGraphWithin r c.graph

  abbrev IsColonedWithin : Coloned r → Type 0
  IsColonedWithin (whole_at k) = Unit {0}
  IsColonedWithin (stable_at colons w o) = ArePreimagesWithin r colons × IsMatrixWithin r w

  module _ (f : Polynomial r.prime r.vars) (f_within : Within f) where
    lead : Turn (Colons r) (Coloned r) → Type 0
    lead t = Leads (out_of_units Alone names.Colon) (colon_turn r f) ColonsWithin IsColonedWithin t

    settled_within : (c : Colons r) (x : Preimage r) (o : Outside) (y : Inside r) → ColonsWithin c → IsPreimageWithin r x → IsInsideWithin r y → lead (colon_settled r c x o y)
    unfolding lead
    settled_within c x o (all_inside ws) w h k = (preimages_more r c.colons x w.colons h, k)
    settled_within c x o (first_outside o') w h k = record { colons = preimages_more r c.colons x w.colons h; graph = h.graph }

    next_within : (c : Colons r) (x : Preimage r) → ColonsWithin c → IsPreimageWithin r x → (y : Inside r) (units left : ℕ) (t : Turn (Colons r) (Coloned r)) → Ends (colon_next r c x y units) t left → lead t
    unfolding lead
    next_within c x w h (all_inside ws) units left t ends = subst lead (same_value (last (whole_at (suc (length c.colons)))) t units left ends) tt
    next_within c x w h (first_outside o) units left t ends =
        let a = bound (inside_run r x.found c.graph) (λ z. ready (colon_settled r c x o z)) units left t ends in
        subst lead {x = colon_settled r c x o a.value} (same_value (colon_settled r c x o a.value) t a.between left a.second)
        (settled_within c x o a.value w h (inside_ends r x.found c.graph h.found units a.between a.value a.first))

    turn_within : (c : Colons r) (units left : ℕ) (t : Turn (Colons r) (Coloned r)) → ColonsWithin c → Ends (colon_turn r f c units) t left → lead t
    turn_within c units left t w ends =
        let M = matrix_scalar r.prime r.vars f c.graph.matrix.rows in
        let after = λ (x : Preimage r). whole_run r x.graph >>= colon_next r c x in
        let e = task_ends Alone names.Colon (suc (length c.colons)) (preimage_run r M c.graph.matrix >>= after) units left t ends in
        let a = bound (preimage_run r M c.graph.matrix) after units left t e in
        let Q = preimage_ends r M c.graph.matrix (scalar_within r.prime r.vars f c.graph.matrix.rows f_within) w.graph.matrix units a.between a.value a.first in
        let b = bound (whole_run r a.value.graph) (colon_next r c a.value) a.between left t a.second in
        next_within c a.value w Q b.value b.between left t b.second

    coloned_within : (k : Graph r) → IsGraphWithin r k → (y : Inside r) (units left : ℕ) (c : Coloned r) → Ends (coloned r f k y units) c left → IsColonedWithin c
    unfolding lead
    coloned_within k w (all_inside ws) units left c ends = subst IsColonedWithin (same_value (whole_at 0) c units left ends) tt
    coloned_within k w (first_outside o) units left c ends =
        turns_lead (out_of_units Alone names.Colon) (colon_turn r f) ColonsWithin IsColonedWithin turn_within units (record { colons = []; graph = k; proper = o }) units left c (record { colons = tt; graph = w }) ends

    power_next : (k : ℕ) → product_fits r.prime r.vars (polynomial_power r.prime r.vars k f) f ≡ true → Within (polynomial_power r.prime r.vars (suc k) f)
    unfolding polynomial_power power polynomial_product
    power_next k h = subst Within ((polynomials_laws r.prime r.vars).mul_comm (power (polynomials r.prime r.vars) k f) f) (product_within r.prime r.vars (polynomial_power r.prime r.vars k f) f h)

    power_zero : Within (polynomial_power r.prime r.vars 0 f)
    unfolding polynomial_power power
    power_zero = unit_within r.prime r.vars

    power_within : (k units left : ℕ) (h : Polynomial r.prime r.vars) → Ends (power_run r k f units) h left → (polynomial_power r.prime r.vars k f ≡ h) × Within h
    power_within zero units left h ends = let same = same_value (polynomial_power r.prime r.vars 0 f) h units left ends in (same, subst Within same power_zero)
    power_within (suc k) units left h ends =
        let next = polynomial_power r.prime r.vars (suc k) f in
        let b = bound (power_run r k f) (λ g. bounded (product_fits r.prime r.vars g f) next) units left h ends in
        let before = power_within k units b.between b.value b.first in
        let same = bounded_value (product_fits r.prime r.vars b.value f) next h b.between left b.second in
        let fits = test_passed (product_fits r.prime r.vars b.value f) next h b.between left b.second in
        (same, subst Within same (power_next k (subst (λ g. product_fits r.prime r.vars g f ≡ true) (sym before.0) fits)))

    inverted_within : (g : Graph r) (c : Coloned r) → IsColonedWithin c → (units left : ℕ) (y : Inverted r) → Ends (inverted_of r f g c units) y left → IsInvertedWithin r y
    inverted_within g (stable_at colons w o) h units left y ends = subst (IsInvertedWithin r) (same_value (never_inverted colons w o) y units left ends) h
    inverted_within g (whole_at k) h units left y ends =
        let ending = λ (w : MatrixOf r). before_power r k f g >>= λ o. ready (by_power k w o) in
        let lifting = λ (h : Polynomial r.prime r.vars). lifted r g (matrix_scalar r.prime r.vars h g.matrix.rows).columns >>= ending in
        let e = task_ends Alone names.Power 0 (power_run r k f >>= lifting) units left y ends in
        let a = bound (power_run r k f) lifting units left y e in
        let M = matrix_scalar r.prime r.vars a.value g.matrix.rows in
        let c = bound (lifted r g M.columns) ending a.between left y a.second in
        let d = bound (before_power r k f g) (λ o. ready (by_power k c.value o)) c.between left y c.second in
        subst (IsInvertedWithin r) {x = by_power k c.value d.value} (same_value (by_power k c.value d.value) y d.between left d.second)
        (lifted_ends r g M.columns (scalar_within r.prime r.vars a.value g.matrix.rows (power_within k units a.between a.value a.first).1) a.between c.between c.value c.first)

  pub invert_within_bound : (i : ℕ) (fs : Ideal r) (f : Polynomial r.prime r.vars) → IdealWithin fs → Within f → (units left : ℕ) (x : Found r) → Ends (plan r (ask_invert i fs f) units) x left → IsFoundWithin r x
  unfolding plan
  invert_within_bound i fs f h k units left x ends =
      let ending = λ (b : BaseOf r) (c : Coloned r). inverted_of r f (stable_graph r b) c >>= λ s. ready (found_invert i fs b f s) in
      let colons = λ (b : BaseOf r) (y : Inside r). coloned r f (stable_graph r b) y >>= ending b in
      let a = bound (base_plan r Alone i fs) (λ b. task Alone names.Colon 0 (whole_run r (stable_graph r b)) >>= colons b) units left x ends in
      let b = a.value in
      let B = base_within r Alone i fs h units a.between b a.first in
      let g = stable_graph r b in
      let c = bound (task Alone names.Colon 0 (whole_run r g)) (colons b) a.between left x a.second in
      let d = bound (coloned r f g c.value) (ending b) c.between left x c.second in
      let C = coloned_within f k g B.chain.stable c.value c.between d.between d.value d.first in
      let e = bound (inverted_of r f g d.value) (λ s. ready (found_invert i fs b f s)) d.between left x d.second in
      subst (IsFoundWithin r) {x = found_invert i fs b f e.value} (same_value (found_invert i fs b f e.value) x e.between left e.second)
      (B, inverted_within f k g d.value C d.between e.between e.value e.first)
