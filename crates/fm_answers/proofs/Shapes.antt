-- The answers of plans, by the kinds of queries.
use Rattle.std.proofs.Common.{ℕ, ◌==◌, ◌≡◌, None, List, [], ◌∷◌, length, take, Result, Ok, Err, refl, ap, subst}
use Rattle.fm_algebra.specs.Polynomials.{Polynomial}
use Rattle.fm_algebra.specs.PolynomialMatrices.{matrix_unit, matrix_column}
use Rattle.fm_limit.specs.ResolvedIdeal.{matrix_at, row}
use Rattle.fm_limit.specs.Facts.{unit_column, diagonal_blocks}
use Rattle.fm_poly.specs.declared.ring.Ring.{Ring}
use Rattle.fm_run.specs.Runs.{Ending, Run, ready, next_of, ◌>>=◌}
use Rattle.fm_run.proofs.Ends.{Ends}
use Rattle.fm_graphs.specs.Graphs.{MatrixOf, Graph, Inside, graph_run, inside_run, whole_run}
use Rattle.fm_graphs.specs.Trims.{Preimage, preimage_run}
use Rattle.fm_graphs.specs.Listing.{VectorOf}
use Rattle.fm_run.specs.declared.task.Side.TheVariants.{Alone, Source, Target}
use Rattle.fm_run.specs.declared.task.Name.TheVariants as names
use Rattle.fm_plan.specs.Tasks.{Unanswered, task, wrong_length, not_a_cocycle, not_contained}
use Rattle.fm_plan.specs.Results.{Resolution, Ext, Ideal, Killed, graphs_of, differentials_of}
use Rattle.fm_plan.specs.Base.{resolution_plan, ext_plan}
use Rattle.fm_plan.specs.Queries.{BaseOf, base_of, base_plan, stable_graph, allowed, unless, cocycle_work, lift_at, solution_of, stages, chain_graphs, Inverted, Coloned, coloned, inverted_of, contained_work, over_identity, fibre_work, phi_work, onto_plan, compared, mapped, Onto, Found, found_zero, found_class, found_root, found_invert, found_support, found_map, found_member, found_resolution, found_ext, Query, ask_zero, ask_class, ask_root, ask_invert, ask_support, ask_map, ask_member, ask_resolution, ask_ext, plan}

-- what holds of every value that a run ends with
abbrev WhereOk : {E A : Type 0} → (A → Type 0) → Result A E → Type 0
WhereOk P (Ok x) = P x
WhereOk P (Err e) = Unit {0}

abbrev AllEnds : {E A : Type 0} → (A → Type 0) → Run E A → Type 0
AllEnds P run = (units : ℕ) → WhereOk P (run units).end

after : {E A B : Type 0} (P : B → Type 0) (run : Run E A) (f : A → Run E B) → ((x : A) → AllEnds P (f x)) → AllEnds P (run >>= f)
after {E} {A} P run f h units = go (run units).end (run units).left
  where
    go : (e : Result A E) (left : ℕ) → WhereOk P (next_of f e left).end
    go (Ok x) left = h x left
    go (Err e) left = tt

module _ (r : Ring) where
  -- the answers to a query
  abbrev pub Answers : Query r → Found r → Type 0
  Answers (ask_zero i fs) x = (b : BaseOf r) × (y : Inside r) × (found_zero i fs b y ≡ x)
  Answers (ask_class i fs e z) x = (b : BaseOf r) × (w : VectorOf r) × (s : Killed r) × (found_class i fs b e z w s ≡ x)
  Answers (ask_root i fs) x = (b : BaseOf r) × (found_root i fs b ≡ x)
  Answers (ask_invert i fs f) x = (b : BaseOf r) × (s : Inverted r) × (found_invert i fs b f s ≡ x)
  Answers (ask_support i fs) x = (b : BaseOf r) × (a : Preimage r) × (found_support i fs b a ≡ x)
  Answers (ask_map i fs gs) x =
      (b : BaseOf r) × (c : BaseOf r) × (ls : List (MatrixOf r)) × (phi : MatrixOf r) × (null : Inside r) × (fibre : Preimage r) × (one : Inside r) × (s : Onto r)
      × (found_map i fs gs b c ls phi null fibre one s ≡ x)
  Answers (ask_member fs f) x = (g : Graph r) × (y : Inside r) × (found_member fs f g y ≡ x)
  Answers (ask_resolution i fs) x = (y : Resolution r) × (found_resolution i fs y ≡ x)
  Answers (ask_ext i fs) x = (y : Ext r) × (found_ext i fs y ≡ x)

  zero_answers : (i : ℕ) (fs : Ideal r) → AllEnds (Answers (ask_zero i fs)) (plan r (ask_zero i fs))
  unfolding plan
  zero_answers i fs =
      let P = Answers (ask_zero i fs) in
      let work = λ (b : BaseOf r). task Alone names.Whole 0 (whole_run r (stable_graph r b)) in
      after P (base_plan r Alone i fs) (λ b. work b >>= λ y. ready (found_zero i fs b y)) (λ b. after P (work b) (λ y. ready (found_zero i fs b y)) (λ y units. (b, y, refl)))

  root_answers : (i : ℕ) (fs : Ideal r) → AllEnds (Answers (ask_root i fs)) (plan r (ask_root i fs))
  unfolding plan
  root_answers i fs = after (Answers (ask_root i fs)) (base_plan r Alone i fs) (λ b. ready (found_root i fs b)) (λ b units. (b, refl))

  resolution_answers : (i : ℕ) (fs : Ideal r) → AllEnds (Answers (ask_resolution i fs)) (plan r (ask_resolution i fs))
  unfolding plan
  resolution_answers i fs = after (Answers (ask_resolution i fs)) (resolution_plan r Alone i fs) (λ x. ready (found_resolution i fs x)) (λ x units. (x, refl))

  ext_answers : (i : ℕ) (fs : Ideal r) → AllEnds (Answers (ask_ext i fs)) (plan r (ask_ext i fs))
  unfolding plan
  ext_answers i fs =
      let P = Answers (ask_ext i fs) in
      after P (resolution_plan r Alone i fs) (λ x. ext_plan r Alone i x >>= λ y. ready (found_ext i fs y))
      (λ x. after P (ext_plan r Alone i x) (λ y. ready (found_ext i fs y)) (λ y units. (y, refl)))

  member_answers : (fs : Ideal r) (f : Polynomial r.prime r.vars) → AllEnds (Answers (ask_member fs f)) (plan r (ask_member fs f))
  unfolding plan
  member_answers fs f =
      let P = Answers (ask_member fs f) in
      let work = λ (g : Graph r). task Alone names.Member 0 (inside_run r (matrix_column r.prime r.vars (f ∷ [])) g) in
      after P (task Alone names.Resolve 1 (graph_run r (row r.prime r.vars fs))) (λ g. work g >>= λ y. ready (found_member fs f g y))
      (λ g. after P (work g) (λ y. ready (found_member fs f g y)) (λ y units. (g, y, refl)))

  class_answers : (i : ℕ) (fs : Ideal r) (e : ℕ) (z : VectorOf r) → AllEnds (Answers (ask_class i fs e z)) (plan r (ask_class i fs e z))
  unfolding plan
  class_answers i fs e z =
      let P = Answers (ask_class i fs e z) in
      let dat = λ (y : Resolution r). matrix_at r.prime r.vars (differentials_of r y) i in
      let after_lift = λ (b : BaseOf r) (y : Inside r). stages r e (solution_of r y) 0 None (chain_graphs r b) >>= λ s. ready (found_class i fs b e z (solution_of r y) s) in
      let after_base = λ (b : BaseOf r). task Alone names.Coordinates 0 (lift_at r e b.ext.cocycles.graph z) >>= after_lift b in
      let after_test = λ (y : Resolution r) (u : Unit {0}). base_of r Alone i y >>= after_base in
      let test = λ (y : Resolution r). task Alone names.Test 0 (cocycle_work r e (dat y) z) >>= unless r not_a_cocycle in
      let after_length = λ (y : Resolution r) (u : Unit {0}). test y >>= after_test y in
      let length_test = λ (y : Resolution r). allowed r (length z == (dat y).rows) (wrong_length (length z) (dat y).rows) in
      after P (resolution_plan r Alone i fs) (λ y. length_test y >>= after_length y)
      (λ y. after P (length_test y) (after_length y)
      (λ u. after P (test y) (after_test y)
      (λ u'. after P (base_of r Alone i y) after_base
      (λ b. after P (task Alone names.Coordinates 0 (lift_at r e b.ext.cocycles.graph z)) (after_lift b)
      (λ x. after P (stages r e (solution_of r x) 0 None (chain_graphs r b)) (λ s. ready (found_class i fs b e z (solution_of r x) s))
      (λ s units. (b, solution_of r x, s, refl)))))))

  invert_answers : (i : ℕ) (fs : Ideal r) (f : Polynomial r.prime r.vars) → AllEnds (Answers (ask_invert i fs f)) (plan r (ask_invert i fs f))
  unfolding plan
  invert_answers i fs f =
      let P = Answers (ask_invert i fs f) in
      let whole = λ (b : BaseOf r). task Alone names.Colon 0 (whole_run r (stable_graph r b)) in
      let ending = λ (b : BaseOf r) (c : Coloned r). inverted_of r f (stable_graph r b) c >>= λ s. ready (found_invert i fs b f s) in
      let colons = λ (b : BaseOf r) (y : Inside r). coloned r f (stable_graph r b) y >>= ending b in
      after P (base_plan r Alone i fs) (λ b. whole b >>= colons b)
      (λ b. after P (whole b) (colons b)
      (λ y. after P (coloned r f (stable_graph r b) y) (ending b)
      (λ c. after P (inverted_of r f (stable_graph r b) c) (λ s. ready (found_invert i fs b f s))
      (λ s units. (b, s, refl)))))

  support_answers : (i : ℕ) (fs : Ideal r) → AllEnds (Answers (ask_support i fs)) (plan r (ask_support i fs))
  unfolding plan
  support_answers i fs =
      let P = Answers (ask_support i fs) in
      let work = λ (b : BaseOf r). task Alone names.Annihilator 0 (preimage_run r (unit_column r.prime r.vars (stable_graph r b).matrix.rows) (diagonal_blocks r.prime r.vars (stable_graph r b).matrix)) in
      after P (base_plan r Alone i fs) (λ b. work b >>= λ a. ready (found_support i fs b a)) (λ b. after P (work b) (λ a. ready (found_support i fs b a)) (λ a units. (b, a, refl)))

  map_answers : (i : ℕ) (fs gs : Ideal r) → AllEnds (Answers (ask_map i fs gs)) (plan r (ask_map i fs gs))
  unfolding plan mapped compared
  map_answers i fs gs =
      let P = Answers (ask_map i fs gs) in
      let unit = matrix_unit r.prime r.vars 1 in
      let contained = task Alone names.Contained 0 (contained_work r fs gs) >>= unless r not_contained in
      let lambdas = λ (b c : BaseOf r). over_identity r 1 unit (take i (differentials_of r c.ext.resolution)) (take i (graphs_of r b.ext.resolution)) in
      let phi = λ (b c : BaseOf r) (ls : List (MatrixOf r)). task Alone names.Phi 0 (phi_work r (matrix_at r.prime r.vars (unit ∷ ls) i) b.ext.cocycles.found c.ext.cocycles.graph) in
      let null = λ (c : BaseOf r) (phi : MatrixOf r). task Alone names.Null 0 (inside_run r phi (stable_graph r c)) in
      let one = λ (b c : BaseOf r) (phi : MatrixOf r). task Alone names.One 0 (fibre_work r phi (stable_graph r c).matrix (stable_graph r b)) in
      let onto = λ (c : BaseOf r) (phi : MatrixOf r). onto_plan r c.ext.relations.found phi c.ext.u in
      let answer = λ (b c : BaseOf r) (ls : List (MatrixOf r)) (phi : MatrixOf r) (null : Inside r) (one : Preimage r × Inside r) (s : Onto r). found_map i fs gs b c (unit ∷ ls) phi null one.0 one.1 s in
      let after_one = λ (b c : BaseOf r) (ls : List (MatrixOf r)) (phi : MatrixOf r) (null : Inside r) (one : Preimage r × Inside r). onto c phi >>= λ s. ready (answer b c ls phi null one s) in
      let after_null = λ (b c : BaseOf r) (ls : List (MatrixOf r)) (phi : MatrixOf r) (null : Inside r). one b c phi >>= after_one b c ls phi null in
      let after_phi = λ (b c : BaseOf r) (ls : List (MatrixOf r)) (phi : MatrixOf r). null c phi >>= after_null b c ls phi in
      let after_lambdas = λ (b c : BaseOf r) (ls : List (MatrixOf r)). phi b c ls >>= after_phi b c ls in
      let after_target = λ (b c : BaseOf r). lambdas b c >>= after_lambdas b c in
      let after_source = λ (b : BaseOf r). base_plan r Target i gs >>= after_target b in
      after P contained (λ u. base_plan r Source i fs >>= after_source)
      (λ u. after P (base_plan r Source i fs) after_source
      (λ b. after P (base_plan r Target i gs) (after_target b)
      (λ c. after P (lambdas b c) (after_lambdas b c)
      (λ ls. after P (phi b c ls) (after_phi b c ls)
      (λ f. after P (null c f) (after_null b c ls f)
      (λ y. after P (one b c f) (after_one b c ls f y)
      (λ x. after P (onto c f) (λ s. ready (answer b c ls f y x s))
      (λ s units. (b, c, unit ∷ ls, f, y, x.0, x.1, s, refl)))))))))

  plan_answers : (a : Query r) → AllEnds (Answers a) (plan r a)
  plan_answers (ask_zero i fs) = zero_answers i fs
  plan_answers (ask_class i fs e z) = class_answers i fs e z
  plan_answers (ask_root i fs) = root_answers i fs
  plan_answers (ask_invert i fs f) = invert_answers i fs f
  plan_answers (ask_support i fs) = support_answers i fs
  plan_answers (ask_map i fs gs) = map_answers i fs gs
  plan_answers (ask_member fs f) = member_answers fs f
  plan_answers (ask_resolution i fs) = resolution_answers i fs
  plan_answers (ask_ext i fs) = ext_answers i fs

  pub answers : (a : Query r) (units left : ℕ) (x : Found r) → Ends (plan r a units) x left → Answers a x
  answers a units left x e = subst (WhereOk (Answers a)) (ap (λ (d : Ending Unanswered (Found r)). d.end) e) (plan_answers a units)
