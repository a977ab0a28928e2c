-- The plans of the queries.
use Rattle.std.specs.Prelude.{ℕ, zero, suc, ◌+◌, ◌==◌, if◌then◌else◌, Bool, true, false, List, [], ◌∷◌, ◌++◌, map, length, take, get_or, Option, Some, None}
use Rattle.fm_complete.specs.Reductions.{divided}
use Rattle.fm_algebra.specs.Polynomials.{Polynomial, polynomial_power}
use Rattle.fm_algebra.specs.PolynomialMatrices.{matrix_transpose, matrix_unit, matrix_scalar, matrix_column, matrix_beside}
use Rattle.fm_limit.specs.ResolvedIdeal.{matrix_at, rank, row}
use Rattle.fm_algebra.specs.Matrix.{listed}
use Rattle.fm_limit.specs.Facts.{unit_column, diagonal_blocks, first_entries}
use Rattle.fm_limit.specs.Verdicts.{Verdict, zero_limit, zero_class, inverting, support, root, induced_map, member, resolution, ext}
use Rattle.fm_poly.specs.declared.ring.Ring.{Ring}
use Rattle.fm_term.specs.declared.vterm.VTerm.{VTerm}
use Rattle.fm_run.specs.Runs.{Work, ready, ◌>>=◌, halted, bounded}
use Rattle.fm_run.specs.Turns.{Turn, last, again, repeated}
use Rattle.fm_complete.specs.Completions.{completed}
use Rattle.fm_graphs.specs.Listing.{VectorOf, terms_of}
use Rattle.fm_graphs.specs.Graphs.{MatrixOf, Graph, Outside, Inside, all_inside, first_outside, width, graph_run, lifted, inside_run, whole_run, twisted_graph}
use Rattle.fm_graphs.specs.Trims.{Preimage, is_zero, preimage_run}
use Rattle.fm_graphs.specs.Bounds.{multiplied, twisted_matrix}
use Rattle.fm_mat.specs.Bounds.{product_fits}
use Rattle.fm_run.specs.declared.task.Side.{Side}
use Rattle.fm_run.specs.declared.task.Side.TheVariants.{Alone, Source, Target}
use Rattle.fm_plan.specs.Tasks.{Refusal, wrong_length, not_a_cocycle, not_contained, refused, Plan, task, out_of_units}
use Rattle.fm_plan.specs.Results.{Resolution, Ext, Chain, Ideal, Killed, killed_at, never_killed, graphs_of, differentials_of, resolved, stable_index}
use Rattle.fm_plan.specs.Base.{resolution_plan, ext_plan, chain_plan}
use Rattle.fm_run.specs.declared.task.Name.TheVariants as names

-- inverting: f^k lands in the stable kernel by w, and a column of f^(k-1) is outside before; or the colons become stable without being everything
pub data Inverted (r : Ring) : Type 0 where
  by_power : (k : ℕ) → (w : MatrixOf r) → (before : Option Outside) → Inverted r
  never_inverted : (colons : List (Preimage r)) → (w : MatrixOf r) → (proper : Outside) → Inverted r

-- the chain from [N | Phi] comes to everything at a member, by w; or it becomes stable without
pub data Onto (r : Ring) : Type 0 where
  onto_at : (first : Graph r) → (links : List (Preimage r)) → (w : MatrixOf r) → (before : Option Outside) → Onto r
  never_onto : (first : Graph r) → (links : List (Preimage r)) → (w : MatrixOf r) → (proper : Outside) → Onto r

pub record BaseOf (r : Ring) : Type 0 where
  pub ext : Ext r
  pub chain : Chain r

-- an answered query, with all that its plan computed
pub data Found (r : Ring) : Type 0 where
  found_zero : (i : ℕ) (fs : Ideal r) (b : BaseOf r) (whole : Inside r) → Found r
  found_class : (i : ℕ) (fs : Ideal r) (b : BaseOf r) (e : ℕ) (z w : VectorOf r) (killed : Killed r) → Found r
  found_root : (i : ℕ) (fs : Ideal r) (b : BaseOf r) → Found r
  found_invert : (i : ℕ) (fs : Ideal r) (b : BaseOf r) (f : Polynomial r.prime r.vars) (inverted : Inverted r) → Found r
  found_support : (i : ℕ) (fs : Ideal r) (b : BaseOf r) (annihilator : Preimage r) → Found r
  found_map : (i : ℕ) (fs gs : Ideal r) (b c : BaseOf r) (lambda : List (MatrixOf r)) (phi : MatrixOf r) (null : Inside r) (fibre : Preimage r) (one : Inside r) (onto : Onto r) → Found r
  found_member : (fs : Ideal r) (f : Polynomial r.prime r.vars) (first : Graph r) (inside : Inside r) → Found r
  found_resolution : (i : ℕ) (fs : Ideal r) (x : Resolution r) → Found r
  found_ext : (i : ℕ) (fs : Ideal r) (x : Ext r) → Found r

pub data Query (r : Ring) : Type 0 where
  ask_zero : (i : ℕ) (fs : Ideal r) → Query r
  ask_class : (i : ℕ) (fs : Ideal r) (e : ℕ) (z : VectorOf r) → Query r
  ask_root : (i : ℕ) (fs : Ideal r) → Query r
  ask_invert : (i : ℕ) (fs : Ideal r) (f : Polynomial r.prime r.vars) → Query r
  ask_support : (i : ℕ) (fs : Ideal r) → Query r
  ask_map : (i : ℕ) (fs gs : Ideal r) → Query r
  ask_member : (fs : Ideal r) (f : Polynomial r.prime r.vars) → Query r
  ask_resolution : (i : ℕ) (fs : Ideal r) → Query r
  ask_ext : (i : ℕ) (fs : Ideal r) → Query r

module _ (r : Ring) where
  abbrev pub base_of : Side → ℕ → Resolution r → Plan (BaseOf r)
  base_of side i x = ext_plan r side i x >>= λ y. chain_plan r side y >>= λ c. ready (record { ext = y; chain = c })

  unfoldable pub base_plan : Side → ℕ → Ideal r → Plan (BaseOf r)
  base_plan side i fs = resolution_plan r side i fs >>= base_of side i

  abbrev pub stable_graph : BaseOf r → Graph r
  stable_graph b = b.chain.stable

  -- ---- class
  abbrev pub allowed : Bool → Refusal → Plan (Unit {0})
  allowed test refusal = if test then ready tt else halted (refused refusal)

  -- goes on where no number is found that is refused
  abbrev pub unless : (ℕ → Refusal) → Option ℕ → Plan (Unit {0})
  unless refusal None = ready tt
  unless refusal (Some k) = halted (refused (refusal k))

  -- the first entry that isn't zero, numbered from k
  abbrev pub first_nonzero : ℕ → VectorOf r → Option ℕ
  first_nonzero k [] = None
  first_nonzero k (f ∷ fs) = if is_zero (terms_of r (f ∷ [])) then first_nonzero (suc k) fs else Some k

  -- the first entry of `flip(d^[q]) * z` that isn't zero, numbered from 1; none where z is a cocycle of stage e
  unfoldable pub cocycle_work : ℕ → MatrixOf r → VectorOf r → Work (Option ℕ)
  cocycle_work e d z =
      twisted_matrix r.prime r.vars e d >>= λ D.
      multiplied r.prime r.vars (matrix_transpose r.prime r.vars D) (matrix_column r.prime r.vars z) >>= λ B.
      ready (first_nonzero 1 (get_or B.columns 0 []))

  -- z through the graph, twisted
  unfoldable pub lift_at : ℕ → Graph r → VectorOf r → Work (Inside r)
  lift_at e g z = twisted_graph r e g >>= inside_run r (matrix_column r.prime r.vars z)

  -- the solution of one column
  abbrev pub solution_of : Inside r → VectorOf r
  solution_of (all_inside ws) = get_or ws 0 []
  solution_of (first_outside o) = []

  abbrev pub killed_or : ℕ → Option Outside → (Outside → Plan (Killed r)) → Inside r → Plan (Killed r)
  killed_or s before later (all_inside ws) = ready (killed_at s (get_or ws 0 []) before)
  killed_or s before later (first_outside o) = later o

  -- `stage s` for the graphs of K_s, K_(s+1), ..
  abbrev pub stages : ℕ → VectorOf r → ℕ → Option Outside → List (Graph r) → Plan (Killed r)
  stages e w s before [] = ready (never_killed before)
  stages e w s before (g ∷ gs) = task Alone names.Stage s (lift_at e g w) >>= killed_or s before (λ o. stages e w (suc s) (Some o) gs)

  abbrev pub chain_graphs : BaseOf r → List (Graph r)
  chain_graphs b = take (suc (stable_index r b.chain)) (b.ext.relations.graph ∷ map (λ (x : Preimage r). x.graph) b.chain.links)

  -- ---- invert
  -- C_1 .. C_(k-1), the graph of C_(k-1), and a unit vector outside it
  pub record Colons : Type 0 where
    pub colons : List (Preimage r)
    pub graph : Graph r
    pub proper : Outside

  -- the first power, or the colons that become stable
  pub data Coloned : Type 0 where
    whole_at : ℕ → Coloned
    stable_at : List (Preimage r) → MatrixOf r → Outside → Coloned

  abbrev pub colon_settled : Colons → Preimage r → Outside → Inside r → Turn Colons Coloned
  colon_settled c x o (all_inside ws) = last (stable_at (c.colons ++ x ∷ []) (record { rows = width r c.graph; columns = ws }) c.proper)
  colon_settled c x o (first_outside o') = again (record { colons = c.colons ++ x ∷ []; graph = x.graph; proper = o })

  abbrev pub colon_next : Colons → Preimage r → Inside r → Work (Turn Colons Coloned)
  colon_next c x (all_inside ws) = ready (last (whole_at (suc (length c.colons))))
  colon_next c x (first_outside o) = inside_run r x.found c.graph >>= λ y. ready (colon_settled c x o y)

  -- `colon k` for k = 1, 2, ..
  abbrev pub colon_turn : Polynomial r.prime r.vars → Colons → Plan (Turn Colons Coloned)
  colon_turn f c = task Alone names.Colon (suc (length c.colons))
      (preimage_run r (matrix_scalar r.prime r.vars f c.graph.matrix.rows) c.graph.matrix >>= λ x. whole_run r x.graph >>= colon_next c x)

  abbrev pub coloned : Polynomial r.prime r.vars → Graph r → Inside r → Plan Coloned
  coloned f k (all_inside ws) = ready (whole_at 0)
  coloned f k (first_outside o) = repeated (out_of_units Alone names.Colon) (colon_turn f) (record { colons = []; graph = k; proper = o })

  -- f^k, by k products
  abbrev pub power_run : ℕ → Polynomial r.prime r.vars → Work (Polynomial r.prime r.vars)
  power_run zero f = ready (polynomial_power r.prime r.vars 0 f)
  power_run (suc k) f = power_run k f >>= λ g. bounded (product_fits r.prime r.vars g f) (polynomial_power r.prime r.vars (suc k) f)

  abbrev pub outside_of : Inside r → Option Outside
  outside_of (all_inside ws) = None
  outside_of (first_outside o) = Some o

  -- a column of f^(k-1) that is outside, where k > 0
  abbrev pub before_power : ℕ → Polynomial r.prime r.vars → Graph r → Work (Option Outside)
  before_power zero f g = ready None
  before_power (suc k) f g = inside_run r (matrix_scalar r.prime r.vars (polynomial_power r.prime r.vars k f) g.matrix.rows) g >>= λ y. ready (outside_of y)

  abbrev pub inverted_of : Polynomial r.prime r.vars → Graph r → Coloned → Plan (Inverted r)
  inverted_of f g (stable_at colons w o) = ready (never_inverted colons w o)
  inverted_of f g (whole_at k) = task Alone names.Power 0 (
      power_run k f >>= λ h. lifted r g (matrix_scalar r.prime r.vars h g.matrix.rows).columns >>= λ w.
      before_power k f g >>= λ o. ready (by_power k w o))

  -- ---- map
  -- the first generator, numbered from k, that the members don't divide
  abbrev pub contained_from : List (List VTerm) → ℕ → Ideal r → Work (Option ℕ)
  contained_from members k [] = ready None
  contained_from members k (f ∷ fs) = (λ units. divided r members units (terms_of r (f ∷ []))) >>= λ x.
      if is_zero x.rest then contained_from members (suc k) fs else ready (Some k)

  unfoldable pub contained_work : Ideal r → Ideal r → Work (Option ℕ)
  contained_work source target = completed r (map (λ f. terms_of r (f ∷ [])) source) >>= λ c. contained_from c.members 1 target

  -- `lambda j`, for the differentials of the target and the graphs of those of the source from j on
  abbrev pub over_identity : ℕ → MatrixOf r → List (MatrixOf r) → List (Graph r) → Plan (List (MatrixOf r))
  over_identity j lambda (d ∷ ds) (g ∷ gs) = task Alone names.Lambda j (multiplied r.prime r.vars lambda d >>= λ B. lifted r g B.columns) >>= λ next.
      over_identity (suc j) next ds gs >>= λ later. ready (next ∷ later)
  over_identity j lambda [] gs = ready []
  over_identity j lambda (d ∷ ds) [] = ready []

  -- what phi sends into im K, and whether it lies in the image of g
  unfoldable pub fibre_work : MatrixOf r → MatrixOf r → Graph r → Work (Preimage r × Inside r)
  fibre_work phi K g = preimage_run r phi K >>= λ x. inside_run r x.found g >>= λ y. ready (x, y)

  pub record Joins : Type 0 where
    pub links : List (Preimage r)
    pub graph : Graph r
    pub proper : Outside

  abbrev pub join_settled : Graph r → Joins → Preimage r → Outside → Inside r → Turn Joins (Onto r)
  join_settled first c x o (all_inside ws) = last (never_onto first (c.links ++ x ∷ []) (record { rows = width r c.graph; columns = ws }) c.proper)
  join_settled first c x o (first_outside o') = again (record { links = c.links ++ x ∷ []; graph = x.graph; proper = o })

  abbrev pub join_next : Graph r → Joins → Preimage r → Inside r → Work (Turn Joins (Onto r))
  join_next first c x (all_inside ws) = ready (last (onto_at first (c.links ++ x ∷ []) (record { rows = width r x.graph; columns = ws }) (Some c.proper)))
  join_next first c x (first_outside o) = inside_run r x.found c.graph >>= λ y. ready (join_settled first c x o y)

  -- `onto s` for s = 1, 2, ..
  abbrev pub join_turn : MatrixOf r → Graph r → Joins → Plan (Turn Joins (Onto r))
  join_turn u first c = task Alone names.Onto (suc (length c.links))
      (twisted_matrix r.prime r.vars 1 c.graph.matrix >>= λ L. preimage_run r u L >>= λ x. whole_run r x.graph >>= join_next first c x)

  abbrev pub joined : MatrixOf r → Graph r × Inside r → Plan (Onto r)
  joined u (g, all_inside ws) = ready (onto_at g [] (record { rows = width r g; columns = ws }) None)
  joined u (g, first_outside o) = repeated (out_of_units Alone names.Onto) (join_turn u g) (record { links = []; graph = g; proper = o })

  unfoldable pub join_work : MatrixOf r → Work (Graph r × Inside r)
  join_work A = graph_run r A >>= λ g. whole_run r g >>= λ y. ready (g, y)

  unfoldable pub onto_plan : MatrixOf r → MatrixOf r → MatrixOf r → Plan (Onto r)
  onto_plan N phi u =
      task Alone names.Onto 0 (join_work (matrix_beside r.prime r.vars N phi)) >>= joined u

  unfoldable pub phi_work : MatrixOf r → MatrixOf r → Graph r → Work (MatrixOf r)
  phi_work lambda z g = multiplied r.prime r.vars (matrix_transpose r.prime r.vars lambda) z >>= λ B. lifted r g B.columns

  -- `null`, `one` and `onto s` for the matrix phi of the map
  unfoldable pub compared : BaseOf r → BaseOf r → MatrixOf r → (Inside r → Preimage r × Inside r → Onto r → Found r) → Plan (Found r)
  compared b c phi answer =
      task Alone names.Null 0 (inside_run r phi (stable_graph c)) >>= λ null.
      task Alone names.One 0 (fibre_work phi (stable_graph c).matrix (stable_graph b)) >>= λ one.
      onto_plan c.ext.relations.found phi c.ext.u >>= λ s. ready (answer null one s)

  -- the tasks from `lambda 1` on
  unfoldable pub mapped : ℕ → Ideal r → Ideal r → BaseOf r → BaseOf r → Plan (Found r)
  mapped i fs gs b c =
      let unit = matrix_unit r.prime r.vars 1 in
      over_identity 1 unit (take i (differentials_of r c.ext.resolution)) (take i (graphs_of r b.ext.resolution)) >>= λ lambdas.
      task Alone names.Phi 0 (phi_work (matrix_at r.prime r.vars (unit ∷ lambdas) i) b.ext.cocycles.found c.ext.cocycles.graph) >>= λ phi.
      compared b c phi (λ null one s. found_map i fs gs b c (unit ∷ lambdas) phi null one.0 one.1 s)

  -- ---- the plans
  unfoldable pub plan : Query r → Plan (Found r)
  plan (ask_zero i fs) = base_plan Alone i fs >>= λ b. task Alone names.Whole 0 (whole_run r (stable_graph b)) >>= λ y. ready (found_zero i fs b y)
  plan (ask_root i fs) = base_plan Alone i fs >>= λ b. ready (found_root i fs b)
  plan (ask_resolution i fs) = resolution_plan r Alone i fs >>= λ x. ready (found_resolution i fs x)
  plan (ask_ext i fs) = resolution_plan r Alone i fs >>= λ x. ext_plan r Alone i x >>= λ y. ready (found_ext i fs y)
  plan (ask_member fs f) =
      task Alone names.Resolve 1 (graph_run r (row r.prime r.vars fs)) >>= λ g.
      task Alone names.Member 0 (inside_run r (matrix_column r.prime r.vars (f ∷ [])) g) >>= λ y. ready (found_member fs f g y)
  plan (ask_class i fs e z) =
      resolution_plan r Alone i fs >>= λ x.
      let d = matrix_at r.prime r.vars (differentials_of r x) i in
      allowed (length z == d.rows) (wrong_length (length z) d.rows) >>= λ u.
      task Alone names.Test 0 (cocycle_work e d z) >>= unless not_a_cocycle >>= λ u'.
      base_of Alone i x >>= λ b.
      task Alone names.Coordinates 0 (lift_at e b.ext.cocycles.graph z) >>= λ y.
      stages e (solution_of y) 0 None (chain_graphs b) >>= λ s. ready (found_class i fs b e z (solution_of y) s)
  plan (ask_invert i fs f) =
      base_plan Alone i fs >>= λ b. task Alone names.Colon 0 (whole_run r (stable_graph b)) >>= λ y.
      coloned f (stable_graph b) y >>= λ c. inverted_of f (stable_graph b) c >>= λ s. ready (found_invert i fs b f s)
  plan (ask_support i fs) =
      base_plan Alone i fs >>= λ b.
      let K = (stable_graph b).matrix in
      task Alone names.Annihilator 0 (preimage_run r (unit_column r.prime r.vars K.rows) (diagonal_blocks r.prime r.vars K)) >>= λ a. ready (found_support i fs b a)
  plan (ask_map i fs gs) =
      task Alone names.Contained 0 (contained_work fs gs) >>= unless not_contained >>= λ u.
      base_plan Source i fs >>= λ b.
      base_plan Target i gs >>= λ c.
      mapped i fs gs b c

  -- ---- the verdict of an answer
  abbrev pub is_yes : Inside r → Bool
  is_yes (all_inside ws) = true
  is_yes (first_outside o) = false

  abbrev pub stage_of : ℕ → Killed r → Option ℕ
  stage_of e (killed_at s w before) = Some (e + s)
  stage_of e (never_killed before) = None

  abbrev pub power_of : Inverted r → Option ℕ
  power_of (by_power k w before) = Some k
  power_of (never_inverted colons w proper) = None

  abbrev pub onto_of : Onto r → Option ℕ
  onto_of (onto_at first links w before) = Some (length links)
  onto_of (never_onto first links w proper) = None

  abbrev pub stable_of : BaseOf r → ℕ
  stable_of b = stable_index r b.chain

  unfoldable pub verdict : Found r → Verdict r.prime r.vars
  verdict (found_zero i fs b y) = zero_limit i (resolved r fs b.ext) (is_yes y) (stable_of b)
  verdict (found_class i fs b e z w s) = zero_class i (resolved r fs b.ext) e z (stage_of e s)
  verdict (found_root i fs b) = root i (resolved r fs b.ext) b.ext.cocycles.found (stable_graph b).matrix b.ext.u (length b.ext.cocycles.found.columns) (stable_of b)
  verdict (found_invert i fs b f s) = inverting i (resolved r fs b.ext) f (power_of s)
  verdict (found_support i fs b a) = support i (resolved r fs b.ext) (first_entries r.prime r.vars a.found)
  verdict (found_map i fs gs b c ls phi null fibre one s) = induced_map i (resolved r fs b.ext) (resolved r gs c.ext) ls (is_yes null) (is_yes one) (onto_of s)
  verdict (found_member fs f g y) = member fs f (is_yes y)
  verdict (found_resolution i fs x) = resolution fs i (differentials_of r x) (listed (i + 2) (rank r.prime r.vars (differentials_of r x)))
  verdict (found_ext i fs x) = ext i (resolved r fs x) x.cocycles.found x.relations.found x.u (length x.cocycles.found.columns) (length x.relations.found.columns)
