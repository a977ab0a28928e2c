-- BASE: a resolution with its Frobenius lift, Ext with its generating morphism, and the chain of kernels, task by task.
use Rattle.std.specs.Prelude.{ℕ, zero, suc, List, [], ◌∷◌, ◌++◌, length, take}
use Rattle.fm_algebra.specs.PolynomialMatrices.{matrix_transpose, matrix_unit}
use Rattle.fm_limit.specs.ResolvedIdeal.{matrix_at, differential, row}
use Rattle.fm_poly.specs.declared.ring.Ring.{Ring}
use Rattle.fm_run.specs.Runs.{Work, ready, ◌>>=◌}
use Rattle.fm_run.specs.Turns.{Turn, last, again, repeated}
use Rattle.fm_graphs.specs.Graphs.{MatrixOf, Graph, Outside, Inside, all_inside, first_outside, width, graph_run, lifted, inside_run, twisted_graph}
use Rattle.fm_graphs.specs.Trims.{Preimage, generating, kernel_run, preimage_run}
use Rattle.fm_graphs.specs.Bounds.{multiplied, twisted_matrix}
use Rattle.fm_run.specs.declared.task.Side.{Side}
use Rattle.fm_run.specs.declared.task.Name.TheVariants.{Resolve, Lift, Cocycles, Relations, Morphism, Chain as ChainTask}
use Rattle.fm_plan.specs.Tasks.{Plan, task, out_of_units}
use Rattle.fm_plan.specs.Results.{Resolution, Ext, Chain, Ideal, graphs_of, differentials_of}

module _ (r : Ring) where
  abbrev pub flip : MatrixOf r → MatrixOf r
  flip A = matrix_transpose r.prime r.vars A

  -- theta_j through the graph of d_j, from theta_(j-1)
  unfoldable pub lift_work : MatrixOf r → Graph r → Work (MatrixOf r)
  lift_work theta g =
      twisted_matrix r.prime r.vars 1 g.matrix >>= λ D.
      multiplied r.prime r.vars theta D >>= λ B. lifted r g B.columns

  -- `flip(theta_i) * Z` through the graph of Z, twisted
  unfoldable pub morphism_work : MatrixOf r → Graph r → Work (MatrixOf r)
  morphism_work theta z =
      multiplied r.prime r.vars (flip theta) z.matrix >>= λ B.
      twisted_graph r 1 z >>= λ g. lifted r g B.columns

  -- K_1 .. K_(s-1) and what grew, and the graph of K_(s-1)
  pub record Links : Type 0 where
    pub links : List (Preimage r)
    pub growth : List Outside
    pub graph : Graph r

  abbrev pub linked : Links → Preimage r → Inside r → Turn Links (Chain r)
  linked c x (all_inside ws) = last (record { links = c.links ++ x ∷ []; growth = c.growth; stable = c.graph; w = record { rows = width r c.graph; columns = ws } })
  linked c x (first_outside o) = again (record { links = c.links ++ x ∷ []; growth = c.growth ++ o ∷ []; graph = x.graph })

  -- K_s, and whether its columns lie in K_(s-1)
  unfoldable pub chain_work : MatrixOf r → Links → Work (Turn Links (Chain r))
  chain_work u c =
      twisted_matrix r.prime r.vars 1 c.graph.matrix >>= λ K.
      preimage_run r u K >>= λ x.
      inside_run r x.found c.graph >>= λ y. ready (linked c x y)

module _ (r : Ring) (side : Side) where
  -- `resolve j+1`, count times: generators of the kernel of d_j, from its graph
  abbrev pub resolving : (count j : ℕ) → Graph r → Plan (List (Preimage r))
  resolving zero j g = ready []
  resolving (suc count) j g =
      task side Resolve (suc j) (generating r (width r g) 0 g) >>= λ x.
      resolving count (suc j) x.graph >>= λ later. ready (x ∷ later)

  unfoldable pub resolution_plan : ℕ → Ideal r → Plan (Resolution r)
  resolution_plan i fs =
      task side Resolve 1 (graph_run r (row r.prime r.vars fs)) >>= λ g.
      resolving i 1 g >>= λ next. ready (record { first = g; next = next })

  -- `lift j` for the graphs of d_j, d_(j+1), ..
  abbrev pub lifting : ℕ → MatrixOf r → List (Graph r) → Plan (List (MatrixOf r))
  lifting j theta [] = ready []
  lifting j theta (g ∷ gs) =
      task side Lift j (lift_work r theta g) >>= λ next.
      lifting (suc j) next gs >>= λ later. ready (next ∷ later)

  unfoldable pub ext_plan : ℕ → Resolution r → Plan (Ext r)
  ext_plan i x =
      let unit = matrix_unit r.prime r.vars 1 in
      let ds = differentials_of r x in
      lifting 1 unit (take i (graphs_of r x)) >>= λ thetas.
      task side Cocycles 0 (kernel_run r (flip r (matrix_at r.prime r.vars ds i))) >>= λ z.
      task side Relations 0 (preimage_run r z.found (flip r (differential r.prime r.vars ds i))) >>= λ n.
      task side Morphism 0 (morphism_work r (matrix_at r.prime r.vars (unit ∷ thetas) i) z.graph) >>= λ u.
      ready (record { resolution = x; lift = unit ∷ thetas; cocycles = z; relations = n; u = u })

  -- `chain s` for s = 1, 2, ..
  abbrev pub chain_turn : MatrixOf r → Links r → Plan (Turn (Links r) (Chain r))
  chain_turn u c = task side ChainTask (suc (length c.growth)) (chain_work r u c)

  -- the chain of u from the graph of K_0
  abbrev pub chain_of : MatrixOf r → Graph r → Plan (Chain r)
  chain_of u g = repeated (out_of_units side ChainTask) (chain_turn u) (record { links = []; growth = []; graph = g })

  unfoldable pub chain_plan : Ext r → Plan (Chain r)
  chain_plan x = chain_of x.u x.relations.graph
