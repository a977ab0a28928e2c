-- The program's resolutions, and the resolutions of the plan that they mean.
use Rattle.std.specs.Prelude.{ℕ, suc, ◌≡◌, List, [], ◌∷◌, map, length}
use Rattle.fm_algebra.specs.PolynomialMatrices.{GeneratesKernel}
use Rattle.fm_limit.specs.Facts.{first_entries}
use Rattle.fm_run.specs.declared.task.Side.{Side}
use Rattle.fm_run.specs.declared.task.Name.TheVariants.{Resolve}
use Rattle.fm_poly.specs.declared.ring.Ring.{Ring}
use Rattle.fm_mat.specs.Matrices.{matrix_meaning}
use Rattle.fm_graphs.specs.Graphs.{Graph, width}
use Rattle.fm_graphs.specs.Trims.{Preimage, generating}
use Rattle.fm_plan.specs.Tasks.{Plan, task}
use Rattle.fm_plan.specs.Results as plans
use Rattle.fm_syz.specs.GraphValues.{GraphValue, IsGraph, graph_meaning}
use Rattle.fm_syz.specs.GeneratorValues.{GeneratorsValue, AreGenerators, generators_meaning}

-- what contracts see of a resolution: the graph of d_1, and generators of the kernels of d_1, d_2, ..
pub record ResolutionValue : Type 0 where
  pub first : GraphValue
  pub next : List GeneratorsValue

-- the graphs of d_1, d_2, ..
abbrev pub graphs_of : ResolutionValue → List GraphValue
graphs_of x = x.first ∷ map (λ (y : GeneratorsValue). y.graph) x.next

-- x generates the kernel of the matrix of g, and has no columns below its generators
pub record AreKernelGenerators (g : GraphValue) (x : GeneratorsValue) : Type 0 where
  pub generators : AreGenerators g x
  pub rows : x.graph.matrix.rows ≡ length g.matrix.columns
  pub below : x.x.rows ≡ 0
  pub exact : let r = g.matrix.ring in GeneratesKernel r.prime r.vars (matrix_meaning r x.graph.matrix) (matrix_meaning r g.matrix)

-- each generates the kernel of the matrix before it, the first that of the matrix of g
abbrev pub AreExactFrom : GraphValue → List GeneratorsValue → Type 0
AreExactFrom g [] = Unit {0}
AreExactFrom g (x ∷ xs) = AreKernelGenerators g x × AreExactFrom x.graph xs

-- d_1 is a row with a completed graph, and each matrix after it generates the kernel of the one before
pub record IsResolution (x : ResolutionValue) : Type 0 where
  pub row : x.first.matrix.rows ≡ 1
  pub graph : IsGraph x.first
  pub exact : AreExactFrom x.first x.next

module _ (r : Ring) where
  -- each of these generates the kernel of the matrix before it, the first that of the matrix of g
  abbrev pub generators_from : GraphValue → List GeneratorsValue → List (Preimage r)
  generators_from g [] = []
  generators_from g (x ∷ xs) = generators_meaning r g x ∷ generators_from x.graph xs

  abbrev pub resolution_value : ResolutionValue → plans.Resolution r
  resolution_value x = record { first = graph_meaning r x.first; next = generators_from x.first x.next }

  -- the entries of d_1
  abbrev pub generators_of : ResolutionValue → plans.Ideal r
  generators_of x = first_entries r.prime r.vars (matrix_meaning r x.first.matrix)

  -- `resolve j+1`, through the graph of d_j
  abbrev pub resolve_step : Side → ℕ → Graph r → Plan (Preimage r)
  resolve_step side j g = task side Resolve (suc j) (generating r (width r g) 0 g)
