-- What the program of the query on maps finds, as what its plan finds.
use Rattle.std.specs.Prelude.{◌≡◌, ℕ, length}
use Rattle.fm_ext.specs.Exts.{differentials, ring_of}
use Rattle.fm_limit.specs.Facts.{ColumnsInImage}
use Rattle.fm_limit.specs.ResolvedIdeal.{IsResolutionOf, row}
use Rattle.fm_resolve.specs.Resolutions.{ResolutionValue}
use Rattle.fm_graphs.specs.Graphs as runs
use Rattle.fm_graphs.specs.Trims as trims
use Rattle.fm_induced.specs.Fibres.{IsFibreOver, fibre_value}
use Rattle.fm_induced.specs.Joins.{IsOntoOver, onto_value}
use Rattle.fm_lift.specs.Lifts.{AreMatricesOver, matrices_meaning}
use Rattle.fm_mat.specs.Matrices.{matrix_meaning}
use Rattle.fm_plan.specs.Queries as plans
use Rattle.fm_plan.specs.Queries.{contained_work, unless}
use Rattle.fm_plan.specs.Results.{Ideal}
use Rattle.fm_plan.specs.Tasks.{Plan, not_contained, task}
use Rattle.fm_poly.specs.declared.ring.Ring.{Ring}
use Rattle.fm_run.specs.Runs.{◌>>=◌}
use Rattle.fm_run.specs.declared.task.Name.TheVariants as names
use Rattle.fm_run.specs.declared.task.Side.TheVariants.{Alone}
use Rattle.fm_syz.specs.Insides.{HasColumns, inside_value}
use Rattle.fm_queries.specs.Bases.{BaseValue, base_meaning, stable_graph}
use Rattle.fm_queries.specs.declared.comparing.Compared.{Compared}
use Rattle.fm_queries.specs.declared.map.Between.{Between}
use Rattle.fm_queries.specs.declared.map.Map.{Map}

-- the task `contained`, and the refusal where a generator of the target is not in the ideal of the source
abbrev pub contained_test : (r : Ring) (fs gs : Ideal r) → Plan (Unit {0})
contained_test r fs gs = task Alone names.Contained 0 (contained_work r fs gs) >>= unless r not_contained

abbrev pub compared_value : (r : Ring) → (runs.Inside r → trims.Preimage r × runs.Inside r → plans.Onto r → plans.Found r) → Compared → plans.Found r
compared_value r answer x = answer (inside_value r x.null) (fibre_value r x.fibre) (onto_value r x.onto)

-- what is found of a map between the modules of b and c
abbrev pub between_value : (r : Ring) (i : ℕ) (fs gs : Ideal r) (b c : BaseValue) → Between → plans.Found r
between_value r i fs gs b c x =
    let one = fibre_value r x.fibre in
    plans.found_map i fs gs (base_meaning r b) (base_meaning r c) (matrices_meaning r x.lambda.items) (matrix_meaning r x.phi) (inside_value r x.null) one.0 one.1 (onto_value r x.onto)

abbrev pub map_value : (r : Ring) (i : ℕ) (fs gs : Ideal r) → Map → plans.Found r
map_value r i fs gs x =
    let one = fibre_value r x.fibre in
    plans.found_map i fs gs (base_meaning r x.source) (base_meaning r x.target) (matrices_meaning r x.lambda.items) (matrix_meaning r x.phi) (inside_value r x.null) one.0 one.1 (onto_value r x.onto)

-- x and y resolve two ideals through degree i, the second of which lies in the first
pub record AreNested (r : Ring) (i : ℕ) (x y : ResolutionValue) : Type 0 where
  pub outer : Ideal r
  pub inner : Ideal r
  pub resolves_outer : IsResolutionOf r.prime r.vars outer i (differentials r x)
  pub resolves_inner : IsResolutionOf r.prime r.vars inner i (differentials r y)
  pub contained : ColumnsInImage r.prime r.vars (row r.prime r.vars outer) (row r.prime r.vars inner)

-- what compares the modules of b and c is over r, and its solutions are those by their stable kernels
pub record IsComparedOver (r : Ring) (b c : BaseValue) (x : Compared) : Type 0 where
  pub null : HasColumns r (length (stable_graph c).matrix.columns) x.null
  pub one : IsFibreOver r (length (stable_graph b).matrix.columns) x.fibre
  pub onto : IsOntoOver r x.onto

-- the matrices of a map between the modules of b and c are over r, and what compares them
pub record IsBetweenOver (r : Ring) (b c : BaseValue) (x : Between) : Type 0 where
  pub lambda : AreMatricesOver r x.lambda.items
  pub phi : x.phi.ring ≡ r
  pub null : HasColumns r (length (stable_graph c).matrix.columns) x.null
  pub one : IsFibreOver r (length (stable_graph b).matrix.columns) x.fibre
  pub onto : IsOntoOver r x.onto

-- the modules and the matrices of x are over r, and what compares them
pub record IsMapOver (r : Ring) (x : Map) : Type 0 where
  pub source : ring_of x.source.ext ≡ r
  pub target : ring_of x.target.ext ≡ r
  pub lambda : AreMatricesOver r x.lambda.items
  pub phi : x.phi.ring ≡ r
  pub null : HasColumns r (length (stable_graph x.target).matrix.columns) x.null
  pub one : IsFibreOver r (length (stable_graph x.source).matrix.columns) x.fibre
  pub onto : IsOntoOver r x.onto
