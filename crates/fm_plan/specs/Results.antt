-- What the tasks of a plan compute.
use Rattle.std.specs.Prelude.{ℕ, List, ◌∷◌, map, length, Option}
use Rattle.fm_algebra.specs.Polynomials.{Polynomial}
use Rattle.fm_limit.specs.ResolvedIdeal.{ResolvedIdeal}
use Rattle.fm_poly.specs.declared.ring.Ring.{Ring}
use Rattle.fm_graphs.specs.Graphs.{MatrixOf, Graph, Outside}
use Rattle.fm_graphs.specs.Trims.{Preimage}

-- the graphs of d_1, d_2, ..: that of d_1, and each later d_(j+1) as generators of the kernel of d_j
pub record Resolution (r : Ring) : Type 0 where
  pub first : Graph r
  pub next : List (Preimage r)

-- theta_0 .. theta_i, the cocycles Z, the relations N and the generating morphism U
pub record Ext (r : Ring) : Type 0 where
  pub resolution : Resolution r
  pub lift : List (MatrixOf r)
  pub cocycles : Preimage r
  pub relations : Preimage r
  pub u : MatrixOf r

-- K_1 .. K_(t+1), a column of each K_(s+1) outside K_s for s < t, the graph of K_t, and K_(t+1) as K_t times w
pub record Chain (r : Ring) : Type 0 where
  pub links : List (Preimage r)
  pub growth : List Outside
  pub stable : Graph r
  pub w : MatrixOf r

module _ (r : Ring) where
  abbrev pub Ideal : Type 0
  Ideal = List (Polynomial r.prime r.vars)

  abbrev pub graphs_of : Resolution r → List (Graph r)
  graphs_of x = x.first ∷ map (λ (y : Preimage r). y.graph) x.next

  abbrev pub differentials_of : Resolution r → List (MatrixOf r)
  differentials_of x = map (λ (g : Graph r). g.matrix) (graphs_of x)

  abbrev pub resolved : Ideal → Ext r → ResolvedIdeal r.prime r.vars
  resolved fs x = record { generators = fs; differentials = differentials_of x.resolution; lift = x.lift }

  abbrev pub kernels : Ext r → Chain r → List (MatrixOf r)
  kernels x c = x.relations.found ∷ map (λ (y : Preimage r). y.found) c.links

  abbrev pub stable_index : Chain r → ℕ
  stable_index c = length c.growth

-- a class is killed by s moves, and outside before; or it never is
pub data Killed (r : Ring) : Type 0 where
  killed_at : (s : ℕ) → List (Polynomial r.prime r.vars) → Option Outside → Killed r
  never_killed : Option Outside → Killed r
