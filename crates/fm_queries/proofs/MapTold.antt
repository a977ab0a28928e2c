-- The calls of the query `map`, in its ring.
use Rattle.std.proofs.Common.{ℕ, ◌≡◌, ◌∷◌, IfOk, List, Result, length, take, sym, ap, ◌∙◌, subst}
use Rattle.fm_algebra.specs.PolynomialMatrices.{matrix_unit}
use Rattle.fm_graphs.specs.Graphs.{MatrixOf, Inside, inside_run}
use Rattle.fm_graphs.specs.Trims.{Preimage}
use Rattle.fm_limit.specs.Facts.{ColumnsInImage}
use Rattle.fm_limit.specs.ResolvedIdeal.{IsLiftOfIdentityOf, IsResolutionOf, row}
use Rattle.fm_mat.specs.Matrices.{MatrixValue, matrix_meaning}
use Rattle.fm_plan.specs.Following.{FollowsPlan}
use Rattle.fm_plan.specs.Queries.{Found, Onto, compared, fibre_work, mapped, onto_plan, over_identity, phi_work}
use Rattle.fm_plan.specs.Results as plans
use Rattle.fm_plan.specs.Tasks.{task}
use Rattle.fm_poly.specs.declared.ring.Ring.{Ring}
use Rattle.fm_run.specs.declared.task.Name.TheVariants as names
use Rattle.fm_run.specs.declared.task.Side.TheVariants.{Alone}
use Rattle.fm_run.specs.declared.task.Stopped.{Stopped}
use Rattle.fm_syz.specs.GraphValues.{GraphValue, graph_meaning}
use Rattle.fm_syz.specs.Insides.{inside_value}
use Rattle.fm_syz.specs.declared.inside.Inside as program
use Rattle.fm_lift.specs.Lifts.{AreMatricesOver, after_the_first, matrices_meaning}
use Rattle.fm_induced.specs.Fibres.{IsFibreOver, fibre_value}
use Rattle.fm_induced.specs.Joins.{onto_value}
use Rattle.fm_induced.specs.declared.fibres.Fibre.{Fibre}
use Rattle.fm_induced.specs.declared.onto_maps.Onto as covers
use Rattle.fm_resolve.specs.Resolutions.{ResolutionValue, resolution_value}
use Rattle.fm_ext.specs.Exts.{differentials, ring_of}
use Rattle.fm_queries.specs.Bases.{BaseValue, base_meaning}
use Rattle.fm_queries.specs.Maps.{compared_value, map_value}
use Rattle.fm_queries.specs.declared.map.Map.{Map}
use Rattle.fm_queries.specs.declared.comparing.Compared.{Compared}

-- ---- the lift of the identity
module _ {Y : Type 0} (values : Y → List MatrixValue) (r : Ring) (i : ℕ) (x y x' y' : ResolutionValue) (first : x' ≡ x) (second : y' ≡ y) (ring : x.first.matrix.ring ≡ r) (result : Result Y Stopped) where
  abbrev Lifted : Ring → ResolutionValue → ResolutionValue → (old new : ℕ) → Type 0
  Lifted s x y old new = FollowsPlan (λ l. after_the_first (matrices_meaning s (values l))) result old new
      (over_identity s 1 (matrix_unit s.prime s.vars 1) (take i (differentials s y)) (take i (plans.graphs_of s (resolution_value s x))) old)

  pub identity_told : (old new : ℕ) → Lifted x'.first.matrix.ring x' y' old new → Lifted r x y old new
  identity_told old new h =
      subst (λ (s : Ring). Lifted s x y old new) ring
      (subst (λ (v : ResolutionValue). Lifted v.first.matrix.ring v y old new) first
      (subst (λ (v : ResolutionValue). Lifted x'.first.matrix.ring x' v old new) second h))

  abbrev First : Ring → Type 0
  First s = IfOk result (λ l. matrices_meaning s (values l) ≡ matrix_unit s.prime s.vars 1 ∷ after_the_first (matrices_meaning s (values l)))

  pub first_told : First x'.first.matrix.ring → First r
  first_told h = subst First (ap (λ (v : ResolutionValue). v.first.matrix.ring) first ∙ ring) h

  abbrev Over : Ring → Type 0
  Over s = IfOk result (λ l. AreMatricesOver s (values l))

  pub over_told : Over x'.first.matrix.ring → Over r
  over_told h = subst Over (ap (λ (v : ResolutionValue). v.first.matrix.ring) first ∙ ring) h

  abbrev Lifts : Ring → ResolutionValue → ResolutionValue → Type 0
  Lifts s x y = (fs gs : plans.Ideal s) → IsResolutionOf s.prime s.vars fs i (differentials s x) → IsResolutionOf s.prime s.vars gs i (differentials s y)
      → ColumnsInImage s.prime s.vars (row s.prime s.vars fs) (row s.prime s.vars gs)
      → IfOk result (λ l. IsLiftOfIdentityOf s.prime s.vars i (differentials s y) (differentials s x) (matrices_meaning s (values l)))

  pub lifts_told : Lifts x'.first.matrix.ring x' y' → Lifts r x y
  lifts_told h =
      subst (λ (s : Ring). Lifts s x y) ring
      (subst (λ (v : ResolutionValue). Lifts v.first.matrix.ring v y) first
      (subst (λ (v : ResolutionValue). Lifts x'.first.matrix.ring x' v) second h))

-- ---- the matrix of the map
module _ (r : Ring) (lambda : MatrixValue) (L : MatrixOf r) (at : matrix_meaning r lambda ≡ L) (z z' : MatrixValue) (g g' : GraphValue) (matrix : z' ≡ z) (graph : g' ≡ g) (ring : g.matrix.ring ≡ r) (result : Result MatrixValue Stopped) (old new : ℕ) where
  pub phi_told : (let s = g'.matrix.ring in FollowsPlan (matrix_meaning s) result old new (task Alone names.Phi 0 (phi_work s (matrix_meaning s lambda) (matrix_meaning s z') (graph_meaning s g')) old))
      → FollowsPlan (matrix_meaning r) result old new (task Alone names.Phi 0 (phi_work r L (matrix_meaning r z) (graph_meaning r g)) old)
  phi_told h =
      subst (λ A. FollowsPlan (matrix_meaning r) result old new (task Alone names.Phi 0 (phi_work r A (matrix_meaning r z) (graph_meaning r g)) old)) at
      (subst (λ (s : Ring). FollowsPlan (matrix_meaning s) result old new (task Alone names.Phi 0 (phi_work s (matrix_meaning s lambda) (matrix_meaning s z) (graph_meaning s g)) old)) ring
      (subst (λ (v : GraphValue). let s = v.matrix.ring in FollowsPlan (matrix_meaning s) result old new (task Alone names.Phi 0 (phi_work s (matrix_meaning s lambda) (matrix_meaning s z) (graph_meaning s v)) old)) graph
      (subst (λ (m : MatrixValue). let s = g'.matrix.ring in FollowsPlan (matrix_meaning s) result old new (task Alone names.Phi 0 (phi_work s (matrix_meaning s lambda) (matrix_meaning s m) (graph_meaning s g')) old)) matrix h)))

-- ---- comparing
abbrev pub Compares : (s : Ring) (b c : BaseValue) (phi : MatrixValue) → Result Compared Stopped → (old new : ℕ) → Type 0
Compares s b c phi result old new = (answer : Inside s → Preimage s × Inside s → Onto s → Found s)
    → FollowsPlan (compared_value s answer) result old new (compared s (base_meaning s b) (base_meaning s c) (matrix_meaning s phi) answer old)

pub compared_told : (s r : Ring) → s ≡ r → (b c : BaseValue) (phi : MatrixValue) (result : Result Compared Stopped) (old new : ℕ) → Compares s b c phi result old new → Compares r b c phi result old new
compared_told s r ring b c phi result old new h = subst (λ (q : Ring). Compares q b c phi result old new) ring h

module _ (r : Ring) (m : MatrixValue) (k k' : GraphValue) (kernel : k' ≡ k) (ring : k.matrix.ring ≡ r) (old new : ℕ) where
  pub null_told : (result : Result program.Inside Stopped) → (let s = k'.matrix.ring in FollowsPlan (inside_value s) result old new (task Alone names.Null 0 (inside_run s (matrix_meaning s m) (graph_meaning s k')) old))
      → FollowsPlan (inside_value r) result old new (task Alone names.Null 0 (inside_run r (matrix_meaning r m) (graph_meaning r k)) old)
  null_told result h =
      subst (λ (s : Ring). FollowsPlan (inside_value s) result old new (task Alone names.Null 0 (inside_run s (matrix_meaning s m) (graph_meaning s k)) old)) ring
      (subst (λ (v : GraphValue). let s = v.matrix.ring in FollowsPlan (inside_value s) result old new (task Alone names.Null 0 (inside_run s (matrix_meaning s m) (graph_meaning s v)) old)) kernel h)

  pub one_told : (K K' : MatrixValue) → K' ≡ K → (result : Result Fibre Stopped)
      → (let s = k'.matrix.ring in FollowsPlan (fibre_value s) result old new (task Alone names.One 0 (fibre_work s (matrix_meaning s m) (matrix_meaning s K') (graph_meaning s k')) old))
      → FollowsPlan (fibre_value r) result old new (task Alone names.One 0 (fibre_work r (matrix_meaning r m) (matrix_meaning r K) (graph_meaning r k)) old)
  one_told K K' same result h =
      subst (λ (s : Ring). FollowsPlan (fibre_value s) result old new (task Alone names.One 0 (fibre_work s (matrix_meaning s m) (matrix_meaning s K) (graph_meaning s k)) old)) ring
      (subst (λ (v : GraphValue). let s = v.matrix.ring in FollowsPlan (fibre_value s) result old new (task Alone names.One 0 (fibre_work s (matrix_meaning s m) (matrix_meaning s K) (graph_meaning s v)) old)) kernel
      (subst (λ (v : MatrixValue). let s = k'.matrix.ring in FollowsPlan (fibre_value s) result old new (task Alone names.One 0 (fibre_work s (matrix_meaning s m) (matrix_meaning s v) (graph_meaning s k')) old)) same h))

pub fibre_told : (r : Ring) (g h : GraphValue) → h ≡ g → g.matrix.ring ≡ r → (x : Fibre) → IsFibreOver h.matrix.ring (length h.matrix.columns) x → IsFibreOver r (length g.matrix.columns) x
fibre_told r g h same ring x k = subst (λ (s : Ring). IsFibreOver s (length g.matrix.columns) x) ring (subst (λ (h : GraphValue). IsFibreOver h.matrix.ring (length h.matrix.columns) x) same k)

pub onto_told : (r : Ring) (n n' phi u u' : MatrixValue) → n' ≡ n → u' ≡ u → n.ring ≡ r → (result : Result covers.Onto Stopped) (old new : ℕ)
    → (let s = n'.ring in FollowsPlan (onto_value s) result old new (onto_plan s (matrix_meaning s n') (matrix_meaning s phi) (matrix_meaning s u') old))
    → FollowsPlan (onto_value r) result old new (onto_plan r (matrix_meaning r n) (matrix_meaning r phi) (matrix_meaning r u) old)
onto_told r n n' phi u u' same morphism ring result old new h =
    subst (λ (s : Ring). FollowsPlan (onto_value s) result old new (onto_plan s (matrix_meaning s n) (matrix_meaning s phi) (matrix_meaning s u) old)) ring
    (subst (λ (v : MatrixValue). let s = v.ring in FollowsPlan (onto_value s) result old new (onto_plan s (matrix_meaning s v) (matrix_meaning s phi) (matrix_meaning s u) old)) same
    (subst (λ (v : MatrixValue). let s = n'.ring in FollowsPlan (onto_value s) result old new (onto_plan s (matrix_meaning s n') (matrix_meaning s phi) (matrix_meaning s v) old)) morphism h))

-- the tasks from `lambda 1` on
abbrev pub Follows : (s : Ring) (i : ℕ) (b c : BaseValue) → Result Map Stopped → (old new : ℕ) → Type 0
Follows s i b c result old new = (fs gs : plans.Ideal s) → FollowsPlan (map_value s i fs gs) result old new (mapped s i fs gs (base_meaning s b) (base_meaning s c) old)

pub between_told : (s r : Ring) → s ≡ r → (i : ℕ) (b c : BaseValue) (result : Result Map Stopped) (old new : ℕ) → Follows s i b c result old new → Follows r i b c result old new
between_told s r ring i b c result old new h = subst (λ (q : Ring). Follows q i b c result old new) ring h
