-- The `resolve` tasks give a resolution, with completed graphs.
use Rattle.std.proofs.Common.{ℕ, zero, suc, ◌+◌, ◌<◌, ◌≡◌, ◌↔◌, List, [], ◌∷◌, map, length, refl, sym, ap, ◌∙◌, subst, arith}
use Rattle.fm_algebra.specs.PolynomialMatrices.{HasShape, InImage, GeneratesKernel}
use Rattle.fm_limit.specs.ResolvedIdeal.{matrix_at, columns_of, rank, row, InIdeal, IsResolutionOf}
use Rattle.fm_limit.proofs.MatrixWords.{row_fits, shape_rows}
use Rattle.fm_poly.specs.declared.ring.Ring.{Ring}
use Rattle.fm_run.specs.Runs.{ready, ◌>>=◌}
use Rattle.fm_graphs.specs.Graphs.{MatrixOf, Graph, width, graph_run}
use Rattle.fm_graphs.specs.Trims.{Preimage, Generating, generating}
use Rattle.fm_run.proofs.Ends.{Ends, same_value, bound}
use Rattle.fm_graphs.specs.Graphs.{IsCompletedGraph}
use Rattle.fm_graphs.proofs.Graphs.{graph_is}
use Rattle.fm_graphs.proofs.Preimages.{generating_is, kernel_from, own_shape}
use Rattle.fm_run.specs.declared.task.Side.{Side}
use Rattle.fm_run.specs.declared.task.Name.TheVariants.{Resolve}
use Rattle.fm_plan.specs.Tasks.{task}
use Rattle.fm_plan.specs.Results.{Resolution, Ideal, differentials_of}
use Rattle.fm_plan.specs.Base.{resolving, resolution_plan}
use Rattle.fm_plan.proofs.Tasks.{task_ends}

module _ (r : Ring) where
  -- generators of the kernel of the matrix of g, with their completed graph
  pub record StepOf (g : Graph r) (x : Preimage r) : Type 0 where
    pub graph : IsCompletedGraph r x.graph
    pub matrix : x.graph.matrix ≡ x.found
    pub shape : HasShape r.prime r.vars (width r g) (length x.found.columns) x.found
    pub exact : GeneratesKernel r.prime r.vars x.found g.matrix
    pub generating : Generating r (width r g) 0 g x

  abbrev pub Resolves : Graph r → List (Preimage r) → Type 0
  Resolves g [] = Unit {0}
  Resolves g (x ∷ xs) = StepOf g x × Resolves x.graph xs

  step_is : (g : Graph r) → IsCompletedGraph r g → (units left : ℕ) (x : Preimage r) → Ends (generating r (width r g) 0 g units) x left → StepOf g x
  step_is g G units left x e =
      let D = generating_is r (width r g) 0 g G (plain (width r g)) units left x e in
      record { graph = D.graph; matrix = D.graph_matrix; shape = D.found_shape; exact = kernel_from r g G units left x e; generating = D }
    where
      plain : (a : ℕ) → a ≡ a + 0
      plain a = omega arith

  resolving_is : (side : Side) (count j : ℕ) (g : Graph r) → IsCompletedGraph r g → (units left : ℕ) (xs : List (Preimage r)) → Ends (resolving r side count j g units) xs left → Resolves g xs × (length xs ≡ count)
  resolving_is side zero j g G units left xs e =
      let same : [] ≡ xs = same_value [] xs units left e in
      (subst (Resolves g) same tt, ap length (sym same))
  resolving_is side (suc count) j g G units left xs e =
      let work = generating r (width r g) 0 g in
      let b = bound (task side Resolve (suc j) work) (λ x. resolving r side count (suc j) x.graph >>= λ later. ready (x ∷ later)) units left xs e in
      let S = step_is g G units b.between b.value (task_ends side Resolve (suc j) work units b.between b.value b.first) in
      let d = bound (resolving r side count (suc j) b.value.graph) (λ later. ready (b.value ∷ later)) b.between left xs b.second in
      let later = resolving_is side count (suc j) b.value.graph S.graph b.between d.between d.value d.first in
      let same : b.value ∷ d.value ≡ xs = same_value (b.value ∷ d.value) xs d.between left d.second in
      (subst (Resolves g) same (S, later.0), ap length (sym same) ∙ ap suc later.1)

  -- ---- the matrices
  abbrev pub matrices_from : Graph r → List (Preimage r) → List (MatrixOf r)
  matrices_from g xs = map (λ (h : Graph r). h.matrix) (g ∷ map (λ (y : Preimage r). y.graph) xs)

  count_from : (g : Graph r) (xs : List (Preimage r)) → length (matrices_from g xs) ≡ suc (length xs)
  count_from g [] = refl
  count_from g (x ∷ xs) = ap suc (count_from x.graph xs)

  exact_at : (g : Graph r) (xs : List (Preimage r)) → Resolves g xs → (j : ℕ) → j < length xs
      → GeneratesKernel r.prime r.vars (matrix_at r.prime r.vars (matrices_from g xs) (suc j)) (matrix_at r.prime r.vars (matrices_from g xs) j)
  unfolding matrix_at
  exact_at g [] R j h = absurd (omega arith)
  exact_at g (x ∷ xs) R zero h = subst (λ M. GeneratesKernel r.prime r.vars M g.matrix) (sym R.0.matrix) R.0.exact
  exact_at g (x ∷ xs) R (suc j) h = exact_at x.graph xs R.1 j (omega arith)

  shape_at : (g : Graph r) (xs : List (Preimage r)) → Resolves g xs → (j : ℕ) → j < length xs
      → HasShape r.prime r.vars (columns_of r.prime r.vars (matrices_from g xs) j) (columns_of r.prime r.vars (matrices_from g xs) (suc j)) (matrix_at r.prime r.vars (matrices_from g xs) (suc j))
  unfolding matrix_at
  shape_at g [] R j h = absurd (omega arith)
  shape_at g (x ∷ xs) R zero h = subst (λ (M : MatrixOf r). HasShape r.prime r.vars (width r g) (length M.columns) M) (sym R.0.matrix) R.0.shape
  shape_at g (x ∷ xs) R (suc j) h = shape_at x.graph xs R.1 j (omega arith)

  -- ---- the resolution
  pub record Resolved (i : ℕ) (fs : Ideal r) (x : Resolution r) : Type 0 where
    pub first : IsCompletedGraph r x.first
    pub next : Resolves x.first x.next
    pub long : length x.next ≡ i
    pub resolution : IsResolutionOf r.prime r.vars fs i (differentials_of r x)

  pub resolved_from : (i : ℕ) (fs : Ideal r) (g : Graph r) (xs : List (Preimage r)) → IsCompletedGraph r g → g.matrix ≡ row r.prime r.vars fs → Resolves g xs → length xs ≡ i → IsResolutionOf r.prime r.vars fs i (matrices_from g xs)
  unfolding matrix_at InIdeal
  resolved_from i fs g xs G e R l = record {
    count = count_from g xs ∙ ap suc l ∙ omega arith;
    fits = fits;
    first = λ f. subst (λ M. InImage r.prime r.vars M (f ∷ []) ↔ InImage r.prime r.vars (row r.prime r.vars fs) (f ∷ [])) (sym e) ((λ x. x), (λ x. x));
    exact = λ j h. exact_at g xs R j (omega (arith, l));
  }
    where
      fits : (j : ℕ) → j < length (matrices_from g xs) → HasShape r.prime r.vars (rank r.prime r.vars (matrices_from g xs) j) (rank r.prime r.vars (matrices_from g xs) (suc j)) (matrix_at r.prime r.vars (matrices_from g xs) j)
      fits zero h = subst (λ k. HasShape r.prime r.vars k (width r g) g.matrix) (ap (λ (M : MatrixOf r). M.rows) e ∙ shape_rows r.prime r.vars 1 (length fs) (row r.prime r.vars fs) (row_fits r.prime r.vars fs)) G.shape
      fits (suc j) h = shape_at g xs R j (let c = count_from g xs in omega (arith, c, h))

  pub resolution_is : (side : Side) (i : ℕ) (fs : Ideal r) (units left : ℕ) (x : Resolution r) → Ends (resolution_plan r side i fs units) x left → Resolved i fs x
  unfolding resolution_plan
  resolution_is side i fs units left x e =
      let work = graph_run r (row r.prime r.vars fs) in
      let b = bound (task side Resolve 1 work) (λ g. resolving r side i 1 g >>= λ next. ready (record { first = g; next = next })) units left x e in
      let G = graph_is r (row r.prime r.vars fs) (own_shape r 1 (length fs) (row r.prime r.vars fs) (row_fits r.prime r.vars fs)) units b.between b.value (task_ends side Resolve 1 work units b.between b.value b.first) in
      let d = bound (resolving r side i 1 b.value) (λ next. ready (record { first = b.value; next = next })) b.between left x b.second in
      let R = resolving_is side i 1 b.value G.0 b.between d.between d.value d.first in
      let made : Resolution r = record { first = b.value; next = d.value } in
      let is : Resolved i fs made = record { first = G.0; next = R.0; long = R.1; resolution = resolved_from i fs b.value d.value G.0 G.1 R.0 R.1 } in
      subst (Resolved i fs) (same_value made x d.between left d.second) is
