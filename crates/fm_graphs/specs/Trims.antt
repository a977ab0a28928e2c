-- Columns that generate: trimmed lists of columns, kernels and preimages.
use Rattle.std.specs.Prelude.{ℕ, ◌≡◌, ◌<◌, ◌↔◌, get_or, not, if◌then◌else◌, Bool, true, false, List, [], ◌∷◌, ◌++◌, map, length, take, drop}
use Rattle.std.specs.List.{filter}
use Rattle.fm_algebra.specs.PolynomialMatrices.{HasShape, InImage, InKernel, matrix_beside, matrix_product}
use Rattle.fm_groebner.specs.Bases.{generators}
use Rattle.fm_poly.specs.declared.ring.Ring.{Ring}
use Rattle.fm_term.specs.declared.vterm.VTerm.{VTerm}
use Rattle.fm_complete.specs.Reductions.{divided}
use Rattle.fm_run.specs.Runs.{Work, ready, ◌>>=◌}
use Rattle.fm_complete.specs.Completions.{completed}
use Rattle.fm_graphs.specs.Listing.{VectorOf, terms_of}
use Rattle.fm_graphs.specs.Graphs.{MatrixOf, Graph, IsCompletedGraph, graph_run, syzygies, lifted}

abbrev pub is_zero : List VTerm → Bool
is_zero [] = true
is_zero (t ∷ ts) = false

module _ (r : Ring) where
  -- whether v lies in the span of the columns: their completion divides v
  abbrev pub spanned : List (VectorOf r) → VectorOf r → Work Bool
  spanned columns v = completed r (map (terms_of r) columns) >>= λ c. (λ units. divided r c.members units (terms_of r v)) >>= λ x. ready (is_zero x.rest)

  -- TRIM, from the last column to the first: what is left of later, where the columns of former stand before them
  abbrev pub trimmed_after : {X : Type 0} → (X → VectorOf r) → List X → List X → Work (List X)
  trimmed_after column former [] = ready []
  trimmed_after column former (x ∷ later) = trimmed_after column (former ++ x ∷ []) later >>= λ kept.
      spanned (map column (former ++ kept)) (column x) >>= λ yes. ready (if yes then kept else x ∷ kept)

  -- TRIM of things that have columns: a thing is dropped where its column lies in the span of the others that are still kept
  unfoldable pub trimmed : {X : Type 0} → (X → VectorOf r) → List X → Work (List X)
  trimmed column xs = trimmed_after column [] xs

  abbrev pub is_nonzero : VectorOf r → Bool
  is_nonzero v = not (is_zero (terms_of r v))

-- generators `found` of all w with A * w in im B, from the graph of [A | B]: found stands over x in columns of its kernel, and the upper part of
-- each of its syzygies is found times a column of w
pub record Preimage (r : Ring) : Type 0 where
  pub whole : Graph r
  pub found : MatrixOf r
  pub x : MatrixOf r
  pub w : MatrixOf r
  pub graph : Graph r

module _ (r : Ring) where
  abbrev pub part : ℕ → (VectorOf r → VectorOf r) → List (VectorOf r) → MatrixOf r
  part rows f vs = record { rows = rows; columns = map f vs }

  -- generators of the first a entries of the kernel of a matrix with a + b columns, from its graph
  unfoldable pub generating : (a b : ℕ) → Graph r → Work (Preimage r)
  generating a b g =
      trimmed r (take a) (filter (λ v. is_nonzero r (take a v)) (syzygies r g).columns) >>= λ kept.
      graph_run r (part a (take a) kept) >>= λ h.
      lifted r h (map (take a) (syzygies r g).columns) >>= λ w.
      ready (record { whole = g; found = part a (take a) kept; x = part b (drop a) kept; w = w; graph = h })

  -- PRE(A)
  unfoldable pub kernel_run : MatrixOf r → Work (Preimage r)
  kernel_run A = graph_run r A >>= generating (length A.columns) 0

  -- PRE(A, B)
  unfoldable pub preimage_run : MatrixOf r → MatrixOf r → Work (Preimage r)
  preimage_run A B = graph_run r (matrix_beside r.prime r.vars A B) >>= generating (length A.columns) (length B.columns)

  -- found stands over x in the kernel of the matrix of the graph, and generates the first a entries of the kernel; no column is in the span of
  -- the others
  pub record Generating (a b : ℕ) (g : Graph r) (P : Preimage r) : Type 0 where
    pub whole : P.whole ≡ g
    pub found_shape : HasShape r.prime r.vars a (length P.found.columns) P.found
    pub x_shape : HasShape r.prime r.vars b (length P.found.columns) P.x
    pub graph : IsCompletedGraph r P.graph
    pub graph_matrix : P.graph.matrix ≡ P.found
    pub kernel : (j : ℕ) → j < length P.found.columns → InKernel r.prime r.vars g.matrix (get_or P.found.columns j [] ++ get_or P.x.columns j [])
    pub w_shape : HasShape r.prime r.vars (length P.found.columns) (length (syzygies r g).columns) P.w
    pub w_equation : matrix_product r.prime r.vars P.found P.w ≡ part a (take a) (syzygies r g).columns
    pub generates : (v : VectorOf r) → InImage r.prime r.vars P.found v
        ↔ ((u : VectorOf r) × (length u ≡ b) × (length v ≡ a) × InKernel r.prime r.vars g.matrix (v ++ u))
    pub free : (xs ys : List (VectorOf r)) (v : VectorOf r) → P.found.columns ≡ xs ++ v ∷ ys
        → ¬ (InImage r.prime r.vars (generators r.prime r.vars a (xs ++ ys)) v)
