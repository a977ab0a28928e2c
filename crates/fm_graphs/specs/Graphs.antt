-- Completions of graphs: syzygies, lifts and what lies inside an image.
use Rattle.std.specs.Prelude.{ℕ, suc, ◌^◌, ◌&&◌, if◌then◌else◌, nat_lt, Bool, true, List, [], ◌∷◌, ◌++◌, map, length}
use Rattle.std.specs.List.{list_all, filter}
use Rattle.fm_gfp.specs.Primes.{prime_value}
use Rattle.fm_algebra.specs.PolynomialMatrices.{PolynomialMatrix, HasShape, matrix_twist, matrix_unit}
use Rattle.fm_groebner.specs.Graphs.{graph, graph_rows, IsGraphBasis, zero_vector, vector_negative}
use Rattle.fm_groebner.specs.Logs.{Entry}
use Rattle.fm_poly.specs.declared.ring.Ring.{Ring}
use Rattle.fm_term.specs.declared.vterm.VTerm.{VTerm}
use Rattle.fm_term.specs.Multiples.{twisted}
use Rattle.fm_vec.specs.Multiples.{twist_fits}
use Rattle.fm_vec.specs.Components.{components_meaning}
use Rattle.fm_term.specs.Meanings.{vectors_of}
use Rattle.fm_complete.specs.Combinations.{AreVectors}
use Rattle.fm_complete.specs.Reductions.{Reduced, divided}
use Rattle.fm_run.specs.Runs.{Work, ready, ◌>>=◌, each, bounded}
use Rattle.fm_complete.specs.Completions.{completed, numbers}
use Rattle.fm_graphs.specs.Listing.{VectorOf, terms_of}
use Rattle.fm_mat.specs.Bounds.{entries_fit}

abbrev pub MatrixOf : Ring → Type 0
MatrixOf r = PolynomialMatrix r.prime r.vars

-- a matrix with a completion of its graph
pub record Graph (r : Ring) : Type 0 where
  pub matrix : MatrixOf r
  pub members : List (List VTerm)
  pub log : List Entry

-- a column that isn't in an image, by its number from 1, with its division
pub record Outside : Type 0 where
  pub column : ℕ
  pub by : List ℕ
  pub rest : List VTerm

-- either all columns lie in an image, and these are their solutions; or the first that doesn't
pub data Inside (r : Ring) : Type 0 where
  all_inside : List (VectorOf r) → Inside r
  first_outside : Outside → Inside r

-- the head, if there is one, stands below the first m components
abbrev pub is_below : ℕ → List VTerm → Bool
is_below m [] = true
is_below m (t ∷ ts) = nat_lt m t.component

module _ (r : Ring) where
  abbrev pub width : Graph r → ℕ
  width g = length g.matrix.columns

  -- the members are vectors, and a Gröbner basis of the graph of the matrix
  pub record IsCompletedGraph (g : Graph r) : Type 0 where
    pub shape : HasShape r.prime r.vars g.matrix.rows (width g) g.matrix
    pub vectors : AreVectors r (graph_rows r.prime r.vars g.matrix) g.members
    pub basis : IsGraphBasis r.prime r.vars r.order g.matrix (vectors_of r.prime r.vars (graph_rows r.prime r.vars g.matrix) g.members)

  -- GRAPH(A)
  unfoldable pub graph_run : MatrixOf r → Work (Graph r)
  graph_run A = completed r (map (terms_of r) (graph r.prime r.vars A).columns) >>= λ c. ready (record { matrix = A; members = c.members; log = c.log })

  -- the components below the first m, c of them
  abbrev pub lower_block : ℕ → ℕ → List VTerm → VectorOf r
  lower_block m c ts = components_meaning r c (suc m) ts

  -- S(A): the lower blocks of the members whose upper block is zero
  unfoldable pub syzygies : Graph r → MatrixOf r
  syzygies g = record { rows = width g; columns = map (lower_block g.matrix.rows (width g)) (filter (is_below g.matrix.rows) g.members) }

  -- LIFT: the division of (v; 0)
  unfoldable pub lift_run : Graph r → VectorOf r → Work Reduced
  lift_run g v units = divided r g.members units (terms_of r (v ++ zero_vector r.prime r.vars (width g)))

  abbrev pub is_inside : Graph r → Reduced → Bool
  is_inside g x = is_below g.matrix.rows x.rest

  abbrev pub solution : Graph r → Reduced → VectorOf r
  solution g x = vector_negative r.prime r.vars (lower_block g.matrix.rows (width g) x.rest)

  -- the columns are lifted; of columns in the image these are solutions
  unfoldable pub lifted : Graph r → List (VectorOf r) → Work (MatrixOf r)
  lifted g vs = each (λ v. lift_run g v >>= λ x. ready (solution g x)) vs >>= λ ws. ready (record { rows = width g; columns = ws })

  abbrev pub with_solution : VectorOf r → Inside r → Inside r
  with_solution w (all_inside ws) = all_inside (w ∷ ws)
  with_solution w (first_outside o) = first_outside o

  abbrev pub inside_from : Graph r → ℕ → List (VectorOf r) → Work (Inside r)
  inside_from g k [] = ready (all_inside [])
  inside_from g k (v ∷ vs) = lift_run g v >>= λ x.
      if is_inside g x then (inside_from g (suc k) vs >>= λ y. ready (with_solution (solution g x) y))
      else ready (first_outside (record { column = k; by = numbers x.steps; rest = x.rest }))

  -- INSIDE: the columns are lifted up to the first that is outside
  unfoldable pub inside_run : MatrixOf r → Graph r → Work (Inside r)
  inside_run M g = inside_from g 1 M.columns

  -- WHOLE: whether the image is everything
  unfoldable pub whole_run : Graph r → Work (Inside r)
  whole_run g = inside_run (matrix_unit r.prime r.vars g.matrix.rows) g

  -- the graph of the twist by p^e: its matrix and each member are twisted
  unfoldable pub twisted_graph : ℕ → Graph r → Work (Graph r)
  twisted_graph e g = bounded (entries_fit r.prime r.vars e g.matrix && list_all (twist_fits (prime_value r.prime ^ e)) g.members)
      (record { matrix = matrix_twist r.prime r.vars e g.matrix; members = map (twisted (prime_value r.prime ^ e)) g.members; log = g.log })
