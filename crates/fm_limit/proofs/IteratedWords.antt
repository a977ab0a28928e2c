-- Iterated local cohomology in words of lists: its matrices give a direct system
use Rattle.std.proofs.Common.{ℕ, ◌+◌, ◌*◌, ◌/◌, ◌%◌, ◌≡◌, ◌∙◌, sym, ap, ap₂, subst, arith, List, length}
use Rattle.fm_gfp.specs.declared.prime.Prime.{Prime}
use Rattle.fm_algebra.specs.Families.{mul, each, read, unit, flip, beside}
use Rattle.fm_algebra.specs.Image.{InImage}
use Rattle.fm_algebra.specs.Matrix.{entry}
use Rattle.fm_algebra.specs.Polynomials.{polynomials, frobenius_twist}
use Rattle.fm_algebra.specs.PolynomialMatrices.{PolynomialMatrix, HasShape, matrix_product, matrix_twist, matrix_unit, matrix_transpose}
use Rattle.fm_algebra.proofs.Concrete.{polynomials_laws, polynomials_frobenius}
use Rattle.fm_algebra.proofs.Tables.{table_shaped, read_table}
use Rattle.fm_limit.specs.Resolution.{rank_before, d_below}
use Rattle.fm_limit.specs.ResolvedIdeal.{ResolvedIdeal, matrix_at, columns_of, rank, differential, IsResolved}
use Rattle.fm_limit.specs.Classes.{matrices, complex_of, degree_in}
use Rattle.fm_limit.specs.SystemInstances.{Kronecker}
use Rattle.fm_limit.specs.Kron.{kron}
use Rattle.fm_limit.specs.GivenModules.{GivenModule, IsGivenModule}
use Rattle.fm_limit.specs.GivenSystems.{IsGivenSystem}
use Rattle.fm_limit.specs.Iterated.{matrix_kron, iterated_given}
use Rattle.fm_limit.specs.Facts.{PresentsExt}
use Rattle.fm_limit.proofs.ChainWords.{relations_words}
use Rattle.fm_limit.proofs.KronLaws.{kronecker}
use Rattle.fm_limit.proofs.Iterated as general
use Rattle.fm_limit.proofs.FactsRead.{matrices_laws, moves_read, below_read, below_fits}
use Rattle.fm_limit.proofs.GivenSystems.{goes_read}
use Rattle.fm_limit.proofs.MatrixWords.{shape_rows, shape_columns, product_read, product_fits, twist_read, twist_fits, transpose_read, transpose_fits, unit_read, unit_fits, beside_read, beside_fits, columns_from}

module _ (p : Prime) (n : ℕ) where
  pub kron_fits : (a b c d : ℕ) (A B : PolynomialMatrix p n) → HasShape p n a b A → HasShape p n c d B → HasShape p n (a * c) (b * d) (matrix_kron p n A B)
  unfolding HasShape matrix_kron
  kron_fits a b c d A B s t =
      table_shaped (polynomials p n) (A.rows * B.rows) (length A.columns * length B.columns) (a * c) (b * d) (λ i j. (polynomials p n).mul (entry (polynomials p n) A (i / B.rows) (j / length B.columns)) (entry (polynomials p n) B (i % B.rows) (j % length B.columns))) (ap₂ (λ x y. x * y) s.0 t.0) (ap₂ (λ x y. x * y) s.1 t.1)

  pub kron_read : (a b c d : ℕ) (A B : PolynomialMatrix p n) → HasShape p n a b A → HasShape p n c d B
      → read (polynomials p n) (a * c) (b * d) (matrix_kron p n A B) ≡ kron (polynomials p n) {a = a} {b = b} {c = c} {d = d} (read (polynomials p n) a b A) (read (polynomials p n) c d B)
  unfolding HasShape matrix_kron kron
  kron_read a b c d A B s t =
      read_table (polynomials p n) (A.rows * B.rows) (length A.columns * length B.columns) (a * c) (b * d) (λ i j. (polynomials p n).mul (entry (polynomials p n) A (i / B.rows) (j / length B.columns)) (entry (polynomials p n) B (i % B.rows) (j % length B.columns))) (ap₂ (λ x y. x * y) s.0 t.0) (ap₂ (λ x y. x * y) s.1 t.1)
      ∙ (λ x i u j v. ap₂ (λ r k. (polynomials p n).mul (entry (polynomials p n) A (i / r) (j / k)) (entry (polynomials p n) B (i % r) (j % k))) t.0 t.1 x)

  -- products of Kronecker over GF(p)[x1 .. xn]
  abbrev pub products : Kronecker (matrices p n)
  products = kronecker (polynomials_laws p n) (frobenius_twist p n) (polynomials_frobenius p n)

  module _ {j : ℕ} {J : ResolvedIdeal p n} {G : GivenModule p n} (r : IsResolved p n j J) (H : IsGivenModule p n G) where
    abbrev ds : List (PolynomialMatrix p n)
    ds = J.differentials

    abbrev m : ℕ
    m = rank p n ds j

    abbrev low : ℕ
    low = rank_before (columns_of p n ds) j

    abbrev high : ℕ
    high = columns_of p n ds j

    abbrev g : ℕ
    g = G.rank

    abbrev k : ℕ
    k = length (G.relations).columns

    abbrev N : (matrices p n).Mat g k
    N = read (polynomials p n) g k G.relations

    abbrev U : (matrices p n).Mat g g
    U = read (polynomials p n) g g G.morphism

    above_fits : HasShape p n m high (matrix_at p n ds j)
    above_fits = (r.resolution).fits j (let c = (r.resolution).count in omega arith)

    theta_fits : HasShape p n m m (matrix_at p n J.lift j)
    theta_fits = (r.frobenius).fits j (let c = (r.frobenius).count in omega arith)

    low_fits : HasShape p n (m * g) (low * g) (matrix_kron p n (matrix_transpose p n (differential p n ds j)) (matrix_unit p n g))
    low_fits = kron_fits m low g g (matrix_transpose p n (differential p n ds j)) (matrix_unit p n g) (transpose_fits p n low m (differential p n ds j) (below_fits p n r.resolution)) (unit_fits p n g)

    within_fits : HasShape p n (m * g) (m * k) (matrix_kron p n (matrix_unit p n m) G.relations)
    within_fits = kron_fits m m g k (matrix_unit p n m) G.relations (unit_fits p n m) H.relations_fit

    bounds_fit : HasShape p n (m * g) (low * g + m * k) (iterated_given p n j J G).bounds
    bounds_fit = beside_fits p n (m * g) (low * g) (m * k) (matrix_kron p n (matrix_transpose p n (differential p n ds j)) (matrix_unit p n g)) (matrix_kron p n (matrix_unit p n m) G.relations) low_fits within_fits

    step_fits : HasShape p n (m * g) (m * g) (iterated_given p n j J G).step
    step_fits = kron_fits m m g g (matrix_transpose p n (matrix_at p n J.lift j)) G.morphism (transpose_fits p n m m (matrix_at p n J.lift j) theta_fits) H.morphism_fits

    bounds_read : read (polynomials p n) (m * g) (low * g + m * k) (iterated_given p n j J G).bounds ≡ general.bounds (matrices_laws p n) products (degree_in p n j J) g k N U
    bounds_read =
        let d = differential p n ds j in
        let u = matrix_unit p n g in
        let a : read (polynomials p n) (m * g) (low * g) (matrix_kron p n (matrix_transpose p n d) u) ≡ kron (polynomials p n) {a = m} {b = low} {c = g} {d = g} (flip (polynomials p n) {m = low} {n = m} (d_below (matrices p n) (complex_of p n ds) j)) (unit (polynomials p n) g) =
        kron_read m low g g (matrix_transpose p n d) u (transpose_fits p n low m d (below_fits p n r.resolution)) (unit_fits p n g)
        ∙ ap₂ (λ x y. kron (polynomials p n) {a = m} {b = low} {c = g} {d = g} x y) (transpose_read p n low m d (below_fits p n r.resolution) ∙ ap (flip (polynomials p n) {m = low} {n = m}) (below_read p n ds j)) (unit_read p n g) in
        let b : read (polynomials p n) (m * g) (m * k) (matrix_kron p n (matrix_unit p n m) G.relations) ≡ kron (polynomials p n) {a = m} {b = m} {c = g} {d = k} (unit (polynomials p n) m) N =
        kron_read m m g k (matrix_unit p n m) G.relations (unit_fits p n m) H.relations_fit ∙ ap (λ x. kron (polynomials p n) {a = m} {b = m} {c = g} {d = k} x N) (unit_read p n m) in
        beside_read p n (m * g) (low * g) (m * k) (matrix_kron p n (matrix_transpose p n d) u) (matrix_kron p n (matrix_unit p n m) G.relations) low_fits within_fits
        ∙ ap₂ (λ x y. beside (polynomials p n) {m = m * g} {n = low * g} {k = m * k} x y) a b

    step_read : read (polynomials p n) (m * g) (m * g) (iterated_given p n j J G).step ≡ general.step (matrices_laws p n) products (degree_in p n j J) g k N U
    step_read =
        kron_read m m g g (matrix_transpose p n (matrix_at p n J.lift j)) G.morphism (transpose_fits p n m m (matrix_at p n J.lift j) theta_fits) H.morphism_fits
        ∙ ap (λ x. kron (polynomials p n) {a = m} {b = m} {c = g} {d = g} x U) (transpose_read p n m m (matrix_at p n J.lift j) theta_fits)

    -- the shape by its own numbers of rows and columns
    own_shape : (a b : ℕ) (A : PolynomialMatrix p n) → HasShape p n a b A → HasShape p n a (length A.columns) A
    own_shape a b A s = subst (λ x. HasShape p n a x A) (sym (shape_columns p n a b A s)) s

    own_rows : (a b : ℕ) (A : PolynomialMatrix p n) → HasShape p n a b A → HasShape p n A.rows b A
    own_rows a b A s = subst (λ x. HasShape p n x b A) (sym (shape_rows p n a b A s)) s

    test_fits : HasShape p n (high * g) (m * g) (iterated_given p n j J G).test
    test_fits = kron_fits high m g g (matrix_transpose p n (matrix_at p n ds j)) (matrix_unit p n g) (transpose_fits p n m high (matrix_at p n ds j) above_fits) (unit_fits p n g)

    modulo_fits : HasShape p n (high * g) (high * k) (iterated_given p n j J G).modulo
    modulo_fits = kron_fits high high g k (matrix_unit p n high) G.relations (unit_fits p n high) H.relations_fit

    pub iterated_is_given : IsGivenSystem p n (iterated_given p n j J G)
    iterated_is_given = record {
      test_fits = own_rows (high * g) (m * g) (iterated_given p n j J G).test test_fits;
      modulo_fits = subst (λ x. HasShape p n x (length ((iterated_given p n j J G).modulo).columns) (iterated_given p n j J G).modulo) (sym (shape_rows p n (high * g) (m * g) (iterated_given p n j J G).test test_fits)) (own_shape (high * g) (high * k) (iterated_given p n j J G).modulo modulo_fits);
      bounds_fit = own_shape (m * g) (low * g + m * k) (iterated_given p n j J G).bounds bounds_fit;
      step_fits = step_fits;
      moves =
          let s = (iterated_given p n j J G).step in
          let c = (iterated_given p n j J G).bounds in
          let a = m * g in
          let b = low * g + m * k in
          let h = general.bounds_move (matrices_laws p n) products (degree_in p n j J) g k N U (moves_read p n r) (goes_read p n g k G.morphism G.relations H.morphism_fits H.relations_fit H.morphism) in
          (columns_from p n a b b (matrix_twist p n 1 c) (matrix_product p n s c) (twist_fits p n 1 a b c bounds_fit) (product_fits p n a a b s c step_fits bounds_fit)).1
          (subst (λ X. InImage (matrices p n) X (read (polynomials p n) a b (matrix_product p n s c))) (sym (twist_read p n 1 a b c bounds_fit ∙ ap (each (polynomials p n) (frobenius_twist p n 1) {m = a} {n = b}) bounds_read))
          (subst (λ Y. InImage (matrices p n) (each (polynomials p n) (frobenius_twist p n 1) {m = a} {n = b} (general.bounds (matrices_laws p n) products (degree_in p n j J) g k N U)) Y) (sym (product_read p n a a b s c step_fits bounds_fit ∙ ap₂ (λ x y. mul (polynomials p n) {m = a} {n = a} {k = b} x y) step_read bounds_read)) h));
    }

  -- Ext^i(R/I, R) with its relations and its generating morphism is a module with a morphism
  pub ext_is_module : {i : ℕ} {I : ResolvedIdeal p n} {Z N U : PolynomialMatrix p n} → IsResolved p n i I → PresentsExt p n i I Z N U
      → IsGivenModule p n (record { rank = length Z.columns; relations = N; morphism = U })
  ext_is_module r x = record { relations_fit = x.relations_fit; morphism_fits = x.morphism_fits; morphism = relations_words p n r x }
