-- What generators are worth, and the calls of kernels and preimages.
use Rattle.std.proofs.Common.{ℕ, ◌-◌, ◌≤◌, ◌≡◌, Result, Ok, Err, length, sym, ap, ◌∙◌, subst, subst₂, arith}
use Rattle.fm_algebra.specs.PolynomialMatrices.{HasShape, GeneratesKernel, GeneratesPreimage}
use Rattle.fm_poly.specs.declared.ring.Ring.{Ring}
use Rattle.fm_run.specs.declared.stop.Stop.{Stop}
use Rattle.fm_run.specs.Runs.{Work, Spends, ◌>>=◌, Follows, halt_of}
use Rattle.fm_run.proofs.Spending.{then_spends}
use Rattle.fm_run.proofs.Calls.{row_stops, row_goes}
use Rattle.fm_mat.specs.Matrices.{MatrixValue, AreColumns, columns_meaning, matrix_meaning}
use Rattle.fm_mat.proofs.Steps.{map_length}
use Rattle.fm_graphs.specs.Graphs.{MatrixOf, graph_run}
use Rattle.fm_graphs.specs.Trims.{Preimage, Generating, generating, kernel_run, preimage_run}
use Rattle.fm_graphs.proofs.Preimages.{generating_is, kernel_is, preimage_run_is}
use Rattle.fm_graphs.proofs.Spending.{graph_spends, generating_spends}
use Rattle.fm_syz.specs.GraphValues.{GraphValue, IsGraph, graph_meaning}
use Rattle.fm_syz.specs.GeneratorValues.{GeneratorsValue, PreimageValue, generators_meaning, preimage_meaning, AreGenerators}
use Rattle.fm_syz.proofs.Inputs.{matrix_shape}

module _ (g : GraphValue) (a : ℕ) (x : GeneratorsValue) where
  abbrev r : Ring
  r = g.matrix.ring

  abbrev b : ℕ
  b = length g.matrix.columns - a

  pub they_generate : IsGraph g → a ≤ length g.matrix.columns → x.graph.matrix.ring ≡ r → x.x.ring ≡ r → x.w.ring ≡ r → x.graph.matrix.rows ≡ a → x.x.rows ≡ b → (units left : ℕ)
      → generating r a b (graph_meaning r g) units ≡ record { end = Ok (generators_meaning r g x); left = left } → AreGenerators g x
  they_generate G part graph_ring x_ring w_ring rows lower units left e = record {
    graph_ring = graph_ring;
    x_ring = x_ring;
    w_ring = w_ring;
    generating = subst₂ (λ i j. Generating r i j (graph_meaning r g) (generators_meaning r g x)) (sym rows) (sym lower)
        (generating_is r a b (graph_meaning r g) G.completed (map_length _ g.matrix.columns ∙ (omega (arith, part))) units left (generators_meaning r g x) e);
  }

-- ---- a graph, and generators of a part of its kernel
module _ (r : Ring) (A : MatrixOf r) (a b old : ℕ) where
  abbrev run : Work (Preimage r)
  run = graph_run r A >>= generating r a b

  pub run_spends : Spends run
  run_spends = then_spends (graph_run r A) (generating r a b) (graph_spends r A) (generating_spends r a b)

  pub whole_stops : (stop : Stop) (new : ℕ) → Follows (λ (g : GraphValue). graph_meaning r g) (Err stop) old new (graph_run r A old) → Follows {X = PreimageValue} (preimage_meaning r) (Err stop) old new (run old)
  whole_stops stop new h = row_stops (graph_run r A) (generating r a b) old new (λ (g : GraphValue). graph_meaning r g) (preimage_meaning r) halt_of stop (generating_spends r a b) h

  module _ (whole : GraphValue) (mid : ℕ) (e : graph_run r A old ≡ record { end = Ok (graph_meaning r whole); left = mid }) (ring : whole.matrix.ring ≡ r) (k : ℕ) (upper : k ≡ a) (lower : length whole.matrix.columns - k ≡ b) where
    abbrev Made : Result GeneratorsValue Stop → ℕ → Type 0
    Made answer new = Follows (generators_meaning whole.matrix.ring whole) answer mid new (generating whole.matrix.ring k (length whole.matrix.columns - k) (graph_meaning whole.matrix.ring whole) mid)

    made_so : (answer : Result GeneratorsValue Stop) (new : ℕ) → Made answer new → Follows (generators_meaning r whole) answer mid new (generating r a b (graph_meaning r whole) mid)
    made_so answer new f =
        subst₂ (λ i j. Follows (generators_meaning r whole) answer mid new (generating r i j (graph_meaning r whole) mid)) upper lower
        (subst (λ (q : Ring). Follows (generators_meaning q whole) answer mid new (generating q k (length whole.matrix.columns - k) (graph_meaning q whole) mid)) ring f)

    pub generators_stop : (stop : Stop) (new : ℕ) → Made (Err stop) new → Follows {X = PreimageValue} (preimage_meaning r) (Err stop) old new (run old)
    generators_stop stop new f =
        row_goes (graph_run r A) (generating r a b) old new (graph_meaning r whole) mid e (graph_spends r A) (preimage_meaning r) halt_of (Err stop) (made_so (Err stop) new f)

    pub generators_end : (x : GeneratorsValue) (new : ℕ) (y : PreimageValue) → y ≡ record { whole = whole; generators = x } → Made (Ok x) new → run old ≡ record { end = Ok (preimage_meaning r y); left = new }
    generators_end x new y is f =
        row_goes (graph_run r A) (generating r a b) old new (graph_meaning r whole) mid e (graph_spends r A) (preimage_meaning r) halt_of (Ok y)
        (made_so (Ok x) new f ∙ ap (λ (p : PreimageValue). record { end = Ok (preimage_meaning r p); left = new }) (sym is))

-- ---- what kernels and preimages are worth
pub kernel_generates : (r : Ring) (a : MatrixValue) → AreColumns r a.rows a.columns → (units left : ℕ) (y : PreimageValue) → kernel_run r (matrix_meaning r a) units ≡ record { end = Ok (preimage_meaning r y); left = left }
    → GeneratesKernel r.prime r.vars (matrix_meaning r y.generators.graph.matrix) (matrix_meaning r a)
kernel_generates r a shape units left y e = (kernel_is r (matrix_meaning r a) (matrix_shape r a shape) units left (preimage_meaning r y) e).generates

pub preimage_generates : (r : Ring) (a b : MatrixValue) → AreColumns r a.rows a.columns → AreColumns r b.rows b.columns → b.rows ≡ a.rows → (units left : ℕ) (y : PreimageValue)
    → preimage_run r (matrix_meaning r a) (matrix_meaning r b) units ≡ record { end = Ok (preimage_meaning r y); left = left }
    → GeneratesPreimage r.prime r.vars (matrix_meaning r y.generators.graph.matrix) (matrix_meaning r a) (matrix_meaning r b)
preimage_generates r a b shape shape' rows units left y e =
    (preimage_run_is r a.rows (length (columns_meaning r a.columns)) (length (columns_meaning r b.columns)) (matrix_meaning r a) (matrix_meaning r b) (matrix_shape r a shape)
    (subst (λ k. HasShape r.prime r.vars k (length (columns_meaning r b.columns)) (matrix_meaning r b)) rows (matrix_shape r b shape')) units left (preimage_meaning r y) e).generates
