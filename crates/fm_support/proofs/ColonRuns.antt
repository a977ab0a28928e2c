-- Colons one after another: the newest one, and how a turn ends.
use Rattle.std.proofs.Common.{Vec, Global, ℕ, suc, ◌-◌, ◌<◌, ◌≤◌, ◌≡◌, Option, Some, None, List, [], ◌∷◌, ◌++◌, length, Result, Ok, Err, refl, sym, ap, ◌∙◌, subst, arith}
use Rattle.std.specs.Prelude.{IfOk, slice_get}
use Rattle.std.proofs.lemmas.List.{map-append}
use Rattle.fm_algebra.specs.Polynomials.{Polynomial}
use Rattle.fm_algebra.specs.PolynomialMatrices.{matrix_scalar}
use Rattle.fm_graphs.specs.Graphs as runs
use Rattle.fm_graphs.specs.Graphs.{MatrixOf, Graph, all_inside, first_outside, inside_run, whole_run, width}
use Rattle.fm_graphs.specs.Trims.{Preimage, preimage_run}
use Rattle.fm_graphs.proofs.Sizes.{inside_spends, whole_spends}
use Rattle.fm_graphs.proofs.Spending.{outside_spends, preimage_spends}
use Rattle.fm_mat.specs.Matrices.{AreColumns, MatrixValue, column_meaning, columns_meaning, matrix_meaning}
use Rattle.fm_mat.proofs.Steps.{map_length}
use Rattle.fm_plan.specs.Queries as plans
use Rattle.fm_plan.specs.Queries.{colon_next, colon_settled}
use Rattle.fm_poly.specs.declared.ring.Ring.{Ring}
use Rattle.fm_run.specs.declared.stop.Stop.{Stop}
use Rattle.fm_run.specs.Runs.{Spends, Work, Follows, Halts, halt_of, ready, ◌>>=◌}
use Rattle.fm_run.specs.Turns.{Turn, last, again}
use Rattle.fm_run.proofs.Calls.{row_goes, row_stops}
use Rattle.fm_run.proofs.Counting.{left_of}
use Rattle.fm_run.proofs.Spending.{then_spends}
use Rattle.fm_support.specs.Inverting.{AreColons, newest, colon_work, GoesOn, settle_work, preimages_meaning}
use Rattle.fm_support.proofs.ScalarRuns.{scalar_at}
use Rattle.fm_poly.specs.declared.term.Term.{Term}
use Rattle.fm_poly.specs.Polys.{meaning}
use Rattle.fm_support.specs.declared.colons.ColonTurn.TheVariants.{Last, Again}
use Rattle.fm_support.specs.declared.colons.ColonTurn.{ColonTurn}
use Rattle.fm_syz.specs.GeneratorValues.{PreimageValue, preimage_meaning}
use Rattle.fm_syz.specs.GraphValues.{GraphValue, graph_meaning}
use Rattle.fm_syz.specs.Insides.{HasColumns, inside_value}
use Rattle.fm_syz.specs.declared.inside.Inside.TheVariants.{All}
use Rattle.fm_mat.specs.declared.column.Column.{Column}
use Rattle.fm_syz.specs.declared.inside.Inside.{Inside}

-- ---- the newest colon
fits_from : (g k : GraphValue) (xs : List PreimageValue) → g.matrix.ring ≡ k.matrix.ring → g.matrix.rows ≡ k.matrix.rows → AreColons k xs
    → ((newest g xs).matrix.ring ≡ k.matrix.ring) × ((newest g xs).matrix.rows ≡ k.matrix.rows)
fits_from g k [] e h a = (e, h)
fits_from g k (x ∷ xs) e h a = fits_from x.generators.graph k xs a.0 a.1 a.2

pub newest_ring : (k : GraphValue) (xs : List PreimageValue) → AreColons k xs → (newest k xs).matrix.ring ≡ k.matrix.ring
newest_ring k xs a = (fits_from k k xs refl refl a).0

pub newest_rows : (k : GraphValue) (xs : List PreimageValue) → AreColons k xs → (newest k xs).matrix.rows ≡ k.matrix.rows
newest_rows k xs a = (fits_from k k xs refl refl a).1

pub colons_more : (k : GraphValue) (xs : List PreimageValue) (x : PreimageValue) → AreColons k xs → x.generators.graph.matrix.ring ≡ k.matrix.ring → x.generators.graph.matrix.rows ≡ k.matrix.rows → AreColons k (xs ++ x ∷ [])
colons_more k [] x a e h = (e, h, tt)
colons_more k (y ∷ xs) x a e h = (a.0, a.1, colons_more k xs x a.2 e h)

pub newest_more : (k : GraphValue) (xs : List PreimageValue) (x : PreimageValue) → newest k (xs ++ x ∷ []) ≡ x.generators.graph
newest_more k [] x = refl
newest_more k (y ∷ xs) x = newest_more y.generators.graph xs x

some_same : {A : Type 0} (x y : A) → ◌≡◌ {A = Option A} (Some x) (Some y) → x ≡ y
some_same x y e = cc

none_some : {A : Type 0} (x : A) → ◌≡◌ {A = Option A} None (Some x) → ⊥
none_some x e = cc

pub newest_last : (k : GraphValue) (xs : List PreimageValue) (x : PreimageValue) → slice_get xs (length xs - 1) ≡ Some x → x.generators.graph ≡ newest k xs
newest_last k [] x e = absurd (none_some x e)
newest_last k (y ∷ []) x e = ap (λ (p : PreimageValue). p.generators.graph) (sym (some_same y x e))
newest_last k (y ∷ z ∷ xs) x e = newest_last y.generators.graph (z ∷ xs) x (subst (λ i. slice_get (y ∷ z ∷ xs) i ≡ Some x) (let q : length (y ∷ z ∷ xs) - 1 ≡ suc (length (z ∷ xs) - 1) = omega arith in q) e)

-- ---- after a colon that is not everything
module _ (r : Ring) (C : plans.Colons r) (X : Preimage r) (O : runs.Outside) where
  settled : runs.Inside r → Work (Turn (plans.Colons r) (plans.Coloned r))
  settled y = ready (colon_settled r C X O y)

  pub settle_spends : Spends (settle_work r C X O)
  settle_spends = then_spends (inside_run r X.found C.graph) (λ y. ready (colon_settled r C X O y)) (inside_spends r X.found C.graph) (λ y units. omega arith)

  module _ (old mid : ℕ) where
    pub settle_stops : {Y : Type 0} (view : Y → Turn (plans.Colons r) (plans.Coloned r)) (z : Stop) → Follows {X = Inside} (inside_value r) (Err z) old mid (inside_run r X.found C.graph old)
        → Halts old mid (settle_work r C X O old) (halt_of z)
    settle_stops view z h = row_stops (inside_run r X.found C.graph) (λ y. ready (colon_settled r C X O y)) old mid (inside_value r) view halt_of z (λ y units. omega arith) h

    pub settle_goes : (y : Inside) → Follows (inside_value r) (Ok y) old mid (inside_run r X.found C.graph old) → {Y : Type 0} (view : Y → Turn (plans.Colons r) (plans.Coloned r)) (answer : Result Y Stop)
        → Follows view answer mid mid (ready (colon_settled r C X O (inside_value r y)) mid) → Follows view answer old mid (settle_work r C X O old)
    settle_goes y h view answer k = row_goes (inside_run r X.found C.graph) (λ y. ready (colon_settled r C X O y)) old mid (inside_value r y) mid h (inside_spends r X.found C.graph) view halt_of answer k

    pub outside_paid : (o : runs.Outside) → inside_run r X.found C.graph old ≡ record { end = Ok (first_outside o); left = mid } → mid < old
    unfolding inside_run
    outside_paid o e = outside_spends r C.graph 1 X.found.columns old mid o e

-- all colons and the solutions of the last
pub stable_value : (r : Ring) (k : GraphValue) (cs cs' : List PreimageValue) (x : PreimageValue) (g : GraphValue) (m : MatrixValue) (ws : List (List _)) → cs' ≡ cs ++ x ∷ [] → m.rows ≡ length g.matrix.columns → m.columns ≡ ws
    → (p : runs.Outside)
    → ◌≡◌ {A = Turn (plans.Colons r) (plans.Coloned r)} (last (plans.stable_at (preimages_meaning r cs ++ preimage_meaning r x ∷ []) (record { rows = width r (graph_meaning r g); columns = columns_meaning r ws }) p))
    (last (plans.stable_at (preimages_meaning r cs') (matrix_meaning r m) p))
stable_value r k cs cs' x g m ws grown rows columns p = λ t. last (plans.stable_at
    ((sym (map-append (preimage_meaning r) cs (x ∷ [])) ∙ ap (preimages_meaning r) (sym grown)) t)
    (record { rows = (map_length (column_meaning r) g.matrix.columns ∙ sym rows) t; columns = ap (columns_meaning r) (sym columns) t }) p)

pub again_value : (r : Ring) (k : GraphValue) (cs cs' : List PreimageValue) (x : PreimageValue) (o : runs.Outside) → cs' ≡ cs ++ x ∷ []
    → ◌≡◌ {A = Turn (plans.Colons r) (plans.Coloned r)} (again (record { colons = preimages_meaning r cs ++ preimage_meaning r x ∷ []; graph = graph_meaning r x.generators.graph; proper = o }))
    (again (record { colons = preimages_meaning r cs'; graph = graph_meaning r (newest k cs'); proper = o }))
again_value r k cs cs' x o grown = λ t. again (record {
  colons = (sym (map-append (preimage_meaning r) cs (x ∷ [])) ∙ ap (preimages_meaning r) (sym grown)) t;
  graph = ap (graph_meaning r) (sym (newest_more k cs x) ∙ ap (newest k) (sym grown)) t;
  proper = o;
})

-- ---- a colon
module _ (r : Ring) (f : Polynomial r.prime r.vars) (C : plans.Colons r) where
  abbrev pub factor : MatrixOf r
  factor = matrix_scalar r.prime r.vars f C.graph.matrix.rows

  -- a call that stops has no value to be seen
  seen : ColonTurn → Turn (plans.Colons r) (plans.Coloned r)
  seen y = last (plans.whole_at 0)

  abbrev pub tested : Preimage r → Work (Turn (plans.Colons r) (plans.Coloned r))
  tested X = whole_run r X.graph >>= colon_next r C X

  next_spends : (X : Preimage r) (y : runs.Inside r) → Spends (colon_next r C X y)
  next_spends X (all_inside ws) = λ units. omega arith
  next_spends X (first_outside o) = settle_spends r C X o

  tested_spends : (X : Preimage r) → Spends (tested X)
  tested_spends X = then_spends (whole_run r X.graph) (colon_next r C X) (whole_spends r X.graph) (next_spends X)

  pub colon_spends : Spends (colon_work r f C)
  colon_spends = then_spends (preimage_run r factor C.graph.matrix) tested (preimage_spends r factor C.graph.matrix) tested_spends

  module _ (old mid : ℕ) where
    pub colon_stops : (z : Stop) → Follows {X = PreimageValue} (preimage_meaning r) (Err z) old mid (preimage_run r factor C.graph.matrix old) → Halts old mid (colon_work r f C old) (halt_of z)
    colon_stops z h = row_stops (preimage_run r factor C.graph.matrix) tested old mid (preimage_meaning r) seen halt_of z tested_spends h

    module _ (x : PreimageValue) (goes : Follows (preimage_meaning r) (Ok x) old mid (preimage_run r factor C.graph.matrix old)) (new : ℕ) where
      abbrev X : Preimage r
      X = preimage_meaning r x

      on : {Y : Type 0} (view : Y → Turn (plans.Colons r) (plans.Coloned r)) (answer : Result Y Stop) → Follows view answer mid new (tested X mid) → Follows view answer old new (colon_work r f C old)
      on view answer h = row_goes (preimage_run r factor C.graph.matrix) tested old new X mid goes (preimage_spends r factor C.graph.matrix) view halt_of answer h

      pub test_stops : (z : Stop) → Follows {X = Inside} (inside_value r) (Err z) mid new (whole_run r X.graph mid) → Halts old new (colon_work r f C old) (halt_of z)
      test_stops z h = on seen (Err z) (row_stops (whole_run r X.graph) (colon_next r C X) mid new (inside_value r) seen halt_of z (next_spends X) h)

      pub test_goes : (y : Inside) (after : ℕ) → Follows (inside_value r) (Ok y) mid after (whole_run r X.graph mid) → {Y : Type 0} (view : Y → Turn (plans.Colons r) (plans.Coloned r)) (answer : Result Y Stop)
          → Follows view answer after new (colon_next r C X (inside_value r y) after) → Follows view answer old new (colon_work r f C old)
      test_goes y after h view answer k = on view answer (row_goes (whole_run r X.graph) (colon_next r C X) mid new (inside_value r y) after h (whole_spends r X.graph) view halt_of answer k)

      pub spent : (after : ℕ) (y : runs.Inside r) → whole_run r X.graph mid ≡ record { end = Ok y; left = after } → after ≤ old
      spent after y h =
          let a = left_of (preimage_run r factor C.graph.matrix) old mid X (preimage_spends r factor C.graph.matrix) goes in
          let b = left_of (whole_run r X.graph) mid after y (whole_spends r X.graph) h in
          omega (arith, a, b)

-- the solutions are columns of the graph's ring
pub shaped : (g h : GraphValue) (ring : Ring) (wide : ℕ) (y : Inside) (ws : Vec Column Global) → g ≡ h → y ≡ All ws → g.matrix.ring ≡ ring → wide ≡ length h.matrix.columns → HasColumns g.matrix.ring (length g.matrix.columns) y → AreColumns ring wide ws.items
shaped g h ring wide y ws same is ringed long a =
    subst (λ n. AreColumns ring n ws.items) (ap (λ (x : GraphValue). length x.matrix.columns) same ∙ sym long)
    (subst (λ (s : Ring). AreColumns s (length g.matrix.columns) ws.items) ringed (subst (HasColumns g.matrix.ring (length g.matrix.columns)) is a).0)

-- PRE of f times the unit matrix and the newest colon, for other spellings of them
pub preimage_told : (s r : Ring) → s ≡ r → (ts : List Term) (n : ℕ) (a b : MatrixValue) (g : GraphValue) → a.ring ≡ r → n ≡ g.matrix.rows → matrix_meaning s a ≡ matrix_scalar s.prime s.vars (meaning s ts) n → b ≡ g.matrix
    → (result : Result PreimageValue Stop) (old new : ℕ)
    → (let t = a.ring in Follows (preimage_meaning t) result old new (preimage_run t (matrix_meaning t a) (matrix_meaning t b) old))
    → Follows (preimage_meaning r) result old new (preimage_run r (matrix_scalar r.prime r.vars (meaning r ts) g.matrix.rows) (matrix_meaning r g.matrix) old)
preimage_told s r same ts n a b g ring rows value eb result old new h =
    subst (λ A. Follows (preimage_meaning r) result old new (preimage_run r A (matrix_meaning r g.matrix) old)) (scalar_at s r same ts n g.matrix.rows rows a value)
    (subst (λ (m : MatrixValue). Follows (preimage_meaning r) result old new (preimage_run r (matrix_meaning r a) (matrix_meaning r m) old)) eb
    (subst (λ (t : Ring). Follows (preimage_meaning t) result old new (preimage_run t (matrix_meaning t a) (matrix_meaning t b) old)) ring h))

-- WHOLE, for another spelling of the graph
pub whole_told : (r : Ring) (g g' : GraphValue) → g ≡ g' → g'.matrix.ring ≡ r → (result : Result Inside Stop) (old new : ℕ)
    → (let s = g.matrix.ring in Follows (inside_value s) result old new (whole_run s (graph_meaning s g) old)) → Follows (inside_value r) result old new (whole_run r (graph_meaning r g') old)
whole_told r g g' eg ring result old new h =
    subst (λ (s : Ring). Follows (inside_value s) result old new (whole_run s (graph_meaning s g') old)) ring
    (subst (λ (x : GraphValue). let s = x.matrix.ring in Follows (inside_value s) result old new (whole_run s (graph_meaning s x) old)) eg h)

-- units that were spent before a turn that goes on
pub goes_on_earlier : (k : GraphValue) (old mid new : ℕ) (a : Result ColonTurn Stop) → mid ≤ old → IfOk a (GoesOn k mid new) → IfOk a (GoesOn k old new)
goes_on_earlier k old mid new (Ok (Last x)) less h = h
goes_on_earlier k old mid new (Ok (Again c)) less h = (let l = h.0 in omega (arith, l, less), h.1)
goes_on_earlier k old mid new (Err e) less h = tt
