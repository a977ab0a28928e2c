-- Powers of a polynomial as runs.
use Rattle.std.proofs.Common.{Option, Result, ℕ, zero, suc, ◌≡◌, List, ◌⊎◌, inl, inr, Bool, true, false, Ok, Err, refl, sym, ap, ◌∙◌, subst, arith}
use native.Mathlib.Decide.{dec_lt}
use Rattle.fm_algebra.specs.Polynomials.{Polynomial, polynomial_product, polynomial_power}
use Rattle.fm_mat.specs.Bounds.{product_fits}
use Rattle.fm_mat.proofs.Supports.{fits_as_test, passes_as_test}
use Rattle.fm_mat.proofs.Steps.{fits_at, passes_at}
use Rattle.fm_poly.specs.declared.ring.Ring.{Ring}
use Rattle.fm_poly.specs.declared.term.Term.{Term}
use Rattle.fm_poly.specs.Bounds.{ProductFits, ProductPasses, PowerFits, PowerPasses}
use Rattle.fm_poly.specs.Polys.{PolyValue, meaning}
use Rattle.fm_poly.proofs.PowerSteps.{power_next}
use Rattle.fm_run.specs.Runs.{Exponent, Ended, Spends, Work, Follows, halt_of, ready, bounded, ◌>>=◌}
use Rattle.fm_run.proofs.Following.{after_value, after_halt}
use Rattle.fm_run.proofs.Spending.{then_spends, bounded_spends}
use Rattle.fm_plan.specs.Queries.{Inverted, by_power, before_power, outside_of, power_run}
use Rattle.fm_support.specs.Powers.{next_power, scalar_lift, power_work}
use Rattle.fm_algebra.specs.PolynomialMatrices.{matrix_scalar}
use Rattle.fm_graphs.specs.Graphs.{MatrixOf, Graph, Outside, inside_run}
use Rattle.fm_graphs.proofs.Sizes.{inside_spends}
use Rattle.fm_graphs.proofs.Spending.{lifted_spends}
use Rattle.fm_mat.specs.Matrices.{MatrixValue, matrix_meaning}
use Rattle.fm_run.specs.declared.stop.Stop.{Stop}
use Rattle.fm_run.proofs.Calls.{row_goes, row_stops}
use Rattle.fm_syz.specs.Insides.{inside_value}
use Rattle.fm_syz.specs.declared.inside.Inside as syz

module _ (r : Ring) where
  abbrev Value : Type 0
  Value = Polynomial r.prime r.vars

  abbrev power : ℕ → Value → Value
  power k f = polynomial_power r.prime r.vars k f

  pub next_spends : (k : ℕ) (f g : Value) → Spends (next_power r k f g)
  next_spends k f g = bounded_spends (product_fits r.prime r.vars g f) (power (suc k) f)

  pub power_spends : (k : ℕ) (f : Value) → Spends (power_run r k f)
  power_spends zero f = λ units. omega arith
  power_spends (suc k) f = then_spends (power_run r k f) (next_power r k f) (power_spends k f) (next_spends k f)

  pub power_goes : (k : ℕ) (f : Value) → PowerFits r.prime r.vars k f → (units : ℕ) → power_run r k f units ≡ record { end = Ok (power k f); left = units }
  power_goes zero f h units = refl
  power_goes (suc k) f h units =
      after_value (power_run r k f) (next_power r k f) units units (power k f) (power_goes k f (record { within = λ j l. h.within j (omega (arith, l)) }) units)
      ∙ ap (λ b. bounded b (power (suc k) f) units) (fits_as_test r.prime r.vars (power k f) f (h.within k (omega arith)))

  -- a power that is formed, or passes the bound
  power_ends : (k : ℕ) (f : Value) (units : ℕ) → (power_run r k f units ≡ record { end = Ok (power k f); left = units }) ⊎ (power_run r k f units ≡ record { end = Err Exponent; left = units })
  power_ends zero f units = inl refl
  power_ends (suc k) f units = elim (power_ends k f units) [
    | inl e ↦ either (power_run r (suc k) f units) (product_fits r.prime r.vars (power k f) f) (after_value (power_run r k f) (next_power r k f) units units (power k f) e)
    | inr e ↦ inr (after_halt (power_run r k f) (next_power r k f) units units Exponent e)
  ]
    where
      either : (d : Ended Value) (b : Bool) → d ≡ bounded b (power (suc k) f) units → (d ≡ record { end = Ok (power (suc k) f); left = units }) ⊎ (d ≡ record { end = Err Exponent; left = units })
      either d true e = inl e
      either d false e = inr e

  pub power_stops : (k : ℕ) (f : Value) → PowerPasses r.prime r.vars k f → (units : ℕ) → power_run r k f units ≡ record { end = Err Exponent; left = units }
  power_stops zero f h units = let b = h.below in absurd (omega (arith, b))
  power_stops (suc k) f h units = elim (dec_lt h.j k) [
    | yes w ↦ after_halt (power_run r k f) (next_power r k f) units units Exponent (power_stops k f (record { j = h.j; below = w; passes = h.passes }) units)
    | no w ↦
        let b = h.below in
        let same : h.j ≡ k = omega (arith, w, b) in
        elim (power_ends k f units) [
          | inl e ↦ after_value (power_run r k f) (next_power r k f) units units (power k f) e
              ∙ ap (λ t. bounded t (power (suc k) f) units) (passes_as_test r.prime r.vars (power k f) f (subst (λ i. ProductPasses r.prime r.vars (power i f) f) same h.passes))
          | inr e ↦ after_halt (power_run r k f) (next_power r k f) units units Exponent e
        ]
  ]

-- one more factor, for a ring that has another name
module _ (s r : Ring) (same : s ≡ r) (ts us : List Term) (k : ℕ) (is : meaning r ts ≡ polynomial_power r.prime r.vars k (meaning r us)) where
  pub times_value : (vs : List Term) → meaning s vs ≡ polynomial_product s.prime s.vars (meaning s ts) (meaning s us) → meaning r vs ≡ polynomial_power r.prime r.vars (suc k) (meaning r us)
  times_value vs product =
      subst (λ (x : Ring). meaning x vs ≡ polynomial_product x.prime x.vars (meaning x ts) (meaning x us)) same product
      ∙ ap (λ f. polynomial_product r.prime r.vars f (meaning r us)) is ∙ power_next r.prime r.vars k (meaning r us)

  pub times_goes : (vs : List Term) (units : ℕ) → meaning s vs ≡ polynomial_product s.prime s.vars (meaning s ts) (meaning s us) → ProductFits s.prime s.vars (meaning s ts) (meaning s us)
      → next_power r k (meaning r us) (meaning r ts) units ≡ record { end = Ok (meaning r vs); left = units }
  times_goes vs units product fits =
      ap (λ b. bounded b (polynomial_power r.prime r.vars (suc k) (meaning r us)) units) (fits_at r s same ts us fits)
      ∙ ap (λ x. record { end = Ok x; left = units }) (sym (times_value vs product))

  pub times_stops : (units : ℕ) → ProductPasses s.prime s.vars (meaning s ts) (meaning s us) → next_power r k (meaning r us) (meaning r ts) units ≡ record { end = Err Exponent; left = units }
  times_stops units passes = ap (λ b. bounded b (polynomial_power r.prime r.vars (suc k) (meaning r us)) units) (passes_at r s same ts us passes)

-- ---- the task `power`
outsides : (r : Ring) → syz.Inside → Option Outside
outsides r y = outside_of r (inside_value r y)

module _ (r : Ring) (k : ℕ) (f : Polynomial r.prime r.vars) (g : Graph r) where
  before_spends : Spends (before_power r k f g)
  before_spends = go k
    where
      go : (k : ℕ) → Spends (before_power r k f g)
      go zero = λ units. omega arith
      go (suc k) = then_spends (inside_run r (matrix_scalar r.prime r.vars (power r k f) g.matrix.rows) g) (λ y. ready (outside_of r y)) (inside_spends r (matrix_scalar r.prime r.vars (power r k f) g.matrix.rows) g) (λ y units. omega arith)

  abbrev pub after_lift : MatrixOf r → Work (Inverted r)
  after_lift w = before_power r k f g >>= λ o. ready (by_power k w o)

  abbrev pub after_power : Polynomial r.prime r.vars → Work (Inverted r)
  after_power h = scalar_lift r h g >>= after_lift

  lift_spends : (w : MatrixOf r) → Spends (after_lift w)
  lift_spends w = then_spends (before_power r k f g) (λ o. ready (by_power k w o)) before_spends (λ o units. omega arith)

  scalar_spends : (h : Polynomial r.prime r.vars) → Spends (scalar_lift r h g)
  scalar_spends h = lifted_spends r g (matrix_scalar r.prime r.vars h g.matrix.rows).columns

  power_on_spends : (h : Polynomial r.prime r.vars) → Spends (after_power h)
  power_on_spends h = then_spends (scalar_lift r h g) after_lift (scalar_spends h) lift_spends

  pub work_spends : Spends (power_work r k f g)
  work_spends = then_spends (power_run r k f) after_power (power_spends r k f) power_on_spends

  module _ {Y : Type 0} (view : Y → Inverted r) where
    pub power_halts : (old new : ℕ) (z : Stop) → Follows {X = PolyValue} (λ h. meaning r h.terms) (Err z) old new (power_run r k f old) → Follows view (Err z) old new (power_work r k f g old)
    power_halts old new z h = row_stops (power_run r k f) after_power old new (λ (h : PolyValue). meaning r h.terms) view halt_of z power_on_spends h

    pub power_on : (old mid : ℕ) (h : Polynomial r.prime r.vars) → power_run r k f old ≡ record { end = Ok h; left = mid } → (new : ℕ) (answer : Result Y Stop) → Follows view answer mid new (after_power h mid) → Follows view answer old new (power_work r k f g old)
    power_on old mid h e new answer w = row_goes (power_run r k f) after_power old new h mid e (power_spends r k f) view halt_of answer w

    pub lift_halts : (h : Polynomial r.prime r.vars) (old new : ℕ) (z : Stop) → Follows {X = MatrixValue} (matrix_meaning r) (Err z) old new (scalar_lift r h g old) → Follows view (Err z) old new (after_power h old)
    lift_halts h old new z w = row_stops (scalar_lift r h g) after_lift old new (matrix_meaning r) view halt_of z lift_spends w

    pub lift_on : (h : Polynomial r.prime r.vars) (old mid : ℕ) (m : MatrixOf r) → scalar_lift r h g old ≡ record { end = Ok m; left = mid } → (new : ℕ) (answer : Result Y Stop) → Follows view answer mid new (after_lift m mid) → Follows view answer old new (after_power h old)
    lift_on h old mid m e new answer w = row_goes (scalar_lift r h g) after_lift old new m mid e (scalar_spends h) view halt_of answer w

-- the power before it
module _ (r : Ring) (j : ℕ) (f : Polynomial r.prime r.vars) (g : Graph r) {Y : Type 0} (view : Y → Inverted r) where
  abbrev column : Polynomial r.prime r.vars → MatrixOf r
  column h = matrix_scalar r.prime r.vars h g.matrix.rows

  pub before_halts : (old new : ℕ) (z : Stop) → Follows {X = PolyValue} (λ h. meaning r h.terms) (Err z) old new (power_run r j f old) → Follows view (Err z) old new (power_work r (suc j) f g old)
  before_halts old new z h = power_halts r (suc j) f g view old new z (row_stops (power_run r j f) (next_power r j f) old new (λ (h : PolyValue). meaning r h.terms) (λ (h : PolyValue). meaning r h.terms) halt_of z (next_spends r j f) h)

  module _ (old : ℕ) (b : Polynomial r.prime r.vars) (first : power_run r j f old ≡ record { end = Ok b; left = old }) where
    pub power_next_is : (new : ℕ) (answer : Result PolyValue Stop) → Follows (λ (h : PolyValue). meaning r h.terms) answer old new (next_power r j f b old) → Follows (λ (h : PolyValue). meaning r h.terms) answer old new (power_run r (suc j) f old)
    power_next_is new answer h = row_goes (power_run r j f) (next_power r j f) old new b old first (power_spends r j f) (λ (h : PolyValue). meaning r h.terms) halt_of answer h

  module _ (b : Polynomial r.prime r.vars) (is : b ≡ power r j f) (m : MatrixOf r) (old : ℕ) where
    pub inside_halts : (new : ℕ) (z : Stop) → Follows {X = syz.Inside} (inside_value r) (Err z) old new (inside_run r (column b) g old) → Follows view (Err z) old new (after_lift r (suc j) f g m old)
    inside_halts new z h =
        let M = column (power r j f) in
        row_stops (before_power r (suc j) f g) (λ o. ready (by_power (suc j) m o)) old new (outsides r) view halt_of z (λ o units. omega arith)
        (row_stops (inside_run r M g) (λ y. ready (outside_of r y)) old new (inside_value r) (outsides r) halt_of z (λ y units. omega arith)
        (subst (λ b. Follows {X = syz.Inside} (inside_value r) (Err z) old new (inside_run r (column b) g old)) is h))

    pub inside_ends : (new : ℕ) (y : syz.Inside) → Follows (inside_value r) (Ok y) old new (inside_run r (column b) g old) → after_lift r (suc j) f g m old ≡ record { end = Ok (by_power (suc j) m (outside_of r (inside_value r y))); left = new }
    inside_ends new y h =
        after_value (before_power r (suc j) f g) (λ o. ready (by_power (suc j) m o)) old new (outside_of r (inside_value r y))
        (after_value (inside_run r (column (power r j f)) g) (λ y. ready (outside_of r y)) old new (inside_value r y)
        (subst (λ b. Follows (inside_value r) (Ok y) old new (inside_run r (column b) g old)) is h))
