-- The shapes of parts, from those of their operands.
use Rattle.std.proofs.Common.{◌≡◌, ℕ, zero, suc, ◌+◌, ◌*◌, ◌<◌, Bool, true, false, ◌&&◌, nat_eq, nat_lt, List, [], ◌∷◌, length, map, get_or, Option, Some, None, refl, sym, ap, ap₂, ◌∙◌, subst, arith}
use Rattle.std.specs.List.{list_all}
use Rattle.std.proofs.lemmas.Bool.{and_from, eq-eqb, lt-ltb}
use Rattle.std.proofs.lemmas.List.{length-map}
use Rattle.std.proofs.lemmas.Option.{same_Some}
use Rattle.fm_words.specs.Options.{where_so}
use Rattle.fm_algebra.specs.PolynomialMatrices.{HasShape, matrix_unit, matrix_scalar}
use Rattle.fm_algebra.specs.Polynomials.{polynomial_power}
use Rattle.fm_limit.specs.Facts.{unit_column, diagonal_blocks}
use Rattle.fm_limit.proofs.MatrixWords.{unit_fits, scalar_fits, shape_rows, shape_columns}
use Rattle.fm_poly.specs.Polys.{PolyValue, meaning}
use Rattle.fm_poly.specs.declared.ring.Ring.{Ring}
use Rattle.fm_graphs.specs.Graphs.{MatrixOf}
use Rattle.fm_graphs.specs.Listing.{VectorOf}
use Rattle.fm_plan.proofs.Answers.{unit_shape, blocks_shape}
use Rattle.fm_answers.specs.Printed.{printed, printed_vector}
use Rattle.fm_report.specs.Parts.{Part, given, twist, flip, beside, stack, times, part_value}
use Rattle.fm_parts.specs.Shapes.{SIZE, rows_of, columns_of, fits_here, fits, have_one_shape}
use Rattle.fm_parts.specs.Conditions.{Log, equal, generators_fit, shapes_fit}
use Rattle.fm_parts.proofs.Shapes.{part_shape}
use Rattle.fm_groebner.specs.Syzygies.{lower_members}
use Rattle.fm_judge.specs.Claims.{printed_part, unit_part, unit_column_part, blocks_part, power_part, factored_part}
use Rattle.fm_pres.proofs.Shapes.{twist_fits, flip_fits, beside_fits, stack_fits, times_fits}
use Rattle.fm_pres.specs.declared.shape.Shape.{Shape}
use Rattle.fm_conditions.specs.Measures.{measure, measure_of, of_size, flipped, joined, multiplied, of_both}

-- ---- tests that fail

pub not_first : (a b : Bool) → a ≡ false → (a && b) ≡ false
not_first false b e = refl
not_first true b e = absurd (cc e)

pub not_second : (a b : Bool) → b ≡ false → (a && b) ≡ false
not_second false b e = refl
not_second true b e = e

-- ---- what a measure tells

pub measured : (a : Part) → fits a ≡ true → measure a ≡ Some (measure_of a)
measured a f = ap (λ b. where_so b (Some (measure_of a))) f

pub unmeasured : (a : Part) → fits a ≡ false → measure a ≡ None
unmeasured a f = ap (λ b. where_so b (Some (measure_of a))) f

where_none : {A : Type 0} (b : Bool) (x : A) → where_so b (Some x) ≡ None → b ≡ false
where_none false x e = refl
where_none true x e = absurd (cc e)

pub where_some : {A : Type 0} (b : Bool) (x y : A) → where_so b (Some x) ≡ Some y → (b ≡ true) × (y ≡ x)
where_some true x y e = (refl, sym (same_Some x y e))
where_some false x y e = absurd (cc e)

pub unfit : (a : Part) → None ≡ measure a → fits a ≡ false
unfit a e = where_none (fits a) (measure_of a) (sym e)

pub fit : (a : Part) (s : Shape) → Some s ≡ measure a → (fits a ≡ true) × (s ≡ measure_of a)
fit a s e = where_some (fits a) (measure_of a) s (sym e)

-- ---- operations

pub twist_measure : (a : Part) (e : ℕ) → measure a ≡ measure (twist a e)
twist_measure a e = go (fits a) refl
  where
    go : (b : Bool) → fits a ≡ b → measure a ≡ measure (twist a e)
    go true f = measured a f ∙ sym (measured (twist a e) (twist_fits a e f))
    go false f = unmeasured a f ∙ sym (unmeasured (twist a e) (not_first (fits a) (fits_here (twist a e)) f))

pub flip_measure : (a : Part) → flipped (measure a) ≡ measure (flip a)
flip_measure a = go (fits a) refl
  where
    go : (b : Bool) → fits a ≡ b → flipped (measure a) ≡ measure (flip a)
    go true f = ap flipped (measured a f) ∙ sym (measured (flip a) (flip_fits a f))
    go false f = ap flipped (unmeasured a f) ∙ sym (unmeasured (flip a) (not_first (fits a) (fits_here (flip a)) f))

both_measures : (a b c : Part) (f : Shape → Shape → Option Shape) → fits c ≡ (fits a && (fits b && fits_here c)) → (fits a ≡ true → fits b ≡ true → f (measure_of a) (measure_of b) ≡ measure c)
    → of_both (measure a) (measure b) f ≡ measure c
both_measures a b c f e h = go (fits a) (fits b) refl refl
  where
    go : (x y : Bool) → fits a ≡ x → fits b ≡ y → of_both (measure a) (measure b) f ≡ measure c
    go true true p q = ap₂ (λ m n. of_both m n f) (measured a p) (measured b q) ∙ h p q
    go true false p q = ap₂ (λ m n. of_both m n f) (measured a p) (unmeasured b q) ∙ sym (unmeasured c (e ∙ not_second (fits a) (fits b && fits_here c) (not_first (fits b) (fits_here c) q)))
    go false y p q = ap (λ m. of_both m (measure b) f) (unmeasured a p) ∙ sym (unmeasured c (e ∙ not_first (fits a) (fits b && fits_here c) p))

pub beside_measure : (a b : Part) → of_both (measure a) (measure b) joined ≡ measure (beside a b)
beside_measure a b = both_measures a b (beside a b) joined refl (λ p q. sym (ap (λ c. where_so c (Some (measure_of (beside a b)))) (beside_fits a b p q)))

pub times_measure : (a b : Part) → of_both (measure a) (measure b) multiplied ≡ measure (times a b)
times_measure a b = both_measures a b (times a b) multiplied refl (λ p q. sym (ap (λ c. where_so c (Some (measure_of (times a b)))) (times_fits a b p q)))

-- ---- matrices that are printed

module _ (r : Ring) where
  columns_fit : (m : ℕ) (vs : List (VectorOf r)) → ((j : ℕ) → j < length vs → length (get_or vs j []) ≡ m) → list_all (λ v. nat_eq (length v) m) (map (printed_vector r) vs) ≡ true
  columns_fit m [] h = refl
  columns_fit m (v ∷ vs) h =
      and_from (nat_eq (length (printed_vector r v)) m) (list_all (λ v. nat_eq (length v) m) (map (printed_vector r) vs)) (eq-eqb (length (printed_vector r v)) m (length-map v (printed r) ∙ h 0 (omega arith)))
      (columns_fit m vs (λ j k. h (suc j) (omega (arith, k))))

  pub printed_measure : (A : MatrixOf r) (m k : ℕ) → HasShape r.prime r.vars m k A → of_size m k ≡ measure (printed_part r A)
  unfolding HasShape
  printed_measure A m k s =
      let wide : length (map (printed_vector r) A.columns) ≡ k = length-map A.columns (printed_vector r) ∙ s.1 in
      let long = columns_fit A.rows A.columns (λ j h. s.2 j (subst (λ x. j < x) s.1 h) ∙ sym s.0) in
      sym (
      ap (λ b. where_so (b && (nat_lt A.rows SIZE && nat_lt (length (map (printed_vector r) A.columns)) SIZE)) (Some (measure_of (printed_part r A)))) long
      ∙ ap₂ of_size s.0 wide
      )

  small : (n : ℕ) → n < 4294967296 → (nat_lt n SIZE && nat_lt n SIZE) ≡ true
  small n l = and_from (nat_lt n SIZE) (nat_lt n SIZE) (lt-ltb n SIZE l) (lt-ltb n SIZE l)

  pub square_measure : (A : MatrixOf r) (n : ℕ) → HasShape r.prime r.vars n n A → n < 4294967296 → Some (record { rows = n; columns = n }) ≡ measure (printed_part r A)
  square_measure A n s l = sym (ap (λ b. where_so b (Some (record { rows = n; columns = n }))) (small n l)) ∙ printed_measure A n n s

  pub unit_measure : (n : ℕ) → n < 4294967296 → Some (record { rows = n; columns = n }) ≡ measure (unit_part r n)
  unit_measure n l = square_measure (matrix_unit r.prime r.vars n) n (unit_fits r.prime r.vars n) l

  pub power_measure : (f : PolyValue) (k n : ℕ) → n < 4294967296 → Some (record { rows = n; columns = n }) ≡ measure (power_part r f k n)
  power_measure f k n l =
      let a = polynomial_power r.prime r.vars k (meaning r f.terms) in square_measure (matrix_scalar r.prime r.vars a n) n (scalar_fits r.prime r.vars a n) l

  and_true : (b : Bool) → (b && true) ≡ b
  and_true true = refl
  and_true false = refl

  pub unit_column_measure : (n : ℕ) → where_so (nat_lt (n * n) SIZE) (Some (record { rows = n * n; columns = 1 })) ≡ measure (unit_column_part r n)
  unit_column_measure n = ap (λ b. where_so b (Some (record { rows = n * n; columns = 1 }))) (sym (and_true (nat_lt (n * n) SIZE))) ∙ printed_measure (unit_column r.prime r.vars n) (n * n) 1 (unit_shape r n)

  pub blocks_measure : (K : Part) → fits K ≡ true → of_size (rows_of K * rows_of K) (rows_of K * columns_of K) ≡ measure (blocks_part r K)
  blocks_measure K f =
      let s = part_shape r K f in
      let rows : (part_value r K).rows ≡ rows_of K = shape_rows r.prime r.vars (rows_of K) (columns_of K) (part_value r K) s in
      let columns : length (part_value r K).columns ≡ columns_of K = shape_columns r.prime r.vars (rows_of K) (columns_of K) (part_value r K) s in
      ap₂ (λ m k. of_size (m * m) (m * k)) (sym rows) (sym columns)
      ∙ printed_measure (diagonal_blocks r.prime r.vars (part_value r K)) ((part_value r K).rows * (part_value r K).rows) ((part_value r K).rows * length (part_value r K).columns) (blocks_shape r (part_value r K))

  -- ---- powers in factors
  one_measure : (f : PolyValue) → fits (given 1 ((f ∷ []) ∷ [])) ≡ true
  one_measure f = refl

  pub factored_is : (f : PolyValue) (k : ℕ) → Some (record { rows = 1; columns = 1 }) ≡ measure (factored_part r f k)
  factored_is f zero = unit_measure 1 (omega arith)
  factored_is f (suc k) =
      let a = factored_part r f k in
      let h = fit a (record { rows = 1; columns = 1 }) (factored_is f k) in
      sym (sym (times_measure a (given 1 ((f ∷ []) ∷ []))) ∙ ap (λ m. of_both m (Some (record { rows = 1; columns = 1 })) multiplied) (sym (factored_is f k)))

-- ---- conditions

pub same_shapes : (a b : Part) → fits a ≡ true → fits b ≡ true → have_one_shape a b ≡ shapes_fit (equal a b)
same_shapes a b p q = sym (ap₂ (λ x y. x && (y && have_one_shape a b)) p q)

pub first_unfit : (a b : Part) → fits a ≡ false → false ≡ shapes_fit (equal a b)
first_unfit a b p = sym (not_first (fits a) (fits b && have_one_shape a b) p)

pub second_unfit : (a b : Part) → fits b ≡ false → false ≡ shapes_fit (equal a b)
second_unfit a b q = sym (not_second (fits a) (fits b && have_one_shape a b) (not_first (fits b) (have_one_shape a b) q))

pub powers_fit : (r : Ring) (f : PolyValue) (k : ℕ) → true ≡ shapes_fit (equal (factored_part r f k) (factored_part r f k))
powers_fit r f k =
    let a = factored_part r f k in
    let h = fit a (record { rows = 1; columns = 1 }) (factored_is r f k) in
    sym (and_from (nat_eq (rows_of a) (rows_of a)) (nat_eq (columns_of a) (columns_of a)) (eq-eqb (rows_of a) (rows_of a) refl) (eq-eqb (columns_of a) (columns_of a) refl)) ∙ same_shapes a a h.0 h.0

-- generators

module _ (log : Log) (G C X W : Part) (front : ℕ) where
  abbrev count : ℕ
  count = length (lower_members (rows_of G) log.members)

  pub not_stacked : fits (stack C X) ≡ false → false ≡ generators_fit log G front C X W
  not_stacked e =
      sym (not_second (have_one_shape log.part G) (nat_eq (rows_of C) front && (fits (times G (stack C X)) && (fits (times C W) && nat_eq (columns_of W) count)))
      (not_second (nat_eq (rows_of C) front) (fits (times G (stack C X)) && (fits (times C W) && nat_eq (columns_of W) count))
      (not_first (fits (times G (stack C X))) (fits (times C W) && nat_eq (columns_of W) count)
      (not_second (fits G) (fits (stack C X) && fits_here (times G (stack C X))) (not_first (fits (stack C X)) (fits_here (times G (stack C X))) e)))))

  pub not_measured : fits G ≡ false → false ≡ generators_fit log G front C X W
  not_measured e =
      sym (not_second (have_one_shape log.part G) (nat_eq (rows_of C) front && (fits (times G (stack C X)) && (fits (times C W) && nat_eq (columns_of W) count)))
      (not_second (nat_eq (rows_of C) front) (fits (times G (stack C X)) && (fits (times C W) && nat_eq (columns_of W) count))
      (not_first (fits (times G (stack C X))) (fits (times C W) && nat_eq (columns_of W) count)
      (not_first (fits G) (fits (stack C X) && fits_here (times G (stack C X))) e))))

  pub generators_measured : fits G ≡ true → fits C ≡ true → fits W ≡ true → fits (stack C X) ≡ true
      → (have_one_shape log.part G && (nat_eq (rows_of C) front && (nat_eq (columns_of G) (rows_of C + rows_of X) && (nat_eq (columns_of C) (rows_of W) && nat_eq (columns_of W) count))))
      ≡ generators_fit log G front C X W
  generators_measured g c w s =
      ap₂ (λ x y. have_one_shape log.part G && (nat_eq (rows_of C) front && (x && (y && nat_eq (columns_of W) count)))) (sym (times_fits G (stack C X) g s)) (sym (times_fits C W c w))

-- the stack of two parts that fit
pub stack_none : (a b : Part) → fits a ≡ true → fits b ≡ true → None ≡ where_so (nat_eq (columns_of a) (columns_of b) && nat_lt (rows_of a + rows_of b) SIZE) (Some (measure_of (stack a b))) → fits (stack a b) ≡ false
stack_none a b p q e = stack_fits a b p q ∙ where_none (nat_eq (columns_of a) (columns_of b) && nat_lt (rows_of a + rows_of b) SIZE) (measure_of (stack a b)) (sym e)

pub stack_some : (a b : Part) (s : Shape) → fits a ≡ true → fits b ≡ true → Some s ≡ where_so (nat_eq (columns_of a) (columns_of b) && nat_lt (rows_of a + rows_of b) SIZE) (Some (measure_of (stack a b)))
    → (fits (stack a b) ≡ true) × (s ≡ measure_of (stack a b))
stack_some a b s p q e =
    let h = where_some (nat_eq (columns_of a) (columns_of b) && nat_lt (rows_of a + rows_of b) SIZE) (measure_of (stack a b)) s (sym e) in
    (stack_fits a b p q ∙ h.0, h.1)
