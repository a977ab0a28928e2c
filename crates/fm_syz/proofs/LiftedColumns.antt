-- The loops that lift columns go along the run.
use Rattle.std.proofs.Common.{ℕ, suc, ◌≤◌, ◌≡◌, Bool, true, false, if◌then◌else◌, List, [], ◌∷◌, ◌++◌, length, Result, Ok, Err, refl, sym, ap, ap₂, ◌∙◌, subst, arith}
use Rattle.std.specs.Prelude.{IsErr, IsErrAnd}
use Rattle.fm_poly.specs.declared.ring.Ring.{Ring}
use Rattle.fm_poly.specs.Polys.{PolyValue}
use Rattle.fm_term.specs.declared.vterm.VTerm.{VTerm}
use Rattle.fm_vec.specs.Components.{components_meaning}
use Rattle.fm_algebra.specs.PolynomialMatrices.{InImage, matrix_unit, vector_product}
use Rattle.fm_groebner.specs.Graphs.{vector_negative}
use Rattle.fm_run.specs.declared.stop.Stop.{Stop}
use Rattle.fm_run.specs.declared.stop.Stop.TheVariants as stops
use Rattle.fm_run.specs.Runs.{Halt, Budget, Exponent, Ended, Work, Spends, ended_with, ready, next_of, ◌>>=◌, each, Follows}
use Rattle.fm_run.proofs.Following.{after_value, after_halt}
use Rattle.fm_run.proofs.Spending.{next_spends, then_spends, each_spends, ready_spends}
use Rattle.fm_run.proofs.Calls.{wanted}
use Rattle.fm_run.proofs.Parts.{Came, came, ended_ready, ended_twice}
use Rattle.fm_complete.specs.Reductions.{Reduced}
use Rattle.fm_complete.specs.Remainders.{RemainderValue, remainder_of, remainder_value}
use Rattle.fm_complete.specs.Completions.{numbers}
use Rattle.fm_graphs.specs.Listing.{VectorOf}
use Rattle.fm_graphs.specs.Graphs.{Graph, IsCompletedGraph, MatrixOf, lifted, Inside, all_inside, first_outside, is_inside, is_below, lift_run, inside_from, inside_run, whole_run, with_solution, solution, width}
use Rattle.fm_graphs.proofs.Graphs.{lift_solves, lift_decides}
use Rattle.fm_graphs.proofs.Spending.{lift_spends}
use Rattle.fm_mat.specs.Matrices.{column_meaning, columns_meaning}
use Rattle.fm_syz.specs.Insides.{answer_of, with_solutions}

-- ---- what is known of a run by part of its value
module _ {A B : Type 0} (f : A → B) where
  pub halted_so : (d : Ended A) (s : Halt) (left : ℕ) → ended_with f d ≡ record { end = Err s; left = left } → d ≡ record { end = Err s; left = left }
  halted_so d s left h = go d.end d.left h
    where
      go : (e : Result A Halt) (k : ℕ) → ended_with f (record { end = e; left = k }) ≡ record { end = Err s; left = left } → ◌≡◌ {A = Ended A} (record { end = e; left = k }) (record { end = Err s; left = left })
      go (Ok x) k h =
          let same : ◌≡◌ {A = Result B Halt} (Ok (f x)) (Err s) = ap (λ (d : Ended B). d.end) h in
          cc
      go (Err e) k h =
          let same : ◌≡◌ {A = Result B Halt} (Err e) (Err s) = ap (λ (d : Ended B). d.end) h in
          let value : e ≡ s = cc in
          ap₂ (λ x l. record { end = Err x; left = l }) value (ap (λ (d : Ended B). d.left) h)

  -- a call that stops where its run does, as a part of a longer run
  pub stops_within : {X Y C : Type 0} (view : X → B) (view' : Y → C) (s : Stop) (old units new : ℕ) (d : Ended A) (all : Ended C) → units ≤ old
      → ((e : Halt) → d ≡ record { end = Err e; left = new } → all ≡ record { end = Err e; left = new }) → all.left ≤ d.left
      → Follows view (Err s) units new (ended_with f d) → Follows view' (Err s) old new all
  stops_within view view' stops.Budget old units new d all earlier go less h = go Budget (halted_so d Budget new h)
  stops_within view view' stops.Exponent old units new d all earlier go less h = go Exponent (halted_so d Exponent new h)
  stops_within view view' stops.Memory old units new d all earlier go less h = (omega (arith, h.0, earlier), omega (arith, h.1, less))

  -- a call that wants memory after a part of the run
  pub wants_within : {Y C : Type 0} (view' : Y → C) (r : Result Y Stop) (old units new : ℕ) (d : Ended A) (all : Ended C) → d.left ≤ units → d.left ≡ new → units ≤ old → all.left ≤ d.left
      → IsErr r × IsErrAnd r (λ e. e ≡ stops.Memory) → Follows view' r old new all
  wants_within view' r old units new d all spent at earlier less h = wanted view' r old new all h (omega (arith, spent, at, earlier)) (omega (arith, less, at))

-- ---- columns one after the other
module _ (r : Ring) (G : Graph r) where
  -- a lift makes no unit
  pub lift_left : (v : VectorOf r) (units left : ℕ) (value : RemainderValue) → ended_with remainder_of (lift_run r G v units) ≡ record { end = Ok value; left = left } → left ≤ units
  lift_left v units left value e = let a = lift_spends r G v units in let b = ap (λ (d : Ended RemainderValue). d.left) e in omega (arith, a, b)

  all_of : (sols : List (VectorOf r)) → with_solutions r sols (all_inside []) ≡ all_inside sols
  all_of [] = refl
  all_of (w ∷ sols) = ap (with_solution r w) (all_of sols)

  none_of : (sols : List (VectorOf r)) (o : _) → with_solutions r sols (first_outside o) ≡ first_outside o
  none_of [] o = refl
  none_of (w ∷ sols) o = ap (with_solution r w) (none_of sols o)

  one_more : (sols : List (VectorOf r)) (w : VectorOf r) (y : Inside r) → with_solutions r sols (with_solution r w y) ≡ with_solutions r (sols ++ w ∷ []) y
  one_more [] w y = refl
  one_more (u ∷ sols) w y = ap (with_solution r u) (one_more sols w y)

  abbrev step : ℕ → List (VectorOf r) → Reduced → Work (Inside r)
  step k vs x =
      if is_inside r G x then (inside_from r G (suc k) vs >>= λ y. ready (with_solution r (solution r G x) y))
      else ready (first_outside (record { column = k; by = numbers x.steps; rest = x.rest }))

  step_spends : (k : ℕ) (vs : List (VectorOf r)) (x : Reduced) → Spends (inside_from r G (suc k) vs) → Spends (step k vs x)
  step_spends k vs x later = go (is_inside r G x)
    where
      go : (b : Bool) → Spends (if b then (inside_from r G (suc k) vs >>= λ y. ready (with_solution r (solution r G x) y)) else ready (first_outside (record { column = k; by = numbers x.steps; rest = x.rest })))
      go true = then_spends (inside_from r G (suc k) vs) (λ y. ready (with_solution r (solution r G x) y)) later (λ y units. omega arith)
      go false = λ units. omega arith

  pub inside_spends : (k : ℕ) (vs : List (VectorOf r)) → Spends (inside_from r G k vs)
  inside_spends k [] = λ units. omega arith
  inside_spends k (v ∷ vs) = then_spends (lift_run r G v) (step k vs) (lift_spends r G v) (λ x. step_spends k vs x (inside_spends (suc k) vs))

  pub whole_spends : Spends (whole_run r G)
  unfolding whole_run inside_run
  whole_spends = inside_spends 1 (matrix_unit r.prime r.vars G.matrix.rows).columns

  module _ (sols : List (VectorOf r)) (k units : ℕ) (all : Ended (Inside r)) where
    abbrev pub At : List (VectorOf r) → Type 0
    At vs = ended_with (with_solutions r sols) (inside_from r G k vs units) ≡ all

    pub inside_done : At [] → all ≡ record { end = Ok (all_inside sols); left = units }
    inside_done h = sym h ∙ ap (λ y. record { end = Ok y; left = units }) (all_of sols)

    module _ (v : VectorOf r) (vs : List (VectorOf r)) (h : At (v ∷ vs)) (left : ℕ) where
      left_after : all.left ≤ (lift_run r G v units).left
      left_after = let a = next_spends (step k vs) (λ x. step_spends k vs x (inside_spends (suc k) vs)) (lift_run r G v units) in let b = ap (λ (d : Ended (Inside r)). d.left) h in omega (arith, a, b)

      pub inside_stops : {Y : Type 0} (view : Y → Inside r) (s : Stop) (old : ℕ) → units ≤ old → Follows remainder_value (Err s) units left (ended_with remainder_of (lift_run r G v units)) → Follows view (Err s) old left all
      inside_stops view s old earlier f = stops_within remainder_of remainder_value view s old units left (lift_run r G v units) all earlier
          (λ e w. sym h ∙ ap (ended_with (with_solutions r sols)) (after_halt (lift_run r G v) (step k vs) units left e w)) left_after f

      -- want of memory once the column is lifted
      pub inside_wants : {Y : Type 0} (view : Y → Inside r) (answer : Result Y Stop) (old : ℕ) (value : RemainderValue) → units ≤ old
          → ended_with remainder_of (lift_run r G v units) ≡ record { end = Ok value; left = left } → IsErr answer × IsErrAnd answer (λ e. e ≡ stops.Memory) → Follows view answer old left all
      inside_wants view answer old value earlier came_so =
          wants_within remainder_of view answer old units left (lift_run r G v units) all (lift_spends r G v units) (ap (λ (d : Ended RemainderValue). d.left) came_so) earlier left_after

      module _ (value : RemainderValue) (came_so : ended_with remainder_of (lift_run r G v units) ≡ record { end = Ok value; left = left }) where
        c : Came remainder_of (lift_run r G v units) value left
        c = came remainder_of (lift_run r G v units) value left came_so

        rest_is : c.0.rest ≡ value.rest
        rest_is = ap (λ (x : RemainderValue). x.rest) c.2

        by_is : numbers c.0.steps ≡ value.by
        by_is = ap (λ (x : RemainderValue). x.by) c.2

        so_far : (b : Bool) → is_below G.matrix.rows value.rest ≡ b → ended_with (with_solutions r sols)
            ((if b then (inside_from r G (suc k) vs >>= λ y. ready (with_solution r (solution r G c.0) y)) else ready (first_outside (record { column = k; by = numbers c.0.steps; rest = c.0.rest }))) left) ≡ all
        so_far b e =
            ap (λ z. ended_with (with_solutions r sols) ((if z then (inside_from r G (suc k) vs >>= λ y. ready (with_solution r (solution r G c.0) y)) else ready (first_outside (record { column = k; by = numbers c.0.steps; rest = c.0.rest }))) left))
            (sym e ∙ ap (is_below G.matrix.rows) (sym rest_is))
            ∙ sym (ap (ended_with (with_solutions r sols)) (after_value (lift_run r G v) (step k vs) units left c.0 c.1)) ∙ h

        pub inside_found : (j : ℕ) → k ≡ j → is_below G.matrix.rows value.rest ≡ false → all ≡ record { end = Ok (first_outside (record { column = j; by = value.by; rest = value.rest })); left = left }
        inside_found j number e = sym (so_far false e) ∙ ap (λ y. record { end = Ok y; left = left }) (none_of sols (record { column = k; by = numbers c.0.steps; rest = c.0.rest }))
            ∙ ap₂ (λ b t. record { end = Ok (first_outside (record { column = k; by = b; rest = t })); left = left }) by_is rest_is
            ∙ ap (λ i. record { end = Ok (first_outside (record { column = i; by = value.by; rest = value.rest })); left = left }) number

        pub inside_next : (w : VectorOf r) → is_below G.matrix.rows value.rest ≡ true → w ≡ vector_negative r.prime r.vars (components_meaning r (width r G) (suc G.matrix.rows) value.rest)
            → ended_with (with_solutions r (sols ++ w ∷ [])) (inside_from r G (suc k) vs left) ≡ all
        inside_next w e is =
            sym (ended_twice (with_solution r w) (with_solutions r sols) (with_solutions r (sols ++ w ∷ [])) (one_more sols w) (inside_from r G (suc k) vs left))
            ∙ ap (λ u. ended_with (with_solutions r sols) (ended_with (with_solution r u) (inside_from r G (suc k) vs left))) (is ∙ ap (λ t. vector_negative r.prime r.vars (components_meaning r (width r G) (suc G.matrix.rows) t)) (sym rest_is))
            ∙ sym (ap (ended_with (with_solutions r sols)) (ended_ready (with_solution r (solution r G c.0)) (inside_from r G (suc k) vs left)))
            ∙ so_far true e

no_columns : {X : Type 0} (xs : List X) → length xs ≡ 0 → xs ≡ []
no_columns [] e = refl
no_columns (x ∷ xs) e = absurd (omega (arith, e))

module _ (r : Ring) (G : Graph r) (sols : List (VectorOf r)) (k units : ℕ) (all : Ended (Inside r)) where
  -- no column is left
  pub at_end : (cs : List (List PolyValue)) → length cs ≡ 0 → At r G sols k units all (columns_meaning r cs) → At r G sols k units all []
  at_end cs e h = subst (λ ds. At r G sols k units all (columns_meaning r ds)) (no_columns cs e) h

  -- the next column, which the program reads as w
  pub at_next : (cs vs : List (List PolyValue)) (v w : List PolyValue) → cs ≡ v ∷ vs → w ≡ v → At r G sols k units all (columns_meaning r cs) → At r G sols k units all (column_meaning r w ∷ columns_meaning r vs)
  at_next cs vs v w here same h =
      subst (At r G sols k units all) (ap (λ x. column_meaning r x ∷ columns_meaning r vs) (sym same)) (subst (λ ds. At r G sols k units all (columns_meaning r ds)) here h)

module _ (r : Ring) (G : Graph r) (k units : ℕ) (all : Ended (Inside r)) where
  pub at_more : (out out' : List (List PolyValue)) (w : List PolyValue) (k' : ℕ) (vs : List (VectorOf r)) → out' ≡ out ++ w ∷ [] → k ≡ k'
      → At r G (columns_meaning r out ++ column_meaning r w ∷ []) k units all vs → At r G (columns_meaning r out') k' units all vs
  at_more out out' w k' vs e same h =
      subst (λ i. At r G (columns_meaning r out') i units all vs) same (subst (λ s. At r G s k units all vs) (sym (ap (columns_meaning r) e ∙ joined out)) h)
    where
      joined : (out : List (List PolyValue)) → columns_meaning r (out ++ w ∷ []) ≡ columns_meaning r out ++ column_meaning r w ∷ []
      joined [] = refl
      joined (c ∷ out) = ap (λ l. column_meaning r c ∷ l) (joined out)

pub solution_at : (r r' : Ring) (m m' c c' c'' : ℕ) (w : List PolyValue) (ts : List VTerm) → r' ≡ r → m' ≡ m → c' ≡ c'' → c'' ≡ c
    → column_meaning r' w ≡ vector_negative r'.prime r'.vars (components_meaning r' c' (suc m') ts) → column_meaning r w ≡ vector_negative r.prime r.vars (components_meaning r c (suc m) ts)
solution_at r r' m m' c c' c'' w ts ring rows long wide h =
    subst (λ (s : Ring). column_meaning s w ≡ vector_negative s.prime s.vars (components_meaning s c' (suc m') ts)) ring h
    ∙ ap₂ (λ i j. vector_negative r.prime r.vars (components_meaning r i (suc j) ts)) (long ∙ wide) rows

-- ---- columns that are lifted, one for each
module _ (r : Ring) (G : Graph r) where
  abbrev pub one_lift : VectorOf r → Work (VectorOf r)
  one_lift v = lift_run r G v >>= λ x. ready (solution r G x)

  abbrev pub made : List (VectorOf r) → MatrixOf r
  made ws = record { rows = width r G; columns = ws }

  abbrev pub Lifts : List (VectorOf r) → List (VectorOf r) → ℕ → Ended (MatrixOf r) → Type 0
  Lifts sols vs units all = ended_with (λ ws. made (sols ++ ws)) (each one_lift vs units) ≡ all

  pub lifts_begun : (vs : List (VectorOf r)) (units : ℕ) → Lifts [] vs units (lifted r G vs units)
  unfolding lifted
  lifts_begun vs units = sym (ended_ready made (each one_lift vs units))

  snoc : (sols : List (VectorOf r)) (w : VectorOf r) (ws : List (VectorOf r)) → sols ++ w ∷ ws ≡ (sols ++ w ∷ []) ++ ws
  snoc [] w ws = refl
  snoc (u ∷ sols) w ws = ap (λ l. u ∷ l) (snoc sols w ws)

  none : (sols : List (VectorOf r)) → sols ++ [] ≡ sols
  none [] = refl
  none (u ∷ sols) = ap (λ l. u ∷ l) (none sols)

  pub lifts_done : (out cs : List (List PolyValue)) (units : ℕ) (all : Ended (MatrixOf r)) → length cs ≡ 0 → Lifts (columns_meaning r out) (columns_meaning r cs) units all → all ≡ record { end = Ok (made (columns_meaning r out)); left = units }
  lifts_done out [] units all e h = sym h ∙ ap (λ l. record { end = Ok (made l); left = units }) (none (columns_meaning r out))
  lifts_done out (c ∷ cs) units all e h = absurd (omega (arith, e))

  pub lifts_next : (cs vs : List (List PolyValue)) (v w : List PolyValue) (sols : List (VectorOf r)) (units : ℕ) (all : Ended (MatrixOf r)) → cs ≡ v ∷ vs → w ≡ v → Lifts sols (columns_meaning r cs) units all → Lifts sols (column_meaning r w ∷ columns_meaning r vs) units all
  lifts_next cs vs v w sols units all here same h =
      subst (λ x. Lifts sols x units all) (ap (λ x. column_meaning r x ∷ columns_meaning r vs) (sym same)) (subst (λ ds. Lifts sols (columns_meaning r ds) units all) here h)

  module _ (sols : List (VectorOf r)) (v : VectorOf r) (vs : List (VectorOf r)) (units left : ℕ) (all : Ended (MatrixOf r)) (h : Lifts sols (v ∷ vs) units all) where
    abbrev later : VectorOf r → Work (List (VectorOf r))
    later y = each one_lift vs >>= λ ys. ready (y ∷ ys)

    later_spends : (y : VectorOf r) → Spends (later y)
    later_spends y = then_spends (each one_lift vs) (λ ys. ready (y ∷ ys))
        (each_spends one_lift (λ u. then_spends (lift_run r G u) (λ x. ready (solution r G x)) (lift_spends r G u) (λ x. ready_spends (solution r G x))) vs) (λ ys units. omega arith)

    left_after_lift : all.left ≤ (lift_run r G v units).left
    left_after_lift =
        let a = next_spends (λ x. ready (solution r G x)) (λ x. ready_spends (solution r G x)) (lift_run r G v units) in
        let b = next_spends later later_spends (one_lift v units) in
        let c = ap (λ (d : Ended (MatrixOf r)). d.left) h in
        omega (arith, a, b, c)

    pub lifts_stop : {Y : Type 0} (view : Y → MatrixOf r) (s : Stop) (old : ℕ) → units ≤ old → Follows remainder_value (Err s) units left (ended_with remainder_of (lift_run r G v units)) → Follows view (Err s) old left all
    lifts_stop view s old earlier f = stops_within remainder_of remainder_value view s old units left (lift_run r G v units) all earlier
        (λ e w. sym h ∙ ap (ended_with (λ ws. made (sols ++ ws))) (after_halt (one_lift v) later units left e (after_halt (lift_run r G v) (λ x. ready (solution r G x)) units left e w))) left_after_lift f

    pub lifts_want : {Y : Type 0} (view : Y → MatrixOf r) (answer : Result Y Stop) (old : ℕ) (value : RemainderValue) → units ≤ old
        → ended_with remainder_of (lift_run r G v units) ≡ record { end = Ok value; left = left } → IsErr answer × IsErrAnd answer (λ e. e ≡ stops.Memory) → Follows view answer old left all
    lifts_want view answer old value earlier came_so =
        wants_within remainder_of view answer old units left (lift_run r G v units) all (lift_spends r G v units) (ap (λ (d : Ended RemainderValue). d.left) came_so) earlier left_after_lift

    pub lifts_more : (value : RemainderValue) → ended_with remainder_of (lift_run r G v units) ≡ record { end = Ok value; left = left } → (w : VectorOf r)
        → w ≡ vector_negative r.prime r.vars (components_meaning r (width r G) (suc G.matrix.rows) value.rest) → Lifts (sols ++ w ∷ []) vs left all
    lifts_more value came_so w is =
        let c = came remainder_of (lift_run r G v units) value left came_so in
        let same : w ≡ solution r G c.0 = is ∙ ap (λ t. vector_negative r.prime r.vars (components_meaning r (width r G) (suc G.matrix.rows) t)) (sym (ap (λ (x : RemainderValue). x.rest) c.2)) in
        sym (ended_twice (λ ys. w ∷ ys) (λ ws. made (sols ++ ws)) (λ ws. made ((sols ++ w ∷ []) ++ ws)) (λ ws. ap made (snoc sols w ws)) (each one_lift vs left))
        ∙ ap (λ y. ended_with (λ ws. made (sols ++ ws)) (ended_with (λ ys. y ∷ ys) (each one_lift vs left))) same
        ∙ ap (ended_with (λ ws. made (sols ++ ws))) (sym (ended_ready (λ ys. solution r G c.0 ∷ ys) (each one_lift vs left))
        ∙ sym (after_value (one_lift v) later units left (solution r G c.0) (after_value (lift_run r G v) (λ x. ready (solution r G x)) units left c.0 c.1)))
        ∙ h

pub columns_pushed : (r : Ring) (out out' : List (List PolyValue)) (w : List PolyValue) → out' ≡ out ++ w ∷ [] → columns_meaning r out ++ column_meaning r w ∷ [] ≡ columns_meaning r out'
columns_pushed r out out' w e = sym (joined out) ∙ sym (ap (columns_meaning r) e)
  where
    joined : (out : List (List PolyValue)) → columns_meaning r (out ++ w ∷ []) ≡ columns_meaning r out ++ column_meaning r w ∷ []
    joined [] = refl
    joined (c ∷ out) = ap (λ l. column_meaning r c ∷ l) (joined out)

-- ---- one vector
module _ (r : Ring) (G : Graph r) (v : VectorOf r) (units left : ℕ) where
  pub lift_wants : {Y : Type 0} (view : Y → Inside r) (answer : Result Y Stop) (value : RemainderValue)
      → ended_with remainder_of (lift_run r G v units) ≡ record { end = Ok value; left = left } → IsErr answer × IsErrAnd answer (λ e. e ≡ stops.Memory)
      → Follows view answer units left (ended_with (answer_of r G) (lift_run r G v units))
  lift_wants view answer value came_so =
      wants_within remainder_of view answer units units left (lift_run r G v units) (ended_with (answer_of r G) (lift_run r G v units)) (lift_spends r G v units)
      (ap (λ (d : Ended RemainderValue). d.left) came_so) (omega arith) (omega arith)

  module _ (value : RemainderValue) (came_so : ended_with remainder_of (lift_run r G v units) ≡ record { end = Ok value; left = left }) where
    reduced_so : Came remainder_of (lift_run r G v units) value left
    reduced_so = came remainder_of (lift_run r G v units) value left came_so

    rest_same : reduced_so.0.rest ≡ value.rest
    rest_same = ap (λ (x : RemainderValue). x.rest) reduced_so.2

    pub lift_gives : (w : VectorOf r) → is_below G.matrix.rows value.rest ≡ true → w ≡ vector_negative r.prime r.vars (components_meaning r (width r G) (suc G.matrix.rows) value.rest)
        → ended_with (answer_of r G) (lift_run r G v units) ≡ record { end = Ok (all_inside (w ∷ [])); left = left }
    lift_gives w e is =
        ap (ended_with (answer_of r G)) reduced_so.1
        ∙ ap (λ b. record { end = Ok (if b then all_inside (solution r G reduced_so.0 ∷ []) else first_outside (record { column = 1; by = numbers reduced_so.0.steps; rest = reduced_so.0.rest })); left = left })
        (ap (is_below G.matrix.rows) rest_same ∙ e)
        ∙ ap (λ u. record { end = Ok (all_inside (u ∷ [])); left = left }) (sym (is ∙ ap (λ t. vector_negative r.prime r.vars (components_meaning r (width r G) (suc G.matrix.rows) t)) (sym rest_same)))

    module _ (complete : IsCompletedGraph r G) (fits : length v ≡ G.matrix.rows) where
      pub lift_is_solution : (w : VectorOf r) → is_below G.matrix.rows value.rest ≡ true → w ≡ vector_negative r.prime r.vars (components_meaning r (width r G) (suc G.matrix.rows) value.rest)
          → vector_product r.prime r.vars G.matrix w ≡ v
      lift_is_solution w e is =
          let s = lift_solves r G complete v fits units left reduced_so.0 reduced_so.1 (ap (is_below G.matrix.rows) rest_same ∙ e) in
          ap (vector_product r.prime r.vars G.matrix) (is ∙ ap (λ t. vector_negative r.prime r.vars (components_meaning r (width r G) (suc G.matrix.rows) t)) (sym rest_same)) ∙ s.1

      pub lift_is_outside : is_below G.matrix.rows value.rest ≡ false → ¬ (InImage r.prime r.vars G.matrix v)
      lift_is_outside e i = clash (sym e ∙ ap (is_below G.matrix.rows) (sym rest_same) ∙ (lift_decides r G complete v fits units left reduced_so.0 reduced_so.1).0 i)
        where
          clash : false ≡ true → ⊥
          clash h = cc
