-- The turns of a division of a long vector, which is kept in buckets, against the definition of the run
use Rattle.std.proofs.Common.{ℕ, zero, suc, ◌+◌, ◌-◌, ◌==◌, ◌&&◌, ◌<◌, ◌≤◌, ◌≡◌, inl, inr, if◌then◌else◌, Bool, true, false, List, [], ◌∷◌, ◌++◌, length, slice_index_or, refl, sym, ap, ap₂, ◌∙◌, subst, arith, eq-eqb, Some, None, Ok, Err}
use Rattle.std.proofs.lemmas.Bool.{and_parts, and_from}
use Rattle.std.proofs.Math.Nat.{eq-or-lt_of_le}
use Rattle.fm_tuple.specs.Tuple.{tuple_sum}
use Rattle.fm_mono.specs.Bounded.{is_bounded}
use Rattle.fm_poly.specs.declared.ring.Ring.{Ring}
use Rattle.fm_poly.specs.declared.term.Term.{Term}
use Rattle.fm_poly.specs.Polys.{PolyValue}
use Rattle.fm_poly.specs.Steps.{row_fits}
use Rattle.fm_bucket.specs.Values.{BucketValue}
use Rattle.fm_term.specs.declared.vterm.VTerm.{VTerm}
use Rattle.fm_term.specs.Places.{AllBelow}
use Rattle.fm_term.specs.Falling.{IsTerm, AreTerms, AreWithin}
use Rattle.fm_vec.specs.Vectors.{IsVector}
use Rattle.fm_vec.specs.Multiples.{negated, plus_multiple, multiple_fits}
use Rattle.fm_vec.specs.Components.{component_terms, column_from, column_terms, AreOver}
use Rattle.fm_vec.specs.Steps.{AreFrom}
use Rattle.fm_term.proofs.Places.{less_place}
use Rattle.fm_vec.proofs.Inverse.{column_of_vector}
use Rattle.fm_complete.specs.declared.step.Step.{Step}
use Rattle.fm_run.specs.Runs.{Budget, Exponent}
use Rattle.fm_run.specs.Runs.{Ended}
use Rattle.fm_complete.specs.Divisors.{first_step, next_step}
use Rattle.fm_complete.specs.Reductions.{Reduced, cancelled, reduced}
use Rattle.fm_complete.specs.Trails.{member_at, IsTrail, ahead}
use Rattle.fm_complete.specs.Spread.{AreParts, AllFit, tail_column, tail_columns}
use Rattle.fm_complete.proofs.Heads.{IsFound, found}
use Rattle.fm_complete.proofs.Cancelling.{step_product_mono, cancelled_is, cancelled_below, cancelled_vector}
use Rattle.fm_complete.proofs.Running.{done, unpaid, exceeded, step_leaves, turn_run, turn_trail}

-- ---- lists
from_under : (o : Ring) (k : ℕ) (t : VTerm) (ts : List VTerm) → k ≤ t.component → AllBelow o.order t ts → AreFrom k ts
from_under o k t [] h w = tt
from_under o k t (u ∷ ts) h w = (at_least, from_under o k t ts h w.1)
  where
    at_least : k ≤ u.component
    at_least = elim (less_place o.order u t w.0) [ inl lower ↦ omega arith | inr same ↦ (let e = same.0 in omega arith) ]

pub from_one : (n : ℕ) (v : List VTerm) → AreWithin n v → AreFrom (0 + 1) v
from_one n [] w = tt
from_one n (t ∷ ts) w = (w.0, from_one n ts w.2)

-- nothing is in components past the last
pub none_past : (n k : ℕ) (v : List VTerm) → n ≤ k → AreWithin n v → AreFrom (k + 1) v → v ≡ []
none_past n k [] l w from = refl
none_past n k (t ∷ ts) l w from = let a = w.1 in let b = from.0 in absurd (omega arith)

-- ---- the bound
module _ (r : Ring) (t : Term) where
  tail_fits : (j : ℕ) (h : VTerm) (ts : List VTerm) → row_fits t (component_terms j (h ∷ ts)) ≡ true → row_fits t (component_terms j ts) ≡ true
  tail_fits j h ts e = go (h.component == j) e
    where
      go : (b : Bool) → row_fits t (if b then record { mono = h.mono; coeff = h.coeff } ∷ component_terms j ts else component_terms j ts) ≡ true → row_fits t (component_terms j ts) ≡ true
      go true i = (and_parts (is_bounded (tuple_sum t.mono h.mono)) (row_fits t (component_terms j ts)) i).1
      go false i = i

  own_fits : (h : VTerm) (ts : List VTerm) → row_fits t (component_terms h.component (h ∷ ts)) ≡ true → is_bounded (tuple_sum t.mono h.mono) ≡ true
  own_fits h ts e =
      (and_parts (is_bounded (tuple_sum t.mono h.mono)) (row_fits t (component_terms h.component ts))
      (sym (ap (λ b. row_fits t (if b then record { mono = h.mono; coeff = h.coeff } ∷ component_terms h.component ts else component_terms h.component ts)) (eq-eqb h.component h.component refl)) ∙ e)).0

  rows_fit : (n : ℕ) (ts : List VTerm) → AreWithin n ts → ((j : ℕ) → 1 ≤ j → j ≤ n → row_fits t (component_terms j ts) ≡ true) → multiple_fits t.mono ts ≡ true
  rows_fit n [] w each = refl
  rows_fit n (h ∷ ts) w each =
      and_from (is_bounded (tuple_sum t.mono h.mono)) (multiple_fits t.mono ts) (own_fits h ts (each h.component w.0 w.1))
      (rows_fit n ts w.2 (λ j low high. tail_fits j h ts (each j low high)))

  at_row : (n k j : ℕ) (ts : List VTerm) → AllFit t (column_from r n k ts) → k ≤ j → j < k + n → row_fits t (component_terms j ts) ≡ true
  at_row zero k j ts w low high = absurd (omega arith)
  at_row (suc n) k j ts w low high = elim (eq-or-lt_of_le low) [
    | inl same ↦ subst (λ i. row_fits t (component_terms i ts) ≡ true) same w.0
    | inr above ↦ at_row n (suc k) j ts w.1 above (omega arith)
  ]

  pub fits_whole : (n : ℕ) (ts : List VTerm) (fs : List PolyValue) → AllFit t fs → AreWithin n ts → fs ≡ column_from r n 1 ts → multiple_fits t.mono ts ≡ true
  fits_whole n ts fs w within is = rows_fit n ts within (λ j low high. at_row n 1 j ts (subst (AllFit t) is w) low (omega arith))

  row_whole : (j : ℕ) (ts : List VTerm) → multiple_fits t.mono ts ≡ true → row_fits t (component_terms j ts) ≡ true
  row_whole j [] e = refl
  row_whole j (h ∷ ts) e =
      let parts = and_parts (is_bounded (tuple_sum t.mono h.mono)) (multiple_fits t.mono ts) e in
      go (h.component == j) parts.0 (row_whole j ts parts.1)
    where
      go : (b : Bool) → is_bounded (tuple_sum t.mono h.mono) ≡ true → row_fits t (component_terms j ts) ≡ true
          → row_fits t (if b then record { mono = h.mono; coeff = h.coeff } ∷ component_terms j ts else component_terms j ts) ≡ true
      go true i later = and_from (is_bounded (tuple_sum t.mono h.mono)) (row_fits t (component_terms j ts)) i later
      go false i later = later

  column_fits : (n k : ℕ) (ts : List VTerm) → multiple_fits t.mono ts ≡ true → AllFit t (column_from r n k ts)
  column_fits zero k ts e = tt
  column_fits (suc n) k ts e = (row_whole k ts e, column_fits n (suc k) ts e)

  pub fits_not : (n : ℕ) (ts : List VTerm) (fs : List PolyValue) → (AllFit t fs → ⊥) → fs ≡ column_from r n 1 ts → multiple_fits t.mono ts ≡ false
  fits_not n ts fs not is = go (multiple_fits t.mono ts) refl
    where
      go : (b : Bool) → multiple_fits t.mono ts ≡ b → b ≡ false
      go true e = absurd (not (subst (AllFit t) (sym is) (column_fits n 1 ts e)))
      go false e = refl

-- ---- the vector behind its head
pub tail_vector : (r : Ring) (n : ℕ) (t : VTerm) (ts : List VTerm) → IsVector r n (t ∷ ts) → IsVector r n ts
tail_vector r n t ts v = record { falls = v.falls.1; proper = v.proper.1; within = v.within.2 }

pub finished_terms : (r : Ring) (n k : ℕ) (h : VTerm) (ts out later : List VTerm) (column : List PolyValue) (bs : List BucketValue) → out ≡ h ∷ later → later ≡ column_terms 1 column
    → k ≡ n → ((m : ℕ) (v : List VTerm) → IsVector r m v → AreParts r 1 bs v → column ≡ column_from r k 1 v)
    → IsVector r n (h ∷ ts) → AreParts r 1 bs ts → out ≡ h ∷ ts
finished_terms r n k h ts out later column bs out_is later_is count gathered vector parts =
    let whole : IsVector r n ts = tail_vector r n h ts vector in
    out_is ∙ ap (λ x. h ∷ x) (later_is ∙ ap (column_terms 1) (gathered n ts whole parts ∙ ap (λ j. column_from r j 1 ts) count) ∙ column_of_vector r n ts whole)

pub over_column : (r : Ring) (n k : ℕ) (v : List VTerm) → AreOver r (column_from r n k v)
over_column r zero k v = tt
over_column r (suc n) k v = (refl, over_column r n (suc k) v)

pub long_column : (r : Ring) (n k : ℕ) (v : List VTerm) → length (column_from r n k v) ≡ n
long_column r zero k v = refl
long_column r (suc n) k v = ap suc (long_column r n (suc k) v)

pub long_gathered : (r : Ring) (n k : ℕ) (ts : List VTerm) (column : List PolyValue) (bs : List BucketValue) → k ≡ n
    → ((m : ℕ) (v : List VTerm) → IsVector r m v → AreParts r 1 bs v → column ≡ column_from r k 1 v) → IsVector r n ts → AreParts r 1 bs ts → length column ≡ n
long_gathered r n k ts column bs count gathered vector parts = ap length (gathered n ts vector parts) ∙ long_column r k 1 ts ∙ count

-- ---- tails
pub without_head : (r : Ring) (n : ℕ) (terms ts : List VTerm) (h : VTerm) (column : List PolyValue) → terms ≡ h ∷ ts → column ≡ column_from r n 1 ts → column ≡ tail_column r n terms
without_head r n terms ts h column is made = made ∙ ap (tail_column r n) (sym is)

record IsTailAt (r : Ring) (n i : ℕ) (cols : List (List PolyValue)) (bs : List VTerm) : Type 0 where
  within : i < length cols
  here : (d : List PolyValue) → slice_index_or cols i d ≡ column_from r n 1 bs

tail_from : (r : Ring) (n i : ℕ) (members : List (List VTerm)) (b : VTerm) (bs : List VTerm) → member_at members (suc i) ≡ b ∷ bs → IsTailAt r n i (tail_columns r n members) bs
tail_from r n i [] b bs e = absurd (no_term e)
  where
    no_term : [] ≡ b ∷ bs → ⊥
    no_term x = let none : 0 ≡ suc (length bs) = ap length x in absurd (omega arith)
tail_from r n zero (g ∷ gs) b bs e = record { within = omega arith; here = λ d. ap (tail_column r n) e }
tail_from r n (suc i) (g ∷ gs) b bs e =
    let later = tail_from r n i gs b bs e in
    let w = later.within in
    record { within = omega arith; here = λ d. later.here d }

-- the column of the found member's tail
pub record IsTailOf (r : Ring) (n number : ℕ) (cols : List (List PolyValue)) (bs : List VTerm) : Type 0 where
  pub some : 1 ≤ number
  pub within : number - 1 < length cols
  pub here : (d : List PolyValue) → slice_index_or cols (number - 1) d ≡ column_from r n 1 bs

tail_at : (r : Ring) (n number : ℕ) (members : List (List VTerm)) (b : VTerm) (bs : List VTerm) → member_at members number ≡ b ∷ bs → IsTailOf r n number (tail_columns r n members) bs
tail_at r n zero members b bs e = absurd (no_term e)
  where
    no_term : [] ≡ b ∷ bs → ⊥
    no_term x = let none : 0 ≡ suc (length bs) = ap length x in absurd (omega arith)
tail_at r n (suc i) members b bs e =
    let t = tail_from r n i members b bs e in
    let same : suc i - 1 ≡ i = omega arith in
    record {
      some = omega arith;
      within = subst (λ j. j < length (tail_columns r n members)) (sym same) t.within;
      here = λ d. ap (λ j. slice_index_or (tail_columns r n members) j d) same ∙ t.here d;
    }

module _ (r : Ring) (n : ℕ) (members : List (List VTerm)) (all : Ended Reduced) where
  -- ---- the state of the run: v is what the buckets hold
  pub record Long (buckets : List BucketValue) (steps : List Step) (units at : ℕ) : Type 0 where
    pub v : List VTerm
    pub vector : IsVector r n v
    pub parts : AreParts r 1 buckets v
    pub from : AreFrom (at + 1) v
    pub count : length buckets ≡ n
    pub run : ahead steps (reduced r members units v) ≡ all
    pub trail : IsTrail r members steps v

  -- the head is taken off, and the buckets hold the others
  pub record Headed (h : VTerm) (buckets : List BucketValue) (steps : List Step) (units : ℕ) : Type 0 where
    pub tail : List VTerm
    pub vector : IsVector r n (h ∷ tail)
    pub parts : AreParts r 1 buckets tail
    pub count : length buckets ≡ n
    pub run : ahead steps (reduced r members units (h ∷ tail)) ≡ all
    pub trail : IsTrail r members steps (h ∷ tail)

  pub long_start : (buckets : List BucketValue) (steps : List Step) (units at : ℕ) (v : List VTerm) → at ≡ 0 → IsVector r n v → AreParts r 1 buckets v → length buckets ≡ n
      → ahead steps (reduced r members units v) ≡ all → IsTrail r members steps v → Long buckets steps units at
  long_start buckets steps units at v none vector parts count run trail = record {
    v = v;
    vector = vector;
    parts = parts;
    from = subst (λ k. AreFrom (k + 1) v) (sym none) (from_one n v vector.within);
    count = count;
    run = run;
    trail = trail;
  }

  pub long_skip : (buckets left : List BucketValue) (steps : List Step) (units at next : ℕ) → next ≡ at + 1 → length left ≡ length buckets
      → ((m : ℕ) (v : List VTerm) → IsVector r m v → AreFrom (at + 1) v → AreParts r 1 buckets v → AreParts r 1 left v × AreFrom (at + 2) v)
      → Long buckets steps units at → Long left steps units next
  long_skip buckets left steps units at next is count none s =
      let x = none n s.v s.vector s.from s.parts in
      let moved : at + 2 ≡ next + 1 = omega arith in
      record {
        v = s.v;
        vector = s.vector;
        parts = x.0;
        from = subst (λ k. AreFrom k s.v) moved x.1;
        count = count ∙ s.count;
        run = s.run;
        trail = s.trail;
      }

  pub long_head : (buckets left : List BucketValue) (steps : List Step) (units at : ℕ) (t : Term) (h : VTerm) → h ≡ record { component = at + 1; mono = t.mono; coeff = t.coeff }
      → length left ≡ length buckets
      → ((m : ℕ) (v : List VTerm) → IsVector r m v → AreFrom (at + 1) v → AreParts r 1 buckets v
      → (ts : List VTerm) × (v ≡ record { component = at + 1; mono = t.mono; coeff = t.coeff } ∷ ts) × AreParts r 1 left ts)
      → Long buckets steps units at → Headed h left steps units
  long_head buckets left steps units at t h is count some s =
      let x = some n s.v s.vector s.from s.parts in
      let e : s.v ≡ h ∷ x.0 = x.1 ∙ ap (λ y. y ∷ x.0) (sym is) in
      record {
        tail = x.0;
        vector = subst (IsVector r n) e s.vector;
        parts = x.2;
        count = count ∙ s.count;
        run = ap (λ y. ahead steps (reduced r members units y)) (sym e) ∙ s.run;
        trail = subst (IsTrail r members steps) e s.trail;
      }

  pub headed_term : (h : VTerm) (buckets : List BucketValue) (steps : List Step) (units : ℕ) → Headed h buckets steps units → IsTerm r.prime r.vars h
  headed_term h buckets steps units s = s.vector.proper.0

  pub headed_holds : (h : VTerm) (buckets : List BucketValue) (steps : List Step) (units : ℕ) → Headed h buckets steps units
      → (ts : List VTerm) × IsVector r n (h ∷ ts) × AreParts r 1 buckets ts
  headed_holds h buckets steps units s = (s.tail, s.vector, s.parts)

  -- ---- the ends
  pub long_end : (buckets : List BucketValue) (steps : List Step) (units at : ℕ) (rest : List VTerm) → length buckets ≤ at → rest ≡ [] → Long buckets steps units at
      → (all ≡ record { end = Ok (record { steps = steps; rest = rest }); left = units }) × IsTrail r members steps rest
  long_end buckets steps units at rest past empty s =
      let c = s.count in
      let none : s.v ≡ [] = none_past n at s.v (omega arith) s.vector.within s.from in (
        done r members steps units rest all (ap (next_step r members) empty) (ap (λ y. ahead steps (reduced r members units y)) (empty ∙ sym none) ∙ s.run),
        subst (IsTrail r members steps) (none ∙ sym empty) s.trail,
      )

  pub long_done : (h : VTerm) (buckets : List BucketValue) (steps : List Step) (units : ℕ) (rest : List VTerm) → first_step r 1 members h ≡ None
      → ((ts : List VTerm) → IsVector r n (h ∷ ts) → AreParts r 1 buckets ts → rest ≡ h ∷ ts) → Headed h buckets steps units
      → (all ≡ record { end = Ok (record { steps = steps; rest = rest }); left = units }) × IsTrail r members steps rest
  long_done h buckets steps units rest none made s =
      let e : rest ≡ h ∷ s.tail = made s.tail s.vector s.parts in (
        done r members steps units (h ∷ s.tail) all none s.run ∙ (λ i. record { end = Ok (record { steps = steps; rest = (sym e) i }); left = units }),
        subst (IsTrail r members steps) (sym e) s.trail,
      )

  pub long_unpaid : (h : VTerm) (buckets : List BucketValue) (steps : List Step) (units : ℕ) (s : Step) (g : List VTerm) → first_step r 1 members h ≡ Some (s, g) → units ≡ 0
      → Headed h buckets steps units → all ≡ record { end = Err Budget; left = 0 }
  long_unpaid h buckets steps units s g step none x = unpaid r members steps units (h ∷ x.tail) all (s, g) step none x.run

  -- no more is left at the end than after the step's unit
  pub long_leaves : (h : VTerm) (buckets : List BucketValue) (steps : List Step) (units u : ℕ) (s : Step) (g : List VTerm) → first_step r 1 members h ≡ Some (s, g) → units ≡ u + 1
      → Headed h buckets steps units → all.left ≤ u
  long_leaves h buckets steps units u s g step paid x = step_leaves r members steps units u (h ∷ x.tail) all (s, g) step paid x.run

  -- ---- a step
  module _ (h : VTerm) (buckets : List BucketValue) (steps : List Step) (units : ℕ) (s : Step) (g : List VTerm) (step : first_step r 1 members h ≡ Some (s, g))
      (g_vector : IsVector r n g) (bounded : is_bounded h.mono ≡ true) (x : Headed h buckets steps units) where
    pub f : IsFound r members h s g
    f = found r members h s g step

    b_vector : IsVector r n (f.head ∷ f.tail)
    b_vector = subst (IsVector r n) f.is g_vector

    facts : (cancelled r (s, f.head ∷ f.tail) (h ∷ x.tail) ≡ plus_multiple r (negated r s.coeff) s.mono f.tail x.tail)
        × AllBelow r.order h (cancelled r (s, f.head ∷ f.tail) (h ∷ x.tail)) × IsVector r n (cancelled r (s, f.head ∷ f.tail) (h ∷ x.tail)) × (tuple_sum s.mono f.head.mono ≡ h.mono)
    facts =
        subst (λ (y : Step). (cancelled r (y, f.head ∷ f.tail) (h ∷ x.tail) ≡ plus_multiple r (negated r y.coeff) y.mono f.tail x.tail)
        × AllBelow r.order h (cancelled r (y, f.head ∷ f.tail) (h ∷ x.tail)) × IsVector r n (cancelled r (y, f.head ∷ f.tail) (h ∷ x.tail)) × (tuple_sum y.mono f.head.mono ≡ h.mono)) (sym f.step) (
          cancelled_is r s.number f.head h b_vector.proper.0 x.vector.proper.0 f.divides f.tail x.tail b_vector.proper.1 b_vector.falls.0 x.vector.falls.0,
          cancelled_below r s.number f.head h b_vector.proper.0 x.vector.proper.0 f.divides f.tail x.tail b_vector.proper.1 b_vector.falls.0 x.vector.falls.0,
          cancelled_vector r s.number f.head h b_vector.proper.0 x.vector.proper.0 f.divides n f.tail x.tail b_vector x.vector,
          step_product_mono r s.number f.head h b_vector.proper.0 x.vector.proper.0 f.divides,
        )

    head_fits : is_bounded (tuple_sum s.mono f.head.mono) ≡ true
    head_fits = ap is_bounded facts.3 ∙ bounded

    -- the column that the code takes
    pub step_tail : (cols : List (List PolyValue)) → cols ≡ tail_columns r n members → IsTailOf r n s.number cols f.tail
    step_tail cols is = subst (λ y. IsTailOf r n s.number y f.tail) (sym is) (tail_at r n s.number members f.head f.tail (f.place ∙ f.is))

    pub tail_over : (col : List PolyValue) → col ≡ column_from r n 1 f.tail → AreOver r col
    tail_over col is = subst (AreOver r) (sym is) (over_column r n 1 f.tail)

    pub tail_long : (col : List PolyValue) → col ≡ column_from r n 1 f.tail → length buckets ≡ length col
    tail_long col is = x.count ∙ sym (ap length is ∙ long_column r n 1 f.tail)

    pub long_exceeded : (u : ℕ) (col : List PolyValue) → units ≡ u + 1 → col ≡ column_from r n 1 f.tail
        → ((m : ℕ) (ts : List VTerm) → col ≡ column_from r m 1 ts → multiple_fits s.mono ts ≡ false) → all ≡ record { end = Err Exponent; left = u }
    long_exceeded u col paid is not =
        exceeded r members steps units u (h ∷ x.tail) all (s, g) step paid
        (ap (multiple_fits s.mono) f.is ∙ ap₂ (λ y z. y && z) head_fits (not n f.tail is)) x.run

    pub long_turn : (left : List BucketValue) (steps' : List Step) (u at : ℕ) (col : List PolyValue) → units ≡ u + 1 → steps' ≡ steps ++ s ∷ [] → at + 1 ≤ h.component
        → length left ≡ length buckets → col ≡ column_from r n 1 f.tail
        → ((m : ℕ) (ts : List VTerm) → AreWithin m ts → col ≡ column_from r m 1 ts → multiple_fits s.mono ts ≡ true)
        → ((m : ℕ) (ts w : List VTerm) → AreTerms r.prime r.vars ts → col ≡ column_from r m 1 ts → AreParts r 1 buckets w → AreParts r 1 left (plus_multiple r (negated r s.coeff) s.mono ts w))
        → Long left steps' u at
    long_turn left steps' u at col paid pushed low count is fits sum =
        let w : List VTerm = cancelled r (s, g) (h ∷ x.tail) in
        let same : cancelled r (s, f.head ∷ f.tail) (h ∷ x.tail) ≡ cancelled r (s, g) (h ∷ x.tail) = ap (λ y. cancelled r (s, y) (h ∷ x.tail)) (sym f.is) in
        let whole : multiple_fits s.mono g ≡ true = ap (multiple_fits s.mono) f.is ∙ ap₂ (λ y z. y && z) head_fits (fits n f.tail b_vector.within.2 is) in
        record {
          v = w;
          vector = subst (IsVector r n) same facts.2;
          parts = subst (AreParts r 1 left) (sym facts.0 ∙ same) (sum n f.tail x.tail b_vector.proper.1 is x.parts);
          from = from_under r (at + 1) h w low (subst (AllBelow r.order h) same facts.1);
          count = count ∙ x.count;
          run = turn_run r members steps (h ∷ x.tail) {ss' = steps'} {w = w} {h = h} refl refl step pushed refl units u all paid whole x.run;
          trail = turn_trail r members steps (h ∷ x.tail) {ss' = steps'} {w = w} {h = h} refl refl step pushed refl n x.vector g_vector x.trail;
        }
