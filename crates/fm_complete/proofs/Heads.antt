-- The test of divisibility, and what a found step is
use Rattle.std.proofs.Common.{ℕ, suc, ◌+◌, ◌-◌, ◌==◌, ◌&&◌, ◌≡◌, nat_le, if◌then◌else◌, Bool, true, false, List, [], ◌∷◌, length, Option, Some, None, refl, sym, ap, ◌∙◌, arith, eq-eqb, IsTrue, ◌↔◌}
use Rattle.std.specs.Cmp.{both_ways}
use Rattle.std.proofs.lemmas.Bool.{and_parts, and_from, leb-true, le-leb, eqb-true, false≢true}
use Rattle.fm_tuple.specs.Tuple.{TupleDivides, tuple_sum, tuple_difference}
use Rattle.fm_tuple.proofs.Tuples.{tuple_sum_difference, tuple_sum_comm}
use Rattle.fm_tuple.proofs.TupleEntries.{length_entrywise}
use Rattle.fm_poly.specs.declared.ring.Ring.{Ring}
use Rattle.fm_term.specs.declared.vterm.VTerm.{VTerm}
use Rattle.fm_complete.specs.declared.step.Step.{Step}
use Rattle.fm_complete.specs.Divisors.{tuple_divides, term_divides, step_for, first_step, next_step}
use Rattle.fm_term.specs.Falling.{head_of}
use Rattle.fm_complete.specs.Trails.{member_at}

-- ---- the test
pub tuple_divides_means : (a b : List ℕ) → tuple_divides a b ≡ true → TupleDivides a b
tuple_divides_means [] b e = tt
tuple_divides_means (i ∷ a) [] e = absurd (false≢true e)
tuple_divides_means (i ∷ a) (j ∷ b) e =
    let parts = and_parts (nat_le i j) (tuple_divides a b) e in
    (leb-true i j parts.0, tuple_divides_means a b parts.1)

pub tuple_divides_if : (a b : List ℕ) → TupleDivides a b → tuple_divides a b ≡ true
tuple_divides_if [] b d = refl
tuple_divides_if (i ∷ a) [] d = absurd d
tuple_divides_if (i ∷ a) (j ∷ b) d = and_from (nat_le i j) (tuple_divides a b) (le-leb i j d.0) (tuple_divides_if a b d.1)

pub divides_component : (b t : VTerm) → term_divides b t ≡ true → b.component ≡ t.component
divides_component b t e = eqb-true b.component t.component (and_parts (b.component == t.component) (tuple_divides b.mono t.mono) e).0

pub divides_mono : (b t : VTerm) → term_divides b t ≡ true → TupleDivides b.mono t.mono
divides_mono b t e = tuple_divides_means b.mono t.mono (and_parts (b.component == t.component) (tuple_divides b.mono t.mono) e).1

-- the step's monomial times that of the head
pub step_mono : (r : Ring) (number : ℕ) (b t : VTerm) → length b.mono ≡ length t.mono → term_divides b t ≡ true → tuple_sum (step_for r number b t).mono b.mono ≡ t.mono
step_mono r number b t l e =
    tuple_sum_comm (tuple_difference t.mono b.mono) b.mono (length_entrywise ◌-◌ t.mono b.mono (sym l) ∙ sym l)
    ∙ tuple_sum_difference b.mono t.mono l (divides_mono b t e)

-- the test as the code makes it
pub test_is : (x : Bool) (b t : VTerm) → b.component ≡ t.component → IsTrue x ↔ TupleDivides b.mono t.mono → x ≡ term_divides b t
test_is x b t e h =
    both_ways x (tuple_divides b.mono t.mono) (λ k. tuple_divides_if b.mono t.mono (h.0 k)) (λ k. h.1 (tuple_divides_means b.mono t.mono k))
    ∙ ap (λ c. c && tuple_divides b.mono t.mono) (sym (eq-eqb b.component t.component e))

-- ---- the next step
pub no_head : (r : Ring) (members : List (List VTerm)) (v : List VTerm) → None ≡ head_of v → next_step r members v ≡ None
no_head r members [] e = refl
no_head r members (t ∷ ts) e = cc

pub next_is : (r : Ring) (members : List (List VTerm)) (v : List VTerm) (h : VTerm) → Some h ≡ head_of v → next_step r members v ≡ first_step r 1 members h
next_is r members [] h e = cc
next_is r members (t ∷ ts) h e = let same : h ≡ t = cc in ap (first_step r 1 members) (sym same)

pub has_tail : (v : List VTerm) (h : VTerm) → Some h ≡ head_of v → (ts : List VTerm) × (v ≡ h ∷ ts)
has_tail [] h e = cc
has_tail (t ∷ ts) h e = let same : h ≡ t = cc in (ts, ap (λ x. x ∷ ts) (sym same))

-- ---- a found step
-- s is the step by which the member g, with this number, cancels t
pub record IsFound (r : Ring) (members : List (List VTerm)) (t : VTerm) (s : Step) (g : List VTerm) : Type 0 where
  pub head : VTerm
  pub tail : List VTerm
  pub is : g ≡ head ∷ tail
  pub divides : term_divides head t ≡ true
  pub step : s ≡ step_for r s.number head t
  pub place : member_at members s.number ≡ g

-- with numbers that count from any one
record IsFoundFrom (r : Ring) (i : ℕ) (members : List (List VTerm)) (t : VTerm) (s : Step) (g : List VTerm) : Type 0 where
  head : VTerm
  tail : List VTerm
  is : g ≡ head ∷ tail
  divides : term_divides head t ≡ true
  step : s ≡ step_for r s.number head t
  later : ℕ
  number : s.number ≡ i + later
  place : member_at members (suc later) ≡ g

found_here : (r : Ring) (i : ℕ) (b : VTerm) (bs : List VTerm) (gs : List (List VTerm)) (t : VTerm) (s : Step) (g : List VTerm) → term_divides b t ≡ true
    → ◌≡◌ {A = Option (Step × List VTerm)} (Some (step_for r i b t, b ∷ bs)) (Some (s, g)) → IsFoundFrom r i ((b ∷ bs) ∷ gs) t s g
found_here r i b bs gs t s g d e =
    let pair_is : ◌≡◌ {A = Step × List VTerm} (step_for r i b t, b ∷ bs) (s, g) = cc in
    let step_is : step_for r i b t ≡ s = ap (λ (x : Step × List VTerm). x.0) pair_is in
    let member_is : b ∷ bs ≡ g = ap (λ (x : Step × List VTerm). x.1) pair_is in
    let number_is : i ≡ s.number = ap (λ (x : Step). x.number) step_is in
    record {
      head = b;
      tail = bs;
      is = sym member_is;
      divides = d;
      step = sym step_is ∙ ap (λ k. step_for r k b t) number_is;
      later = 0;
      number = sym number_is ∙ plain i;
      place = member_is;
    }
  where
    plain : (i : ℕ) → i ≡ i + 0
    plain i = omega arith

found_later : (r : Ring) (i : ℕ) (h : List VTerm) (gs : List (List VTerm)) (t : VTerm) (s : Step) (g : List VTerm) → IsFoundFrom r (suc i) gs t s g → IsFoundFrom r i (h ∷ gs) t s g
found_later r i h gs t s g f = record {
  head = f.head;
  tail = f.tail;
  is = f.is;
  divides = f.divides;
  step = f.step;
  later = suc f.later;
  number = f.number ∙ moved i f.later;
  place = f.place;
}
  where
    moved : (i k : ℕ) → suc i + k ≡ i + suc k
    moved i k = omega arith

found_from : (r : Ring) (i : ℕ) (members : List (List VTerm)) (t : VTerm) (s : Step) (g : List VTerm) → first_step r i members t ≡ Some (s, g) → IsFoundFrom r i members t s g
found_from r i [] t s g e = cc
found_from r i ([] ∷ gs) t s g e = found_later r i [] gs t s g (found_from r (suc i) gs t s g e)
found_from r i ((b ∷ bs) ∷ gs) t s g e = go (term_divides b t) refl e (found_from r (suc i) gs t s g)
  where
    go : (d : Bool) → term_divides b t ≡ d → ◌≡◌ {A = Option (Step × List VTerm)} (if d then Some (step_for r i b t, b ∷ bs) else first_step r (suc i) gs t) (Some (s, g))
        → (first_step r (suc i) gs t ≡ Some (s, g) → IsFoundFrom r (suc i) gs t s g) → IsFoundFrom r i ((b ∷ bs) ∷ gs) t s g
    go true d h later = found_here r i b bs gs t s g d h
    go false d h later = found_later r i (b ∷ bs) gs t s g (later h)

pub found : (r : Ring) (members : List (List VTerm)) (t : VTerm) (s : Step) (g : List VTerm) → first_step r 1 members t ≡ Some (s, g) → IsFound r members t s g
found r members t s g e =
    let f = found_from r 1 members t s g e in
    let number : suc f.later ≡ s.number = sym (f.number ∙ one_more f.later) in
    record {
      head = f.head;
      tail = f.tail;
      is = f.is;
      divides = f.divides;
      step = f.step;
      place = ap (member_at members) (sym number) ∙ f.place;
    }
  where
    one_more : (k : ℕ) → 1 + k ≡ suc k
    one_more k = omega arith
