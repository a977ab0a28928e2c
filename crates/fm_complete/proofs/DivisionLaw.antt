-- A division that ends: the dividend is the sum of the quotients times the members plus the rest, and the rest is reduced
use Rattle.std.proofs.Common.{ℕ, zero, suc, ◌+◌, ◌==◌, ◌<◌, ◌≡◌, if◌then◌else◌, Bool, true, false, List, [], ◌∷◌, Option, Some, None, Result, Ok, Err, refl, sym, ap, ap₂, ◌∙◌, subst, arith, eq-eqb}
use Rattle.std.proofs.lemmas.Bool.{and_from, false≢true}
use Rattle.std.proofs.lemmas.Bool.Decides.{nat_tests}
use Rattle.fm_tuple.specs.Tuple.{TupleDivides}
use Rattle.fm_poly.specs.declared.ring.Ring.{Ring}
use Rattle.fm_poly.specs.Polys.{meaning}
use Rattle.fm_poly.proofs.OrderedTerms.{meaning_cons, meaning_empty}
use Rattle.fm_term.specs.declared.vterm.VTerm.{VTerm}
use Rattle.fm_vec.specs.Vectors.{IsVector}
use Rattle.fm_vec.specs.Multiples.{multiple_fits}
use Rattle.fm_vec.proofs.Meaning.{nothing, plus, times, term, part, nothing_plus, plus_assoc, plus_left_comm, plus_times, nothing_times, negated_part}
use Rattle.fm_complete.specs.declared.step.Step.{Step}
use Rattle.fm_run.specs.Runs.{Halt}
use Rattle.fm_run.specs.Runs.{Budget, Exponent}
use Rattle.fm_run.specs.Runs.{Ended}
use Rattle.fm_complete.specs.Divisors.{tuple_divides, term_divides, step_for, first_step, next_step}
use Rattle.fm_complete.specs.Reductions.{Reduced, cancelled, stepped, without_units, with_unit, reduced, divided}
use Rattle.fm_complete.specs.Divisions.{quotient_terms}
use Rattle.fm_complete.specs.Trails.{member_at}
use Rattle.fm_complete.specs.Combinations.{AreVectors, combination, NoneDivides, IsReduced}
use Rattle.fm_complete.proofs.Heads.{tuple_divides_if, IsFound, found}
use Rattle.fm_complete.proofs.Cancelling.{step_below, step_length, cancelled_vector}

-- ---- no divisor
divides_if : (b t : VTerm) → b.component ≡ t.component → TupleDivides b.mono t.mono → term_divides b t ≡ true
divides_if b t e d = and_from (b.component == t.component) (tuple_divides b.mono t.mono) (eq-eqb b.component t.component e) (tuple_divides_if b.mono t.mono d)

none_divides : (r : Ring) (i : ℕ) (members : List (List VTerm)) (t : VTerm) → first_step r i members t ≡ None → NoneDivides members t
none_divides r i [] t e = tt
none_divides r i ([] ∷ gs) t e = none_divides r (suc i) gs t e
none_divides r i ((b ∷ bs) ∷ gs) t e = go (term_divides b t) refl e (λ h. none_divides r (suc i) gs t h)
  where
    go : (d : Bool) → term_divides b t ≡ d → ◌≡◌ {A = Option (Step × List VTerm)} (if d then Some (step_for r i b t, b ∷ bs) else first_step r (suc i) gs t) None
        → (first_step r (suc i) gs t ≡ None → NoneDivides gs t) → NoneDivides ((b ∷ bs) ∷ gs) t
    go true d h later = cc
    go false d h later = (λ c m. false≢true (sym d ∙ divides_if b t c m), later h)

is_reduced : (r : Ring) (members : List (List VTerm)) (v : List VTerm) → next_step r members v ≡ None → IsReduced members v
is_reduced r members [] e = tt
is_reduced r members (t ∷ ts) e = none_divides r 1 members t e

module _ (r : Ring) (n : ℕ) where
  -- ---- the sum of the quotients times the members
  pub no_steps : (k number : ℕ) (members : List (List VTerm)) → combination r k number members [] ≡ nothing r
  unfolding combination
  no_steps k number [] = refl
  no_steps k number (g ∷ gs) =
      ap₂ (plus r) (ap (λ x. times r x (part r k g)) (meaning_empty r) ∙ nothing_times r (part r k g)) (no_steps k (suc number) gs) ∙ nothing_plus r (nothing r)

  other_number : (number : ℕ) (s : Step) (ss : List Step) → s.number < number → quotient_terms number (s ∷ ss) ≡ quotient_terms number ss
  other_number number s ss h = ap (λ b. if b then record { mono = s.mono; coeff = s.coeff } ∷ quotient_terms number ss else quotient_terms number ss) (differs s.number number h)
    where
      differs : (i j : ℕ) → i < j → (i == j) ≡ false
      differs i j h = grind (arith, nat_tests)

  later_members : (k number : ℕ) (members : List (List VTerm)) (s : Step) (ss : List Step) → s.number < number → combination r k number members (s ∷ ss) ≡ combination r k number members ss
  unfolding combination
  later_members k number [] s ss h = refl
  later_members k number (g ∷ gs) s ss h =
      ap₂ (λ x y. plus r (times r (meaning r x) (part r k g)) y) (other_number number s ss h) (later_members k (suc number) gs s ss (omega arith))

  own_number : (s : Step) (ss : List Step) → meaning r (quotient_terms s.number (s ∷ ss)) ≡ plus r (term r s.coeff s.mono) (meaning r (quotient_terms s.number ss))
  own_number s ss =
      ap (λ b. meaning r (if b then record { mono = s.mono; coeff = s.coeff } ∷ quotient_terms s.number ss else quotient_terms s.number ss)) (eq-eqb s.number s.number refl)
      ∙ meaning_cons r (record { mono = s.mono; coeff = s.coeff }) (quotient_terms s.number ss)

  own_member : (k : ℕ) (g : List VTerm) (gs : List (List VTerm)) (s : Step) (ss : List Step)
      → combination r k s.number (g ∷ gs) (s ∷ ss) ≡ plus r (times r (term r s.coeff s.mono) (part r k g)) (combination r k s.number (g ∷ gs) ss)
  unfolding combination
  own_member k g gs s ss =
      ap₂ (λ x y. plus r (times r x (part r k g)) y) (own_number s ss) (later_members k (suc s.number) gs s ss (omega arith))
      ∙ ap (λ x. plus r x (combination r k (suc s.number) gs ss)) (plus_times r (term r s.coeff s.mono) (meaning r (quotient_terms s.number ss)) (part r k g))
      ∙ plus_assoc r (times r (term r s.coeff s.mono) (part r k g)) (times r (meaning r (quotient_terms s.number ss)) (part r k g)) (combination r k (suc s.number) gs ss)

  earlier_number : (i j : ℕ) (s : Step) (ss : List Step) → s.number ≡ i + suc j → quotient_terms i (s ∷ ss) ≡ quotient_terms i ss
  earlier_number i j s ss e = ap (λ b. if b then record { mono = s.mono; coeff = s.coeff } ∷ quotient_terms i ss else quotient_terms i ss) (differs s.number i (omega arith))
    where
      differs : (i j : ℕ) → j < i → (i == j) ≡ false
      differs i j h = grind (arith, nat_tests)

  step_added : (k i j : ℕ) (members : List (List VTerm)) (g : List VTerm) (h : VTerm) (hs : List VTerm) (s : Step) (ss : List Step) → s.number ≡ i + j → member_at members (suc j) ≡ g → g ≡ h ∷ hs
      → combination r k i members (s ∷ ss) ≡ plus r (times r (term r s.coeff s.mono) (part r k g)) (combination r k i members ss)
  unfolding combination
  step_added k i j [] g h hs s ss number e is = cc
  step_added k i zero (x ∷ xs) g h hs s ss number e is =
      ap (λ m. combination r k m (x ∷ xs) (s ∷ ss)) (sym here) ∙ own_member k x xs s ss
      ∙ ap₂ (λ y m. plus r (times r (term r s.coeff s.mono) (part r k y)) (combination r k m (x ∷ xs) ss)) e here
    where
      here : s.number ≡ i
      here = omega arith
  step_added k i (suc j) (x ∷ xs) g h hs s ss number e is =
      ap₂ (λ y z. plus r (times r (meaning r y) (part r k x)) z) (earlier_number i j s ss number) (step_added k (suc i) j xs g h hs s ss (omega arith) e is)
      ∙ plus_left_comm r (times r (meaning r (quotient_terms i ss)) (part r k x)) (times r (term r s.coeff s.mono) (part r k g)) (combination r k (suc i) xs ss)

  step_of_member : (k : ℕ) (members : List (List VTerm)) (g : List VTerm) (h : VTerm) (hs : List VTerm) (s : Step) (ss : List Step) → member_at members s.number ≡ g → g ≡ h ∷ hs
      → combination r k 1 members (s ∷ ss) ≡ plus r (times r (term r s.coeff s.mono) (part r k g)) (combination r k 1 members ss)
  step_of_member k members g h hs s ss e is = go s.number refl (e)
    where
      go : (m : ℕ) → s.number ≡ m → member_at members m ≡ g → combination r k 1 members (s ∷ ss) ≡ plus r (times r (term r s.coeff s.mono) (part r k g)) (combination r k 1 members ss)
      go zero i place = cc
      go (suc j) i place = step_added k 1 j members g h hs s ss (omega arith) place is

  -- ---- members
  pub member_vector : (members : List (List VTerm)) (m : ℕ) → AreVectors r n members → IsVector r n (member_at members m)
  member_vector [] zero w = record { falls = tt; proper = tt; within = tt }
  member_vector [] (suc m) w = record { falls = tt; proper = tt; within = tt }
  member_vector (g ∷ gs) zero w = record { falls = tt; proper = tt; within = tt }
  member_vector (g ∷ gs) (suc zero) w = w.0
  member_vector (g ∷ gs) (suc (suc m)) w = member_vector gs (suc m) w.1

  -- ---- what a division that ends says
  pub record Divided (members : List (List VTerm)) (v : List VTerm) (x : Reduced) : Type 0 where
    pub whole : (k : ℕ) → plus r (combination r k 1 members x.steps) (part r k x.rest) ≡ part r k v
    pub reduced : IsReduced members x.rest
    pub vector : IsVector r n x.rest

  abbrev pub Says : List (List VTerm) → List VTerm → Result Reduced Halt → Type 0
  Says members v (Ok x) = Divided members v x
  Says members v (Err e) = Unit {0}

  module _ (members : List (List VTerm)) (vectors : AreVectors r n members) where
    says_finished : (v : List VTerm) → IsVector r n v → next_step r members v ≡ None → Divided members v (record { steps = []; rest = v })
    says_finished v w e = record {
      whole = λ k. ap (λ x. plus r x (part r k v)) (no_steps k 1 members) ∙ nothing_plus r (part r k v);
      reduced = is_reduced r members v e;
      vector = w;
    }

    -- one head reduction
    left_at : (number : ℕ) (b t : VTerm) (bs ts : List VTerm) → term_divides b t ≡ true → IsVector r n (b ∷ bs) → IsVector r n (t ∷ ts)
        → IsVector r n (cancelled r (step_for r number b t, b ∷ bs) (t ∷ ts))
        × ((k : ℕ) → plus r (times r (term r (step_for r number b t).coeff (step_for r number b t).mono) (part r k (b ∷ bs))) (part r k (cancelled r (step_for r number b t, b ∷ bs) (t ∷ ts))) ≡ part r k (t ∷ ts))
    left_at number b t bs ts d v w = (
      cancelled_vector r number b t v.proper.0 w.proper.0 d n bs ts v w,
      λ k. negated_part r k (step_for r number b t).coeff (step_for r number b t).mono (b ∷ bs) (t ∷ ts) (step_below r number b t v.proper.0 w.proper.0 d) (step_length r number b t v.proper.0 w.proper.0 d) v.proper,
    )

    abbrev Left : VTerm → List VTerm → Step → List VTerm → Type 0
    Left t ts s g =
        IsVector r n (cancelled r (s, g) (t ∷ ts)) × ((k : ℕ) → plus r (times r (term r s.coeff s.mono) (part r k g)) (part r k (cancelled r (s, g) (t ∷ ts))) ≡ part r k (t ∷ ts))

    pub left_over : (t : VTerm) (ts : List VTerm) (s : Step) (g : List VTerm) → IsFound r members t s g → IsVector r n (t ∷ ts) → Left t ts s g
    left_over t ts s g f w =
        subst (λ (x : Step). Left t ts x g) (sym f.step)
        (subst (λ y. Left t ts (step_for r s.number f.head t) y) (sym f.is)
        (left_at s.number f.head t f.tail ts f.divides (subst (IsVector r n) (f.place ∙ f.is) (member_vector members s.number vectors)) w))

    says_stepped : (t : VTerm) (ts : List VTerm) (s : Step) (g : List VTerm) → IsFound r members t s g → IsVector r n (t ∷ ts) → (d : Ended Reduced)
        → Says members (cancelled r (s, g) (t ∷ ts)) d.end → Says members (t ∷ ts) (stepped s d).end
    says_stepped t ts s g f w d h = go d.end h
      where
        go : (e : Result Reduced Halt) → Says members (cancelled r (s, g) (t ∷ ts)) e → Says members (t ∷ ts) (stepped s (record { end = e; left = d.left })).end
        go (Err e) h = tt
        go (Ok x) h = record {
          whole = λ k.
              ap (λ y. plus r y (part r k x.rest)) (step_of_member k members g f.head f.tail s x.steps f.place f.is)
              ∙ plus_assoc r (times r (term r s.coeff s.mono) (part r k g)) (combination r k 1 members x.steps) (part r k x.rest)
              ∙ ap (plus r (times r (term r s.coeff s.mono) (part r k g))) (h.whole k) ∙ (left_over t ts s g f w).1 k;
          reduced = h.reduced;
          vector = h.vector;
        }

    turned : (u : ℕ) (t : VTerm) (ts : List VTerm) (p : Step × List VTerm) → IsVector r n (t ∷ ts) → first_step r 1 members t ≡ Some p
        → ((v : List VTerm) → IsVector r n v → Says members v (reduced r members u v).end) → (b : Bool)
        → Says members (t ∷ ts) (if b then stepped p.0 (reduced r members u (cancelled r p (t ∷ ts))) else record { end = Err Exponent; left = u }).end
    turned u t ts p w e later false = tt
    turned u t ts p w e later true =
        let f = found r members t p.0 p.1 e in
        says_stepped t ts p.0 p.1 f w (reduced r members u (cancelled r p (t ∷ ts))) (later (cancelled r p (t ∷ ts)) (left_over t ts p.0 p.1 f w).0)

    pub says : (u : ℕ) (v : List VTerm) → IsVector r n v → Says members v (reduced r members u v).end
    says zero [] w = says_finished [] w refl
    says (suc u) [] w = says_finished [] w refl
    says zero (t ∷ ts) w = go (first_step r 1 members t) refl
      where
        go : (o : Option (Step × List VTerm)) → first_step r 1 members t ≡ o → Says members (t ∷ ts) (without_units (t ∷ ts) o).end
        go None e = says_finished (t ∷ ts) w e
        go (Some p) e = tt
    says (suc u) (t ∷ ts) w = go (first_step r 1 members t) refl (λ v x. says u v x)
      where
        go : (o : Option (Step × List VTerm)) → first_step r 1 members t ≡ o → ((v : List VTerm) → IsVector r n v → Says members v (reduced r members u v).end)
            → Says members (t ∷ ts) (with_unit r u (t ∷ ts) (λ x. reduced r members u x) o).end
        go None e later = says_finished (t ∷ ts) w e
        go (Some p) e later = turned u t ts p w e later (multiple_fits p.0.mono p.1)

    -- a division that ends
    pub division_says : (u left : ℕ) (v : List VTerm) (x : Reduced) → IsVector r n v → divided r members u v ≡ record { end = Ok x; left = left } → Divided members v x
    division_says zero left v x w e = absurd (stopped_first (ap (λ (d : Ended Reduced). d.end) e))
      where
        stopped_first : ◌≡◌ {A = Result Reduced Halt} (Err Budget) (Ok x) → ⊥
        stopped_first h = cc
    division_says (suc u) left v x w e = subst (Says members v) (ap (λ (d : Ended Reduced). d.end) e) (says u v w)
