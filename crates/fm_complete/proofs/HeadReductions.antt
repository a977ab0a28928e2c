-- Divisions that end are reductions of the theory of Gröbner bases, up to an irreducible rest.
use Rattle.std.proofs.Common.{ℕ, zero, suc, ◌*◌, ◌%◌, ◌<◌, ◌≤◌, ◌≡◌, if◌then◌else◌, Bool, true, false, List, [], ◌∷◌, ◌++◌, length, Option, Some, None, Result, Ok, Err, refl, sym, ap, ap₂, ◌∙◌, subst, arith, mod-eq_of_lt}
use Rattle.fm_tuple.specs.Tuple.{tuple_difference, TupleDivides}
use Rattle.fm_gfp.specs.Primes.{prime_value}
use Rattle.fm_mono.specs.Bounded.{is_bounded}
use Rattle.fm_term.specs.declared.vterm.VTerm.{VTerm}
use Rattle.fm_term.specs.Places.{TermDivides}
use Rattle.fm_term.specs.Falling.{AreFalling}
use Rattle.fm_term.specs.Multiples.{multiple}
use Rattle.fm_term.specs.Meanings.{vector_of}
use Rattle.fm_groebner.specs.Bases.{vector_component}
use Rattle.fm_groebner.specs.Logs.{IsNumber, first, next, ReducesBy, no_more, one_more, IsIrreducible}
use Rattle.fm_groebner.proofs.Setting.{In, here, there}
use Rattle.fm_groebner.proofs.Numbers.{in_of_contains}
use Rattle.fm_groebner.proofs.Vectors.{length_vector}
use Rattle.fm_groebner.proofs.TermWords.{component_append, component_multiple, same_vectors, falling_exponents}
use Rattle.fm_poly.specs.declared.ring.Ring.{Ring}
use Rattle.fm_term.specs.declared.vterm.VTerm.{VTerm}
use Rattle.fm_vec.specs.Vectors.{IsVector}
use Rattle.fm_vec.specs.Multiples.{multiple_fits}
use Rattle.fm_vec.proofs.Meaning.{plus, times, term, part, plus_comm}
use Rattle.fm_complete.specs.declared.step.Step.{Step}
use Rattle.fm_run.specs.Runs.{Halt}
use Rattle.fm_run.specs.Runs.{Budget, Exponent}
use Rattle.fm_run.specs.Runs.{Ended}
use Rattle.fm_complete.specs.Divisors.{first_step}
use Rattle.fm_complete.specs.Reductions.{Reduced, cancelled, stepped, without_units, with_unit, reduced, divided}
use Rattle.fm_complete.specs.Trails.{member_at}
use Rattle.fm_complete.specs.Combinations.{AreVectors, NoneDivides, IsReduced}
use Rattle.fm_complete.proofs.Heads.{divides_component, divides_mono, IsFound, found}
use Rattle.fm_complete.proofs.Cancelling.{step_product, step_length}
use Rattle.fm_complete.proofs.DivisionLaw as law
use Rattle.fm_complete.specs.Completions.{numbers}
use Rattle.fm_run.proofs.Ends.{Ends}
use Rattle.fm_complete.proofs.Meanings.{part_is}

-- a member that isn't zero, by its number
pub number_of_member : (members : List (List VTerm)) (k : ℕ) (g : List VTerm) (h : VTerm) (hs : List VTerm) → member_at members k ≡ g → g ≡ h ∷ hs → IsNumber members k (h ∷ hs)
number_of_member [] zero g h hs e i = cc
number_of_member [] (suc k) g h hs e i = cc
number_of_member (x ∷ xs) zero g h hs e i = cc
number_of_member (x ∷ xs) (suc zero) g h hs e i = subst (λ y. IsNumber (x ∷ xs) 1 y) (e ∙ i) first
number_of_member (x ∷ xs) (suc (suc k)) g h hs e i = next (number_of_member xs (suc k) g h hs e i)

module _ (r : Ring) (m : ℕ) where
  abbrev pub Red : List (List VTerm) → List ℕ → List VTerm → List VTerm → Type 0
  Red members by v w = ReducesBy r.prime r.vars m r.order is_bounded members by v w

  pub in_vectors : (members : List (List VTerm)) → AreVectors r m members → (g : List VTerm) → In members g → IsVector r m g
  in_vectors [] w g i = elim i [ ]
  in_vectors (x ∷ xs) w y here = w.0
  in_vectors (x ∷ xs) w g (there i) = in_vectors xs w.1 g i

  pub are_falling : (members : List (List VTerm)) → AreVectors r m members → AreFalling r.prime r.vars m r.order members
  are_falling members w ts c =
      in_vectors members w ts (in_of_contains members ts c)

  -- ---- no divisor
  none_of : (members : List (List VTerm)) (t : VTerm) → NoneDivides members t → (g : List VTerm) → In members g → (b : VTerm) (bs : List VTerm) → g ≡ b ∷ bs → ¬ (TermDivides b t)
  none_of [] t none g i b bs e = elim i [ ]
  none_of ([] ∷ gs) t none g here b bs e = cc
  none_of ([] ∷ gs) t none g (there i) b bs e = none_of gs t none g i b bs e
  none_of ((c ∷ cs) ∷ gs) t none g here b bs e = λ d.
      let same : c ≡ b = cc in
      none.0 (ap (λ x. x.component) same ∙ d.0) (subst (λ (x : VTerm). TupleDivides x.mono t.mono) (sym same) d.1)
  none_of ((c ∷ cs) ∷ gs) t none g (there i) b bs e = none_of gs t none.1 g i b bs e

  pub irreducible : (members : List (List VTerm)) (v : List VTerm) → IsReduced members v → IsIrreducible members v
  irreducible members [] w = tt
  irreducible members (s ∷ vs) w = λ t ts c d.
      none_of members s w (t ∷ ts) (in_of_contains members (t ∷ ts) c) t ts refl d

  -- ---- one head reduction
  module _ (members : List (List VTerm)) (vectors : AreVectors r m members) where
    component_part : (ts : List VTerm) (i : ℕ) → 0 < i → i ≤ m → vector_component r.prime r.vars (vector_of r.prime r.vars m ts) i ≡ part r i ts
    component_part ts zero some within = absurd (omega arith)
    component_part ts (suc i) some within = part_is r m ts i (omega arith)

    -- a vector and the multiple of another, by what their components are
    pub with_multiple : (c : ℕ) (a : List ℕ) (g w v : List VTerm) → length a ≡ r.vars → IsVector r m g
        → ((k : ℕ) → plus r (times r (term r c a) (part r k g)) (part r k w) ≡ part r k v)
        → vector_of r.prime r.vars m (w ++ multiple r.prime c a g) ≡ vector_of r.prime r.vars m v
    with_multiple c a g w v l g_vector e = same_vectors r.prime r.vars m (vector_of r.prime r.vars m (w ++ multiple r.prime c a g)) (vector_of r.prime r.vars m v)
        (length_vector r.prime r.vars m (w ++ multiple r.prime c a g)) (length_vector r.prime r.vars m v)
        (λ i some within.
        component_append r.prime r.vars m w (multiple r.prime c a g) i
        ∙ ap₂ (plus r) (component_part w i some within)
        (component_multiple r.prime r.vars m c a g l (falling_exponents r.prime r.vars m r.order g g_vector) i
        ∙ ap (times r (term r c a)) (component_part g i some within))
        ∙ plus_comm r (part r i w) (times r (term r c a) (part r i g)) ∙ e i ∙ sym (component_part v i some within))

    pub one_step : (t : VTerm) (ts : List VTerm) (s : Step) (g : List VTerm) → IsFound r members t s g → IsVector r m (t ∷ ts) → multiple_fits s.mono g ≡ true
        → (by : List ℕ) (rest : List VTerm) → Red members by (cancelled r (s, g) (t ∷ ts)) rest → Red members (s.number ∷ by) (t ∷ ts) rest
    one_step t ts s g f w fit by rest red =
        let over = law.left_over r m members vectors t ts s g f w in
        let head_vector = subst (IsVector r m) (f.place ∙ f.is) (law.member_vector r m members s.number vectors) in
        let b_term = head_vector.proper.0 in
        let coefficient : (s.coeff * f.head.coeff) % prime_value r.prime ≡ t.coeff =
        ap (λ (x : Step). (x.coeff * f.head.coeff) % prime_value r.prime) f.step ∙ step_product r t.coeff f.head.coeff b_term.positive b_term.below ∙ mod-eq_of_lt w.proper.0.below in
        one_more s.coeff (number_of_member members s.number g f.head f.tail f.place f.is)
        (divides_component f.head t f.divides, divides_mono f.head t f.divides) coefficient over.0
        (ap₂ (λ (a : List ℕ) (y : List VTerm). multiple_fits a y) (sym (ap (λ (x : Step). x.mono) f.step)) (sym f.is) ∙ fit)
        (with_multiple s.coeff (tuple_difference t.mono f.head.mono) (f.head ∷ f.tail) (cancelled r (s, g) (t ∷ ts)) (t ∷ ts)
        (step_length r s.number f.head t b_term w.proper.0 f.divides) head_vector
        (λ k. ap₂ (λ a y. plus r (times r (term r s.coeff a) (part r k y)) (part r k (cancelled r (s, g) (t ∷ ts)))) (sym (ap (λ (x : Step). x.mono) f.step)) (sym f.is) ∙ over.1 k))
        red

    -- ---- divisions
    abbrev Reaches : List VTerm → Result Reduced Halt → Type 0
    Reaches v (Ok x) = Red members (numbers x.steps) v x.rest
    Reaches v (Err e) = Unit {0}

    stepped_reaches : (t : VTerm) (ts : List VTerm) (s : Step) (g : List VTerm) → IsFound r members t s g → IsVector r m (t ∷ ts) → multiple_fits s.mono g ≡ true → (e : Result Reduced Halt) (left : ℕ)
        → Reaches (cancelled r (s, g) (t ∷ ts)) e → Reaches (t ∷ ts) (stepped s (record { end = e; left = left })).end
    stepped_reaches t ts s g f w fit (Err e) left h = tt
    stepped_reaches t ts s g f w fit (Ok x) left h = one_step t ts s g f w fit (numbers x.steps) x.rest h

    turned : (u : ℕ) (t : VTerm) (ts : List VTerm) (p : Step × List VTerm) → IsVector r m (t ∷ ts) → first_step r 1 members t ≡ Some p
        → ((v : List VTerm) → IsVector r m v → Reaches v (reduced r members u v).end) → (b : Bool) → multiple_fits p.0.mono p.1 ≡ b
        → Reaches (t ∷ ts) (if b then stepped p.0 (reduced r members u (cancelled r p (t ∷ ts))) else record { end = Err Exponent; left = u }).end
    turned u t ts p w e later false fit = tt
    turned u t ts p w e later true fit =
        let f = found r members t p.0 p.1 e in
        let d = reduced r members u (cancelled r p (t ∷ ts)) in
        stepped_reaches t ts p.0 p.1 f w fit d.end d.left (later (cancelled r p (t ∷ ts)) (law.left_over r m members vectors t ts p.0 p.1 f w).0)

    reaches : (u : ℕ) (v : List VTerm) → IsVector r m v → Reaches v (reduced r members u v).end
    reaches zero [] w = no_more
    reaches (suc u) [] w = no_more
    reaches zero (t ∷ ts) w = go (first_step r 1 members t)
      where
        go : (o : Option (Step × List VTerm)) → Reaches (t ∷ ts) (without_units (t ∷ ts) o).end
        go None = no_more
        go (Some p) = tt
    reaches (suc u) (t ∷ ts) w = go (first_step r 1 members t) refl (λ v x. reaches u v x)
      where
        go : (o : Option (Step × List VTerm)) → first_step r 1 members t ≡ o → ((v : List VTerm) → IsVector r m v → Reaches v (reduced r members u v).end)
            → Reaches (t ∷ ts) (with_unit r u (t ∷ ts) (λ x. reduced r members u x) o).end
        go None e later = no_more
        go (Some p) e later = turned u t ts p w e later (multiple_fits p.0.mono p.1) refl

    -- head reductions that end
    pub record Reduction (v : List VTerm) (x : Reduced) : Type 0 where
      pub reduces : Red members (numbers x.steps) v x.rest
      pub irreducible : IsIrreducible members x.rest
      pub vector : IsVector r m x.rest

    pub reduction : (units left : ℕ) (v : List VTerm) (x : Reduced) → IsVector r m v → Ends (reduced r members units v) x left → Reduction v x
    reduction units left v x w e =
        let ended = ap (λ (d : Ended Reduced). d.end) e in
        let says = subst (law.Says r m members v) ended (law.says r m members vectors units v w) in
        record {
          reduces = subst (Reaches v) ended (reaches units v w);
          irreducible = irreducible members x.rest says.reduced;
          vector = says.vector;
        }

    -- a division that ends
    pub division : (units left : ℕ) (v : List VTerm) (x : Reduced) → IsVector r m v → Ends (divided r members units v) x left → Reduction v x
    division zero left v x w e = absurd (stopped (ap (λ (d : Ended Reduced). d.end) e))
      where
        stopped : ◌≡◌ {A = Result Reduced Halt} (Err Budget) (Ok x) → ⊥
        stopped h = cc
    division (suc units) left v x w e = reduction units left v x w e
