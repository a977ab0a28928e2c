-- What sums, multiples and twists of vectors mean, component by component
use Rattle.std.proofs.Common.{ℕ, ◌+◌, ◌-◌, ◌*◌, ◌^◌, ◌%◌, ◌==◌, ◌<◌, ◌≡◌, if◌then◌else◌, Bool, true, false, List, [], ◌∷◌, ◌++◌, map, length, refl, sym, ap, ap₂, ◌∙◌, arith, mod-eq_of_lt, replicate}
use Rattle.std.proofs.Math.Nat.{mod-lt, mod-add-mod, mod_self, zero-mod}
use Rattle.std.proofs.lemmas.Bool.{eqb-true}
use Rattle.std.specs.declared.cmp.Ordering.{Ordering}
use Rattle.std.specs.declared.cmp.Ordering.TheVariants.{Less, Equal, Greater}
use Rattle.fm_tuple.specs.Tuple.{tuple_sum, tuple_multiple}
use Rattle.fm_gfp.specs.Primes.{prime_value}
use Rattle.fm_gfp.proofs.Residues.{prime_positive}
use Rattle.fm_algebra.specs.Polynomials.{Polynomial, polynomials, polynomial_zero, polynomial_sum, polynomial_product, polynomial_term, polynomial_of, frobenius_twist}
use Rattle.fm_algebra.proofs.Algebra.{add_zero, add_left_comm, add_mul, mul_zero, zero_mul}
use Rattle.fm_algebra.proofs.Concrete.{polynomials_laws}
use Rattle.fm_algebra.proofs.TermWords.{of_modulo, of_like, of_drop, term_product}
use Rattle.fm_algebra.proofs.TwistWords.{twist_of_terms}
use Rattle.fm_poly.specs.declared.ring.Ring.{Ring}
use Rattle.fm_poly.specs.declared.term.Term.{Term}
use Rattle.fm_poly.specs.Polys.{pairs, meaning}
use Rattle.fm_poly.specs.Steps.{like_sum}
use Rattle.fm_poly.proofs.OrderedTerms.{meaning_append, meaning_empty, meaning_cons}
use Rattle.fm_poly.proofs.MergeSteps.{meaning_like}
use Rattle.fm_term.specs.declared.vterm.VTerm.{VTerm}
use Rattle.fm_term.specs.Places.{term_cmp}
use Rattle.fm_term.specs.Falling.{AreTerms}
use Rattle.fm_term.specs.Multiples.{multiple_term, twisted, multiple, scaled}
use Rattle.fm_vec.specs.Multiples.{negated, sum_term, put_at, put, plus_multiple, minus_multiple}
use Rattle.fm_vec.specs.Components.{component_terms, component_meaning}
use Rattle.fm_term.proofs.Places.{same_component, same_mono}
use Rattle.fm_term.proofs.Multiples.{scaled_is_multiple, terms_have_exponents}
use Rattle.std.proofs.lemmas.List.{length-replicate}

module _ (r : Ring) where
  abbrev n : ℕ
  n = r.vars

  abbrev pub Value : Type 0
  Value = Polynomial r.prime r.vars

  abbrev pub nothing : Value
  nothing = polynomial_zero r.prime r.vars

  abbrev pub plus : Value → Value → Value
  plus f g = polynomial_sum r.prime r.vars f g

  abbrev pub times : Value → Value → Value
  times f g = polynomial_product r.prime r.vars f g

  abbrev pub term : ℕ → List ℕ → Value
  term c a = polynomial_term r.prime r.vars c a

  abbrev pub part : ℕ → List VTerm → Value
  part k ts = component_meaning r k ts

  -- ---- the ring
  pub plus_nothing : (f : Value) → plus f nothing ≡ f
  unfolding polynomial_sum polynomial_zero
  plus_nothing f = add_zero (polynomials_laws r.prime r.vars) f

  pub nothing_plus : (f : Value) → plus nothing f ≡ f
  unfolding polynomial_sum polynomial_zero
  nothing_plus f = (polynomials_laws r.prime r.vars).zero_add f

  pub plus_assoc : (f g h : Value) → plus (plus f g) h ≡ plus f (plus g h)
  unfolding polynomial_sum
  plus_assoc f g h = (polynomials_laws r.prime r.vars).add_assoc f g h

  pub plus_comm : (f g : Value) → plus f g ≡ plus g f
  unfolding polynomial_sum
  plus_comm f g = (polynomials_laws r.prime r.vars).add_comm f g

  pub plus_left_comm : (f g h : Value) → plus f (plus g h) ≡ plus g (plus f h)
  unfolding polynomial_sum
  plus_left_comm f g h = add_left_comm (polynomials_laws r.prime r.vars) f g h

  pub times_plus : (f g h : Value) → times f (plus g h) ≡ plus (times f g) (times f h)
  unfolding polynomial_sum polynomial_product
  times_plus f g h = (polynomials_laws r.prime r.vars).mul_add f g h

  pub plus_times : (f g h : Value) → times (plus f g) h ≡ plus (times f h) (times g h)
  unfolding polynomial_sum polynomial_product
  plus_times f g h = add_mul (polynomials_laws r.prime r.vars) f g h

  pub times_nothing : (f : Value) → times f nothing ≡ nothing
  unfolding polynomial_product polynomial_zero
  times_nothing f = mul_zero (polynomials_laws r.prime r.vars) f

  pub nothing_times : (f : Value) → times nothing f ≡ nothing
  unfolding polynomial_product polynomial_zero
  nothing_times f = zero_mul (polynomials_laws r.prime r.vars) f

  -- ---- terms
  one_term : (c : ℕ) (a : List ℕ) → polynomial_of r.prime r.vars ((a, c) ∷ []) ≡ term c a
  unfolding polynomial_of polynomial_sum polynomial_zero
  one_term c a = add_zero (polynomials_laws r.prime r.vars) (term c a)

  pub term_modulo : (c : ℕ) (a : List ℕ) → term (c % prime_value r.prime) a ≡ term c a
  term_modulo c a =
      sym (one_term (c % prime_value r.prime) a)
      ∙ of_modulo r.prime r.vars a (c % prime_value r.prime) c [] (mod-eq_of_lt (mod-lt c (prime_positive r.prime))) ∙ one_term c a

  two_terms : (c d : ℕ) (a : List ℕ) → plus (term c a) (term d a) ≡ polynomial_of r.prime r.vars ((a, c) ∷ (a, d) ∷ [])
  unfolding polynomial_of polynomial_sum polynomial_zero
  two_terms c d a = ap ((polynomials r.prime r.vars).add (term c a)) (sym (add_zero (polynomials_laws r.prime r.vars) (term d a)))

  of_none : polynomial_of r.prime r.vars [] ≡ nothing
  unfolding polynomial_of
  of_none = refl

  -- - c and c
  pub negated_term : (c : ℕ) (a : List ℕ) → c < prime_value r.prime → plus (term (negated r c) a) (term c a) ≡ nothing
  negated_term c a below =
      two_terms (negated r c) c a ∙ of_like r.prime r.vars a (negated r c) c []
      ∙ of_drop r.prime r.vars a (negated r c + c) [] (mod-add-mod (prime_value r.prime - c) (prime_value r.prime) c ∙ ap (λ z. z % prime_value r.prime) whole ∙ mod_self (prime_value r.prime))
      ∙ of_none
    where
      whole : (prime_value r.prime - c) + c ≡ prime_value r.prime
      whole = omega arith

  pub zero_term : (a : List ℕ) → term 0 a ≡ nothing
  zero_term a = sym (one_term 0 a) ∙ of_drop r.prime r.vars a 0 [] (zero-mod (prime_value r.prime)) ∙ of_none

  -- ---- one term more
  abbrev pub where_equal : Bool → Value → Value
  where_equal true f = f
  where_equal false f = nothing

  -- the part of a term in component k
  abbrev pub term_part : ℕ → VTerm → Value
  term_part k t = where_equal (t.component == k) (term t.coeff t.mono)

  pub part_none : (k : ℕ) → part k [] ≡ nothing
  unfolding component_meaning
  part_none k = meaning_empty r

  pub part_cons : (k : ℕ) (t : VTerm) (ts : List VTerm) → part k (t ∷ ts) ≡ plus (term_part k t) (part k ts)
  unfolding component_meaning
  part_cons k t ts = go (t.component == k)
    where
      go : (b : Bool) → meaning r (if b then record { mono = t.mono; coeff = t.coeff } ∷ component_terms k ts else component_terms k ts)
          ≡ plus (where_equal b (term t.coeff t.mono)) (meaning r (component_terms k ts))
      go true = meaning_cons r (record { mono = t.mono; coeff = t.coeff }) (component_terms k ts)
      go false = sym (nothing_plus (meaning r (component_terms k ts)))

  -- ---- the sum of two terms of one place
  module _ (k : ℕ) (u t : VTerm) (us : List VTerm) (component : u.component ≡ t.component) (mono : u.mono ≡ t.mono) where
    abbrev x : Term
    x = record { mono = t.mono; coeff = u.coeff }

    abbrev y : Term
    y = record { mono = t.mono; coeff = t.coeff }

    abbrev z : ℕ
    z = (u.coeff + t.coeff) % prime_value r.prime

    inside : (t.component == k) ≡ true → component_terms k (sum_term r u t ++ us) ≡ like_sum r x y ++ component_terms k us
    inside e = go (z == 0)
      where
        go : (b : Bool) → component_terms k ((if b then [] else record { component = t.component; mono = t.mono; coeff = z } ∷ []) ++ us)
            ≡ (if b then [] else record { mono = t.mono; coeff = z } ∷ []) ++ component_terms k us
        go true = refl
        go false = ap (λ b. if b then record { mono = t.mono; coeff = z } ∷ component_terms k us else component_terms k us) e

    outside : (t.component == k) ≡ false → component_terms k (sum_term r u t ++ us) ≡ component_terms k us
    outside e = go (z == 0)
      where
        go : (b : Bool) → component_terms k ((if b then [] else record { component = t.component; mono = t.mono; coeff = z } ∷ []) ++ us) ≡ component_terms k us
        go true = refl
        go false = ap (λ b. if b then record { mono = t.mono; coeff = z } ∷ component_terms k us else component_terms k us) e

    part_sum : part k (sum_term r u t ++ us) ≡ plus (term_part k t) (part k (u ∷ us))
    unfolding component_meaning
    part_sum = go (t.component == k) refl ∙ ap (plus (term_part k t)) (sym (part_cons k u us ∙ ap (λ c. plus (where_equal (c == k) (term u.coeff u.mono)) (part k us)) component))
      where
        go : (b : Bool) → (t.component == k) ≡ b
            → meaning r (component_terms k (sum_term r u t ++ us)) ≡ plus (where_equal (t.component == k) (term t.coeff t.mono)) (plus (where_equal (t.component == k) (term u.coeff u.mono)) (meaning r (component_terms k us)))
        go true e =
            ap (meaning r) (inside e) ∙ meaning_append r (like_sum r x y) (component_terms k us)
            ∙ ap (λ s. plus s (meaning r (component_terms k us))) (meaning_like r x y refl ∙ plus_comm (term u.coeff t.mono) (term t.coeff t.mono))
            ∙ plus_assoc (term t.coeff t.mono) (term u.coeff t.mono) (meaning r (component_terms k us))
            ∙ ap (λ m. plus (term t.coeff t.mono) (plus (term u.coeff m) (meaning r (component_terms k us)))) (sym mono)
            ∙ ap (λ b. plus (where_equal b (term t.coeff t.mono)) (plus (where_equal b (term u.coeff u.mono)) (meaning r (component_terms k us)))) (sym e)
        go false e =
            ap (meaning r) (outside e) ∙ sym (nothing_plus (meaning r (component_terms k us))) ∙ sym (nothing_plus (plus nothing (meaning r (component_terms k us))))
            ∙ ap (λ b. plus (where_equal b (term t.coeff t.mono)) (plus (where_equal b (term u.coeff u.mono)) (meaning r (component_terms k us)))) (sym e)

  -- a term put in is added
  pub put_part : (k : ℕ) (t : VTerm) (us : List VTerm) → part k (put r t us) ≡ plus (term_part k t) (part k us)
  put_part k t [] = part_cons k t []
  put_part k t (u ∷ us) = go (term_cmp r.order u t) refl (put_part k t us)
    where
      go : (c : Ordering) → term_cmp r.order u t ≡ c → part k (put r t us) ≡ plus (term_part k t) (part k us)
          → part k (put_at r t u us (put r t us) c) ≡ plus (term_part k t) (part k (u ∷ us))
      go Less e later = part_cons k t (u ∷ us)
      go Equal e later = part_sum k u t us (same_component r.order u t e) (same_mono r.order u t e)
      go Greater e later =
          part_cons k u (put r t us) ∙ ap (plus (term_part k u)) later ∙ plus_left_comm (term_part k u) (term_part k t) (part k us) ∙ ap (plus (term_part k t)) (sym (part_cons k u us))

  -- ---- multiples
  times_part : (k d : ℕ) (m : List ℕ) (t : VTerm) → length m ≡ r.vars → length t.mono ≡ r.vars → term_part k (multiple_term r.prime d m t) ≡ times (term d m) (term_part k t)
  times_part k d m t l fits = go (t.component == k)
    where
      go : (b : Bool) → where_equal b (term ((d * t.coeff) % prime_value r.prime) (tuple_sum m t.mono)) ≡ times (term d m) (where_equal b (term t.coeff t.mono))
      go true = term_modulo (d * t.coeff) (tuple_sum m t.mono) ∙ sym (term_product r.prime r.vars d t.coeff m t.mono l fits)
      go false = sym (times_nothing (term d m))

  pub plus_part : (k d : ℕ) (m : List ℕ) (g f : List VTerm) → length m ≡ r.vars → AreTerms r.prime r.vars g → part k (plus_multiple r d m g f) ≡ plus (times (term d m) (part k g)) (part k f)
  plus_part k d m [] f l w = sym (ap (λ x. plus x (part k f)) (ap (times (term d m)) (part_none k) ∙ times_nothing (term d m)) ∙ nothing_plus (part k f))
  plus_part k d m (t ∷ g) f l w =
      put_part k (multiple_term r.prime d m t) (plus_multiple r d m g f)
      ∙ ap₂ plus (times_part k d m t l w.0.fits) (plus_part k d m g f l w.1)
      ∙ sym (plus_assoc (times (term d m) (term_part k t)) (times (term d m) (part k g)) (part k f))
      ∙ ap (λ x. plus x (part k f)) (sym (times_plus (term d m) (term_part k t) (part k g)) ∙ ap (times (term d m)) (sym (part_cons k t g)))

  pub multiple_part : (k d : ℕ) (m : List ℕ) (g : List VTerm) → length m ≡ r.vars → AreTerms r.prime r.vars g → part k (multiple r.prime d m g) ≡ times (term d m) (part k g)
  multiple_part k d m [] l w = part_none k ∙ sym (ap (times (term d m)) (part_none k) ∙ times_nothing (term d m))
  multiple_part k d m (t ∷ g) l w =
      part_cons k (multiple_term r.prime d m t) (multiple r.prime d m g)
      ∙ ap₂ plus (times_part k d m t l w.0.fits) (multiple_part k d m g l w.1)
      ∙ sym (times_plus (term d m) (term_part k t) (part k g)) ∙ ap (times (term d m)) (sym (part_cons k t g))

  pub scaled_part : (k c : ℕ) (ts : List VTerm) → AreTerms r.prime r.vars ts → part k (scaled r.prime c ts) ≡ times (term c (replicate r.vars 0)) (part k ts)
  scaled_part k c ts w =
      ap (part k) (scaled_is_multiple r.prime r.vars c ts (terms_have_exponents r.prime r.vars ts w))
      ∙ multiple_part k c (replicate r.vars 0) ts (length-replicate r.vars 0) w

  -- what a multiple by - c leaves, and the multiple by c
  pub negated_part : (k c : ℕ) (m : List ℕ) (g f : List VTerm) → c < prime_value r.prime → length m ≡ r.vars → AreTerms r.prime r.vars g
      → plus (times (term c m) (part k g)) (part k (plus_multiple r (negated r c) m g f)) ≡ part k f
  negated_part k c m g f below l w =
      ap (plus (times (term c m) (part k g))) (plus_part k (negated r c) m g f l w)
      ∙ sym (plus_assoc (times (term c m) (part k g)) (times (term (negated r c) m) (part k g)) (part k f))
      ∙ ap (λ x. plus x (part k f)) (sym (plus_times (term c m) (term (negated r c) m) (part k g))
      ∙ ap (λ x. times x (part k g)) (plus_comm (term c m) (term (negated r c) m) ∙ negated_term c m below) ∙ nothing_times (part k g))
      ∙ nothing_plus (part k f)

  pub minus_part : (k c : ℕ) (m : List ℕ) (g f : List VTerm) → c < prime_value r.prime → length m ≡ r.vars → AreTerms r.prime r.vars g
      → plus (times (term c m) (part k g)) (part k (minus_multiple r c m g f)) ≡ part k f
  minus_part k c m g f below l w = go (c == 0) refl
    where
      go : (b : Bool) → (c == 0) ≡ b → plus (times (term c m) (part k g)) (part k (if b then f else plus_multiple r (negated r c) m g f)) ≡ part k f
      go true e =
          ap (λ x. plus (times x (part k g)) (part k f)) (ap (λ i. term i m) (eqb-true c 0 e) ∙ zero_term m) ∙ ap (λ x. plus x (part k f)) (nothing_times (part k g))
          ∙ nothing_plus (part k f)
      go false e = negated_part k c m g f below l w

  -- ---- twists
  twisted_component : (k q : ℕ) (ts : List VTerm) → pairs (component_terms k (twisted q ts)) ≡ map (λ t. (tuple_multiple q t.0, t.1)) (pairs (component_terms k ts))
  twisted_component k q [] = refl
  twisted_component k q (t ∷ ts) = go (t.component == k) (twisted_component k q ts)
    where
      go : (b : Bool) → pairs (component_terms k (twisted q ts)) ≡ map (λ t. (tuple_multiple q t.0, t.1)) (pairs (component_terms k ts))
          → pairs (if b then record { mono = tuple_multiple q t.mono; coeff = t.coeff } ∷ component_terms k (twisted q ts) else component_terms k (twisted q ts))
          ≡ map (λ t. (tuple_multiple q t.0, t.1)) (pairs (if b then record { mono = t.mono; coeff = t.coeff } ∷ component_terms k ts else component_terms k ts))
      go true e = ap (λ x. (tuple_multiple q t.mono, t.coeff) ∷ x) e
      go false e = e

  pub twisted_part : (k e : ℕ) (ts : List VTerm) → part k (twisted (prime_value r.prime ^ e) ts) ≡ frobenius_twist r.prime r.vars e (part k ts)
  unfolding component_meaning meaning
  twisted_part k e ts =
      ap (polynomial_of r.prime r.vars) (twisted_component k (prime_value r.prime ^ e) ts) ∙ sym (twist_of_terms r.prime r.vars e (pairs (component_terms k ts)))
