-- A head reduction cancels the head: what it leaves is below it
use Rattle.std.proofs.Common.{ℕ, ◌+◌, ◌-◌, ◌*◌, ◌%◌, ◌==◌, ◌<◌, ◌≡◌, if◌then◌else◌, true, List, [], ◌∷◌, ◌++◌, length, refl, sym, ap, ap₂, ◌∙◌, subst, arith}
use Rattle.std.proofs.Math.Nat.{mod-lt, add-mod, mul-mod_right, add-mod-mod}
use Rattle.std.proofs.lemmas.Nat.{mul-mod_first, mul-mod_second}
use Rattle.std.specs.Ordering.{nat_cmp, ordering_then, ordering_reverse}
use Rattle.std.specs.Cmp.{tied_itself}
use Rattle.std.specs.declared.cmp.Ordering.TheVariants.{Equal}
use Rattle.fm_tuple.specs.Tuple.{tuple_sum}
use Rattle.fm_tuple.proofs.TupleEntries.{length_entrywise}
use Rattle.fm_gfp.specs.Primes.{prime_value}
use Rattle.fm_gfp.proofs.Residues.{prime_positive, inverse_exists, inverse_positive}
use Rattle.fm_mono.specs.Orders.{monomial_cmp}
use Rattle.fm_poly.specs.declared.ring.Ring.{Ring}
use Rattle.fm_term.specs.declared.vterm.VTerm.{VTerm}
use Rattle.fm_term.specs.Places.{term_cmp, AllBelow}
use Rattle.fm_term.specs.Falling.{IsTerm, AreTerms}
use Rattle.fm_vec.specs.Vectors.{IsVector}
use Rattle.fm_term.specs.Multiples.{multiple_term, multiple}
use Rattle.fm_vec.specs.Multiples.{negated, inverse_of, sum_term, put, plus_multiple}
use Rattle.fm_term.proofs.Places.{place_total}
use Rattle.fm_vec.proofs.Adding.{below_same, below_plus, below_multiple, plus_pass, put_tie}
use Rattle.fm_vec.proofs.Proper.{inverse_is, product_positive, negated_positive, plus_vector}
use Rattle.fm_complete.specs.declared.step.Step.{Step}
use Rattle.fm_complete.specs.Divisors.{term_divides, step_for}
use Rattle.fm_complete.specs.Reductions.{cancelled}
use Rattle.fm_complete.proofs.Heads.{divides_component, step_mono}

-- ---- coefficients
-- a + (- c) * b is 0 modulo p where a is c * b
cancels : (p a b c d : ℕ) → c < p → d ≡ (p - c) % p → (c * b) % p ≡ a % p → (a + (d * b) % p) % p ≡ 0
cancels p a b c d below negative product =
    add-mod a ((d * b) % p) p ∙ ap (λ z. (z + (d * b) % p % p) % p) (sym product) ∙ ap (λ z. ((c * b) % p + z % p) % p) second
    ∙ sym (add-mod (c * b) (((p - c) * b) % p) p) ∙ add-mod-mod (c * b) ((p - c) * b) p ∙ ap (λ z. z % p) (whole (p - c) rest) ∙ mul-mod_right p b
  where
    second : (d * b) % p ≡ ((p - c) * b) % p
    second = ap (λ z. (z * b) % p) negative ∙ mul-mod_first (p - c) b p

    rest : c + (p - c) ≡ p
    rest = omega arith

    gathered : (e : ℕ) → c * b + e * b ≡ (c + e) * b
    gathered e = omega arith

    whole : (e : ℕ) → c + e ≡ p → c * b + e * b ≡ p * b
    whole e h = gathered e ∙ ap (λ z. z * b) h

-- the inverse that the power by p - 2 gives
pub inverse_one : (r : Ring) (b : ℕ) → 0 < b → b < prime_value r.prime → (b * inverse_of r b) % prime_value r.prime ≡ 1
inverse_one r b some below =
    let found = inverse_exists r.prime b some below in
    ap (λ x. (b * x) % prime_value r.prime) (sym (inverse_is r.prime b found.0 some below found.1 found.2)) ∙ found.2

-- the coefficient of a step times that of the member's head
pub step_product : (r : Ring) (a b : ℕ) → 0 < b → b < prime_value r.prime → (((a * inverse_of r b) % prime_value r.prime) * b) % prime_value r.prime ≡ a % prime_value r.prime
step_product r a b some below =
    mul-mod_first (a * inverse_of r b) b m ∙ ap (λ z. z % m) (regrouped a b (inverse_of r b)) ∙ sym (mul-mod_second a (b * inverse_of r b) m)
    ∙ ap (λ z. (a * z) % m) (inverse_one r b some below) ∙ ap (λ z. z % m) (once a)
  where
    m : ℕ
    m = prime_value r.prime

    regrouped : (a b x : ℕ) → (a * x) * b ≡ a * (b * x)
    regrouped a b x = omega arith

    once : (a : ℕ) → a * 1 ≡ a
    once a = omega arith

pub inverse_below : (r : Ring) (b : ℕ) → inverse_of r b < prime_value r.prime
inverse_below r b = mod-lt _ (prime_positive r.prime)

pub inverse_some : (r : Ring) (b : ℕ) → 0 < b → b < prime_value r.prime → 0 < inverse_of r b
inverse_some r b some below = inverse_positive r.prime b (inverse_of r b) (inverse_one r b some below)

-- ---- a step
module _ (r : Ring) (number : ℕ) (b t : VTerm) (b_term : IsTerm r.prime r.vars b) (t_term : IsTerm r.prime r.vars t) (divides : term_divides b t ≡ true) where
  abbrev s : Step
  s = step_for r number b t

  abbrev minus : ℕ
  minus = negated r s.coeff

  same_length : length b.mono ≡ length t.mono
  same_length = b_term.fits ∙ sym t_term.fits

  pub step_below : s.coeff < prime_value r.prime
  step_below = mod-lt (t.coeff * inverse_of r b.coeff) (prime_positive r.prime)

  pub step_some : 0 < s.coeff
  step_some = product_positive r.prime t.coeff (inverse_of r b.coeff) t_term.positive t_term.below (inverse_some r b.coeff b_term.positive b_term.below) (inverse_below r b.coeff)

  pub step_product_mono : tuple_sum s.mono b.mono ≡ t.mono
  step_product_mono = step_mono r number b t same_length divides

  pub step_length : length s.mono ≡ r.vars
  step_length = length_entrywise ◌-◌ t.mono b.mono (sym same_length) ∙ t_term.fits

  -- the step's term times the head of the member stands in the place of t
  pub tie : (d : ℕ) → term_cmp r.order t (multiple_term r.prime d s.mono b) ≡ Equal
  tie d =
      ap₂ (λ c m. ordering_then (nat_cmp c t.component) (monomial_cmp r.order t.mono m)) (divides_component b t divides) step_product_mono
      ∙ tied_itself (place_total r.order) t

  pub tie_turned : (d : ℕ) → term_cmp r.order (multiple_term r.prime d s.mono b) t ≡ Equal
  tie_turned d = (place_total r.order).antisymm (multiple_term r.prime d s.mono b) t ∙ ap ordering_reverse (tie d)

  no_sum : sum_term r t (multiple_term r.prime minus s.mono b) ≡ []
  no_sum =
      ap (λ z. if z == 0 then [] else record { component = b.component; mono = tuple_sum s.mono b.mono; coeff = z } ∷ [])
      (cancels (prime_value r.prime) t.coeff b.coeff s.coeff minus step_below refl (step_product r t.coeff b.coeff b_term.positive b_term.below))

  module _ (bs ts : List VTerm) (terms : AreTerms r.prime r.vars bs) (b_above : AllBelow r.order b bs) (t_above : AllBelow r.order t ts) where
    below_member : AllBelow r.order t (multiple r.prime minus s.mono bs)
    below_member = below_same r.order t (multiple_term r.prime minus s.mono b) (multiple r.prime minus s.mono bs) (tie minus)
        (below_multiple r minus s.mono b bs step_length b_term terms b_above)

    -- the heads cancel
    pub cancelled_is : cancelled r (s, b ∷ bs) (t ∷ ts) ≡ plus_multiple r minus s.mono bs ts
    cancelled_is =
        ap (put r (multiple_term r.prime minus s.mono b)) (plus_pass r minus s.mono t bs ts below_member)
        ∙ put_tie r (multiple_term r.prime minus s.mono b) t (plus_multiple r minus s.mono bs ts) (tie minus)
        ∙ ap (λ z. z ++ plus_multiple r minus s.mono bs ts) no_sum

    pub cancelled_below : AllBelow r.order t (cancelled r (s, b ∷ bs) (t ∷ ts))
    cancelled_below = subst (AllBelow r.order t) (sym cancelled_is) (below_plus r minus s.mono t bs ts below_member t_above)

  pub cancelled_vector : (n : ℕ) (bs ts : List VTerm) → IsVector r n (b ∷ bs) → IsVector r n (t ∷ ts) → IsVector r n (cancelled r (s, b ∷ bs) (t ∷ ts))
  cancelled_vector n bs ts v w =
      plus_vector r n minus s.mono (b ∷ bs) (t ∷ ts) (negated_positive r s.coeff step_some step_below) (mod-lt (prime_value r.prime - s.coeff) (prime_positive r.prime)) step_length v w
