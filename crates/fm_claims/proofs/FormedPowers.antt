-- Parts that can be formed, and a polynomial as a power in one factor.
use Rattle.std.proofs.Common.{◌≡◌, ℕ, zero, true, List, [], ◌∷◌, length, replicate, Ok, inl, inr, refl, sym, ap, ◌∙◌, subst}
use Rattle.std.specs.List.{list_all}
use Rattle.std.proofs.lemmas.Bool.{and_from}
use native.Mathlib.Decide.{ℕ_discrete}
use Rattle.fm_tuple.specs.Tuple.{tuple_sum}
use Rattle.fm_tuple.proofs.Tuples.{zeros_tuple_sum}
use Rattle.fm_mono.specs.Bounded.{is_bounded}
use Rattle.fm_algebra.specs.Poly.{apart, same_tuple}
use Rattle.fm_algebra.specs.Power.{power}
use Rattle.fm_algebra.specs.Polynomials.{polynomials, polynomial_one, polynomial_power, coefficient}
use Rattle.fm_algebra.proofs.Concrete.{polynomials_laws}
use Rattle.fm_algebra.proofs.PolynomialWords.{coefficient_one_elsewhere, coefficient_other_length}
use Rattle.fm_poly.specs.declared.ring.Ring.{Ring}
use Rattle.fm_poly.specs.declared.term.Term.{Term}
use Rattle.fm_poly.specs.Bounds.{AreWithinBound, ProductFits}
use Rattle.fm_poly.specs.Polys.{PolyValue, pairs, meaning}
use Rattle.fm_poly.proofs.BoundSteps.{all_pass, tuples_pass}
use Rattle.fm_mat.specs.Bounds.{products_fit}
use Rattle.fm_mat.proofs.Supports.{fits_as_test}
use Rattle.fm_graphs.specs.Graphs.{MatrixOf}
use Rattle.fm_report.specs.Parts.{Part, part_value}
use Rattle.fm_parts.specs.Conditions.{equal, holds}
use Rattle.fm_parts.specs.Replays.{Exponents}
use Rattle.fm_parts.specs.Values.{is_within_bound, value_of}
use Rattle.fm_parts.proofs.Results.{there_is}
use Rattle.fm_parts.proofs.SameValues.{value_is}
use Rattle.fm_judge.specs.Claims.{factored_part, power_part, scalar_part, unit_part}
use Rattle.fm_conditions.proofs.SingleEntries.{single, power_value}

-- the terms of a list, one by one
each_passes : (ts : List Term) → AreWithinBound (pairs ts) → all_pass is_bounded ts ≡ true
each_passes [] w = refl
each_passes (t ∷ ts) w = and_from (is_bounded t.mono) (all_pass is_bounded ts) w.0 (each_passes ts w.1)

module _ (r : Ring) where
  -- a part that equals itself
  pub formed : (A : Part) (u : Unit {0}) → holds r (equal A A) ≡ Ok u → is_within_bound r A ≡ true
  unfolding holds
  formed A u h = let s = there_is Exponents (value_of r A) _ u h in (value_is r A s.0 s.1).0

  -- ---- 1 * f
  module _ (f : PolyValue) (w : AreWithinBound (pairs f.terms)) where
    monomial_fits : (a b : List ℕ) → ¬ (coefficient r.prime r.vars (polynomial_one r.prime r.vars) a ≡ 0) → ¬ (coefficient r.prime r.vars (meaning r f.terms) b ≡ 0)
        → is_bounded (tuple_sum a b) ≡ true
    monomial_fits a b u v = elim (ℕ_discrete (length b) r.vars) [
      | no n ↦ absurd (v (coefficient_other_length r.prime r.vars (meaning r f.terms) b n))
      | yes l ↦ elim (same_tuple a (replicate r.vars 0)) [
        | inl s ↦ ap is_bounded (ap (λ c. tuple_sum c b) (s.0 ∙ ap (λ n. replicate n 0) (sym l)) ∙ zeros_tuple_sum b) ∙ tuples_pass is_bounded r f.terms b (each_passes f.terms w) v
        | inr d ↦ absurd (u (coefficient_one_elsewhere r.prime r.vars a (apart a (replicate r.vars 0) d)))
      ]
    ]

    one_fits : ProductFits r.prime r.vars (polynomial_one r.prime r.vars) (meaning r f.terms)
    one_fits = record { within = monomial_fits }

    row_fits : list_all (products_fit r.prime r.vars ((polynomial_one r.prime r.vars ∷ []) ∷ [])) ((meaning r f.terms ∷ []) ∷ []) ≡ true
    row_fits = rw (fits_as_test r.prime r.vars (polynomial_one r.prime r.vars) (meaning r f.terms) one_fits) refl

    unit_value : part_value r (unit_part r 1) ≡ single r (polynomial_one r.prime r.vars)
    unfolding polynomial_power power polynomial_one
    unit_value = power_value r f zero

    pub first_power_formed : is_within_bound r (factored_part r f 1) ≡ true
    unfolding is_within_bound part_value
    first_power_formed = subst (λ (A : MatrixOf r). list_all (products_fit r.prime r.vars A.columns) ((meaning r f.terms ∷ []) ∷ []) ≡ true) (sym unit_value) row_fits

  pub first_power : (f : PolyValue) (n : ℕ) → power_part r f 1 n ≡ scalar_part r (meaning r f.terms) n
  unfolding polynomial_power power
  first_power f n =
      ap (λ a. scalar_part r a n) ((polynomials_laws r.prime r.vars).mul_comm (meaning r f.terms) (polynomials r.prime r.vars).one ∙ (polynomials_laws r.prime r.vars).one_mul (meaning r f.terms))
