-- The twist of a monomial, of all eight places
use Rattle.std.proofs.Common.{ℕ, ◌+◌, ◌-◌, ◌*◌, ◌≤◌, ◌≡◌, true, min, List, ◌++◌, length, take, replicate, Some, None, refl, sym, ap, ◌∙◌}
use Rattle.fm_tuple.specs.Tuple.{tuple_multiple}
use Rattle.fm_tuple.proofs.Tuples.{length_tuple_multiple}
use Rattle.fm_mono.specs.declared.mono.Mono.TheInside.{Inside}
use Rattle.fm_mono.specs.Bounded.{bounded, exponent_bound, is_bounded}
use Rattle.fm_mono.specs.Packed.{IsPacked}
use Rattle.fm_mono.proofs.Bounds.{bounded_none, bounded_some, bounded_value, padded_within, capped_test_is, capped_tuple_is, capped_sum_is, capped_sum_small}
use Rattle.fm_mono.proofs.Packing.{multiple_padded, packed_padded, shown, vars_is, degree_is}

-- a power that is cut above the bound, of a monomial
module _ (m : Inside) (a : List ℕ) (q power : ℕ) (packed : IsPacked m) (m_is : take m.vars m.exponents ≡ a) (q_is : q ≡ min power (exponent_bound + 1)) where
  same_test : is_bounded (tuple_multiple q m.exponents) ≡ is_bounded (tuple_multiple power a)
  same_test =
      padded_within (tuple_multiple q m.exponents) (tuple_multiple q a) (8 - m.vars) (multiple_padded q m a packed m_is)
      ∙ capped_test_is q power a a q_is refl

  pub refused : None ≡ bounded (tuple_multiple q m.exponents) → None ≡ bounded (tuple_multiple power a)
  refused none = bounded_none (tuple_multiple power a) (sym same_test ∙ bounded_value (tuple_multiple q m.exponents) None none)

  within : (out : List ℕ) → Some out ≡ bounded (tuple_multiple q m.exponents) → is_bounded (tuple_multiple power a) ≡ true
  within out found = sym same_test ∙ (bounded_value (tuple_multiple q m.exponents) (Some out) found).0

  out_is : (out : List ℕ) → Some out ≡ bounded (tuple_multiple q m.exponents) → out ≡ tuple_multiple power a ++ replicate (8 - m.vars) 0
  out_is out found =
      (bounded_value (tuple_multiple q m.exponents) (Some out) found).1 ∙ multiple_padded q m a packed m_is
      ∙ ap (λ x. x ++ replicate (8 - m.vars) 0) (capped_tuple_is q power a a q_is refl (within out found))

  count : length (tuple_multiple power a) ≡ m.vars
  count = length_tuple_multiple power a ∙ vars_is m a packed m_is

  pub twisted_small : (out : List ℕ) → Some out ≡ bounded (tuple_multiple q m.exponents) → q * m.degree ≤ 8 * exponent_bound
  twisted_small out found =
      capped_sum_small q power m.degree m.vars a q_is (degree_is m a packed m_is) (within out found) (vars_is m a packed m_is) packed.few

  pub twisted_packed : (out : List ℕ) → Some out ≡ bounded (tuple_multiple q m.exponents) → IsPacked record { exponents = out; degree = q * m.degree; vars = m.vars }
  twisted_packed out found =
      packed_padded m.vars (q * m.degree) out (tuple_multiple power a) packed.some packed.few (out_is out found) count (within out found)
      (capped_sum_is q power m.degree a q_is (degree_is m a packed m_is) (within out found))

  pub twisted : (out : List ℕ) → Some out ≡ bounded (tuple_multiple q m.exponents) → Some (take m.vars out) ≡ bounded (tuple_multiple power a)
  twisted out found =
      ap Some (ap (take m.vars) (out_is out found) ∙ shown m.vars (tuple_multiple power a) (replicate (8 - m.vars) 0) count)
      ∙ bounded_some (tuple_multiple power a) (within out found)
