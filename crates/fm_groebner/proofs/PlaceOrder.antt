-- Position over term on components counted from 1, and on places.
use Rattle.std.proofs.Common.{ℕ, ◌-◌, ◌<◌, ◌≤◌, ◌≡◌, inl, inr, List, sym, ap, ◌∙◌, arith, Less, Equal, Greater}
use Rattle.std.specs.Ordering.{ordering_then, ordering_reverse}
use Rattle.std.specs.Cmp.{nat_cmp_is}
use native.Mathlib.Decide.{dec_lt}
use Rattle.fm_mono.specs.Orders.{monomial_cmp}
use Rattle.fm_mono.specs.declared.order.Order.{Order}
use Rattle.fm_mono.proofs.OrderLaws.{monomial_cmp_flip}
use Rattle.fm_term.specs.Places.{place_cmp}
use Rattle.fm_groebner.proofs.Monomials.{Monomial}
use Rattle.fm_groebner.proofs.Places.{PlaceLess}
use Rattle.fm_groebner.proofs.Ordered.{ordered}

pub less≢greater : {A : Type 0} → Less ≡ Greater → A
less≢greater e = absurd (cc e)

module _ (o : Order) where
  smaller_component : (i j : ℕ) (a b : List ℕ) → j < i → place_cmp o i a j b ≡ Less
  smaller_component i j a b h = ap (λ r. ordering_then r (monomial_cmp o a b)) (sym (nat_cmp_is j i Less h))

  one_component : (i j : ℕ) (a b : List ℕ) → j ≡ i → place_cmp o i a j b ≡ monomial_cmp o a b
  one_component i j a b h = ap (λ r. ordering_then r (monomial_cmp o a b)) (sym (nat_cmp_is j i Equal h))

  greater_component : (i j : ℕ) (a b : List ℕ) → i < j → place_cmp o i a j b ≡ Greater
  greater_component i j a b h = ap (λ r. ordering_then r (monomial_cmp o a b)) (sym (nat_cmp_is j i Greater h))

  module _ (n m : ℕ) where
    level_less : (i j : ℕ) → i ≤ m → j < i → m - i < m - j
    level_less i j h l = omega arith

    level_same : (i j : ℕ) → j ≡ i → m - i ≡ m - j
    level_same i j e = ap (λ x. m - x) (sym e)

    pub less_of_cmp : (i j : ℕ) (a b : Monomial n) → i ≤ m → place_cmp o i a.exponents j b.exponents ≡ Less → PlaceLess (ordered o n) (m - i, a) (m - j, b)
    less_of_cmp i j a b h e = elim (dec_lt j i) [
      | yes l ↦ inl (level_less i j h l)
      | no w ↦ elim (dec_lt i j) [
        | yes l ↦ absurd (cc (greater_component i j a.exponents b.exponents l, e))
        | no w' ↦ let q : j ≡ i = omega arith in inr (level_same i j q, sym (one_component i j a.exponents b.exponents q) ∙ e)
      ]
    ]

    pub cmp_of_less : (i j : ℕ) (a b : Monomial n) → i ≤ m → j ≤ m → PlaceLess (ordered o n) (m - i, a) (m - j, b) → place_cmp o i a.exponents j b.exponents ≡ Less
    cmp_of_less i j a b h k (inl l) = let less : j < i = omega arith in smaller_component i j a.exponents b.exponents less
    cmp_of_less i j a b h k (inr e) = let level : m - i ≡ m - j = e.0 in let q : j ≡ i = omega arith in one_component i j a.exponents b.exponents q ∙ e.1

  pub cmp_flip : (i j : ℕ) (a b : List ℕ) → place_cmp o i a j b ≡ ordering_reverse (place_cmp o j b i a)
  cmp_flip i j a b = elim (dec_lt j i) [
    | yes l ↦ smaller_component i j a b l ∙ sym (ap ordering_reverse (greater_component j i b a l))
    | no w ↦ elim (dec_lt i j) [
      | yes l ↦ greater_component i j a b l ∙ sym (ap ordering_reverse (smaller_component j i b a l))
      | no w' ↦ let q : j ≡ i = omega arith in one_component i j a b q ∙ monomial_cmp_flip o a b ∙ sym (ap ordering_reverse (one_component j i b a (sym q)))
    ]
  ]
