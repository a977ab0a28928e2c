-- The monomial orders as orders of the monomials in n variables.
use Rattle.std.proofs.Common.{ℕ, ◌≡◌, length, refl, sym, ap, ◌∙◌, Ordering, Less, Equal, Greater}
use Rattle.std.specs.Ordering.{ordering_reverse}
use mathlib.Core.WellFounded.{Acc}
use Rattle.fm_mono.specs.Orders.{monomial_cmp}
use Rattle.fm_mono.specs.declared.order.Order.{Order}
use Rattle.fm_mono.proofs.OrderLaws.{monomial_cmp_exact, monomial_cmp_sum, monomial_cmp_trans, monomial_cmp_flip}
use Rattle.fm_mono.proofs.WellFounded.{order_induction}
use Rattle.fm_groebner.proofs.Setting.{Trichotomy, below, same, above}
use Rattle.fm_groebner.proofs.Monomials.{Monomial, same_monomial, ◌·◌, times_comm}
use Rattle.fm_groebner.proofs.Places.{MonomialOrder}

module _ (o : Order) (n : ℕ) where
  abbrev pub Lower : Monomial n → Monomial n → Type 0
  Lower a b = monomial_cmp o a.exponents b.exponents ≡ Less

  compared_by : (a b : Monomial n) (r : Ordering) → monomial_cmp o a.exponents b.exponents ≡ r → Trichotomy Lower a b
  compared_by a b Less e = below e
  compared_by a b Equal e = same (same_monomial a b (monomial_cmp_exact o a.exponents b.exponents e))
  compared_by a b Greater e = above (monomial_cmp_flip o b.exponents a.exponents ∙ ap ordering_reverse e)

  pub lower_compared : (a b : Monomial n) → Trichotomy Lower a b
  lower_compared a b = compared_by a b (monomial_cmp o a.exponents b.exponents) refl

  pub times_cmp : (m a b : Monomial n) → monomial_cmp o (m · a).exponents (m · b).exponents ≡ monomial_cmp o a.exponents b.exponents
  times_cmp m a b =
      ap (λ x. monomial_cmp o x.exponents (m · b).exponents) (times_comm m a)
      ∙ ap (λ x. monomial_cmp o (a · m).exponents x.exponents) (times_comm m b)
      ∙ monomial_cmp_sum o a.exponents b.exponents m.exponents (a.fits ∙ sym m.fits) (b.fits ∙ sym m.fits)

  pub lower_founded : (a : Monomial n) → Acc Lower a
  lower_founded a = order_induction o n (λ x. (l : length x ≡ n) → Acc Lower (record { exponents = x; fits = l }))
      (λ x l smaller k. Acc.intro (record { exponents = x; fits = k }) (λ b less. smaller b.exponents b.fits less b.fits)) a.exponents a.fits a.fits

  abbrev pub ordered : MonomialOrder n
  ordered = record {
    Lower = Lower;
    compared = lower_compared;
    lower_trans = λ {a} {b} {c} l k. monomial_cmp_trans o a.exponents b.exponents c.exponents l k;
    lower_times = λ m {a} {b} l. times_cmp m a b ∙ l;
    founded = lower_founded;
  }
