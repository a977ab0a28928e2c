-- The order of places is total, only terms of one place tie, and multiples and twists keep it
use Rattle.std.proofs.Common.{ℕ, ◌<◌, ◌≡◌, ◌⊎◌, inl, inr, List, length, refl, sym, ap, ap₂, ◌∙◌}
use Rattle.std.specs.Ordering.{nat_cmp, ordering_then, ordering_reverse, MatchOrdering}
use Rattle.std.specs.Cmp.{IsTotalOrder, ranks}
use Rattle.std.specs.FinMap.{nat_cmp-IsAntisymmetric}
use Rattle.std.specs.declared.cmp.Ordering.{Ordering}
use Rattle.std.specs.declared.cmp.Ordering.TheVariants.{Less, Equal, Greater}
use Rattle.std.proofs.lemmas.Cmp.{nat_cmp_total, on_total, then_total, back_total}
use Rattle.fm_tuple.specs.Tuple.{tuple_sum, tuple_multiple}
use Rattle.fm_tuple.proofs.Tuples.{tuple_sum_comm}
use Rattle.fm_mono.specs.declared.order.Order.{Order}
use Rattle.fm_mono.specs.Orders.{monomial_cmp}
use Rattle.fm_mono.proofs.OrderLaws.{monomial_cmp_total, monomial_cmp_exact, monomial_cmp_sum, monomial_cmp_multiple}
use Rattle.fm_term.specs.declared.vterm.VTerm.{VTerm}
use Rattle.fm_term.specs.Places.{term_cmp}

pub place_total : (o : Order) → IsTotalOrder (term_cmp o)
place_total o = then_total (on_total (λ (v : VTerm). v.component) (back_total nat_cmp_total)) (on_total (λ (v : VTerm). v.mono) (monomial_cmp_total o))

pub place_trans : (o : Order) (t u v : VTerm) → term_cmp o t u ≡ Less → term_cmp o u v ≡ Less → term_cmp o t v ≡ Less
place_trans o t u v h k = (place_total o).trans t u v h k

pub place_turned : (o : Order) (t u : VTerm) → term_cmp o u t ≡ Greater → term_cmp o t u ≡ Less
place_turned o t u h = (place_total o).antisymm t u ∙ ap ordering_reverse h

first_equal : (x y : Ordering) → ordering_then x y ≡ Equal → x ≡ Equal
first_equal Less y e = cc
first_equal Equal y e = refl
first_equal Greater y e = cc

second_equal : (x y : Ordering) → ordering_then x y ≡ Equal → y ≡ Equal
second_equal Less y e = cc
second_equal Equal y e = e
second_equal Greater y e = cc

pub same_component : (o : Order) (t u : VTerm) → term_cmp o t u ≡ Equal → t.component ≡ u.component
same_component o t u e = sym (nat_cmp-IsAntisymmetric u.component t.component (first_equal (nat_cmp u.component t.component) (monomial_cmp o t.mono u.mono) e))

pub same_mono : (o : Order) (t u : VTerm) → term_cmp o t u ≡ Equal → t.mono ≡ u.mono
same_mono o t u e = monomial_cmp_exact o t.mono u.mono (second_equal (nat_cmp u.component t.component) (monomial_cmp o t.mono u.mono) e)

-- a smaller place is a greater component, or a smaller monomial in the same component
pub less_place : (o : Order) (u t : VTerm) → term_cmp o u t ≡ Less → (t.component < u.component) ⊎ ((u.component ≡ t.component) × (monomial_cmp o u.mono t.mono ≡ Less))
less_place o u t e = go (nat_cmp t.component u.component) (ranks t.component u.component) e
  where
    go : (x : Ordering) → MatchOrdering x (t.component < u.component) (t.component ≡ u.component) (u.component < t.component)
        → ordering_then x (monomial_cmp o u.mono t.mono) ≡ Less → (t.component < u.component) ⊎ ((u.component ≡ t.component) × (monomial_cmp o u.mono t.mono ≡ Less))
    go Less m h = inl m
    go Equal m h = inr (sym m, h)
    go Greater m h = cc

-- ---- multiples and twists
pub monomial_shift : (o : Order) (m a b : List ℕ) → length a ≡ length m → length b ≡ length m
    → monomial_cmp o (tuple_sum m a) (tuple_sum m b) ≡ monomial_cmp o a b
monomial_shift o m a b l k = ap₂ (monomial_cmp o) (tuple_sum_comm m a (sym l)) (tuple_sum_comm m b (sym k)) ∙ monomial_cmp_sum o a b m l k

pub place_shift : (o : Order) (m : List ℕ) (t u : VTerm) (c d : ℕ) → length t.mono ≡ length m → length u.mono ≡ length m
    → term_cmp o (record { component = t.component; mono = tuple_sum m t.mono; coeff = c }) (record { component = u.component; mono = tuple_sum m u.mono; coeff = d }) ≡ term_cmp o t u
place_shift o m t u c d l k = ap (ordering_then (nat_cmp u.component t.component)) (monomial_shift o m t.mono u.mono l k)

pub place_twist : (o : Order) (q : ℕ) (t u : VTerm) → 0 < q
    → term_cmp o (record { component = t.component; mono = tuple_multiple q t.mono; coeff = t.coeff }) (record { component = u.component; mono = tuple_multiple q u.mono; coeff = u.coeff }) ≡ term_cmp o t u
place_twist o q t u positive = ap (ordering_then (nat_cmp u.component t.component)) (monomial_cmp_multiple o q t.mono u.mono positive)
