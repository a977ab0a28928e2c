-- Pending pairs are totally ordered.
use Rattle.std.proofs.Common.{ℕ, ◌≡◌, ◌≤◌, ◌<◌, length, refl, sym, ap, ◌∙◌, arith}
use Rattle.std.specs.Cmp.{IsTotalOrder, IsEquivalence, IsPartialEquivalence, IsPartialOrder, ranked, partial_order_from_total, eq_by_cmp_equiv, partial_equiv_from_equiv}
use Rattle.std.specs.Ordering.{nat_cmp, ordering_then, ordering_reverse, as_partial_cmp}
use Rattle.std.specs.declared.cmp.Ordering.{Ordering}
use Rattle.std.specs.declared.cmp.Ordering.TheVariants.{Less, Equal, Greater}
use Rattle.std.proofs.lemmas.Cmp.{nat_cmp_total, on_total, then_total, back_total}
use Rattle.fm_mono.specs.declared.order.Order.{Order}
use Rattle.fm_mono.specs.declared.order.Order.TheVariants.{Grevlex, Deglex, Lex}
use Rattle.fm_mono.proofs.OrderLaws.{monomial_cmp_total}
use Rattle.fm_complete.specs.declared.critical_pair.CriticalPair.{CriticalPair}
use Rattle.fm_complete.specs.declared.pending_pair.PendingPair.{PendingPair}
use Rattle.fm_complete.specs.Completions.{pair_cmp}
use Rattle.fm_complete.specs.Pending.{order_number, number_of, pending_cmp, pending_eq}

pair_cmp_total : (o : Order) → IsTotalOrder (pair_cmp o)
pair_cmp_total o = then_total
    (then_total (back_total (on_total (λ (p : CriticalPair). p.component) nat_cmp_total)) (on_total (λ (p : CriticalPair). p.lcm) (monomial_cmp_total o)))
    (then_total (on_total (λ (p : CriticalPair). p.later) nat_cmp_total) (on_total (λ (p : CriticalPair). p.earlier) nat_cmp_total))

-- the comparison, where pairs of one order are compared in the order o
abbrev within : Order → PendingPair → PendingPair → Ordering
within o p q = ordering_then (nat_cmp (number_of p) (number_of q)) (ordering_then (nat_cmp (length p.pair.lcm) (length q.pair.lcm)) (pair_cmp o p.pair q.pair))

within_total : (o : Order) → IsTotalOrder (within o)
within_total o = then_total (on_total number_of nat_cmp_total) (then_total (on_total (λ (p : PendingPair). length p.pair.lcm) nat_cmp_total) (on_total (λ (p : PendingPair). p.pair) (pair_cmp_total o)))

same_order : (o s : Order) → order_number o ≡ order_number s → o ≡ s
same_order Grevlex Grevlex e = refl
same_order Grevlex Deglex e = absurd (omega (arith, e))
same_order Grevlex Lex e = absurd (omega (arith, e))
same_order Deglex Grevlex e = absurd (omega (arith, e))
same_order Deglex Deglex e = refl
same_order Deglex Lex e = absurd (omega (arith, e))
same_order Lex Grevlex e = absurd (omega (arith, e))
same_order Lex Deglex e = absurd (omega (arith, e))
same_order Lex Lex e = refl

-- a comparison that begins with two numbers
module _ (m n : ℕ) (rest : Ordering) where
  at_most : ordering_then (nat_cmp m n) rest ≡ Less → m ≤ n
  at_most e = go (nat_cmp m n) refl e
    where
      go : (w : Ordering) → w ≡ nat_cmp m n → ordering_then w rest ≡ Less → m ≤ n
      go Less is h = (let k : m < n = ranked m n Less is in omega (arith, k))
      go Equal is h = (let k : m ≡ n = ranked m n Equal is in omega (arith, k))
      go Greater is h = cc

  tied : ordering_then (nat_cmp m n) rest ≡ Equal → m ≡ n
  tied e = go (nat_cmp m n) refl e
    where
      go : (w : Ordering) → w ≡ nat_cmp m n → ordering_then w rest ≡ Equal → m ≡ n
      go Less is h = cc
      go Equal is h = ranked m n Equal is
      go Greater is h = cc

  only_tied : (other : Ordering) → (m ≡ n → rest ≡ other) → ordering_then (nat_cmp m n) rest ≡ ordering_then (nat_cmp m n) other
  only_tied other same = go (nat_cmp m n) refl
    where
      go : (w : Ordering) → w ≡ nat_cmp m n → ordering_then w rest ≡ ordering_then w other
      go Less is = refl
      go Equal is = same (ranked m n Equal is)
      go Greater is = refl

module _ (p q : PendingPair) where
  -- pairs of two orders are compared by these, whichever order compares the pairs
  compared_within : (o : Order) → (number_of p ≡ number_of q → p.order ≡ o) → pending_cmp p q ≡ within o p q
  compared_within o same = only_tied (number_of p) (number_of q) _ _ (λ e. ap (λ (s : Order). ordering_then (nat_cmp (length p.pair.lcm) (length q.pair.lcm)) (pair_cmp s p.pair q.pair)) (same e))

pub pending_total : IsTotalOrder pending_cmp
pending_total = record {
  antisymm = λ p q. (within_total p.order).antisymm p q ∙ ap ordering_reverse (sym (compared_within q p p.order (λ e. same_order q.order p.order e)));
  trans = λ p q s below above.
      let first = at_most (number_of p) (number_of q) _ below in
      let second = at_most (number_of q) (number_of s) _ above in
      compared_within p s q.order (λ e. same_order p.order q.order (omega (arith, first, second, e)))
      ∙ (within_total q.order).trans p q s (sym (compared_within p q q.order (λ e. same_order p.order q.order e)) ∙ below) above;
  congr = λ p q s e.
      let same : p.order ≡ q.order = same_order p.order q.order (tied (number_of p) (number_of q) _ e) in
      (within_total p.order).congr p q s e ∙ ap (λ (o : Order). within o q s) same;
}

pub pending_equivalence : IsEquivalence pending_eq
pending_equivalence = eq_by_cmp_equiv pending_total

pub pending_partial_equivalence : IsPartialEquivalence pending_eq
pending_partial_equivalence = partial_equiv_from_equiv pending_equivalence

pub pending_partial : IsPartialOrder pending_eq (as_partial_cmp pending_cmp)
pending_partial = partial_order_from_total pending_total
