-- The three orders in words: by the total degree, and by the first or the last variable whose exponents differ
use Rattle.std.proofs.Common.{ℕ, ◌<◌, ◌≡◌, ◌≢◌, List, length, get_or, sum, refl, sym, ◌∙◌}
use Rattle.std.specs.Ordering.{nat_cmp}
use Rattle.std.specs.FinMap.{nat_cmp-IsAntisymmetric}
use Rattle.fm_mono.specs.declared.order.Order.{Order}
use Rattle.fm_mono.specs.declared.order.Order.TheVariants.{Grevlex, Deglex, Lex}
use Rattle.fm_mono.specs.Orders.{monomial_cmp, first_cmp, last_cmp}
use Rattle.fm_mono.proofs.FirstVariable.{decided, tied, first_cmp_at}
use Rattle.fm_mono.proofs.LastVariable.{last_cmp_at}

pub by_degrees : (o : Order) (a b : List ℕ) → o ≢ Lex → sum a ≢ sum b → monomial_cmp o a b ≡ nat_cmp (sum a) (sum b)
by_degrees Grevlex a b other differ = decided (nat_cmp (sum a) (sum b)) (last_cmp a b) (λ tie. differ (nat_cmp-IsAntisymmetric (sum a) (sum b) tie))
by_degrees Deglex a b other differ = decided (nat_cmp (sum a) (sum b)) (first_cmp a b) (λ tie. differ (nat_cmp-IsAntisymmetric (sum a) (sum b) tie))
by_degrees Lex a b other differ = absurd (other refl)

pub lex_by_first : (a b : List ℕ) (k : ℕ) → length b ≡ length a → k < length a → get_or a k 0 ≢ get_or b k 0
    → ((j : ℕ) → j < k → get_or a j 0 ≡ get_or b j 0) → monomial_cmp Lex a b ≡ nat_cmp (get_or a k 0) (get_or b k 0)
lex_by_first a b k l below differ same = sym (first_cmp_at a b k l below differ same)

pub deglex_is_lex : (a b : List ℕ) → sum a ≡ sum b → monomial_cmp Deglex a b ≡ monomial_cmp Lex a b
deglex_is_lex a b same = tied (sum a) (sum b) (first_cmp a b) same

pub grevlex_by_last : (a b : List ℕ) (k : ℕ) → length b ≡ length a → sum a ≡ sum b → k < length a → get_or a k 0 ≢ get_or b k 0
    → ((j : ℕ) → k < j → get_or a j 0 ≡ get_or b j 0) → monomial_cmp Grevlex a b ≡ nat_cmp (get_or b k 0) (get_or a k 0)
grevlex_by_last a b k l degrees below differ same =
    tied (sum a) (sum b) (last_cmp a b) degrees ∙ sym (last_cmp_at a b k l below differ same)
