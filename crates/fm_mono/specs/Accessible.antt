-- Well-foundedness of the monomial orders, by accessibility (Aczel, An introduction to inductive definitions, 1977).
use Rattle.std.specs.Prelude.{ℕ, ◌≡◌, List, length}
use Rattle.std.specs.declared.cmp.Ordering.TheVariants.{Less}
use Rattle.fm_mono.specs.declared.order.Order.{Order}
use Rattle.fm_mono.specs.Orders.{monomial_cmp}

-- a tuple is accessible where each smaller tuple of as many entries is: so none begins an endless descent
pub data IsAccessible (o : Order) : List ℕ → Type 0 where
  by_smaller : (a : List ℕ) → ((b : List ℕ) → length b ≡ length a → monomial_cmp o b a ≡ Less → IsAccessible o b) → IsAccessible o a
