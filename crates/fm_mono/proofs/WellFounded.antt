-- The three monomial orders are well founded on the tuples of each length: each is the lexicographic order of a key
use Rattle.std.proofs.Common.{ℕ, zero, suc, ◌-◌, ◌<◌, ◌≤◌, ◌≡◌, ◌⊎◌, inl, inr, List, [], ◌∷◌, length, map, reverse, sum, refl, sym, ap, ap₂, ◌∙◌, subst, arith, Bool, IsTrue}
use Rattle.std.specs.Ordering.{nat_cmp, flip_args, ordering_then, MatchOrdering}
use Rattle.std.specs.Cmp.{ranks}
use Rattle.std.specs.Cmp.Lexicographic.{slice_cmp}
use Rattle.std.specs.FinMap.{nat_cmp-IsAntisymmetric}
use Rattle.std.specs.declared.cmp.Ordering.{Ordering}
use Rattle.std.specs.declared.cmp.Ordering.TheVariants.{Less, Equal, Greater}
use Rattle.std.proofs.lemmas.List.{length-reverse, length-map}
use Rattle.fm_tuple.proofs.TupleEntries.{sum_cons, sum_reverse}
use Rattle.fm_mono.specs.declared.order.Order.{Order}
use Rattle.fm_mono.specs.declared.order.Order.TheVariants.{Grevlex, Deglex, Lex}
use Rattle.fm_mono.specs.Orders.{monomial_cmp, first_cmp, last_cmp}
use Rattle.fm_mono.specs.Accessible.{IsAccessible, by_smaller}
use Rattle.fm_mono.proofs.OrderLaws.{nat_cmp_alike}

-- ---- the lexicographic order
-- what a comparison of entries and tails says
less_cases : (r : Ordering) (i j : ℕ) (s : Ordering) → MatchOrdering r (j < i) (j ≡ i) (i < j) → ordering_then r s ≡ Less → (j < i) ⊎ ((j ≡ i) × (s ≡ Less))
less_cases Less i j s h e = inl h
less_cases Equal i j s h e = inr (h, e)
less_cases Greater i j s h e = cc

one_smaller : (n : ℕ) (P : List ℕ → Type 0) (i : ℕ) (a : List ℕ) → ((j : ℕ) → j < i → (b : List ℕ) → length b ≡ n → P (j ∷ b))
    → ((b : List ℕ) → length b ≡ n → first_cmp b a ≡ Less → P (i ∷ b)) → (b : List ℕ) → length b ≡ suc n → first_cmp b (i ∷ a) ≡ Less → P b
one_smaller n P i a lower same [] l e = absurd (omega arith)
one_smaller n P i a lower same (j ∷ b) l e =
    let m : length b ≡ n = omega arith in
    elim (less_cases (nat_cmp j i) i j (first_cmp b a) (ranks j i) e) [
      | inl h ↦ lower j h b m
      | inr h ↦ subst (λ k. P (k ∷ b)) (sym h.0) (same b m h.1)
    ]

-- what holds of a tuple of n numbers when it holds of all smaller ones holds of all
pub lex_induction : (n : ℕ) (P : List ℕ → Type 0)
    → ((a : List ℕ) → length a ≡ n → ((b : List ℕ) → length b ≡ n → first_cmp b a ≡ Less → P b) → P a) → (a : List ℕ) → length a ≡ n → P a
lex_induction zero P step [] l = step [] refl (λ b m e. absurd (none b m e))
  where
    none : (b : List ℕ) → length b ≡ 0 → first_cmp b [] ≡ Less → ⊥
    none [] m e = cc
    none (j ∷ b) m e = omega arith
lex_induction zero P step (i ∷ a) l = absurd (omega arith)
lex_induction (suc n) P step [] l = absurd (omega arith)
lex_induction (suc n) P step (i ∷ a) l = below n P step (λ Q s. lex_induction n Q s) (suc i) i (omega arith) a (omega arith)
  where
    below : (n : ℕ) (P : List ℕ → Type 0)
        → ((a : List ℕ) → length a ≡ suc n → ((b : List ℕ) → length b ≡ suc n → first_cmp b a ≡ Less → P b) → P a)
        → ((Q : List ℕ → Type 0) → ((a : List ℕ) → length a ≡ n → ((b : List ℕ) → length b ≡ n → first_cmp b a ≡ Less → Q b) → Q a) → (a : List ℕ) → length a ≡ n → Q a)
        → (k i : ℕ) → i < k → (a : List ℕ) → length a ≡ n → P (i ∷ a)
    below n P step inner zero i h = absurd (omega arith)
    below n P step inner (suc k) i h =
        inner (λ b. P (i ∷ b)) (λ a l smaller. step (i ∷ a) (ap suc l) (one_smaller n P i a (λ j r. below n P step inner k j (omega arith)) smaller))

-- ---- keys
-- the lexicographic order of the keys is the order of the tuples
abbrev key : Order → List ℕ → List ℕ
key Grevlex a = sum a ∷ map (λ i. sum a - i) (reverse a)
key Deglex a = sum a ∷ a
key Lex a = a

-- how many entries the key of a tuple of n entries has
abbrev key_length : Order → ℕ → ℕ
key_length Grevlex n = suc n
key_length Deglex n = suc n
key_length Lex n = n

length_key : (o : Order) (a : List ℕ) (n : ℕ) → length a ≡ n → length (key o a) ≡ key_length o n
length_key Grevlex a n l = ap suc (length-map (reverse a) (λ i. sum a - i) ∙ length-reverse a ∙ l)
length_key Deglex a n l = ap suc l
length_key Lex a n l = l

-- where no entry is above d, the entries less than d compare the other way round
complement_cmp : (d : ℕ) (a b : List ℕ) → sum a ≤ d → sum b ≤ d
    → slice_cmp nat_cmp (map (λ i. d - i) a) (map (λ i. d - i) b) ≡ slice_cmp (flip_args nat_cmp) a b
complement_cmp d [] [] u v = refl
complement_cmp d [] (j ∷ b) u v = refl
complement_cmp d (i ∷ a) [] u v = refl
complement_cmp d (i ∷ a) (j ∷ b) u v =
    let left = sum_cons i a in
    let right = sum_cons j b in
    let head : nat_cmp (d - i) (d - j) ≡ nat_cmp j i = nat_cmp_alike j i (d - i) (d - j) (λ h. omega arith) (λ h. omega arith) (λ h. omega arith) in
    ap₂ ordering_then head (complement_cmp d a b (omega arith) (omega arith))

then_alike : (r x y : Ordering) → (r ≡ Equal → x ≡ y) → ordering_then r x ≡ ordering_then r y
then_alike Less x y same = refl
then_alike Equal x y same = same refl
then_alike Greater x y same = refl

key_cmp : (o : Order) (a b : List ℕ) → first_cmp (key o a) (key o b) ≡ monomial_cmp o a b
key_cmp Grevlex a b = then_alike (nat_cmp (sum a) (sum b)) _ (last_cmp a b) (λ tie. from_degrees (nat_cmp-IsAntisymmetric (sum a) (sum b) tie))
  where
    from_degrees : sum a ≡ sum b → slice_cmp nat_cmp (map (λ i. sum a - i) (reverse a)) (map (λ i. sum b - i) (reverse b)) ≡ last_cmp a b
    from_degrees same =
        let left : sum (reverse a) ≡ sum a = sum_reverse a in
        let right : sum (reverse b) ≡ sum b = sum_reverse b in
        ap (λ d. slice_cmp nat_cmp (map (λ i. sum a - i) (reverse a)) (map (λ i. d - i) (reverse b))) (sym same)
        ∙ complement_cmp (sum a) (reverse a) (reverse b) (omega arith) (omega arith)
key_cmp Deglex a b = refl
key_cmp Lex a b = refl

-- ---- the three orders
-- A property that holds of a monomial whenever it holds of all smaller ones of as many variables holds of every monomial.
pub order_induction : (o : Order) (n : ℕ) (P : List ℕ → Type 0)
    → ((a : List ℕ) → length a ≡ n → ((b : List ℕ) → length b ≡ n → monomial_cmp o b a ≡ Less → P b) → P a) → (a : List ℕ) → length a ≡ n → P a
order_induction o n P step a l =
    lex_induction (key_length o n) (λ k. (b : List ℕ) → length b ≡ n → key o b ≡ k → P b) at_key (key o a) (length_key o a n l) a l refl
  where
    at_key : (k : List ℕ) → length k ≡ key_length o n
        → ((m : List ℕ) → length m ≡ key_length o n → first_cmp m k ≡ Less → (b : List ℕ) → length b ≡ n → key o b ≡ m → P b)
        → (b : List ℕ) → length b ≡ n → key o b ≡ k → P b
    at_key k l smaller b m is =
        step b m (λ c g below. smaller (key o c) (length_key o c n g)
        (ap (λ x. first_cmp (key o c) x) (sym is) ∙ key_cmp o c b ∙ below) c g refl)

-- each tuple is accessible
pub every_tuple_accessible : (o : Order) (a : List ℕ) → IsAccessible o a
every_tuple_accessible o a =
    order_induction o (length a) (IsAccessible o) (λ b l smaller. by_smaller b (λ c m below. smaller c (m ∙ l) below)) a refl

-- induction over the smaller monomials of as many variables, for a test
pub order_induction_test : (o : Order) (p : List ℕ → Bool)
    → ((a : List ℕ) → ((b : List ℕ) → length b ≡ length a → monomial_cmp o b a ≡ Less → IsTrue (p b)) → IsTrue (p a)) → (a : List ℕ) → IsTrue (p a)
order_induction_test o p step a =
    order_induction o (length a) (λ b. IsTrue (p b)) (λ b l smaller. step b (λ c m below. smaller c (m ∙ l) below)) a refl
