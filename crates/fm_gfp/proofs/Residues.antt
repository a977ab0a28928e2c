-- Facts about the residues modulo the listed primes. All rest on one test of each residue, which is computed.
-- For a new prime of the list add its line to the table `listed`, and nothing else.
use Rattle.std.proofs.Common.{ℕ, zero, suc, ◌+◌, ◌-◌, ◌*◌, ◌^◌, ◌%◌, ◌<◌, ◌≡◌, Bool, true, false, List, [], ◌∷◌, Option, Some, if◌then◌else◌, ◌&&◌, ◌||◌, nat_eq, nat_lt, refl, sym, ap, ◌∙◌, inl, inr, arith, subst, ◌⊎◌, mod-eq_of_lt}
use Rattle.std.specs.List.{find}
use Rattle.std.proofs.Math.Nat.{mod_self, mod-lt, mul-mod_right, zero-mod}
use Rattle.std.proofs.lemmas.Nat.{pow-mod, mul-mod_first, mul-mod_second}
use Rattle.std.proofs.lemmas.Bool.{agree_below, agree_below_at, and_parts, or_cases, eqb-true, ltb-true}
use Rattle.fm_gfp.specs.Primes.{prime_of, prime_value, primes}
use Rattle.fm_gfp.specs.Binomials.{choose}
use Rattle.fm_gfp.specs.declared.prime.Prime.{Prime}
use Rattle.fm_gfp.specs.declared.prime.Prime.TheVariants.{Two, Three, Five, Seven, Eleven, Thirteen, Seventeen, Nineteen, TwentyThree, TwentyNine, ThirtyOne}
use Rattle.fm_gfp.proofs.Binomials.{choose_by_place}

-- k ^ p is k, and k is 0 or k ^ (p - 2) is its inverse
abbrev passes : ℕ → ℕ → Bool
passes p k = nat_eq (k ^ p % p) k && (nat_eq k 0 || nat_eq (k * k ^ (p - 2) % p) 1)

abbrev always : ℕ → Bool
always k = true

-- ---- the table
record IsListed (p : Prime) : Type 0 where
  found : prime_of (prime_value p) ≡ Some p
  small : (nat_lt 1 (prime_value p) && nat_lt (prime_value p) (2 ^ 8)) ≡ true
  residues : agree_below (passes (prime_value p)) always (prime_value p) ≡ true

listed : (p : Prime) → IsListed p
listed Two = record { found = refl; small = refl; residues = refl }
listed Three = record { found = refl; small = refl; residues = refl }
listed Five = record { found = refl; small = refl; residues = refl }
listed Seven = record { found = refl; small = refl; residues = refl }
listed Eleven = record { found = refl; small = refl; residues = refl }
listed Thirteen = record { found = refl; small = refl; residues = refl }
listed Seventeen = record { found = refl; small = refl; residues = refl }
listed Nineteen = record { found = refl; small = refl; residues = refl }
listed TwentyThree = record { found = refl; small = refl; residues = refl }
listed TwentyNine = record { found = refl; small = refl; residues = refl }
listed ThirtyOne = record { found = refl; small = refl; residues = refl }

-- ---- what follows
-- a prime is found by its number
pub prime_of_value : (p : Prime) → prime_of (prime_value p) ≡ Some p
prime_of_value p = (listed p).found

found_here : {X : Type 0} (f : X → Bool) (x y : X) (rest : Option X) (b : Bool) → f y ≡ b → (rest ≡ Some x → f x ≡ true)
    → (if b then Some y else rest) ≡ Some x → f x ≡ true
found_here f x y rest true e later h = cc
found_here f x y rest false e later h = later h

found_passes : {X : Type 0} (f : X → Bool) (xs : List X) (x : X) → find f xs ≡ Some x → f x ≡ true
found_passes f [] x h = cc
found_passes f (y ∷ ys) x h = found_here f x y (find f ys) (f y) refl (found_passes f ys x) h

-- what is found has that number
pub value_of_prime : (n : ℕ) (p : Prime) → prime_of n ≡ Some p → prime_value p ≡ n
value_of_prime n p h = eqb-true (prime_value p) n (found_passes (λ q. nat_eq (prime_value q) n) primes p h)

pub prime_above_one : (p : Prime) → 1 < prime_value p
prime_above_one p = ltb-true 1 (prime_value p) (and_parts _ _ (listed p).small).0

pub prime_small : (p : Prime) → prime_value p < 2 ^ 8
prime_small p = ltb-true (prime_value p) (2 ^ 8) (and_parts _ _ (listed p).small).1

pub prime_in_64_bits : (p : Prime) → prime_value p < 2 ^ 64
prime_in_64_bits p = omega (arith, prime_small p)

pub prime_positive : (p : Prime) → 0 < prime_value p
prime_positive p = omega (arith, prime_above_one p)

-- 1 is a residue
pub one_residue : (p : Prime) → 1 % prime_value p ≡ 1
one_residue p = mod-eq_of_lt (prime_above_one p)

passes_at : (p : Prime) (k : ℕ) → k < prime_value p → passes (prime_value p) k ≡ true
passes_at p k below = agree_below_at (passes (prime_value p)) always (prime_value p) k (listed p).residues below

-- k ^ p is k modulo p
pub fermat : (p : Prime) (k : ℕ) → k < prime_value p → k ^ prime_value p % prime_value p ≡ k
fermat p k below = eqb-true _ _ (and_parts _ _ (passes_at p k below)).0

-- each residue but 0 has an inverse
pub inverse_exists : (p : Prime) (k : ℕ) → 0 < k → k < prime_value p → (j : ℕ) × (j < prime_value p) × ((k * j) % prime_value p ≡ 1)
inverse_exists p k positive below =
    elim (or_cases (nat_eq k 0) _ (and_parts _ _ (passes_at p k below)).1) [
      | inl none ↦ (let zero_then : k ≡ 0 = eqb-true k 0 none in absurd (omega arith))
      | inr is ↦ (
        k ^ (prime_value p - 2) % prime_value p,
        mod-lt _ (prime_positive p),
        mul-mod_second k (k ^ (prime_value p - 2)) (prime_value p) ∙ eqb-true _ _ is,
      )
    ]

pub inverse_positive : (p : Prime) (k j : ℕ) → (k * j) % prime_value p ≡ 1 → 0 < j
inverse_positive p k zero one =
    let nothing : k * 0 ≡ 0 = omega arith in
    let zero_is : (k * 0) % prime_value p ≡ 0 = ap (λ n. n % prime_value p) nothing ∙ zero-mod (prime_value p) in
    absurd (omega arith)
inverse_positive p k (suc j) one = omega arith

-- a product is 0 modulo p only if a factor is
pub cancel_factor : (p : Prime) (k c : ℕ) → 0 < k → k < prime_value p → (k * c) % prime_value p ≡ 0 → c % prime_value p ≡ 0
cancel_factor p k c positive below product =
    let found = inverse_exists p k positive below in
    let m = prime_value p in
    let j = found.0 in
    let regroup : c * (k * j) ≡ (k * c) * j = omega arith in
    let one : (c * ((k * j) % m)) % m ≡ (c * 1) % m = ap (λ x. (c * x) % m) found.2 in
    let same : c * 1 ≡ c = omega arith in
    sym (ap (λ x. x % m) same) ∙ sym one ∙ mul-mod_second c (k * j) m ∙ ap (λ x. x % m) regroup
    ∙ sym (mul-mod_first (k * c) j m) ∙ ap (λ x. (x * j) % m) product ∙ zero_times j m
  where
    zero_times : (j m : ℕ) → (0 * j) % m ≡ 0
    zero_times j m = let nothing : 0 * j ≡ 0 = omega arith in ap (λ x. x % m) nothing ∙ zero-mod m

-- p divides p over i, for 0 < i < p
pub binomial_divisible : (p : Prime) (i j : ℕ) → suc i + suc j ≡ prime_value p → choose (suc i) (suc j) % prime_value p ≡ 0
binomial_divisible p i j whole =
    let below : suc i < prime_value p = omega arith in
    let by_place : suc i * choose (suc i) (suc j) ≡ prime_value p * choose i (suc j) =
    choose_by_place i (suc j) ∙ ap (λ x. x * choose i (suc j)) whole in
    cancel_factor p (suc i) (choose (suc i) (suc j)) (omega arith) below
    (ap (λ x. x % prime_value p) by_place ∙ mul-mod_right (prime_value p) (choose i (suc j)))

pub no_zero_divisors : (p : Prime) (a b : ℕ) → a < prime_value p → b < prime_value p → (a * b) % prime_value p ≡ 0 → (a ≡ 0) ⊎ (b ≡ 0)
no_zero_divisors p zero b a_below b_below product = inl refl
no_zero_divisors p (suc a) b a_below b_below product =
    inr (sym (mod-eq_of_lt b_below) ∙ cancel_factor p (suc a) b (omega arith) a_below product)

pub fermat_of_any : (p : Prime) (c : ℕ) → (c ^ prime_value p) % prime_value p ≡ c % prime_value p
fermat_of_any p c = sym (pow-mod c (prime_value p) (prime_value p)) ∙ fermat p (c % prime_value p) (mod-lt c (prime_positive p))

-- a listed number has no factors but 1 and itself
pub value_is_prime : (p : Prime) (d e : ℕ) → d * e ≡ prime_value p → (d ≡ 1) ⊎ (e ≡ 1)
value_is_prime p zero e whole = let positive = prime_positive p in let nothing : 0 * e ≡ 0 = omega arith in absurd (omega arith)
value_is_prime p (suc zero) e whole = inl refl
value_is_prime p (suc (suc d)) zero whole = let positive = prime_positive p in let nothing : suc (suc d) * 0 ≡ 0 = omega arith in absurd (omega arith)
value_is_prime p (suc (suc d)) (suc zero) whole = inr refl
value_is_prime p (suc (suc d)) (suc (suc e)) whole =
    let left : suc (suc d) < prime_value p = subst (λ n. suc (suc d) < n) whole (omega arith) in
    let right : suc (suc e) < prime_value p = subst (λ n. suc (suc e) < n) whole (omega arith) in
    let multiple : (suc (suc d) * suc (suc e)) % prime_value p ≡ 0 = ap (λ n. n % prime_value p) whole ∙ mod_self (prime_value p) in
    elim (no_zero_divisors p _ _ left right multiple) [ inl h ↦ absurd (omega arith) | inr h ↦ absurd (omega arith) ]
