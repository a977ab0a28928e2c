-- The tuples of n numbers below q, each with its place in a list
use Rattle.std.proofs.Common.{ℕ, zero, suc, ◌+◌, ◌*◌, ◌/◌, ◌%◌, ◌<◌, ◌≤◌, ◌≡◌, ◌∙◌, refl, ap, ap₂, arith, List, [], ◌∷◌, length}
use native.Mathlib.Nat.{ℕ_set, mod-lt, mod-eq_of_lt, div-eq_of_lt, add-mul-mod_self_left, add-mul-div_left, mul-le-mul_left}
use mathlib.Core.HLevel.{Σ_prop_path}
use Rattle.fm_algebra.specs.Twist.{AllBelow, Digits}
use Rattle.fm_algebra.proofs.TuplePlaces.{AllBelow-prop}
use Rattle.fm_algebra.proofs.Flatness.{IsListed}

-- q ^ n, by recursion on n
power_of : ℕ → ℕ → ℕ
power_of q zero = 1
power_of q (suc n) = q * power_of q n

-- the number with the given digits to the base q, the first digit last
number_of : ℕ → List ℕ → ℕ
number_of q [] = 0
number_of q (i ∷ a) = i + q * number_of q a

-- the n digits of a number
digits_of : ℕ → ℕ → ℕ → List ℕ
digits_of q zero k = []
digits_of q (suc n) k = k % q ∷ digits_of q n (k / q)

length-digits_of : (q n k : ℕ) → length (digits_of q n k) ≡ n
unfolding digits_of
length-digits_of q zero k = refl
length-digits_of q (suc n) k = let h : length (digits_of q n (k / q)) ≡ n = length-digits_of q n (k / q) in omega arith

digits_of_below : (q : ℕ) → 0 < q → (n k : ℕ) → AllBelow q (digits_of q n k)
unfolding digits_of
digits_of_below q pos zero k = tt
digits_of_below q pos (suc n) k = (mod-lt k pos, digits_of_below q pos n (k / q))

number_of_below : (q n : ℕ) (a : List ℕ) → length a ≡ n → AllBelow q a → number_of q a < power_of q n
unfolding number_of power_of
number_of_below q zero [] l b = omega arith
number_of_below q zero (i ∷ a) l b = absurd (omega arith)
number_of_below q (suc n) [] l b = absurd (omega arith)
number_of_below q (suc n) (i ∷ a) l b =
    let first : i < q = b.0 in
    let ih : number_of q a + 1 ≤ power_of q n = let h : number_of q a < power_of q n = number_of_below q n a (omega arith) b.1 in omega arith in
    let product : q * (number_of q a + 1) ≤ q * power_of q n = mul-le-mul_left q ih in
    omega arith

digits_of_number : (q : ℕ) → 0 < q → (n : ℕ) (a : List ℕ) → length a ≡ n → AllBelow q a → digits_of q n (number_of q a) ≡ a
unfolding number_of digits_of
digits_of_number q pos zero [] l b = refl
digits_of_number q pos zero (i ∷ a) l b = absurd (omega arith)
digits_of_number q pos (suc n) [] l b = absurd (omega arith)
digits_of_number q pos (suc n) (i ∷ a) l b =
    let rest : (i + q * number_of q a) / q ≡ number_of q a = add-mul-div_left i (number_of q a) pos ∙ (let z : i / q ≡ zero = div-eq_of_lt b.0 in omega arith) in
    ap₂ (λ x y. x ∷ y) (add-mul-mod_self_left i q (number_of q a) ∙ mod-eq_of_lt b.0) (ap (digits_of q n) rest ∙ digits_of_number q pos n a (omega arith) b.1)

same_digits : {n q : ℕ} (c d : Digits n q) → c.tuple ≡ d.tuple → c ≡ d
same_digits {n} {q} c d e =
    let pairs : ◌≡◌ {A = (a : List ℕ) × ((length a ≡ n) × AllBelow q a)} (c.tuple, (c.fits, c.below)) (d.tuple, (d.fits, d.below)) = Σ_prop_path (λ a. pair_prop a) e in
    λ i. record { tuple = (pairs i).0; fits = (pairs i).1.0; below = (pairs i).1.1 }
  where
    pair_prop : (a : List ℕ) → IsProp ((length a ≡ n) × AllBelow q a)
    pair_prop a x y = λ i. (ℕ_set _ _ x.0 y.0 i, AllBelow-prop q a x.1 y.1 i)

-- the tuples of n numbers below a positive q
pub tuples_listed : (n q : ℕ) → 0 < q → IsListed (Digits n q)
tuples_listed n q pos = record {
  count = power_of q n;
  member = λ k h. record { tuple = digits_of q n k; fits = length-digits_of q n k; below = digits_of_below q pos n k };
  place = λ c. number_of q c.tuple;
  inside = λ c. number_of_below q n c.tuple c.fits c.below;
  found = λ c. same_digits (record { tuple = digits_of q n (number_of q c.tuple); fits = length-digits_of q n (number_of q c.tuple); below = digits_of_below q pos n (number_of q c.tuple) }) c (digits_of_number q pos n c.tuple c.fits c.below);
}
