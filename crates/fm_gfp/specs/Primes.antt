-- The listed primes as numbers.
use Rattle.std.specs.Prelude.{ℕ, List, [], ◌∷◌, Option, nat_eq}
use Rattle.std.specs.List.{find}
use Rattle.fm_gfp.specs.declared.prime.Prime.{Prime}
use Rattle.fm_gfp.specs.declared.prime.Prime.TheVariants.{Two, Three, Five, Seven, Eleven, Thirteen, Seventeen, Nineteen, TwentyThree, TwentyNine, ThirtyOne}

-- the number that a prime of the list is
abbrev pub prime_value : Prime → ℕ
prime_value Two = 2
prime_value Three = 3
prime_value Five = 5
prime_value Seven = 7
prime_value Eleven = 11
prime_value Thirteen = 13
prime_value Seventeen = 17
prime_value Nineteen = 19
prime_value TwentyThree = 23
prime_value TwentyNine = 29
prime_value ThirtyOne = 31

-- the list
abbrev pub primes : List Prime
primes = Two ∷ Three ∷ Five ∷ Seven ∷ Eleven ∷ Thirteen ∷ Seventeen ∷ Nineteen ∷ TwentyThree ∷ TwentyNine ∷ ThirtyOne ∷ []

-- the prime of the list that a number is, if it is one
abbrev pub prime_of : ℕ → Option Prime
prime_of n = find (λ p. nat_eq (prime_value p) n) primes
