-- The exponents of a written term are at most those that its rules allow.
use Rattle.std.proofs.Common.{◌≡◌, ◌≤◌, ◌+◌, ◌*◌, ◌%◌, ◌^◌, ℕ, zero, suc, Bool, true, List, [], ◌∷◌, length, replicate, slice_index, slice_set, nat_lt, nat_le, Option, Some, None, Ok, refl, subst, arith}
use Rattle.std.proofs.lemmas.Bool.{and_parts, and_from}
use Rattle.std.proofs.lemmas.Bool.Decides.{nat_tests}
use Rattle.fm_gfp.specs.Primes.{prime_value}
use Rattle.std.specs.List.{list_all}
use Rattle.fm_poly.specs.declared.term.Term.{Term}
use Rattle.fm_words.specs.declared.mark.Mark.TheVariants.{Star}
use Rattle.fm_words.specs.Parts.{Bytes, parts}
use Rattle.fm_text.specs.declared.text_fault.TextFault.TheVariants.{Syntax, UnknownName, Limit}
use Rattle.fm_text.specs.Factors.{Factor, Number, Power, factor_of}
use Rattle.fm_words.specs.Steps.{place}
use Rattle.fm_text.specs.Polynomials.{Rules, term_one, raised, times_factor, unsigned_term}
use Rattle.fm_words.proofs.FirstFaults.{no_fault, same_ok, first_read, steps_keep, passed}

module _ (most : ℕ) where
  -- each exponent is at most `most`
  abbrev pub are_within : List ℕ → Bool
  are_within a = list_all (λ i. nat_le i most) a

  zero_below : nat_le 0 most ≡ true
  zero_below = grind (arith, nat_tests)

  zeros_within : (n : ℕ) → are_within (replicate n 0) ≡ true
  zeros_within zero = refl
  zeros_within (suc n) = and_from _ _ zero_below (zeros_within n)

  set_within : (a : List ℕ) (k x : ℕ) → nat_le x most ≡ true → are_within a ≡ true → are_within (slice_set a k x) ≡ true
  set_within [] k x h w = refl
  set_within (i ∷ a) zero x h w = and_from _ _ h (and_parts _ _ w).1
  set_within (i ∷ a) (suc k) x h w = and_from _ _ (and_parts _ _ w).0 (set_within a k x h (and_parts _ _ w).1)

  under : (x b : ℕ) → b ≤ most → nat_le x b ≡ true → nat_le x most ≡ true
  under x b low h = grind (arith, nat_tests)

  module _ (r : Rules) (low : r.bound ≤ most) where
    raised_within : (a b : List ℕ) (e : ℕ) (k : Option ℕ) → are_within a ≡ true → raised r.bound a e k ≡ Ok b → are_within b ≡ true
    raised_within a b e None w h = absurd (no_fault UnknownName b h)
    raised_within a b e (Some k) w h =
        let test = passed (nat_le (slice_index a k + e) r.bound) Limit (Ok (slice_set a k (slice_index a k + e))) b h in
        subst (λ c. are_within c ≡ true) (same_ok test.1) (set_within a k (slice_index a k + e) (under (slice_index a k + e) r.bound low test.0) w)

    factor_within : (t u : Term) (f : Option Factor) → are_within t.mono ≡ true → times_factor r t f ≡ Ok u → are_within u.mono ≡ true
    factor_within t u None w h = absurd (no_fault Syntax u h)
    factor_within t u (Some (Number n)) w h =
        let test = passed (nat_lt n (2 ^ 64)) Limit (Ok (record { mono = t.mono; coeff = (t.coeff * (n % prime_value r.ring.prime)) % prime_value r.ring.prime })) u h in
        subst (λ (v : Term). are_within v.mono ≡ true) (same_ok test.1) w
    factor_within t u (Some (Power name e)) w h =
        let read = first_read (raised r.bound t.mono e (place 0 name r.names)) (λ a. Ok (record { mono = a; coeff = t.coeff })) u h in
        subst (λ (v : Term). are_within v.mono ≡ true) (same_ok read.2) (raised_within t.mono read.0 e (place 0 name r.names) w read.1)

    pub unsigned_within : (text : Bytes) (t : Term) → unsigned_term r text ≡ Ok t → are_within t.mono ≡ true
    unsigned_within text t h =
        steps_keep (λ u f. times_factor r u (factor_of f)) (λ (u : Term). are_within u.mono ≡ true) (λ s x u w e. factor_within s u (factor_of x) w e)
        (term_one r) (parts Star text) t (zeros_within (length r.names)) h
