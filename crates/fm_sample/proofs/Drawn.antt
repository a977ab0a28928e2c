-- What is drawn is small.
use Rattle.std.proofs.Common.{◌≡◌, ◌≢◌, ◌+◌, ◌<◌, ◌≤◌, ◌==◌, ℕ, zero, suc, Bool, true, false, if◌then◌else◌, nat_le, List, [], ◌∷◌, ◌++◌, All, length, refl, arith, length-append}
use Rattle.std.proofs.lemmas.Bool.{le-leb}
use Rattle.std.proofs.lemmas.Nat.{mod_below}
use Rattle.std.proofs.lemmas.List.Elements.{All-nil}
use Rattle.fm_poly.specs.Polys.{PolyValue}
use Rattle.fm_text.specs.SumOfTerms.{IsPolynomialOf}
use Rattle.fm_problem.specs.Limits.{greatest_exponent, most_generators}
use Rattle.fm_problem.specs.Sound.{AreSmall, AreSmallTerms, are_small}
use Rattle.fm_problem.proofs.SoundNames.{All_more}
use Rattle.fm_sample.specs.Draws.{drawn, next}
use Rattle.fm_sample.specs.Samples.{sample_ring, exponents_of, exponents, monomial, past, monomials, count, generators}

pub drawn_below : (s : ℕ) → drawn s < 3
unfolding drawn
drawn_below s = mod_below _ 3 (omega arith)

-- ---- monomials
pub monomial_sound : (a : List ℕ) → length a ≡ 4 → IsPolynomialOf sample_ring (monomial a)
monomial_sound a four = record { of_ring = refl; canonical = record { listed = (four, omega arith, omega arith, tt); falls = (tt, tt) } }

four_exponents : (s : ℕ) → length (exponents s) ≡ 4
unfolding exponents
four_exponents s = refl

below_bound : (e : ℕ) → e < 3 → nat_le e greatest_exponent ≡ true
below_bound e h = le-leb e greatest_exponent (omega (arith, h))

first_below : (b : Bool) (e : ℕ) → e < 3 → nat_le (if b then 1 else e) greatest_exponent ≡ true
first_below true e h = refl
first_below false e h = below_bound e h

small_exponents : (a b c d : ℕ) → a < 3 → b < 3 → c < 3 → d < 3 → are_small (exponents_of a b c d) ≡ true
small_exponents a b c d i j k l =
    rw (first_below (a + (b + (c + d)) == 0) a i, below_bound b j, below_bound c k, below_bound d l) refl

pub drawn_small : (s : ℕ) → are_small (exponents s) ≡ true
unfolding exponents
drawn_small s = small_exponents _ _ _ _ (drawn_below _) (drawn_below _) (drawn_below _) (drawn_below _)

nonzero : (a : List ℕ) → (monomial a).terms ≢ []
nonzero a h = cc

pub monomials_sound : (c s : ℕ) → All (IsPolynomialOf sample_ring) (monomials c s)
monomials_sound zero s = All-nil (IsPolynomialOf sample_ring)
monomials_sound (suc c) s =
    All_more (IsPolynomialOf sample_ring) (monomials c s) (monomial (exponents (past c s))) (monomials_sound c s) (monomial_sound (exponents (past c s)) (four_exponents (past c s)))

pub monomials_nonzero : (c s : ℕ) → All (λ f. f.terms ≢ []) (monomials c s)
monomials_nonzero zero s = All-nil (λ (f : PolyValue). f.terms ≢ [])
monomials_nonzero (suc c) s =
    All_more (λ (f : PolyValue). f.terms ≢ []) (monomials c s) (monomial (exponents (past c s))) (monomials_nonzero c s) (nonzero (exponents (past c s)))

counted : (c s : ℕ) → length (monomials c s) ≡ c
counted zero s = refl
counted (suc c) s = let before = counted c s in omega (arith, before, length-append (monomials c s) (monomial (exponents (past c s)) ∷ []))

small_more : (fs : List PolyValue) (f : PolyValue) → AreSmall fs → AreSmallTerms f.terms → AreSmall (fs ++ f ∷ [])
small_more [] f all one = (one, tt)
small_more (g ∷ fs) f all one = (all.0, small_more fs f all.1 one)

pub monomials_small : (c s : ℕ) → AreSmall (monomials c s)
monomials_small zero s = tt
monomials_small (suc c) s = small_more (monomials c s) (monomial (exponents (past c s))) (monomials_small c s) (drawn_small (past c s), tt)

-- ---- the generators of an ideal
pub few_generators : (s : ℕ) → length (generators s) ≤ most_generators
unfolding generators
few_generators s = let long = counted (count s) (next s) in let below = drawn_below (next s) in omega (arith, long, below)

pub generators_sound : (s : ℕ) → All (IsPolynomialOf sample_ring) (generators s)
unfolding generators
generators_sound s = monomials_sound (count s) (next s)

pub generators_nonzero : (s : ℕ) → All (λ f. f.terms ≢ []) (generators s)
unfolding generators
generators_nonzero s = monomials_nonzero (count s) (next s)

pub generators_small : (s : ℕ) → AreSmall (generators s)
unfolding generators
generators_small s = monomials_small (count s) (next s)
