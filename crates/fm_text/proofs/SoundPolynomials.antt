-- Polynomials that are read are polynomials of their ring.
use Rattle.std.proofs.Common.{◌≡◌, ◌<◌, ◌+◌, ◌*◌, ◌%◌, ◌-◌, ◌^◌, ℕ, zero, suc, List, [], ◌∷◌, ◌++◌, All, length, slice_index, slice_set, nat_lt, nat_le, Option, Some, None, Ok, refl, sym, ◌∙◌, ap, subst, arith}
use Rattle.std.proofs.lemmas.Nat.{mod_below}
use Rattle.std.proofs.lemmas.List.{length-set, length-replicate}
use Rattle.std.proofs.lemmas.List.Elements.{All-append}
use Rattle.fm_gfp.specs.Primes.{prime_value}
use Rattle.fm_gfp.specs.declared.prime.Prime.{Prime}
use Rattle.fm_gfp.proofs.Residues.{prime_above_one, prime_positive}
use Rattle.fm_poly.specs.declared.term.Term.{Term}
use Rattle.fm_poly.specs.Polys.{PolyValue, IsTermOf}
use Rattle.fm_words.specs.declared.mark.Mark.TheVariants.{Star}
use Rattle.fm_words.specs.Parts.{Bytes, parts}
use Rattle.fm_text.specs.declared.text_fault.TextFault.TheVariants.{Syntax, UnknownName, Limit}
use Rattle.fm_text.specs.declared.sign.Sign.{Sign}
use Rattle.fm_text.specs.declared.sign.Sign.TheVariants.{Plus, Minus}
use Rattle.fm_text.specs.Factors.{Factor, Number, Power, SignedText, factor_of, terms_of}
use Rattle.fm_words.specs.Steps.{place}
use Rattle.fm_text.specs.SumOfTerms.{polynomial_of_terms, IsPolynomialOf}
use Rattle.fm_text.specs.Polynomials.{Rules, term_one, raised, times_factor, unsigned_term, signed_coefficient, signed_term, plus_term, written_terms, spelled_polynomial}
use Rattle.fm_words.proofs.FirstFaults.{no_fault, same_ok, first_read, steps_keep, passed}
use Rattle.fm_text.proofs.TermSums.{sum_canonical}

-- a term under way: one exponent for each name, and a coefficient below p
record Fits (r : Rules) (t : Term) : Type 0 where
  long : length t.mono ≡ length r.names
  below : t.coeff < prime_value r.ring.prime

raised_long : (bound : ℕ) (a b : List ℕ) (e : ℕ) (k : Option ℕ) → raised bound a e k ≡ Ok b → length b ≡ length a
raised_long bound a b e None h = absurd (no_fault UnknownName b h)
raised_long bound a b e (Some k) h =
    let test = passed (nat_le (slice_index a k + e) bound) Limit (Ok (slice_set a k (slice_index a k + e))) b h in
    sym (ap length (same_ok test.1)) ∙ length-set a k (slice_index a k + e)

factor_fits : (r : Rules) (t u : Term) (f : Option Factor) → Fits r t → times_factor r t f ≡ Ok u → Fits r u
factor_fits r t u None fits h = absurd (no_fault Syntax u h)
factor_fits r t u (Some (Number n)) fits h =
    let test = passed (nat_lt n (2 ^ 64)) Limit (Ok (record { mono = t.mono; coeff = (t.coeff * (n % prime_value r.ring.prime)) % prime_value r.ring.prime })) u h in
    subst (Fits r) (same_ok test.1) (record { long = fits.long; below = mod_below (t.coeff * (n % prime_value r.ring.prime)) (prime_value r.ring.prime) (prime_positive r.ring.prime) })
factor_fits r t u (Some (Power name e)) fits h =
    let read = first_read (raised r.bound t.mono e (place 0 name r.names)) (λ a. Ok (record { mono = a; coeff = t.coeff })) u h in
    subst (Fits r) (same_ok read.2) (record { long = raised_long r.bound t.mono read.0 e (place 0 name r.names) read.1 ∙ fits.long; below = fits.below })

one_fits : (r : Rules) → Fits r (term_one r)
one_fits r = record { long = length-replicate (length r.names) 0; below = prime_above_one r.ring.prime }

unsigned_fits : (r : Rules) (text : Bytes) (t : Term) → unsigned_term r text ≡ Ok t → Fits r t
unsigned_fits r text t h =
    steps_keep (λ u f. times_factor r u (factor_of f)) (Fits r) (λ s x u fits e. factor_fits r s u (factor_of x) fits e) (term_one r) (parts Star text) t (one_fits r) h

sign_below : (p : Prime) (s : Sign) (c : ℕ) → c < prime_value p → signed_coefficient p s c < prime_value p
sign_below p Plus c below = below
sign_below p Minus c below = mod_below (prime_value p - c) (prime_value p) (prime_positive p)

signed_fits : (r : Rules) (t : SignedText) (u : Term) → length r.names ≡ r.ring.vars → signed_term r t ≡ Ok u → IsTermOf r.ring u
signed_fits r t u named h =
    let read = first_read (unsigned_term r t.text) (λ v. Ok (record { mono = v.mono; coeff = signed_coefficient r.ring.prime t.sign v.coeff })) u h in
    let fits = unsigned_fits r t.text read.0 read.1 in
    subst (IsTermOf r.ring) (same_ok read.2) (record { fits = fits.long ∙ named; below = sign_below r.ring.prime t.sign (read.0).coeff fits.below })

terms_fit : (r : Rules) (text : Bytes) (ts : List Term) → length r.names ≡ r.ring.vars → written_terms r text ≡ Ok ts → All (IsTermOf r.ring) ts
terms_fit r text ts named h =
    steps_keep (plus_term r) (All (IsTermOf r.ring)) one_more [] (terms_of text) ts (λ k d below. absurd (omega (arith, below))) h
  where
    one_more : (us : List Term) (t : SignedText) (vs : List Term) → All (IsTermOf r.ring) us → plus_term r us t ≡ Ok vs → All (IsTermOf r.ring) vs
    one_more us t vs all e =
        let read = first_read (signed_term r t) (λ u. Ok (us ++ u ∷ [])) vs e in
        subst (All (IsTermOf r.ring)) (same_ok read.2) (All-append (IsTermOf r.ring) us (read.0 ∷ []) all (one_of (signed_fits r t read.0 named read.1)))
      where
        one_of : {u : Term} → IsTermOf r.ring u → All (IsTermOf r.ring) (u ∷ [])
        one_of w zero d below = w
        one_of w (suc k) d below = absurd (omega (arith, below))

-- a polynomial of the ring, as it is kept
pub polynomial_sound : (r : Rules) (text : Bytes) (f : PolyValue) → length r.names ≡ r.ring.vars → spelled_polynomial r text ≡ Ok f → IsPolynomialOf r.ring f
polynomial_sound r text f named h =
    let read = first_read (written_terms r text) (λ ts. Ok (polynomial_of_terms r.ring ts)) f h in
    subst (IsPolynomialOf r.ring) (same_ok read.2) (record { of_ring = refl; canonical = sum_canonical r.ring read.0 (terms_fit r text read.0 named read.1) })
