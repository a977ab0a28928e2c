-- Multiples by constants.
use Rattle.std.proofs.Common.{ℕ, ◌*◌, ◌%◌, ◌≡◌, List, [], ◌∷◌, replicate, refl, sym, ap, ap₂, ◌∙◌}
use Rattle.fm_gfp.specs.Primes.{prime_value}
use Rattle.fm_gfp.specs.declared.prime.Prime.{Prime}
use Rattle.fm_tuple.specs.Tuple.{tuple_sum}
use Rattle.fm_tuple.proofs.Tuples.{zeros_tuple_sum}
use Rattle.fm_term.specs.declared.vterm.VTerm.{VTerm}
use Rattle.fm_term.specs.Falling.{AreTerms}
use Rattle.fm_term.specs.Multiples.{multiple, scaled}
use Rattle.fm_term.specs.Meanings.{HaveExponents}

-- c times a vector is c * x^0 times it
pub scaled_is_multiple : (p : Prime) (n c : ℕ) (ts : List VTerm) → HaveExponents n ts → scaled p c ts ≡ multiple p c (replicate n 0) ts
scaled_is_multiple p n c [] h = refl
scaled_is_multiple p n c (t ∷ ts) h = ap₂ (λ x y. x ∷ y)
    (λ i. record {
      component = t.component;
      mono = (sym (ap (λ k. tuple_sum (replicate k 0) t.mono) (sym h.0) ∙ zeros_tuple_sum t.mono)) i;
      coeff = (c * t.coeff) % prime_value p;
    })
    (scaled_is_multiple p n c ts h.1)

pub terms_have_exponents : (p : Prime) (n : ℕ) (ts : List VTerm) → AreTerms p n ts → HaveExponents n ts
terms_have_exponents p n [] w = tt
terms_have_exponents p n (t ∷ ts) w = (w.0.fits, terms_have_exponents p n ts w.1)
