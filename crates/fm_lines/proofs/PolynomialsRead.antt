-- Polynomials and vectors that are read.
use Rattle.std.proofs.Common.{◌≡◌, Bool, true, false, List, [], ◌∷◌, Some, Result, Ok, Err, refl, sym, ap}
use Rattle.std.specs.Prelude.{if◌then◌else◌}
use Rattle.fm_mono.specs.Bounded.{exponent_bound}
use Rattle.fm_poly.specs.Polys.{PolyValue}
use Rattle.fm_poly.specs.declared.ring.Ring.{Ring}
use Rattle.fm_poly.specs.declared.term.Term.{Term}
use Rattle.fm_text.specs.declared.text_fault.TextFault.{TextFault}
use Rattle.fm_text.specs.declared.poly_fault.PolyFault.TheVariants.{Form}
use Rattle.fm_text.specs.Certificates.{certificate_polynomial, is_sound, within_bound}
use Rattle.fm_text.specs.Polynomials.{written_terms}
use Rattle.fm_words.specs.Options.{◌>>=◌, where_so}
use Rattle.fm_words.specs.Parts.{Bytes, pair}
use Rattle.fm_words.specs.Words.{is_empty}
use Rattle.fm_words.proofs.FirstFaults.{no_fault, same_ok}
use Rattle.fm_cert.specs.Fields.{without_comma, entries_of, closed_entries}

-- the text before a mark that stands once, at the end, by the two parts that there are then
pub by_pair : (ps : List Bytes) → without_comma ps ≡ (pair ps >>= λ f. where_so (is_empty f.1) (Some f.0))
by_pair [] = refl
by_pair (x ∷ []) = refl
by_pair (x ∷ [] ∷ []) = refl
by_pair (x ∷ (b ∷ bs) ∷ []) = refl
by_pair (x ∷ y ∷ z ∷ ps) = refl

within_ring : (r : Ring) (t : Result (List Term) TextFault) (f : PolyValue) → within_bound r t ≡ Ok f → f.ring ≡ r
within_ring r (Ok ts) f e = sym (ap (λ g. g.ring) (same_ok e))
within_ring r (Err k) f e = absurd (no_fault _ f e)

sound_ring : (r : Ring) (b : Bool) (t : Result (List Term) TextFault) (f : PolyValue) → (if b then within_bound r t else Err Form) ≡ Ok f → f.ring ≡ r
sound_ring r true t f e = within_ring r t f e
sound_ring r false t f e = absurd (no_fault _ f e)

-- a polynomial that is read is of the ring
pub of_ring : (r : Ring) (names : List Bytes) (text : Bytes) (f : PolyValue) → certificate_polynomial r names text ≡ Ok f → f.ring ≡ r
unfolding certificate_polynomial
of_ring r names text f e = sound_ring r (is_sound names text) (written_terms (record { ring = r; names = names; bound = exponent_bound }) text) f e

-- a vector is a text in parentheses
pub by_inner : (r : Ring) (names : List Bytes) (ps : List Bytes) → closed_entries r names ps ≡ (without_comma ps >>= entries_of r names)
by_inner r names [] = refl
by_inner r names (x ∷ []) = refl
by_inner r names (x ∷ [] ∷ []) = refl
by_inner r names (x ∷ (b ∷ bs) ∷ []) = refl
by_inner r names (x ∷ y ∷ z ∷ ps) = refl
