-- The steps of printing.
use Rattle.std.proofs.Common.{◌≡◌, ℕ, ◌<◌, ◌≤◌, drop, List, [], ◌∷◌, ◌++◌, map, length, sum, refl, sym, ap, subst, ◌∙◌, arith, inl, inr, append_assoc, append-nil}
use Rattle.std.specs.Prelude.{Bool, true, false, if◌then◌else◌, nat_eq, decimal}
use Rattle.std.specs.List.{join_with_byte}
use Rattle.std.proofs.Math.ListN.{drop_of_length-le}
use Rattle.std.proofs.lemmas.List.Sums.{sum_by-cons}
use Rattle.std.proofs.lemmas.Bool.{cases_eq, eq-eqb, ne_eqb}
use Rattle.fm_words.specs.Parts.{Bytes}
use Rattle.fm_text.specs.Texts.{Terms, factor_text, factor_texts, with_coefficient, term_text, poly_text}
use Rattle.fm_gfp.specs.declared.prime.Prime.{Prime}
use Rattle.fm_algebra.specs.Polynomials.{AreListedTerms}
use Rattle.fm_poly.specs.Polys.{pairs}
use Rattle.fm_poly.specs.declared.term.Term.{Term}
use Rattle.std.proofs.lemmas.List.{nil_from_length}
use Rattle.fm_text.specs.Printing.{Extends, HaveLength, joined, separator}

pub extends_itself : (xs : Bytes) → Extends xs xs
extends_itself xs = ([], sym (append-nil xs))

pub extends_more : (xs ys zs : Bytes) → Extends xs ys → Extends ys zs → Extends xs zs
extends_more xs ys zs a b = (a.0 ++ b.0, b.1 ∙ ap (λ y. y ++ b.0) a.1 ∙ append_assoc xs a.0 b.0)

-- `rest` is still to be written of `all`, which follows the old bytes
pub record Writing (old now rest all : Bytes) : Type 0 where
  pub extends : Extends old now
  pub same : now ++ rest ≡ old ++ all

pub begun : (old all : Bytes) → Writing old old all all
begun old all = record { extends = extends_itself old; same = refl }

pub written : (old now all : Bytes) → Writing old now [] all → now ≡ old ++ all
written old now all w = sym (append-nil now) ∙ w.same

pub write_more : (old now new rest left all : Bytes) → Writing old now rest all → Extends now new → new ++ left ≡ now ++ rest → Writing old new left all
write_more old now new rest left all w e s = record { extends = extends_more old now new w.extends e; same = s ∙ w.same }

pub joined_none : (c : ℕ) (b : Bool) → joined c b [] ≡ []
joined_none c true = refl
joined_none c false = refl

pub join_first : (c : ℕ) (x : Bytes) (xs : List Bytes) → join_with_byte c (x ∷ xs) ≡ x ++ joined c true xs
join_first c x [] = sym (append-nil x)
join_first c x (y ∷ ys) = ap (λ z. x ++ c ∷ z) (join_first c y ys)

separated : (b : Bool) (f : Bytes) (fs : List Bytes) → (separator b ++ f) ++ joined 42 true fs ≡ joined 42 b (f ∷ fs)
separated true f fs = refl
separated false f fs = sym (join_first 42 f fs)

-- a factor, with what stands before it
pub factor_written : (old mid new name : Bytes) (started : Bool) (e : ℕ) (fs : List Bytes) → (e ≡ 0 → ⊥) → mid ≡ old ++ separator started → new ≡ mid ++ factor_text name e
    → new ++ joined 42 true fs ≡ old ++ joined 42 started (if nat_eq e 0 then fs else (factor_text name e ∷ fs))
factor_written old mid new name started e fs n m w =
    rw (ne_eqb e 0 n) (ap (λ y. y ++ joined 42 true fs) (w ∙ ap (λ y. y ++ factor_text name e) m) ∙ ap (λ y. y ++ joined 42 true fs) (append_assoc old (separator started) (factor_text name e)) ∙ append_assoc old (separator started ++ factor_text name e) (joined 42 true fs) ∙ ap (λ y. old ++ y) (separated started (factor_text name e) fs))

-- no variable is left
no_variable : (ms : List Bytes) → factor_texts ms [] ≡ []
no_variable [] = refl
no_variable (m ∷ ms) = refl

pub factors_end : (old now all : Bytes) (ms : List Bytes) (es : List ℕ) (k : ℕ) (started : Bool) → Writing old now (joined 42 started (factor_texts ms (drop k es))) all
    → length es ≤ k → now ≡ old ++ all
factors_end old now all ms es k started w past =
    written old now all (subst (λ rest. Writing old now rest all)
    (ap (λ fs. joined 42 started (factor_texts ms fs)) (drop_of_length-le es past) ∙ ap (joined 42 started) (no_variable ms) ∙ joined_none 42 started) w)

-- a term after a separator
pub term_written : (c : ℕ) (mid new x : Bytes) (old : Bytes) (xs : List Bytes) → mid ≡ old ++ c ∷ [] → new ≡ mid ++ x → new ++ joined c true xs ≡ old ++ joined c true (x ∷ xs)
term_written c mid new x old xs m w =
    ap (λ y. y ++ joined c true xs) (w ∙ ap (λ y. y ++ x) m ∙ append_assoc old (c ∷ []) x) ∙ append_assoc old (c ∷ x) (joined c true xs)

-- a coefficient that is printed
pub coefficient_written : (c : ℕ) (fs : List Bytes) → (c ≡ 1 → fs ≡ []) → join_with_byte 42 (with_coefficient c fs) ≡ decimal c ++ joined 42 true fs
coefficient_written c [] h = sym (append-nil (decimal c))
coefficient_written c (f ∷ fs) h = elim (cases_eq c 1) [
  | inl e ↦ absurd (cons_nil f fs (h e))
  | inr n ↦ rw (ne_eqb c 1 n) (join_first 42 (decimal c) (f ∷ fs))
] where
  is_nil : List Bytes → Type 0
  is_nil [] = Unit {0}
  is_nil (x ∷ xs) = ⊥

  cons_nil : (f : Bytes) (fs : List Bytes) → f ∷ fs ≡ [] → ⊥
  cons_nil f fs e = subst is_nil (sym e) tt

-- the exponents are all 0 exactly where no factor is printed
pub no_factors : (names : List Bytes) (es : List ℕ) → sum es ≡ 0 → factor_texts names es ≡ []
no_factors [] es h = refl
no_factors (m ∷ ms) [] h = refl
no_factors (m ∷ ms) (e ∷ es) h = rw (eq-eqb e 0 (first_zero e es h)) (no_factors ms es (rest_zero e es h)) where
  first_zero : (e : ℕ) (es : List ℕ) → sum (e ∷ es) ≡ 0 → e ≡ 0
  first_zero e es h = omega (arith, sum_by-cons (λ x. x) e es)

  rest_zero : (e : ℕ) (es : List ℕ) → sum (e ∷ es) ≡ 0 → sum es ≡ 0
  rest_zero e es h = omega (arith, sum_by-cons (λ x. x) e es)

-- a coefficient 1 before factors
pub one_left_out : (fs : List Bytes) (c : ℕ) → c ≡ 1 → 0 < length fs → join_with_byte 42 (with_coefficient c fs) ≡ joined 42 false fs
one_left_out [] c e h = absurd (omega arith)
one_left_out (f ∷ fs) c e h = rw (eq-eqb c 1 e) refl

pub some_factors : (names : List Bytes) (es : List ℕ) → length es ≡ length names → 0 < sum es → 0 < length (factor_texts names es)
some_factors [] [] l h = absurd (omega arith)
some_factors [] (e ∷ es) l h = absurd (omega arith)
some_factors (m ∷ ms) [] l h = absurd (omega arith)
some_factors (m ∷ ms) (e ∷ es) l h = elim (cases_eq e 0) [
  | inl z ↦ rw (eq-eqb e 0 z) (some_factors ms es (omega arith) (omega (arith, sum_by-cons (λ x. x) e es)))
  | inr n ↦ rw (ne_eqb e 0 n) (omega arith)
]

-- a term with its coefficient, and a term without it
pub term_with_coefficient : (names : List Bytes) (es fs : List ℕ) (c : ℕ) (old mid new : Bytes) → fs ≡ es → (c ≡ 1 → sum es ≡ 0) → mid ≡ old ++ decimal c
    → new ≡ mid ++ joined 42 true (factor_texts names fs) → new ≡ old ++ term_text names (es, c)
unfolding term_text
term_with_coefficient names es fs c old mid new s h m w =
    w ∙ ap (λ gs. mid ++ joined 42 true (factor_texts names gs)) s ∙ ap (λ y. y ++ joined 42 true (factor_texts names es)) m ∙ append_assoc old (decimal c) (joined 42 true (factor_texts names es))
    ∙ ap (λ y. old ++ y) (sym (coefficient_written c (factor_texts names es) (λ e. no_factors names es (h e))))

pub term_without_coefficient : (names : List Bytes) (es fs : List ℕ) (c : ℕ) (old new : Bytes) → fs ≡ es → (c ≡ 1) × (0 < sum es) → length es ≡ length names
    → new ≡ old ++ joined 42 false (factor_texts names fs) → new ≡ old ++ term_text names (es, c)
unfolding term_text
term_without_coefficient names es fs c old new s h l w = w ∙ ap (λ gs. old ++ joined 42 false (factor_texts names gs)) s ∙ ap (λ y. old ++ y) (sym (one_left_out (factor_texts names es) c h.0 (some_factors names es l h.1)))

-- a polynomial with terms, and without
pub terms_written : (names : List Bytes) (all : List Term) (t : Term) (ts : List Term) (old mid new : Bytes) → all ≡ t ∷ ts → mid ≡ old ++ term_text names (t.mono, t.coeff)
    → new ≡ mid ++ joined 43 true (map (term_text names) (pairs ts)) → new ≡ old ++ poly_text names (pairs all)
unfolding poly_text
terms_written names all t ts old mid new e m w =
    w ∙ ap (λ y. y ++ joined 43 true (map (term_text names) (pairs ts))) m ∙ append_assoc old (term_text names (t.mono, t.coeff)) (joined 43 true (map (term_text names) (pairs ts)))
    ∙ ap (λ y. old ++ y) (sym (join_first 43 (term_text names (t.mono, t.coeff)) (map (term_text names) (pairs ts))))
    ∙ ap (λ us. old ++ poly_text names (pairs us)) (sym e)

pub zero_written : (names : List Bytes) (all : List Term) (old new : Bytes) → length all ≡ 0 → new ≡ old ++ 48 ∷ [] → new ≡ old ++ poly_text names (pairs all)
unfolding poly_text
zero_written names all old new e w = w ∙ ap (λ us. old ++ poly_text names (pairs us)) (sym (nil_from_length all e))

-- terms over n variables have n exponents
pub listed_lengths : (p : Prime) (n k : ℕ) (ts : Terms) → k ≡ n → AreListedTerms p n ts → HaveLength k ts
listed_lengths p n k [] e l = tt
listed_lengths p n k (t ∷ ts) e l = (l.0 ∙ sym e, listed_lengths p n k ts e l.3)
