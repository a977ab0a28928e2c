-- No text is printed twice: the factors of a printed term, which the grammar reads, tell its exponents and its coefficient.
use Rattle.std.proofs.Common.{◌≡◌, ℕ, ◌<◌, Bool, true, false, if◌then◌else◌, nat_eq, List, [], ◌∷◌, map, length, Option, Some, None, refl, sym, ap, ap₂, ◌∙◌, arith}
use Rattle.std.specs.List.{list_all, join_with_byte}
use Rattle.std.proofs.lemmas.Bool.{and_parts, ne_eqb, eqb-true}
use Rattle.fm_words.specs.Parts.{Bytes, pieces}
use Rattle.fm_words.specs.Words.{same_bytes, are_names, AreNames}
use Rattle.fm_words.proofs.Cutting.{pieces_at, pieces_join}
use Rattle.fm_text.specs.Texts.{Terms, factor_texts, with_coefficient, term_text, poly_text, vector_text, IsPrintableTerm, ArePrintable, AllPrintable}
use Rattle.fm_text.specs.Factors.{Factor, Number, Power, factor_of}
use Rattle.fm_text.proofs.PrintedFactors.{join_cut, same_refl, factors_are_texts, with_coefficient_texts}
use Rattle.fm_text.proofs.PrintedPolys.{terms_are_texts, polys_are_texts, entries_within, entries_long}
use Rattle.fm_text.proofs.FactorsRead.{powers, with_number, powers_read, coefficient_read}
use Rattle.fm_text.proofs.PolynomialsRead.{not_before}

-- ---- terms
-- the exponent of the variable m in the first of these factors that is a power of it
abbrev exponent_in : Bytes → List (Option Factor) → ℕ
exponent_in m [] = 0
exponent_in m (None ∷ fs) = exponent_in m fs
exponent_in m (Some (Number n) ∷ fs) = exponent_in m fs
exponent_in m (Some (Power o e) ∷ fs) = if same_bytes o m then e else exponent_in m fs

-- the number that stands first, or 1
abbrev coefficient_in : List (Option Factor) → ℕ
coefficient_in [] = 1
coefficient_in (None ∷ fs) = 1
coefficient_in (Some (Number n) ∷ fs) = n
coefficient_in (Some (Power o e) ∷ fs) = 1

abbrev exponents_in : List Bytes → List (Option Factor) → List ℕ
exponents_in ms fs = map (λ m. exponent_in m fs) ms

-- none of the names is m
abbrev is_new : Bytes → List Bytes → Bool
is_new m ms = list_all (λ o. if same_bytes o m then false else true) ms

negated : (b : Bool) → (if b then false else true) ≡ true → b ≡ false
negated true h = absurd (let e : false ≡ true = h in cc)
negated false h = refl

absent : (m : Bytes) (ms : List Bytes) (es : List ℕ) → is_new m ms ≡ true → exponent_in m (map Some (powers ms es)) ≡ 0
absent m [] es h = refl
absent m (o ∷ os) [] h = refl
absent m (o ∷ os) (e ∷ es) h = by_test (nat_eq e 0) (negated (same_bytes o m) (and_parts _ _ h).0) (absent m os es (and_parts _ _ h).1) where
  by_test : (t : Bool) → same_bytes o m ≡ false → exponent_in m (map Some (powers os es)) ≡ 0
      → exponent_in m (map Some (if t then powers os es else (Power o e ∷ powers os es))) ≡ 0
  by_test true n z = z
  by_test false n z = ap (λ (b : Bool). if b then e else exponent_in m (map Some (powers os es))) n ∙ z

others : (m : Bytes) (e : ℕ) (fs : List (Option Factor)) (os : List Bytes) → is_new m os ≡ true → exponents_in os (Some (Power m e) ∷ fs) ≡ exponents_in os fs
others m e fs [] h = refl
others m e fs (o ∷ os) h =
    ap₂ (λ x xs. x ∷ xs) (ap (λ (b : Bool). if b then e else exponent_in o fs) (not_before m o (and_parts _ _ h).0)) (others m e fs os (and_parts _ _ h).1)

first_is_new : (m : Bytes) (ms : List Bytes) → are_names (m ∷ ms) ≡ true → is_new m ms ≡ true
first_is_new m ms h = (and_parts _ _ (and_parts _ _ h).1).0

-- the exponents of a term's factors
exponents_back : (names : List Bytes) (es : List ℕ) → are_names names ≡ true → length es ≡ length names → exponents_in names (map Some (powers names es)) ≡ es
exponents_back [] [] h l = refl
exponents_back [] (e ∷ es) h l = absurd (omega (arith, l))
exponents_back (m ∷ ms) [] h l = absurd (omega (arith, l))
exponents_back (m ∷ ms) (e ∷ es) h l =
    by_test (nat_eq e 0) refl (absent m ms es (first_is_new m ms h)) (exponents_back ms es (and_parts _ _ (and_parts _ _ h).1).1 (omega (arith, l)))
  where
    by_test : (t : Bool) → nat_eq e 0 ≡ t → exponent_in m (map Some (powers ms es)) ≡ 0 → exponents_in ms (map Some (powers ms es)) ≡ es
        → exponents_in (m ∷ ms) (map Some (if t then powers ms es else (Power m e ∷ powers ms es))) ≡ e ∷ es
    by_test true z none rest = ap₂ (λ x xs. x ∷ xs) (none ∙ sym (eqb-true e 0 z)) rest
    by_test false z none rest =
        ap₂ (λ x xs. x ∷ xs) (ap (λ (b : Bool). if b then e else exponent_in m (map Some (powers ms es))) (same_refl m)) (others m e (map Some (powers ms es)) ms (first_is_new m ms h) ∙ rest)

numberless : (c : ℕ) (fs : List Factor) (ms : List Bytes) → exponents_in ms (map Some (with_number c fs)) ≡ exponents_in ms (map Some fs)
numberless c [] ms = refl
numberless c (f ∷ fs) ms = by_test (nat_eq c 1) where
  by_test : (t : Bool) → exponents_in ms (map Some (if t then f ∷ fs else (Number c ∷ f ∷ fs))) ≡ exponents_in ms (map Some (f ∷ fs))
  by_test true = refl
  by_test false = refl

starts_with_power : (names : List Bytes) (es : List ℕ) → coefficient_in (map Some (powers names es)) ≡ 1
starts_with_power [] es = refl
starts_with_power (m ∷ ms) [] = refl
starts_with_power (m ∷ ms) (e ∷ es) = by_test (nat_eq e 0) (starts_with_power ms es) where
  by_test : (t : Bool) → coefficient_in (map Some (powers ms es)) ≡ 1 → coefficient_in (map Some (if t then powers ms es else (Power m e ∷ powers ms es))) ≡ 1
  by_test true h = h
  by_test false h = refl

coefficient_back : (c : ℕ) (fs : List Factor) → coefficient_in (map Some fs) ≡ 1 → coefficient_in (map Some (with_number c fs)) ≡ c
coefficient_back c [] h = refl
coefficient_back c (f ∷ fs) h = by_test (nat_eq c 1) refl where
  by_test : (t : Bool) → nat_eq c 1 ≡ t → coefficient_in (map Some (if t then f ∷ fs else (Number c ∷ f ∷ fs))) ≡ c
  by_test true z = h ∙ sym (eqb-true c 1 z)
  by_test false z = refl

-- the exponents and the coefficient that the factors of a text tell
abbrev term_back : List Bytes → Bytes → List ℕ × ℕ
term_back names text = (exponents_in names (map factor_of (pieces 42 text)), coefficient_in (map factor_of (pieces 42 text)))

term_returns : (names : List Bytes) (t : List ℕ × ℕ) → AreNames names → IsPrintableTerm (length names) t → term_back names (term_text names t) ≡ t
unfolding AreNames IsPrintableTerm term_text
term_returns names t h p =
    let texts = with_coefficient_texts (factor_texts names t.0) t.1 p.3 (factors_are_texts names t.0 h p.1) in
    let factors : map factor_of (pieces 42 (join_with_byte 42 (with_coefficient t.1 (factor_texts names t.0)))) ≡ map Some (with_number t.1 (powers names t.0)) =
    ap (map factor_of) (join_cut 2 42 (omega arith) (with_coefficient t.1 (factor_texts names t.0)) texts.1 texts.0)
    ∙ coefficient_read (factor_texts names t.0) (powers names t.0) t.1 p.3 (powers_read names t.0 h p.1) in
    ap (λ fs. (exponents_in names fs, coefficient_in fs)) factors
    ∙ ap₂ (λ a c. (a, c)) (numberless t.1 (powers names t.0) names ∙ exponents_back names t.0 h p.0) (coefficient_back t.1 (powers names t.0) (starts_with_power names t.0))

terms_return : (names : List Bytes) (ts : Terms) → AreNames names → ArePrintable (length names) ts → map (term_back names) (map (term_text names) ts) ≡ ts
terms_return names [] h p = refl
terms_return names (t ∷ ts) h p = ap₂ (λ x xs. x ∷ xs) (term_returns names t h p.0) (terms_return names ts h p.1)

-- ---- polynomials
abbrev without_zeros : Terms → Terms
without_zeros [] = []
without_zeros (t ∷ ts) = if nat_eq t.1 0 then without_zeros ts else (t ∷ without_zeros ts)

positive : (n : ℕ) (t : List ℕ × ℕ) → IsPrintableTerm n t → nat_eq t.1 0 ≡ false
unfolding IsPrintableTerm
positive n t p = ne_eqb t.1 0 (above t.1 p.2) where
  above : (c : ℕ) → 0 < c → c ≡ 0 → ⊥
  above c h e = omega (arith, h, e)

no_zeros : (n : ℕ) (ts : Terms) → ArePrintable n ts → without_zeros ts ≡ ts
no_zeros n [] p = refl
no_zeros n (t ∷ ts) p = ap (λ (b : Bool). if b then without_zeros ts else (t ∷ without_zeros ts)) (positive n t p.0) ∙ ap (λ us. t ∷ us) (no_zeros n ts p.1)

abbrev poly_back : List Bytes → Bytes → Terms
poly_back names text = without_zeros (map (term_back names) (pieces 43 text))

poly_returns : (names : List Bytes) (ts : Terms) → AreNames names → ArePrintable (length names) ts → poly_back names (poly_text names ts) ≡ ts
unfolding poly_text
poly_returns names [] h p = refl
poly_returns names (t ∷ ts) h p =
    ap (λ ps. without_zeros (map (term_back names) ps)) (pieces_join 3 43 (omega arith) (term_text names t) (map (term_text names) ts) (terms_are_texts names (t ∷ ts) h p))
    ∙ ap without_zeros (terms_return names (t ∷ ts) h p) ∙ no_zeros (length names) (t ∷ ts) p

polys_return : (names : List Bytes) (v : List Terms) → AreNames names → AllPrintable (length names) v → map (poly_back names) (map (poly_text names) v) ≡ v
polys_return names [] h p = refl
polys_return names (f ∷ fs) h p = ap₂ (λ x xs. x ∷ xs) (poly_returns names f h p.0) (polys_return names fs h p.1)

-- ---- vectors
abbrev entries_back : List Bytes → Bytes → List Terms
entries_back names [] = []
entries_back names (b ∷ bs) = map (poly_back names) (pieces 44 (b ∷ bs))

abbrev first_entries : List Bytes → List Bytes → List Terms
first_entries names [] = []
first_entries names (inner ∷ rest) = entries_back names inner

-- the entries between the first byte and the first `)`
abbrev vector_back : List Bytes → Bytes → List Terms
vector_back names [] = []
vector_back names (b ∷ bs) = first_entries names (pieces 41 bs)

some_entries : (names : List Bytes) (inner : Bytes) → 0 < length inner → entries_back names inner ≡ map (poly_back names) (pieces 44 inner)
some_entries names [] h = absurd (omega (arith, h))
some_entries names (b ∷ bs) h = refl

entries_return : (names : List Bytes) (v : List Terms) → AreNames names → AllPrintable (length names) v → entries_back names (join_with_byte 44 (map (poly_text names) v)) ≡ v
entries_return names [] h p = refl
entries_return names (f ∷ fs) h p =
    some_entries names (join_with_byte 44 (map (poly_text names) (f ∷ fs))) (entries_long names f fs h p)
    ∙ ap (map (poly_back names)) (pieces_join 4 44 (omega arith) (poly_text names f) (map (poly_text names) fs) (polys_are_texts names (f ∷ fs) h p))
    ∙ polys_return names (f ∷ fs) h p

vector_returns : (names : List Bytes) (v : List Terms) → AreNames names → AllPrintable (length names) v → vector_back names (vector_text names v) ≡ v
unfolding vector_text
vector_returns names v h p =
    ap (first_entries names) (pieces_at 5 41 (omega arith) (join_with_byte 44 (map (poly_text names) v)) [] (entries_within names v h p)) ∙ entries_return names v h p

-- ---- no text is printed twice
pub poly_text_injective : (names : List Bytes) (f g : Terms) → AreNames names → ArePrintable (length names) f → ArePrintable (length names) g
    → poly_text names f ≡ poly_text names g → f ≡ g
poly_text_injective names f g h p q e = sym (poly_returns names f h p) ∙ ap (poly_back names) e ∙ poly_returns names g h q

pub vector_text_injective : (names : List Bytes) (v w : List Terms) → AreNames names → AllPrintable (length names) v → AllPrintable (length names) w
    → vector_text names v ≡ vector_text names w → v ≡ w
vector_text_injective names v w h p q e = sym (vector_returns names v h p) ∙ ap (vector_back names) e ∙ vector_returns names w h q
