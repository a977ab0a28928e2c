-- Printed polynomials are read back, as those of problems and of certificates.
use Rattle.std.proofs.Common.{◌≡◌, ℕ, ◌+◌, ◌-◌, ◌*◌, ◌%◌, ◌^◌, ◌<◌, ◌≤◌, Bool, true, false, ◌&&◌, ◌||◌, if◌then◌else◌, nat_eq, nat_lt, nat_le, not, List, [], ◌∷◌, ◌++◌, map, length, replicate, slice_index, slice_set, Some, None, is_some, Result, Ok, Err, All, refl, sym, ap, ap₂, ◌∙◌, subst, arith, append_assoc, length-append, append-nil}
use Rattle.std.specs.List.{list_all, list_any, join_with_byte, onto_first}
use Rattle.std.proofs.lemmas.Bool.{and_parts, and_from, eqb-true, le-leb, leb-true}
use Rattle.std.proofs.lemmas.Bool.Decides.{nat_tests}
use Rattle.std.proofs.lemmas.List.{get_or-append-add, set-append_right}
use Rattle.fm_algebra.specs.Twist.{AllBelow}
use Rattle.fm_gfp.specs.Primes.{prime_value}
use Rattle.fm_gfp.specs.declared.prime.Prime.{Prime}
use Rattle.fm_gfp.proofs.Residues.{prime_in_64_bits, prime_positive}
use Rattle.std.proofs.Math.Nat.{mod-eq_of_lt}
use Rattle.std.proofs.lemmas.List.Elements.{All-cons, All-nil}
use Rattle.fm_mono.specs.Bounded.{exponent_bound, is_bounded}
use Rattle.fm_algebra.specs.Polynomials.{AreListedTerms}
use Rattle.fm_text.specs.declared.poly_fault.PolyFault.TheVariants.{Form}
use Rattle.fm_poly.specs.Polys.{IsCanonical, IsTermOf, PolyValue, pairs}
use Rattle.fm_words.specs.Parts.{Bytes, pieces, is_mark, parts}
use Rattle.fm_words.specs.Words.{same_bytes, are_names, AreNames}
use Rattle.fm_poly.specs.Bounds.{AreWithinBound}
use Rattle.fm_text.specs.Texts.{factor_texts, with_coefficient, term_text, poly_text}
use Rattle.fm_poly.specs.declared.ring.Ring.{Ring}
use Rattle.fm_poly.specs.declared.term.Term.{Term}
use Rattle.fm_words.proofs.Cutting.{level, IsText, AreTexts, texts_more}
use Rattle.fm_text.proofs.PrintedFactors.{join_cut, joined_text, same_refl, factors_are_texts, with_coefficient_texts}
use Rattle.fm_words.specs.declared.mark.Mark.TheVariants.{Blank, Star}
use Rattle.fm_text.specs.declared.text_fault.TextFault.{TextFault}
use Rattle.fm_text.specs.declared.text_fault.TextFault.TheVariants.{Limit}
use Rattle.fm_text.specs.declared.sign.Sign.TheVariants.{Plus}
use Rattle.fm_text.specs.Certificates.{is_sound_factor, is_sound_term, is_sound, within_bound, certificate_polynomial}
use Rattle.fm_text.specs.Factors.{Factor, Number, Power, SignedText, factor_of, onto_term, sign_of_byte, signed_from, signed, after_sign, terms_of}
use Rattle.fm_text.specs.Polynomials.{Rules, term_one, raised, times_factor, unsigned_term, plus_term, written_terms, spelled_polynomial}
use Rattle.fm_words.specs.Steps.{◌>>=◌, steps, place}
use Rattle.fm_text.specs.SumOfTerms.{sum_of_terms, polynomial_of_terms}
use Rattle.fm_text.proofs.TermSums.{sum_is}
use Rattle.fm_text.proofs.Bytes.{is_plain, are_plain, AllAre, all_joined}
use Rattle.fm_text.proofs.FactorsRead.{powers, with_number, powers_read, coefficient_read, coefficient_is_plain}

-- ---- places of names
pub same_name : (m n : Bytes) → same_bytes m n ≡ true → m ≡ n
same_name [] [] h = refl
same_name [] (c ∷ n) h = absurd (let e : false ≡ true = h in cc)
same_name (b ∷ m) [] h = absurd (let e : false ≡ true = h in cc)
same_name (b ∷ m) (c ∷ n) h = ap₂ (λ x y. x ∷ y) (eqb-true b c (and_parts _ _ h).0) (same_name m n (and_parts _ _ h).1)

pub not_before : (o m : Bytes) → (if same_bytes m o then false else true) ≡ true → same_bytes o m ≡ false
not_before o m h = by_test (same_bytes o m) refl
  where
    clash : (if true then false else true) ≡ true → ⊥
    clash e = let f : false ≡ true = e in cc

    by_test : (t : Bool) → same_bytes o m ≡ t → t ≡ false
    by_test false e = refl
    by_test true e = absurd (clash (subst (λ x. (if x then false else true) ≡ true) (subst (λ x. same_bytes m x ≡ true) (sym (same_name o m e)) (same_refl m)) h))

all_at : (p : Bytes → Bool) (front : List Bytes) (m : Bytes) (ms : List Bytes) → list_all p (front ++ m ∷ ms) ≡ true → p m ≡ true
all_at p [] m ms h = (and_parts _ _ h).0
all_at p (o ∷ front) m ms h = all_at p front m ms (and_parts _ _ h).1

place_at : (k : ℕ) (front : List Bytes) (m : Bytes) (ms : List Bytes) → are_names (front ++ m ∷ ms) ≡ true → place k m (front ++ m ∷ ms) ≡ Some (k + length front)
place_at k [] m ms h = ap (λ b. if b then Some k else place (k + 1) m ms) (same_refl m) ∙ ap Some (omega arith)
place_at k (o ∷ front) m ms h =
    let rest = (and_parts _ _ h).1 in
    let other : same_bytes o m ≡ false = not_before o m (all_at (λ x. if same_bytes x o then false else true) front m ms (and_parts _ _ rest).0) in
    ap (λ b. if b then Some k else place (k + 1) m (front ++ m ∷ ms)) other ∙ place_at (k + 1) front m ms (and_parts _ _ rest).1 ∙ ap Some (omega arith)

-- ---- coefficients
residue : (p : Prime) (c : ℕ) → c < prime_value p → (1 * (c % prime_value p)) % prime_value p ≡ c
residue p c h = ap (λ x. x % prime_value p) (once (c % prime_value p)) ∙ ap (λ x. x % prime_value p) (mod-eq_of_lt h) ∙ mod-eq_of_lt h
  where
    once : (x : ℕ) → 1 * x ≡ x
    once x = omega arith

pub prime_small : (p : Prime) (c : ℕ) → c < prime_value p → c < 2 ^ 64
prime_small p c h = let l = prime_in_64_bits p in omega (arith, h, l)

small_test : (c : ℕ) → c < 2 ^ 64 → nat_lt c (2 ^ 64) ≡ true
small_test c h = grind (arith, nat_tests)

-- each exponent is at most the bound
abbrev pub AreAtMost : ℕ → List ℕ → Type 0
AreAtMost bound [] = Unit {0}
AreAtMost bound (e ∷ es) = (e ≤ bound) × AreAtMost bound es

abbrev pub TermsAtMost : ℕ → List Term → Type 0
TermsAtMost bound [] = Unit {0}
TermsAtMost bound (t ∷ ts) = AreAtMost bound t.mono × TermsAtMost bound ts

at_most_below : (bound : ℕ) → bound < 2 ^ 64 → (es : List ℕ) → AreAtMost bound es → AllBelow (2 ^ 64) es
at_most_below bound h [] a = tt
at_most_below bound h (e ∷ es) a = (below e a.0, at_most_below bound h es a.1)
  where
    below : (e : ℕ) → e ≤ bound → e < 2 ^ 64
    below e l = omega (arith, h)

-- ---- lists that are read entry by entry
steps_mapped : {S X Y F : Type 0} (f : S → Y → Result S F) (g : X → Y) (s : S) (xs : List X) → steps (λ u x. f u (g x)) s xs ≡ steps f s (map g xs)
steps_mapped f g s [] = refl
steps_mapped {S = S} {F = F} f g s (x ∷ xs) = by (f s (g x)) (λ t. steps_mapped f g t xs)
  where
    by : (r : Result S F) → ((t : S) → steps (λ u x. f u (g x)) t xs ≡ steps f t (map g xs)) → (r >>= λ t. steps (λ u x. f u (g x)) t xs) ≡ (r >>= λ t. steps f t (map g xs))
    by (Ok t) later = later t
    by (Err e) later = refl

all_mapped : {X Y : Type 0} (p : Y → Bool) (g : X → Y) (xs : List X) → list_all (λ x. p (g x)) xs ≡ list_all p (map g xs)
all_mapped p g [] = refl
all_mapped p g (x ∷ xs) = ap (λ b. p (g x) && b) (all_mapped p g xs)

-- ---- signs
no_minus : (b : ℕ) → is_plain b ≡ true → nat_eq b 45 ≡ false
no_minus b h = grind (arith, nat_tests)

no_blank : (b : ℕ) → is_plain b ≡ true → is_mark Blank b ≡ false
no_blank b h = grind (arith, nat_tests)

abbrev plus : Bytes → SignedText
plus w = record { sign = Plus; text = w }

onto_map : (b : ℕ) (ps : List Bytes) (q : Bytes) (qs : List Bytes) → ps ≡ q ∷ qs → onto_term Plus b (map plus ps) ≡ map plus (onto_first b ps)
onto_map b ps q qs e = ap (λ x. onto_term Plus b (map plus x)) e ∙ sym (ap (λ x. map plus (onto_first b x)) e)

some_part : (c : ℕ) (xs : Bytes) → (q : Bytes) × (qs : List Bytes) × (pieces c xs ≡ q ∷ qs)
some_part c [] = ([], [], refl)
some_part c (x ∷ xs) = by_test (nat_eq x c) (some_part c xs)
  where
    by_test : (t : Bool) → (q : Bytes) × (qs : List Bytes) × (pieces c xs ≡ q ∷ qs)
        → (q : Bytes) × (qs : List Bytes) × (Rattle.std.specs.Prelude.cond t ([] ∷ pieces c xs) (onto_first x (pieces c xs)) ≡ q ∷ qs)
    by_test true h = ([], pieces c xs, refl)
    by_test false h = (x ∷ h.0, h.1, ap (onto_first x) h.2)

signed_pieces : (xs : Bytes) → are_plain xs ≡ true → signed Plus xs ≡ map plus (pieces 43 xs)
signed_pieces [] h = refl
signed_pieces (b ∷ bs) h = by_test (nat_eq b 43) (no_minus b (and_parts _ _ h).0) (signed_pieces bs (and_parts _ _ h).1)
  where
    by_test : (t : Bool) → nat_eq b 45 ≡ false → signed Plus bs ≡ map plus (pieces 43 bs)
        → signed_from Plus b (if t then Some Plus else (if nat_eq b 45 then Some Rattle.fm_text.specs.declared.sign.Sign.TheVariants.Minus else None)) (signed Plus bs) (λ new. signed new bs)
        ≡ map plus (Rattle.std.specs.Prelude.cond t ([] ∷ pieces 43 bs) (onto_first b (pieces 43 bs)))
    by_test true n e = ap (λ x. plus [] ∷ x) e
    by_test false n e =
        ap (λ (x : Bool). signed_from Plus b (if x then Some Rattle.fm_text.specs.declared.sign.Sign.TheVariants.Minus else None) (signed Plus bs) (λ new. signed new bs)) n
        ∙ ap (onto_term Plus b) e ∙ onto_map b (pieces 43 bs) (some_part 43 bs).0 (some_part 43 bs).1 (some_part 43 bs).2

-- a plain text whose first byte is no `+`
terms_at : (b : ℕ) (bs : Bytes) → are_plain (b ∷ bs) ≡ true → nat_eq b 43 ≡ false → terms_of (b ∷ bs) ≡ map plus (pieces 43 (b ∷ bs))
terms_at b bs h n =
    ap (λ (x : Bool). if x then terms_of bs else after_sign (sign_of_byte b) b bs) (no_blank b (and_parts _ _ h).0)
    ∙ ap₂ (λ (x y : Bool). after_sign (if x then Some Plus else (if y then Some Rattle.fm_text.specs.declared.sign.Sign.TheVariants.Minus else None)) b bs) n (no_minus b (and_parts _ _ h).0)
    ∙ signed_pieces (b ∷ bs) h

-- ---- a term
module _ (R : Rules) (h : are_names R.names ≡ true) where
  abbrev pub p : ℕ
  p = prime_value R.ring.prime

  times_known : (front ms : List Bytes) (m : Bytes) (done zeros : List ℕ) (c e : ℕ) → R.names ≡ front ++ m ∷ ms → length done ≡ length front → e ≤ R.bound
      → times_factor R (record { mono = done ++ 0 ∷ zeros; coeff = c }) (Some (Power m e)) ≡ Ok (record { mono = done ++ e ∷ zeros; coeff = c })
  times_known front ms m done zeros c e is long le =
      let found : place 0 m R.names ≡ Some (length done) =
      ap (place 0 m) is ∙ place_at 0 front m ms (ap are_names (sym is) ∙ h) ∙ ap Some (omega (arith, long)) in
      let zero_there : slice_index (done ++ 0 ∷ zeros) (length done) ≡ 0 = let same : length done ≡ length done + 0 = omega arith in ap (λ k. slice_index (done ++ 0 ∷ zeros) k) same ∙ get_or-append-add done (0 ∷ zeros) 0 0 in
      let sum : slice_index (done ++ 0 ∷ zeros) (length done) + e ≡ e = omega (arith, zero_there) in
      let put : slice_set (done ++ 0 ∷ zeros) (length done) e ≡ done ++ e ∷ zeros =
      set-append_right done (0 ∷ zeros) (length done) (length done) e refl (omega arith) ∙ (let none : length done - length done ≡ 0 = omega arith in ap (λ k. done ++ slice_set (0 ∷ zeros) k e) none) in
      ap (λ o. raised R.bound (done ++ 0 ∷ zeros) e o >>= λ a. Ok (record { mono = a; coeff = c })) found
      ∙ ap (λ k. (if nat_le k R.bound then Ok (slice_set (done ++ 0 ∷ zeros) (length done) k) else Err Limit) >>= λ a. Ok (record { mono = a; coeff = c })) sum
      ∙ ap (λ (x : Bool). (if x then Ok (slice_set (done ++ 0 ∷ zeros) (length done) e) else Err Limit) >>= λ a. Ok (record { mono = a; coeff = c })) (le-leb e R.bound le)
      ∙ ap (λ a. Ok (record { mono = a; coeff = c })) put

  moved : (done : List ℕ) (e : ℕ) (es : List ℕ) → (done ++ e ∷ []) ++ es ≡ done ++ e ∷ es
  moved done e es = append_assoc done (e ∷ []) es

  moved_names : (front : List Bytes) (m : Bytes) (ms : List Bytes) → (front ++ m ∷ []) ++ ms ≡ front ++ m ∷ ms
  moved_names front m ms = append_assoc front (m ∷ []) ms

  longer : (done : List ℕ) (e : ℕ) (front : List Bytes) (m : Bytes) → length done ≡ length front → length (done ++ e ∷ []) ≡ length (front ++ m ∷ [])
  longer done e front m l = omega (arith, l, length-append done (e ∷ []), length-append front (m ∷ []))

  times_powers : (front ms : List Bytes) (done es : List ℕ) (c : ℕ) → R.names ≡ front ++ ms → length done ≡ length front → length es ≡ length ms → AreAtMost R.bound es
      → steps (times_factor R) (record { mono = done ++ replicate (length ms) 0; coeff = c }) (map Some (powers ms es)) ≡ Ok (record { mono = done ++ es; coeff = c })
  times_powers front [] done [] c is long fit le = refl
  times_powers front [] done (e ∷ es) c is long fit le = absurd (omega (arith, fit))
  times_powers front (m ∷ ms) done [] c is long fit le = absurd (omega (arith, fit))
  times_powers front (m ∷ ms) done (e ∷ es) c is long fit le =
      by_test (nat_eq e 0) refl (times_powers (front ++ m ∷ []) ms (done ++ e ∷ []) es c (is ∙ sym (moved_names front m ms)) (longer done e front m long) (omega (arith, fit)) le.1)
    where
      by_test : (t : Bool) → nat_eq e 0 ≡ t
          → steps (times_factor R) (record { mono = (done ++ e ∷ []) ++ replicate (length ms) 0; coeff = c }) (map Some (powers ms es)) ≡ Ok (record { mono = (done ++ e ∷ []) ++ es; coeff = c })
          → steps (times_factor R) (record { mono = done ++ 0 ∷ replicate (length ms) 0; coeff = c }) (map Some (if t then powers ms es else (Power m e ∷ powers ms es))) ≡ Ok (record { mono = done ++ e ∷ es; coeff = c })
      by_test true z rest =
          ap (λ a. steps (times_factor R) (record { mono = a; coeff = c }) (map Some (powers ms es))) (ap (λ k. done ++ k ∷ replicate (length ms) 0) (sym (eqb-true e 0 z)) ∙ sym (moved done e (replicate (length ms) 0)))
          ∙ rest ∙ ap (λ a. Ok (record { mono = a; coeff = c })) (moved done e es)
      by_test false z rest =
          ap (λ r. r >>= λ t. steps (times_factor R) t (map Some (powers ms es))) (times_known front ms m done (replicate (length ms) 0) c e is long le.0)
          ∙ ap (λ a. steps (times_factor R) (record { mono = a; coeff = c }) (map Some (powers ms es))) (sym (moved done e (replicate (length ms) 0)))
          ∙ rest ∙ ap (λ a. Ok (record { mono = a; coeff = c })) (moved done e es)

  times_number : (a : List ℕ) (c : ℕ) (fs : List Factor) → c < p → steps (times_factor R) (record { mono = a; coeff = 1 }) (map Some (with_number c fs))
      ≡ steps (times_factor R) (record { mono = a; coeff = c }) (map Some fs)
  times_number a c fs b =
      let number : times_factor R (record { mono = a; coeff = 1 }) (Some (Number c)) ≡ Ok (record { mono = a; coeff = c }) =
      ap (λ (x : Bool). if x then Ok (record { mono = a; coeff = (1 * (c % p)) % p }) else Err Limit) (small_test c (prime_small R.ring.prime c b))
      ∙ ap (λ k. Ok (record { mono = a; coeff = k })) (residue R.ring.prime c b) in
      by fs number
    where
      by : (fs : List Factor) → times_factor R (record { mono = a; coeff = 1 }) (Some (Number c)) ≡ Ok (record { mono = a; coeff = c })
          → steps (times_factor R) (record { mono = a; coeff = 1 }) (map Some (with_number c fs)) ≡ steps (times_factor R) (record { mono = a; coeff = c }) (map Some fs)
      by [] n = ap (λ r. r >>= λ t. Ok t) n
      by (g ∷ gs) n = by_test (nat_eq c 1) refl
        where
          by_test : (t : Bool) → nat_eq c 1 ≡ t → steps (times_factor R) (record { mono = a; coeff = 1 }) (map Some (if t then g ∷ gs else (Number c ∷ g ∷ gs)))
              ≡ steps (times_factor R) (record { mono = a; coeff = c }) (map Some (g ∷ gs))
          by_test true z = ap (λ k. steps (times_factor R) (record { mono = a; coeff = k }) (map Some (g ∷ gs))) (sym (eqb-true c 1 z))
          by_test false z = ap (λ r. r >>= λ t. steps (times_factor R) t (map Some (g ∷ gs))) n

  -- what the text of a term is made of
  pub record IsGoodTerm (t : Term) : Type 0 where
    pub fits : length t.mono ≡ length R.names
    pub low : AreAtMost R.bound t.mono
    pub exponents : AllBelow (2 ^ 64) t.mono
    pub below : t.coeff < p

  abbrev texts : Term → List Bytes
  texts t = with_coefficient t.coeff (factor_texts R.names t.mono)

  term_factors : (t : Term) → IsGoodTerm t → map factor_of (parts Star (term_text R.names (t.mono, t.coeff))) ≡ map Some (with_number t.coeff (powers R.names t.mono))
  unfolding term_text
  term_factors t g =
      let small = prime_small R.ring.prime t.coeff g.below in
      let made = with_coefficient_texts (factor_texts R.names t.mono) t.coeff small (factors_are_texts R.names t.mono h g.exponents) in
      ap (map factor_of) (join_cut 2 42 (omega arith) (texts t) made.1 made.0)
      ∙ coefficient_read (factor_texts R.names t.mono) (powers R.names t.mono) t.coeff small (powers_read R.names t.mono h g.exponents)

  term_read : (t : Term) → IsGoodTerm t → unsigned_term R (term_text R.names (t.mono, t.coeff)) ≡ Ok t
  term_read t g =
      steps_mapped (times_factor R) factor_of (term_one R) (parts Star (term_text R.names (t.mono, t.coeff)))
      ∙ ap (steps (times_factor R) (term_one R)) (term_factors t g)
      ∙ times_number (replicate (length R.names) 0) t.coeff (powers R.names t.mono) g.below
      ∙ times_powers [] R.names [] t.mono t.coeff refl refl g.fits g.low

  one_more : (acc : List Term) (t : Term) → IsGoodTerm t → plus_term R acc (plus (term_text R.names (t.mono, t.coeff))) ≡ Ok (acc ++ t ∷ [])
  one_more acc t g = ap (λ r. (r >>= λ u. Ok (record { mono = u.mono; coeff = u.coeff })) >>= λ u. Ok (acc ++ u ∷ [])) (term_read t g)

  abbrev pub AreGood : List Term → Type 0
  AreGood [] = Unit {0}
  AreGood (t ∷ ts) = IsGoodTerm t × AreGood ts

  terms_written : (acc ts : List Term) → AreGood ts → steps (plus_term R) acc (map plus (map (term_text R.names) (pairs ts))) ≡ Ok (acc ++ ts)
  terms_written acc [] g = ap Ok (sym (append-nil acc))
  terms_written acc (t ∷ ts) g =
      ap (λ r. r >>= λ us. steps (plus_term R) us (map plus (map (term_text R.names) (pairs ts)))) (one_more acc t g.0)
      ∙ terms_written (acc ++ t ∷ []) ts g.1 ∙ ap Ok (append_assoc acc (t ∷ []) ts)

  -- ---- texts of terms
  text_is : (t : Term) → IsGoodTerm t → IsText 3 (term_text R.names (t.mono, t.coeff)) × (are_plain (term_text R.names (t.mono, t.coeff)) ≡ true)
  unfolding term_text
  text_is t g =
      let small = prime_small R.ring.prime t.coeff g.below in
      let made = with_coefficient_texts (factor_texts R.names t.mono) t.coeff small (factors_are_texts R.names t.mono h g.exponents) in (
        joined_text 3 42 (omega arith) (texts t) made.1 (texts_more 2 3 (omega arith) (texts t) made.0),
        all_joined is_plain 42 refl (texts t) (coefficient_is_plain R.names t.mono t.coeff h g.exponents small),
      )

  texts_are : (ts : List Term) → AreGood ts → AreTexts 3 (map (term_text R.names) (pairs ts)) × AllAre is_plain (map (term_text R.names) (pairs ts))
  texts_are [] g = (tt, tt)
  texts_are (t ∷ ts) g = (((text_is t g.0).0, (texts_are ts g.1).0), ((text_is t g.0).1, (texts_are ts g.1).1))

  poly_plain : (ts : List Term) → AreGood ts → are_plain (poly_text R.names (pairs ts)) ≡ true
  unfolding poly_text
  poly_plain [] g = refl
  poly_plain (t ∷ ts) g = all_joined is_plain 43 refl (map (term_text R.names) (pairs (t ∷ ts))) (texts_are (t ∷ ts) g).1

  begins : (text : Bytes) → are_plain text ≡ true → IsText 3 text → (rest : Bytes) → are_plain (text ++ rest) ≡ true → terms_of (text ++ rest) ≡ map plus (pieces 43 (text ++ rest))
  begins [] a b rest c = absurd (omega (arith, b.some))
  begins (x ∷ xs) a b rest c = terms_at x (xs ++ rest) c (low x b.within.0)
    where
      low : (x : ℕ) → level x < 3 → nat_eq x 43 ≡ false
      low x l = Rattle.fm_words.proofs.Cutting.differs 3 x 43 (omega arith) l

  some_terms : (t : Term) (ts : List Term) → AreGood (t ∷ ts) → terms_of (poly_text R.names (pairs (t ∷ ts))) ≡ map plus (map (term_text R.names) (pairs (t ∷ ts)))
  unfolding poly_text
  some_terms t ts g = by ts g (texts_are (t ∷ ts) g) (poly_plain (t ∷ ts) g)
    where
      by : (ts : List Term) → AreGood (t ∷ ts) → AreTexts 3 (map (term_text R.names) (pairs (t ∷ ts))) × AllAre is_plain (map (term_text R.names) (pairs (t ∷ ts)))
          → are_plain (poly_text R.names (pairs (t ∷ ts))) ≡ true → terms_of (poly_text R.names (pairs (t ∷ ts))) ≡ map plus (map (term_text R.names) (pairs (t ∷ ts)))
      by [] g w a =
          ap terms_of (sym (append-nil (term_text R.names (t.mono, t.coeff))))
          ∙ begins (term_text R.names (t.mono, t.coeff)) w.1.0 w.0.0 [] (ap are_plain (append-nil (term_text R.names (t.mono, t.coeff))) ∙ a)
          ∙ ap (λ x. map plus (pieces 43 x)) (append-nil (term_text R.names (t.mono, t.coeff)))
          ∙ ap (map plus) (join_cut 3 43 (omega arith) (map (term_text R.names) (pairs (t ∷ []))) (record { first = term_text R.names (t.mono, t.coeff); more = []; is = refl }) w.0)
      by (u ∷ us) g w a =
          begins (term_text R.names (t.mono, t.coeff)) w.1.0 w.0.0 (43 ∷ join_with_byte 43 (map (term_text R.names) (pairs (u ∷ us)))) a
          ∙ ap (map plus) (join_cut 3 43 (omega arith) (map (term_text R.names) (pairs (t ∷ u ∷ us))) (record { first = term_text R.names (t.mono, t.coeff); more = map (term_text R.names) (pairs (u ∷ us)); is = refl }) w.0)

  some_written : (t : Term) (ts : List Term) → AreGood (t ∷ ts) → written_terms R (poly_text R.names (pairs (t ∷ ts))) ≡ Ok (t ∷ ts)
  some_written t ts g = ap (steps (plus_term R) []) (some_terms t ts g) ∙ terms_written [] (t ∷ ts) g

  zero_written : written_terms R (poly_text R.names []) ≡ Ok (record { mono = replicate (length R.names) 0; coeff = 0 } ∷ [])
  unfolding poly_text
  zero_written = ap (λ k. Ok (record { mono = replicate (length R.names) 0; coeff = k } ∷ [])) (residue R.ring.prime 0 (prime_positive R.ring.prime))

  -- ---- form
  power_sound : (front ms : List Bytes) (es : List ℕ) → R.names ≡ front ++ ms → list_all (is_sound_factor R.names) (map Some (powers ms es)) ≡ true
  power_sound front [] es is = refl
  power_sound front (m ∷ ms) [] is = refl
  power_sound front (m ∷ ms) (e ∷ es) is = by_test (nat_eq e 0) (power_sound (front ++ m ∷ []) ms es (is ∙ sym (moved_names front m ms)))
    where
      there : is_some (place 0 m R.names) ≡ true
      there = ap (λ ns. is_some (place 0 m ns)) is ∙ ap is_some (place_at 0 front m ms (ap are_names (sym is) ∙ h))

      by_test : (t : Bool) → list_all (is_sound_factor R.names) (map Some (powers ms es)) ≡ true
          → list_all (is_sound_factor R.names) (map Some (if t then powers ms es else (Power m e ∷ powers ms es))) ≡ true
      by_test true rest = rest
      by_test false rest = and_from _ _ there rest

  number_sound : (c : ℕ) (fs : List Factor) → c < 2 ^ 64 → list_all (is_sound_factor R.names) (map Some fs) ≡ true → list_all (is_sound_factor R.names) (map Some (with_number c fs)) ≡ true
  number_sound c [] b e = and_from _ _ (small_test c b) refl
  number_sound c (g ∷ gs) b e = by_test (nat_eq c 1)
    where
      by_test : (t : Bool) → list_all (is_sound_factor R.names) (map Some (if t then g ∷ gs else (Number c ∷ g ∷ gs))) ≡ true
      by_test true = e
      by_test false = and_from _ _ (small_test c b) e

  term_sound : (t : Term) → IsGoodTerm t → is_sound_term R.names (term_text R.names (t.mono, t.coeff)) ≡ true
  term_sound t g =
      all_mapped (is_sound_factor R.names) factor_of (parts Star (term_text R.names (t.mono, t.coeff)))
      ∙ ap (list_all (is_sound_factor R.names)) (term_factors t g)
      ∙ number_sound t.coeff (powers R.names t.mono) (prime_small R.ring.prime t.coeff g.below) (power_sound [] R.names t.mono refl)

  terms_sound : (ts : List Term) → AreGood ts → list_all (λ t. is_sound_term R.names t.text) (map plus (map (term_text R.names) (pairs ts))) ≡ true
  terms_sound [] g = refl
  terms_sound (t ∷ ts) g = and_from _ _ (term_sound t g.0) (terms_sound ts g.1)

  none_blank : (xs : Bytes) → are_plain xs ≡ true → list_any (is_mark Blank) xs ≡ false
  none_blank [] a = refl
  none_blank (x ∷ xs) a = ap₂ (λ (s t : Bool). s || t) (no_blank x (and_parts _ _ a).0) (none_blank xs (and_parts _ _ a).1)

  zero_sound : is_sound R.names (poly_text R.names []) ≡ true
  unfolding poly_text
  zero_sound = refl

  pub sound_text : (ts : List Term) → AreGood ts → is_sound R.names (poly_text R.names (pairs ts)) ≡ true
  sound_text [] g = zero_sound
  sound_text (t ∷ ts) g =
      and_from _ _ (ap not (none_blank (poly_text R.names (pairs (t ∷ ts))) (poly_plain (t ∷ ts) g)))
      (ap (list_all (λ u. is_sound_term R.names u.text)) (some_terms t ts g) ∙ terms_sound (t ∷ ts) g)

  -- ---- whole polynomials

  good_terms : (ts : List Term) → AreListedTerms R.ring.prime R.ring.vars (pairs ts) → length R.names ≡ R.ring.vars → TermsAtMost R.bound ts → R.bound < 2 ^ 64 → AreGood ts
  good_terms [] c l a b = tt
  good_terms (t ∷ ts) c l a b = (record { fits = c.0 ∙ sym l; low = a.0; exponents = at_most_below R.bound b t.mono a.0; below = c.2 }, good_terms ts c.3 l a.1 b)

  terms_fit : (ts : List Term) → AreListedTerms R.ring.prime R.ring.vars (pairs ts) → All (IsTermOf R.ring) ts
  terms_fit [] c = All-nil (IsTermOf R.ring)
  terms_fit (t ∷ ts) c = All-cons (IsTermOf R.ring) t ts (record { fits = c.0; below = c.2 }) (terms_fit ts c.3)

  summed : (ts : List Term) → IsCanonical R.ring ts → polynomial_of_terms R.ring ts ≡ record { ring = R.ring; terms = ts }
  summed ts c = sym (sum_is R.ring (record { ring = R.ring; terms = ts }) ts refl c refl (terms_fit ts c.listed))

  zero_summed : polynomial_of_terms R.ring (record { mono = replicate (length R.names) 0; coeff = 0 } ∷ []) ≡ record { ring = R.ring; terms = [] }
  unfolding sum_of_terms
  zero_summed = refl

  -- the polynomial of a printed text, however its written terms are summed
  spelled : {A : Type 0} (f : Result (List Term) TextFault → A) (g : PolyValue → A) → ((us : List Term) → f (Ok us) ≡ g (polynomial_of_terms R.ring us))
      → (ts : List Term) → IsCanonical R.ring ts → AreGood ts → f (written_terms R (poly_text R.names (pairs ts))) ≡ g (record { ring = R.ring; terms = ts })
  spelled f g same [] c a = ap f zero_written ∙ same _ ∙ ap g zero_summed
  spelled f g same (t ∷ ts) c a = ap f (some_written t ts a) ∙ same (t ∷ ts) ∙ ap g (summed (t ∷ ts) c)

  -- a printed polynomial is spelled by its text, as that of a problem
  pub polynomial_spelled : (ts : List Term) → IsCanonical R.ring ts → length R.names ≡ R.ring.vars → TermsAtMost R.bound ts → R.bound < 2 ^ 64
      → spelled_polynomial R (poly_text R.names (pairs ts)) ≡ Ok (record { ring = R.ring; terms = ts })
  polynomial_spelled ts c l a b = spelled (λ r. r >>= λ us. Ok (polynomial_of_terms R.ring us)) Ok (λ us. refl) ts c (good_terms ts c.listed l a b)

  -- the text has the form of a polynomial, and no mark but those of polynomials
  pub sound_poly : (ts : List Term) → IsCanonical R.ring ts → length R.names ≡ R.ring.vars → TermsAtMost R.bound ts → R.bound < 2 ^ 64 → is_sound R.names (poly_text R.names (pairs ts)) ≡ true
  sound_poly ts c l a b = sound_text ts (good_terms ts c.listed l a b)

  pub plain_poly : (ts : List Term) → IsCanonical R.ring ts → length R.names ≡ R.ring.vars → TermsAtMost R.bound ts → R.bound < 2 ^ 64 → are_plain (poly_text R.names (pairs ts)) ≡ true
  plain_poly ts c l a b = poly_plain ts (good_terms ts c.listed l a b)

-- ---- polynomials of certificates
abbrev pub certificate_rules : Ring → List Bytes → Rules
certificate_rules r names = record { ring = r; names = names; bound = exponent_bound }

pub bounded_at_most : (es : List ℕ) → is_bounded es ≡ true → AreAtMost exponent_bound es
bounded_at_most [] h = tt
bounded_at_most (e ∷ es) h = (leb-true e exponent_bound (and_parts _ _ h).0, bounded_at_most es (and_parts _ _ h).1)

pub terms_at_most : (ts : List Term) → AreWithinBound (pairs ts) → TermsAtMost exponent_bound ts
terms_at_most [] h = tt
terms_at_most (t ∷ ts) h = (bounded_at_most t.mono h.0, terms_at_most ts h.1)

pub polynomial_read : (r : Ring) (names : List Bytes) (ts : List Term) → AreNames names → length names ≡ r.vars → IsCanonical r ts → AreWithinBound (pairs ts)
    → certificate_polynomial r names (poly_text names (pairs ts)) ≡ Ok (record { ring = r; terms = ts })
unfolding AreNames certificate_polynomial
polynomial_read r names ts h l c w =
    let R = certificate_rules r names in
    let low = terms_at_most ts w in
    ap (λ (b : Bool). if b then within_bound r (written_terms R (poly_text names (pairs ts))) else Err Form) (sound_poly R h ts c l low (omega arith))
    ∙ spelled R h (within_bound r) Ok (λ us. refl) ts c (good_terms R h ts c.listed l low (omega arith))

pub polynomial_is_plain : (r : Ring) (names : List Bytes) (ts : List Term) → AreNames names → length names ≡ r.vars → IsCanonical r ts → AreWithinBound (pairs ts)
    → are_plain (poly_text names (pairs ts)) ≡ true
unfolding AreNames
polynomial_is_plain r names ts h l c w = plain_poly (certificate_rules r names) h ts c l (terms_at_most ts w) (omega arith)
