-- The head of a report and its questions are read back.
use Rattle.std.proofs.Common.{◌≡◌, ◌≢◌, ℕ, zero, suc, ◌+◌, ◌^◌, ◌<◌, ◌≤◌, Bool, true, false, ◌&&◌, if◌then◌else◌, nat_lt, nat_le, List, [], ◌∷◌, ◌++◌, map, length, slice_get, Option, Some, None, is_some, Result, Ok, Err, All, refl, sym, ap, ap₂, ◌∙◌, subst, arith, append_assoc, length-append, append-nil}
use Rattle.std.specs.List.{list_all}
use Rattle.std.proofs.lemmas.Bool.{and_parts, and_from, le-leb, lt-ltb, leb-true}
use Rattle.std.proofs.lemmas.Bool.Decides.{nat_tests}
use Rattle.std.proofs.lemmas.List.Elements.{All-head, All-tail}
use Rattle.std.proofs.lemmas.List.{map-append}
use Rattle.fm_gfp.specs.Primes.{prime_value}
use Rattle.fm_gfp.specs.declared.prime.Prime.{Prime}
use Rattle.fm_gfp.proofs.Residues.{prime_of_value}
use Rattle.fm_poly.specs.Polys.{PolyValue, IsCanonical, pairs}
use Rattle.fm_words.specs.Words.{AreNames, is_name, same_bytes}
use Rattle.fm_poly.specs.Bounds.{AreWithinBound}
use Rattle.fm_text.specs.Texts.{poly_text}
use Rattle.fm_poly.specs.declared.ring.Ring.{Ring}
use Rattle.fm_poly.specs.declared.term.Term.{Term}
use Rattle.fm_text.proofs.PrintedFactors.{same_refl}
use Rattle.fm_words.specs.Parts.{Bytes, parts}
use Rattle.fm_words.specs.declared.mark.Mark.TheVariants.{Star}
use Rattle.fm_problem.specs.declared.fault_kind.FaultKind.{FaultKind}
use Rattle.fm_problem.specs.declared.fault_kind.FaultKind.TheVariants.{UnknownName, Repeated, Range, NotPrime, Limit}
use Rattle.fm_problem.specs.Limits.{most_variables, longest_name, most_ideals, most_generators, greatest_stage, greatest_exponent}
use Rattle.fm_problem.specs.declared.ideal.Ideal.{Ideal}
use Rattle.fm_problem.specs.declared.problem.Problem.{Problem}
use Rattle.fm_problem.specs.declared.query.Query.{Query}
use Rattle.fm_problem.specs.declared.query.Query as queries
use Rattle.fm_words.specs.Steps.{◌>>=◌, steps, or_fault, place}
use Rattle.fm_text.specs.Factors.{Factor, SignedText, factor_of, terms_of, is_term}
use Rattle.fm_text.specs.Certificates.{is_sound_factor, is_sound_term}
use Rattle.fm_text.specs.Polynomials.{Rules}
use Rattle.fm_problem.specs.Problems.{polynomial_in, plus_name, bare, ring_of, rules_of, Generators, unless_empty, unless_zero, plus_generator, generators_in, ideal_names, plus_ideal, with_ideal, degree_in, ideal_in, stage_in, plus_entry, vector_in, module_query, query_in}
use Rattle.fm_problem.specs.Faults.{on_line}
use Rattle.fm_problem.specs.Statements.{RingLine, ModuleLine}
use Rattle.fm_text.specs.SumOfTerms.{IsPolynomialOf}
use Rattle.fm_problem.specs.Sound.{IsShortName, IsAbsent, AreApart, IsIdealOf, IsQueryOf, IsProblem, are_small, AreSmallTerms, AreSmall, IsSmallQuery, HasSmallExponents}
use Rattle.fm_problem.proofs.PrintedNames.{variables_are_names}
use Rattle.fm_mono.specs.Bounded.{exponent_bound, is_bounded}
use Rattle.fm_problem.specs.declared.keyword.Question.{Question}
use Rattle.fm_problem.specs.declared.keyword.Question as questions
use Rattle.fm_cert.specs.Writable.{is_poly_byte, is_spelled, is_word, IsWritablePolynomial, IsWritableStatement}
use Rattle.fm_text.proofs.Bytes.{is_plain, all_weaker}
use Rattle.fm_cert.proofs.WordsRead.{polynomial_is_word}
use Rattle.fm_text.proofs.PolynomialsRead.{AreAtMost, TermsAtMost, same_name, polynomial_spelled, sound_poly, plain_poly}
use Rattle.fm_cert.specs.Questions.{generator_texts, name_of, name_at, text_of, question_line}
use Rattle.fm_report.specs.Reports.{begun}

-- ---- names
other : (o m : Bytes) → m ≢ o → same_bytes o m ≡ false
other o m n = by (same_bytes o m) refl
  where
    by : (t : Bool) → same_bytes o m ≡ t → t ≡ false
    by false e = refl
    by true e = absurd (n (sym (same_name o m e)))

absent_at : (o : Bytes) (front : List Bytes) (m : Bytes) (back : List Bytes) → IsAbsent o (front ++ m ∷ back) → m ≢ o
absent_at o [] m back a = a.0
absent_at o (p ∷ front) m back a = absent_at o front m back a.1

-- a name that stands later has no place before
not_placed : (k : ℕ) (front : List Bytes) (m : Bytes) (back : List Bytes) → AreApart (front ++ m ∷ back) → place k m front ≡ None
not_placed k [] m back a = refl
not_placed k (o ∷ front) m back a =
    ap (λ (t : Bool). if t then Some k else place (k + 1) m front) (other o m (absent_at o front m back a.0)) ∙ not_placed (k + 1) front m back a.1

grown : (front : List Bytes) (m : Bytes) (ms : List Bytes) → (front ++ m ∷ []) ++ ms ≡ front ++ m ∷ ms
grown front m ms = append_assoc front (m ∷ []) ms

name_added : (front : List Bytes) (m : Bytes) (back : List Bytes) → AreApart (front ++ m ∷ back) → IsShortName m → length (front ++ m ∷ back) ≤ most_variables → plus_name front m ≡ Ok (front ++ m ∷ [])
name_added front m back a s few =
    ap (λ o. if is_some o then Err Repeated else (if nat_lt (length front) most_variables && nat_le (length m) longest_name then Ok (front ++ m ∷ []) else Err Limit)) (not_placed 0 front m back a)
    ∙ ap (λ (t : Bool). if t then Ok (front ++ m ∷ []) else Err Limit) (and_from _ _ (lt-ltb (length front) most_variables (omega (arith, few, length-append front (m ∷ back)))) (le-leb (length m) longest_name s.short))

names_added : (front back : List Bytes) → AreApart (front ++ back) → All IsShortName back → length (front ++ back) ≤ most_variables → steps plus_name front back ≡ Ok (front ++ back)
names_added front [] a s few = ap Ok (sym (append-nil front))
names_added front (m ∷ ms) a s few =
    ap (λ r. r >>= λ vs. steps plus_name vs ms) (name_added front m ms a (All-head IsShortName m ms s) few)
    ∙ names_added (front ++ m ∷ []) ms (subst AreApart (sym (grown front m ms)) a) (All-tail IsShortName m ms s) (subst (λ vs. length vs ≤ most_variables) (sym (grown front m ms)) few)
    ∙ ap Ok (grown front m ms)

pub ring_read : (p : Prime) (vs : List Bytes) → AreApart vs → All IsShortName vs → length vs ≤ most_variables → ring_of (Some (RingLine (prime_value p) vs)) ≡ Ok (bare p vs)
ring_read p vs a s few =
    ap (λ o. or_fault NotPrime o >>= λ x. (steps plus_name [] vs >>= λ us. Ok (bare x us))) (prime_of_value p) ∙ ap (λ r. r >>= λ us. Ok (bare p us)) (names_added [] vs a s few)

-- ---- polynomials
low_exponents : (es : List ℕ) → are_small es ≡ true → AreAtMost greatest_exponent es
low_exponents [] h = tt
low_exponents (e ∷ es) h = (leb-true e greatest_exponent (and_parts _ _ h).0, low_exponents es (and_parts _ _ h).1)

pub low_terms : (ts : List Term) → AreSmallTerms ts → TermsAtMost greatest_exponent ts
low_terms [] h = tt
low_terms (t ∷ ts) h = (low_exponents t.mono h.0, low_terms ts h.1)

module _ (r : Ring) (vs : List Bytes) (h : AreNames vs) (l : length vs ≡ r.vars) where
  abbrev rules : Rules
  rules = record { ring = r; names = vs; bound = greatest_exponent }

  abbrev text : PolyValue → Bytes
  text f = poly_text vs (pairs f.terms)

  pub spelled : (f : PolyValue) → IsPolynomialOf r f → AreSmallTerms f.terms → polynomial_in rules (text f) ≡ Ok f
  unfolding AreNames
  spelled f s small =
      ap on_line (polynomial_spelled rules h f.terms (let P : Ring → Type 0 = λ x. IsCanonical r f.terms in s.canonical) l (low_terms f.terms small) (omega arith)) ∙ ap (λ x. Ok (record { ring = x; terms = f.terms })) (sym s.of_ring)

  empty_canonical : IsCanonical r []
  empty_canonical = record { listed = tt; falls = tt }

  zero_spelled : polynomial_in rules (poly_text vs []) ≡ Ok (record { ring = r; terms = [] })
  unfolding AreNames
  zero_spelled = ap on_line (polynomial_spelled rules h [] empty_canonical l tt (omega arith))

  -- a blank before the text changes nothing
  after_blank : (t : Bytes) → polynomial_in rules (32 ∷ t) ≡ polynomial_in rules t
  after_blank t = refl

  kept_more : (kept : List PolyValue) (f : PolyValue) (ts : List Term) → ts ≢ [] → unless_empty kept f ts ≡ kept ++ f ∷ []
  kept_more kept f [] n = absurd (n refl)
  kept_more kept f (t ∷ ts) n = refl

  generators_added : (front fs : List PolyValue) → All (IsPolynomialOf r) fs → All (λ (f : PolyValue). f.terms ≢ []) fs → AreSmall fs → length front + length fs ≤ most_generators
      → steps (plus_generator rules) (record { written = length front; kept = front }) (map (λ (g : PolyValue). 32 ∷ text g) fs) ≡ Ok (record { written = length front + length fs; kept = front ++ fs })
  generators_added front [] s n small few = ap₂ (λ w k. Ok (record { written = w; kept = k })) (omega arith) (sym (append-nil front))
  generators_added front (f ∷ fs) s n small few =
      let one : plus_generator rules (record { written = length front; kept = front }) (32 ∷ text f) ≡ Ok (record { written = length (front ++ f ∷ []); kept = front ++ f ∷ [] }) =
      ap (λ (t : Bool). if t then (polynomial_in rules (32 ∷ text f) >>= λ g. Ok (record { written = length front + 1; kept = unless_zero front g })) else Err Limit) (lt-ltb (length front) most_generators (omega (arith, few)))
      ∙ ap (λ x. x >>= λ g. Ok (record { written = length front + 1; kept = unless_zero front g })) (spelled f (All-head (IsPolynomialOf r) f fs s) small.0)
      ∙ ap₂ (λ w k. Ok (record { written = w; kept = k })) (sym (length-append front (f ∷ []))) (kept_more front f f.terms (All-head (λ (g : PolyValue). g.terms ≢ []) f fs n)) in
      ap (λ x. x >>= λ t. steps (plus_generator rules) t (map (λ (g : PolyValue). 32 ∷ text g) fs)) one
      ∙ generators_added (front ++ f ∷ []) fs (All-tail (IsPolynomialOf r) f fs s) (All-tail (λ (g : PolyValue). g.terms ≢ []) f fs n) small.1 (omega (arith, few, length-append front (f ∷ [])))
      ∙ ap₂ (λ w k. Ok (record { written = w; kept = k })) (omega (arith, length-append front (f ∷ []))) (append_assoc front (f ∷ []) fs)

  zero_added : plus_generator rules (record { written = 0; kept = [] }) (32 ∷ poly_text vs []) ≡ Ok (record { written = 1; kept = [] })
  zero_added =
      let add : Result PolyValue FaultKind → Result Generators FaultKind = λ x. x >>= λ f. Ok (record { written = 1; kept = unless_zero [] f }) in
      ap add zero_spelled

  pub generators_read : (fs : List PolyValue) → All (IsPolynomialOf r) fs → All (λ (f : PolyValue). f.terms ≢ []) fs → AreSmall fs → length fs ≤ most_generators
      → generators_in rules (generator_texts vs fs) ≡ Ok fs
  generators_read [] s n small few =
      let finish : Result Generators FaultKind → Result (List PolyValue) FaultKind = λ x. (x >>= λ t. steps (plus_generator rules) t []) >>= λ g. Ok g.kept in
      ap finish zero_added
  generators_read (f ∷ fs) s n small few = ap (λ x. x >>= λ g. Ok g.kept) (generators_added [] (f ∷ fs) s n small (omega (arith, few)))

  entries_added : (front zs : List PolyValue) → All (IsPolynomialOf r) zs → AreSmall zs → steps (plus_entry rules) front (map text zs) ≡ Ok (front ++ zs)
  entries_added front [] s small = ap Ok (sym (append-nil front))
  entries_added front (z ∷ zs) s small =
      ap (λ x. (x >>= λ f. Ok (front ++ f ∷ [])) >>= λ fs. steps (plus_entry rules) fs (map text zs)) (spelled z (All-head (IsPolynomialOf r) z zs s) small.0)
      ∙ entries_added (front ++ z ∷ []) zs (All-tail (IsPolynomialOf r) z zs s) small.1 ∙ ap Ok (append_assoc front (z ∷ []) zs)

  pub vector_read : (zs : List PolyValue) → All (IsPolynomialOf r) zs → AreSmall zs → vector_in rules (map text zs) ≡ Ok zs
  vector_read zs s small = entries_added [] zs s small

  -- ---- form
  factor_form : (o : Option Factor) → is_sound_factor vs o ≡ true → is_some o ≡ true
  factor_form None e = absurd (let f : false ≡ true = e in cc)
  factor_form (Some f) e = refl

  term_form : (fs : List Bytes) → list_all (λ f. is_sound_factor vs (factor_of f)) fs ≡ true → list_all (λ f. is_some (factor_of f)) fs ≡ true
  term_form [] e = refl
  term_form (f ∷ fs) e = and_from _ _ (factor_form (factor_of f) (and_parts _ _ e).0) (term_form fs (and_parts _ _ e).1)

  terms_form : (ts : List SignedText) → list_all (λ t. is_sound_term vs t.text) ts ≡ true → list_all (λ t. is_term t.text) ts ≡ true
  terms_form [] e = refl
  terms_form (t ∷ ts) e = and_from _ _ (term_form (parts Star t.text) (and_parts _ _ e).0) (terms_form ts (and_parts _ _ e).1)

  plain_byte : (b : ℕ) → is_plain b ≡ true → is_poly_byte b ≡ true
  plain_byte b e = grind (arith, nat_tests)

  pub spelled_text : (f : PolyValue) → IsPolynomialOf r f → AreSmallTerms f.terms → is_spelled (text f) ≡ true
  unfolding AreNames
  spelled_text f s small =
      and_from _ _ (terms_form (terms_of (text f)) (and_parts _ _ (sound_poly rules h f.terms s.canonical l (low_terms f.terms small) (omega arith))).1)
      (all_weaker is_plain is_poly_byte plain_byte (text f) (plain_poly rules h f.terms s.canonical l (low_terms f.terms small) (omega arith)))

  zero_text : is_spelled (32 ∷ poly_text vs []) ≡ true
  unfolding poly_text
  zero_text = refl

  blank_spelled : (t : Bytes) → is_spelled t ≡ true → is_spelled (32 ∷ t) ≡ true
  blank_spelled t e = e

  blanks_spelled : (fs : List PolyValue) → All (IsPolynomialOf r) fs → AreSmall fs → list_all is_spelled (map (λ (g : PolyValue). 32 ∷ text g) fs) ≡ true
  blanks_spelled [] s small = refl
  blanks_spelled (f ∷ fs) s small = and_from _ _ (blank_spelled (text f) (spelled_text f (All-head (IsPolynomialOf r) f fs s) small.0)) (blanks_spelled fs (All-tail (IsPolynomialOf r) f fs s) small.1)

  pub generators_spelled : (fs : List PolyValue) → All (IsPolynomialOf r) fs → AreSmall fs → (0 < length (generator_texts vs fs)) × (list_all is_spelled (generator_texts vs fs) ≡ true)
  generators_spelled [] s small = (omega arith, and_from _ _ zero_text refl)
  generators_spelled (f ∷ fs) s small = (omega arith, blanks_spelled (f ∷ fs) s small)

  small_within : (es : List ℕ) → are_small es ≡ true → is_bounded es ≡ true
  small_within [] e = refl
  small_within (x ∷ es) e = and_from _ _ (le-leb x exponent_bound (raise x (leb-true x greatest_exponent (and_parts _ _ e).0))) (small_within es (and_parts _ _ e).1)
    where
      raise : (x : ℕ) → x ≤ greatest_exponent → x ≤ exponent_bound
      raise x b = omega (arith, b)

  terms_within : (ts : List Term) → AreSmallTerms ts → AreWithinBound (pairs ts)
  terms_within [] e = tt
  terms_within (t ∷ ts) e = (small_within t.mono e.0, terms_within ts e.1)

  pub writable_polynomial : (f : PolyValue) → IsPolynomialOf r f → AreSmallTerms f.terms → IsWritablePolynomial r f
  writable_polynomial f s small = record { of_ring = s.of_ring; canonical = s.canonical; within = terms_within f.terms small }

  pub word_text : (f : PolyValue) → IsPolynomialOf r f → AreSmallTerms f.terms → is_word (text f) ≡ true
  word_text f s small = polynomial_is_word r vs h l f (writable_polynomial f s small)

  pub texts_spelled : (zs : List PolyValue) → All (IsPolynomialOf r) zs → AreSmall zs → (list_all is_spelled (map text zs) ≡ true) × (list_all is_word (map text zs) ≡ true)
  texts_spelled [] s small = (refl, refl)
  texts_spelled (z ∷ zs) s small =
      let first = All-head (IsPolynomialOf r) z zs s in
      let rest = texts_spelled zs (All-tail (IsPolynomialOf r) z zs s) small.1 in
      (and_from _ _ (spelled_text z first small.0) rest.0, and_from _ _ (word_text z first small.0) rest.1)

-- ---- ideals
module _ (q : Problem) (sound : IsProblem q) (small : HasSmallExponents q) where
  pub named : AreNames q.vars
  named = variables_are_names q sound

  pub ideal_read : (front back : List Ideal) (a : Ideal) → q.ideals ≡ front ++ a ∷ back → IsIdealOf q.ring a → AreSmall a.generators
      → with_ideal (begun q front) a.name (generator_texts q.vars a.generators) ≡ Ok (begun q (front ++ a ∷ []))
  ideal_read front back a is good low =
      let few : length front < most_ideals = omega (arith, sound.bounded.few_ideals, ap length is, length-append front (a ∷ back)) in
      let names_are : map (λ (x : Ideal). x.name) q.ideals ≡ map (λ (x : Ideal). x.name) front ++ a.name ∷ map (λ (x : Ideal). x.name) back =
      ap (map (λ (x : Ideal). x.name)) is ∙ map-append (λ (x : Ideal). x.name) front (a ∷ back) in
      let fresh : place 0 a.name (map (λ (x : Ideal). x.name) front) ≡ None =
      not_placed 0 (map (λ (x : Ideal). x.name) front) a.name (map (λ (x : Ideal). x.name) back) (subst AreApart names_are sound.ideals_apart) in
      let gens : Result (List PolyValue) FaultKind = generators_in (rules_of (begun q front)) (generator_texts q.vars a.generators) in
      ap (λ (t : Bool). if t then (if is_some (place 0 a.name (ideal_names (begun q front))) then Err Repeated
      else (if nat_le (length a.name) longest_name then (gens >>= λ fs. Ok (plus_ideal (begun q front) a.name fs)) else Err Limit)) else Err Limit) (lt-ltb (length front) most_ideals few)
      ∙ ap (λ o. if is_some o then Err Repeated else (if nat_le (length a.name) longest_name then (gens >>= λ fs. Ok (plus_ideal (begun q front) a.name fs)) else Err Limit)) fresh
      ∙ ap (λ (t : Bool). if t then (gens >>= λ fs. Ok (plus_ideal (begun q front) a.name fs)) else Err Limit) (le-leb (length a.name) longest_name good.named.short)
      ∙ ap (λ x. x >>= λ fs. Ok (plus_ideal (begun q front) a.name fs)) (generators_read q.ring q.vars named sound.bounded.named a.generators good.of_ring good.nonzero low good.few)

  -- ---- questions
  abbrev pub without_queries : Problem
  without_queries = begun q q.ideals

  found_at : (k j : ℕ) (front back : List Ideal) (a : Ideal) → AreApart (map (λ (x : Ideal). x.name) (front ++ a ∷ back)) → place k a.name (map (λ (x : Ideal). x.name) (front ++ a ∷ back)) ≡ Some (k + length front)
  found_at k j [] back a apart = ap (λ (t : Bool). if t then Some k else place (k + 1) a.name (map (λ (x : Ideal). x.name) back)) (same_refl a.name) ∙ ap Some (omega arith)
  found_at k j (b ∷ front) back a apart =
      let differs : a.name ≢ b.name = absent_at b.name (map (λ (x : Ideal). x.name) front) a.name (map (λ (x : Ideal). x.name) back)
      (subst (IsAbsent b.name) (map-append (λ (x : Ideal). x.name) front (a ∷ back)) apart.0) in
      ap (λ (t : Bool). if t then Some k else place (k + 1) a.name (map (λ (x : Ideal). x.name) (front ++ a ∷ back))) (other b.name a.name differs)
      ∙ found_at (k + 1) j front back a apart.1 ∙ ap Some (omega arith)

  -- an ideal by its number, with those before it and those after it
  record At (is : List Ideal) (k : ℕ) : Type 0 where
    front : List Ideal
    entry : Ideal
    back : List Ideal
    whole : is ≡ front ++ entry ∷ back
    counted : length front ≡ k
    got : slice_get is k ≡ Some entry

  at : (is : List Ideal) (k : ℕ) → k < length is → At is k
  at [] k b = absurd (omega (arith, b))
  at (a ∷ is) zero b = record { front = []; entry = a; back = is; whole = refl; counted = refl; got = refl }
  at (a ∷ is) (suc k) b =
      let rest = at is k (omega (arith, b)) in
      record { front = a ∷ rest.front; entry = rest.entry; back = rest.back; whole = ap (λ x. a ∷ x) rest.whole; counted = ap suc rest.counted; got = rest.got }

  pub ideal_found : (k : ℕ) → k < length q.ideals → ideal_in without_queries (name_at q k) ≡ Ok k
  ideal_found k b =
      let a = at q.ideals k b in
      let apart : AreApart (map (λ (x : Ideal). x.name) (a.front ++ a.entry ∷ a.back)) = subst (λ x. AreApart (map (λ (y : Ideal). y.name) x)) a.whole sound.ideals_apart in
      ap (λ o. or_fault UnknownName (place 0 (name_of o) (map (λ (x : Ideal). x.name) q.ideals))) a.got
      ∙ ap (λ x. or_fault UnknownName (place 0 (a.entry).name (map (λ (y : Ideal). y.name) x))) a.whole
      ∙ ap (or_fault UnknownName) (found_at 0 0 a.front a.back a.entry apart) ∙ ap Ok (omega (arith, a.counted))

  pub ideal_named : (k : ℕ) → k < length q.ideals → is_name (name_at q k) ≡ true
  ideal_named k b =
      let a = at q.ideals k b in
      let all : All (IsIdealOf q.ring) (a.front ++ a.entry ∷ a.back) = subst (All (IsIdealOf q.ring)) a.whole sound.ideals in
      ap (λ o. is_name (name_of o)) a.got ∙ (All-at a.front a.entry a.back all).named.name
    where
      All-at : (front : List Ideal) (e : Ideal) (back : List Ideal) → All (IsIdealOf q.ring) (front ++ e ∷ back) → IsIdealOf q.ring e
      All-at [] e back all = All-head (IsIdealOf q.ring) e back all
      All-at (b ∷ front) e back all = All-at front e back (All-tail (IsIdealOf q.ring) b (front ++ e ∷ back) all)

  degree_read : (i : ℕ) → i ≤ q.ring.vars → degree_in without_queries i ≡ Ok i
  degree_read i b = ap (λ (t : Bool). if t then Ok i else Err Range) (le-leb i q.ring.vars b)

  stage_read : (e : ℕ) → e ≤ greatest_stage → stage_in e ≡ Ok e
  stage_read e b = ap (λ (t : Bool). if t then Ok e else Err Limit) (le-leb e greatest_stage b)

  module_asked : (a : Question) (i k : ℕ) → i ≤ q.ring.vars → k < length q.ideals → query_in without_queries (ModuleLine a i (name_at q k)) ≡ Ok (module_query a i k)
  module_asked a i k b c =
      ap (λ x. x >>= λ i. (ideal_in without_queries (name_at q k) >>= λ k. Ok (module_query a i k))) (degree_read i b) ∙ ap (λ x. x >>= λ k. Ok (module_query a i k)) (ideal_found k c)

  -- the line that asks a query is read as this query
  pub question_read : (z : Query) → IsQueryOf q z → IsSmallQuery z → query_in without_queries (question_line q z) ≡ Ok z
  question_read (queries.TheVariants.Zero i k) w low = module_asked questions.TheVariants.Zero i k w.0 w.1
  question_read (queries.TheVariants.Root i k) w low = module_asked questions.TheVariants.Root i k w.0 w.1
  question_read (queries.TheVariants.Support i k) w low = module_asked questions.TheVariants.Support i k w.0 w.1
  question_read (queries.TheVariants.Resolution i k) w low = module_asked questions.TheVariants.Resolution i k w.0 w.1
  question_read (queries.TheVariants.ExtOf i k) w low = module_asked questions.TheVariants.Ext i k w.0 w.1
  question_read (queries.TheVariants.Class i k e z) w low =
      ap (λ x. x >>= λ i. (ideal_in without_queries (name_at q k) >>= λ k. (stage_in e >>= λ e. (vector_in (rules_of without_queries) (map (text_of q) z) >>= λ z. Ok (queries.TheVariants.Class i k e z))))) (degree_read i w.0)
      ∙ ap (λ x. x >>= λ k. (stage_in e >>= λ e. (vector_in (rules_of without_queries) (map (text_of q) z) >>= λ z. Ok (queries.TheVariants.Class i k e z)))) (ideal_found k w.1)
      ∙ ap (λ x. x >>= λ e. (vector_in (rules_of without_queries) (map (text_of q) z) >>= λ z. Ok (queries.TheVariants.Class i k e z))) (stage_read e w.2)
      ∙ ap (λ x. x >>= λ z. Ok (queries.TheVariants.Class i k e z)) (vector_read q.ring q.vars named sound.bounded.named z w.3 low)
  question_read (queries.TheVariants.Invert i k f) w low =
      ap (λ x. x >>= λ i. (ideal_in without_queries (name_at q k) >>= λ k. (polynomial_in (rules_of without_queries) (text_of q f) >>= λ f. Ok (queries.TheVariants.Invert i k f)))) (degree_read i w.0)
      ∙ ap (λ x. x >>= λ k. (polynomial_in (rules_of without_queries) (text_of q f) >>= λ f. Ok (queries.TheVariants.Invert i k f))) (ideal_found k w.1)
      ∙ ap (λ x. x >>= λ f. Ok (queries.TheVariants.Invert i k f)) (spelled q.ring q.vars named sound.bounded.named f w.2 low)
  question_read (queries.TheVariants.Map i k j) w low =
      ap (λ x. x >>= λ i. (ideal_in without_queries (name_at q k) >>= λ k. (ideal_in without_queries (name_at q j) >>= λ j. Ok (queries.TheVariants.Map i k j)))) (degree_read i w.0)
      ∙ ap (λ x. x >>= λ k. (ideal_in without_queries (name_at q j) >>= λ j. Ok (queries.TheVariants.Map i k j))) (ideal_found k w.1)
      ∙ ap (λ x. x >>= λ j. Ok (queries.TheVariants.Map i k j)) (ideal_found j w.2)
  question_read (queries.TheVariants.Member k f) w low =
      ap (λ x. x >>= λ k. (polynomial_in (rules_of without_queries) (text_of q f) >>= λ f. Ok (queries.TheVariants.Member k f))) (ideal_found k w.0)
      ∙ ap (λ x. x >>= λ f. Ok (queries.TheVariants.Member k f)) (spelled q.ring q.vars named sound.bounded.named f w.1 low)

  small_degree : (i : ℕ) → i ≤ q.ring.vars → i < 2 ^ 64
  small_degree i b = let few = sound.bounded.few in omega (arith, b, few)

  small_stage : (e : ℕ) → e ≤ greatest_stage → e < 2 ^ 64
  small_stage e b = omega (arith, b)

  -- and it can be written
  pub question_writable : (z : Query) → IsQueryOf q z → IsSmallQuery z → IsWritableStatement (question_line q z)
  question_writable (queries.TheVariants.Zero i k) w low = (small_degree i w.0, ideal_named k w.1)
  question_writable (queries.TheVariants.Root i k) w low = (small_degree i w.0, ideal_named k w.1)
  question_writable (queries.TheVariants.Support i k) w low = (small_degree i w.0, ideal_named k w.1)
  question_writable (queries.TheVariants.Resolution i k) w low = (small_degree i w.0, ideal_named k w.1)
  question_writable (queries.TheVariants.ExtOf i k) w low = (small_degree i w.0, ideal_named k w.1)
  question_writable (queries.TheVariants.Class i k e z) w low =
      let t = texts_spelled q.ring q.vars named sound.bounded.named z w.3 low in (small_degree i w.0, ideal_named k w.1, small_stage e w.2, t.0, t.1)
  question_writable (queries.TheVariants.Invert i k f) w low =
      (small_degree i w.0, ideal_named k w.1, spelled_text q.ring q.vars named sound.bounded.named f w.2 low, word_text q.ring q.vars named sound.bounded.named f w.2 low)
  question_writable (queries.TheVariants.Map i k j) w low = (small_degree i w.0, ideal_named k w.1, ideal_named j w.2)
  question_writable (queries.TheVariants.Member k f) w low =
      (ideal_named k w.0, spelled_text q.ring q.vars named sound.bounded.named f w.1 low, word_text q.ring q.vars named sound.bounded.named f w.1 low)
