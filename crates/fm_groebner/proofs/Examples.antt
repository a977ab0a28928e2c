-- A worked log, and vectors for which the product criterion fails.
use Rattle.std.proofs.Common.{◌≡◌, ◌≢◌, inl, inr, ℕ, zero, suc, ◌<◌, ◌≤◌, List, [], ◌∷◌, length, Contains, refl, ap, subst, arith}
use Rattle.fm_gfp.specs.declared.prime.Prime.TheVariants.{Two}
use Rattle.fm_mono.specs.declared.order.Order.{Order}
use Rattle.fm_mono.specs.declared.order.Order.TheVariants.{Grevlex}
use Rattle.fm_algebra.proofs.TermWords.{of_swap}
use Rattle.fm_algebra.specs.Matrix.{listed}
use Rattle.fm_term.specs.declared.vterm.VTerm.{VTerm}
use Rattle.fm_term.specs.Places.{place_cmp}
use Rattle.fm_term.specs.Falling.{IsFalling, IsMonic, AreMonic}
use Rattle.fm_term.specs.Meanings.{terms_in, vector_of, vectors_of}
use Rattle.fm_groebner.specs.Examples.{term, two_vectors, worked_inputs, worked_members, worked_log, worked_treated, unfinished_log, x_alone}
use Rattle.fm_groebner.specs.Bases.{IsGroebnerBasis, generators}
use Rattle.fm_groebner.specs.Logs.{IsNumber, first, next, no_more, IsIrreducible, IsSVector, dropped, kept, FreeRun, begin, take_input, take_pair, skip_pair, IsComplete, ReducesBy, anything}
use Rattle.fm_groebner.proofs.Numbers.{contains_cases, number_positive, number_within, contains_here}
use Rattle.fm_groebner.proofs.Consequences.{criterion_back, inside_of_log}
use Rattle.std.specs.declared.cmp.Ordering.TheVariants.{Greater}
use Rattle.fm_algebra.specs.PolynomialMatrices.{InImage}
use Rattle.fm_term.proofs.Falling.{nothing_falls, with_greater}

-- (x; 1) and (y; 0)
abbrev first_vector : List VTerm
first_vector = term 1 (1 ∷ 0 ∷ []) ∷ term 2 (0 ∷ 0 ∷ []) ∷ []

abbrev second_vector : List VTerm
second_vector = term 1 (0 ∷ 1 ∷ []) ∷ []

-- their S-vector (0; y)
abbrev their_s_vector : List VTerm
their_s_vector = term 2 (0 ∷ 1 ∷ []) ∷ []

module _ (o : Order) where
  one_term : (i : ℕ) (a : List ℕ) → 0 < i → i ≤ 2 → length a ≡ 2 → IsFalling Two 2 2 o (term i a ∷ [])
  one_term i a h k l = with_greater h k (record { fits = l; positive = omega arith; below = omega arith }) tt nothing_falls

  members_monic : AreMonic Two 2 2 o (two_vectors)
  members_monic x c = elim (contains_cases first_vector (second_vector ∷ []) x c) [
    | inl e ↦ subst (λ z. IsFalling Two 2 2 o z × IsMonic z) e (with_greater (omega arith) (omega arith) (record { fits = refl; positive = omega arith; below = omega arith }) (refl, tt) (one_term 2 (0 ∷ 0 ∷ []) (omega arith) (omega arith) refl), refl)
    | inr d ↦ elim (contains_cases second_vector [] x d) [
      | inl e ↦ subst (λ z. IsFalling Two 2 2 o z × IsMonic z) e (one_term 1 (0 ∷ 1 ∷ []) (omega arith) (omega arith) refl, refl)
      | inr n ↦ absurd (omega (arith, n.1))
    ]
  ]

  is_s_vector : IsSVector Two 2 2 o anything (term 1 (1 ∷ 0 ∷ [])) (term 1 (0 ∷ 1 ∷ [])) (term 2 (0 ∷ 0 ∷ []) ∷ []) [] their_s_vector
  unfolding vector_of terms_in listed
  is_s_vector = record { one_component = refl; falls = one_term 2 (0 ∷ 1 ∷ []) (omega arith) (omega arith) refl; first_fits = refl; second_fits = refl; is = refl }

  irreducible : IsIrreducible (two_vectors) their_s_vector
  irreducible t ts c d = elim (contains_cases first_vector (second_vector ∷ []) (t ∷ ts) c) [
    | inl e ↦ not_second (same_first e) d.0
    | inr i ↦ elim (contains_cases second_vector [] (t ∷ ts) i) [
      | inl e ↦ not_second (same_first e) d.0
      | inr n ↦ absurd (omega (arith, n.1))
    ]
  ]
    where
      same_first : {u : VTerm} {us : List VTerm} → u ∷ us ≡ t ∷ ts → u ≡ t
      same_first e = cc

      not_second : {a : List ℕ} → term 1 a ≡ t → t.component ≡ 2 → ⊥
      not_second e q = let one : 1 ≡ t.component = ap (λ x. x.component) e in absurd (omega (arith, one, q))

  empty : {t : VTerm} → ¬ (t ∷ [] ≡ [])
  empty e = cc e

  -- the heads x * e_1 and y * e_1 have no common variable, and yet the two vectors are no Gröbner basis of what they span
  pub product_criterion_fails : ¬ (IsGroebnerBasis Two 2 2 o (vectors_of Two 2 2 (two_vectors)) (vectors_of Two 2 2 (two_vectors)))
  product_criterion_fails basis = empty (criterion_back Two 2 2 o members_monic basis 1 2 (term 1 (1 ∷ 0 ∷ [])) (term 1 (0 ∷ 1 ∷ [])) (term 2 (0 ∷ 0 ∷ []) ∷ []) [] their_s_vector [] their_s_vector
      (first {xs = second_vector ∷ []}) (next (first {xs = []})) is_s_vector no_more irreducible)

-- ---- a worked log: x^2 + y and x, whose S-vector is y
abbrev f : List VTerm
f = term 1 (2 ∷ 0 ∷ []) ∷ term 1 (0 ∷ 1 ∷ []) ∷ []

abbrev g : List VTerm
g = term 1 (1 ∷ 0 ∷ []) ∷ []

abbrev h : List VTerm
h = term 1 (0 ∷ 1 ∷ []) ∷ []

one_falls : (a : List ℕ) → length a ≡ 2 → IsFalling Two 2 1 Grevlex (term 1 a ∷ [])
one_falls a l = with_greater (omega arith) (omega arith) (record { fits = l; positive = omega arith; below = omega arith }) tt nothing_falls

f_falls : IsFalling Two 2 1 Grevlex f
f_falls = with_greater (omega arith) (omega arith) (record { fits = refl; positive = omega arith; below = omega arith }) (refl, tt) (one_falls (0 ∷ 1 ∷ []) refl)

none : {A : Type 0} {x : A} → ¬ (Contains [] x)
none c = absurd (omega (arith, c.1))

other : {x y : ℕ} → x ≢ y → ¬ (Contains (x ∷ []) y)
other {x} {y} w c = elim (contains_cases x [] y c) [ inl e ↦ absurd (w e) | inr d ↦ none d ]

first_pair : IsSVector Two 2 1 Grevlex anything (term 1 (2 ∷ 0 ∷ [])) (term 1 (1 ∷ 0 ∷ [])) (term 1 (0 ∷ 1 ∷ []) ∷ []) [] h
unfolding vector_of terms_in listed
first_pair = record { one_component = refl; falls = one_falls (0 ∷ 1 ∷ []) refl; first_fits = refl; second_fits = refl; is = ap (λ x. x ∷ []) (of_swap Two 2 (0 ∷ 1 ∷ [], 1) (2 ∷ 0 ∷ [], 1) []) }

second_pair : IsSVector Two 2 1 Grevlex anything (term 1 (1 ∷ 0 ∷ [])) (term 1 (0 ∷ 1 ∷ [])) [] [] []
unfolding vector_of terms_in listed
second_pair = record { one_component = refl; falls = nothing_falls; first_fits = refl; second_fits = refl; is = refl }

-- pairs that were not treated before
new_pair : ¬ (Contains {X = ℕ × ℕ} ((1, 2) ∷ []) (2, 3))
new_pair c = elim (contains_cases (1, 2) [] (2, 3) c) [
  | inl e ↦ let q : 1 ≡ 2 = ap (λ x. x.0) e in absurd (omega (arith, q))
  | inr d ↦ none d
]

new_skip : ¬ (Contains {X = ℕ × ℕ} ((2, 3) ∷ (1, 2) ∷ []) (1, 3))
new_skip c = elim (contains_cases (2, 3) ((1, 2) ∷ []) (1, 3) c) [
  | inl e ↦ let q : 2 ≡ 1 = ap (λ x. x.0) e in absurd (omega (arith, q))
  | inr d ↦ elim (contains_cases (1, 2) [] (1, 3) d) [
    | inl e ↦ let q : 2 ≡ 3 = ap (λ x. x.1) e in absurd (omega (arith, q))
    | inr n ↦ none n
  ]
]

pub worked_run : FreeRun Two 2 1 Grevlex anything worked_inputs worked_log worked_members (2 ∷ 1 ∷ []) worked_treated
worked_run =
    skip_pair {f = term 1 (1 ∷ 0 ∷ [])} {fs = []}
    (take_pair
    (take_pair
    (take_input
    (take_input begin 1 [] none first f_falls no_more (kept 1 refl))
    2 [] (other (omega arith)) (next first) (one_falls (1 ∷ 0 ∷ []) refl) no_more (kept 1 refl))
    1 2 [] (omega arith) none first (next first) first_pair no_more (kept 1 refl))
    2 3 [] (omega arith) new_pair (next first) (next (next first)) second_pair no_more dropped)
    1 3 2 (omega arith) (omega arith) (omega arith) new_skip first (next (next first)) (next first) (refl, refl, (omega arith, (omega arith, tt)))
    (inl (1, omega arith, refl)) (inl (0, omega arith, refl))

-- ---- it is complete
beyond_list : {A : Type 0} {k : ℕ} {x : A} {C : Type 0} → IsNumber [] k x → C
beyond_list i = elim i [ ]

inputs_taken : (k : ℕ) (v : List VTerm) → IsNumber worked_inputs k v → Contains (2 ∷ 1 ∷ []) k
inputs_taken k v first = (1, omega arith, refl)
inputs_taken k v (next first) = (0, omega arith, refl)
inputs_taken k v (next (next i)) = beyond_list i

pairs_treated : (a b : ℕ) (t u : VTerm) (ts us : List VTerm) → a < b → IsNumber worked_members a (t ∷ ts) → IsNumber worked_members b (u ∷ us) → t.component ≡ u.component → Contains worked_treated (a, b)
pairs_treated a b t u ts us l i j e = by_numbers a b l (small i) (small j) (number_positive i)
  where
    small : {k : ℕ} {x : List VTerm} → IsNumber worked_members k x → k ≤ 3
    small i = number_within i

    by_numbers : (a b : ℕ) → a < b → a ≤ 3 → b ≤ 3 → 0 < a → Contains worked_treated (a, b)
    by_numbers zero b l x y z = absurd (omega (arith, z))
    by_numbers (suc zero) (suc (suc zero)) l x y z = (2, omega arith, refl)
    by_numbers (suc zero) (suc (suc (suc zero))) l x y z = (0, omega arith, refl)
    by_numbers (suc (suc zero)) (suc (suc (suc zero))) l x y z = (1, omega arith, refl)
    by_numbers (suc a) b l x y z = absurd (omega (arith, l, x, y, z))

pub worked_complete : IsComplete worked_inputs worked_members (2 ∷ 1 ∷ []) worked_treated
worked_complete = record { all_taken = inputs_taken; all_treated = pairs_treated }

-- ---- a log that is not complete
vectors_fall : (o : Order) (k : ℕ) (v : List VTerm) → IsNumber two_vectors k v → IsFalling Two 2 2 o v
vectors_fall o k v first = with_greater (omega arith) (omega arith) (record { fits = refl; positive = omega arith; below = omega arith }) (refl, tt) (with_greater (omega arith) (omega arith) (record { fits = refl; positive = omega arith; below = omega arith }) tt nothing_falls)
vectors_fall o k v (next first) = with_greater (omega arith) (omega arith) (record { fits = refl; positive = omega arith; below = omega arith }) tt nothing_falls
vectors_fall o k v (next (next i)) = beyond_list i

pub unfinished_run : (o : Order) → FreeRun Two 2 2 o anything two_vectors unfinished_log two_vectors (2 ∷ 1 ∷ []) []
unfinished_run o =
    take_input
    (take_input begin 1 [] none first (vectors_fall o 1 _ first) no_more (kept 1 refl))
    2 [] (other (omega arith)) (next first) (vectors_fall o 2 _ (next first)) no_more (kept 1 refl)

pub unfinished : ¬ (IsComplete two_vectors two_vectors (2 ∷ 1 ∷ []) [])
unfinished K = none (K.all_treated 1 2 (term 1 (1 ∷ 0 ∷ [])) (term 1 (0 ∷ 1 ∷ [])) (term 2 (0 ∷ 0 ∷ []) ∷ []) [] (omega arith) first (next first) refl)

-- ---- a rest that could be reduced
pub x_rest : (o : Order) → ReducesBy Two 2 1 o anything (x_alone ∷ []) [] x_alone x_alone
x_rest o = no_more

pub x_member : (o : Order) → InImage Two 2 (generators Two 2 1 (vectors_of Two 2 1 (x_alone ∷ []))) (vector_of Two 2 1 x_alone)
x_member o = inside_of_log Two 2 1 o {bound = anything} (take_input begin 1 [] none (first {xs = []}) (with_greater (omega arith) (omega arith) (record { fits = refl; positive = omega arith; below = omega arith }) tt nothing_falls) no_more (kept 1 refl)) x_alone (contains_here x_alone [])

pub x_reducible : ¬ (IsIrreducible (x_alone ∷ []) x_alone)
x_reducible w = w (term 1 (1 ∷ 0 ∷ [])) [] (contains_here x_alone []) (refl, (omega arith, (omega arith, tt)))

-- ---- position over term
pub first_greater : (o : Order) (a b : List ℕ) → place_cmp o 1 a 2 b ≡ Greater
first_greater o a b = refl
