-- The map from the ideal of f and g to that of f over GF(2) in degree 2, where the target has nothing
use Rattle.std.proofs.Common.{ℕ, zero, suc, ◌<◌, ◌≡◌, ◌∙◌, ◌↔◌, refl, sym, ap, subst, arith, List, [], ◌∷◌, length, get_or, true, false, Some}
use Rattle.std.proofs.lemmas.Bool.{false≢true}
use Rattle.fm_gfp.specs.declared.prime.Prime.TheVariants.{Two}
use Rattle.fm_algebra.specs.FiniteSums.{finite_sum}
use Rattle.fm_algebra.specs.Matrix.{entry, listed, table, apply, product, joined, entrywise, unit_matrix, scalar_matrix, zero_matrix, transpose}
use Rattle.fm_algebra.specs.Polynomials.{Polynomial, polynomials, polynomial_zero, polynomial_one, polynomial_product, frobenius_twist}
use Rattle.fm_algebra.specs.PolynomialMatrices.{PolynomialMatrix, HasShape, matrix_beside, matrix_product, matrix_transpose, matrix_twist, matrix_unit, matrix_zero, vector_product, InImage, InKernel, InPreimage, GeneratesKernel, GeneratesPreimage}
use Rattle.fm_algebra.proofs.Concrete.{polynomials_laws}
use Rattle.fm_algebra.proofs.Tables.{zero_shaped}
use Rattle.fm_limit.specs.ResolvedIdeal.{ResolvedIdeal, matrix_at, differential, rank, InIdeal, IsResolved, IsLiftOfIdentityOf}
use Rattle.fm_limit.specs.Facts.{ColumnsInImage, DegreeFacts, MapFacts, JoinFacts}
use Rattle.fm_limit.specs.Verdicts.{Holds, induced_map}
use Rattle.fm_limit.specs.SmallIdeals.{one_entry, no_columns, principal}
use Rattle.fm_limit.specs.PairIdeals.{pair_row, pair_column, pair_ideal, principal_in_degree_two, second_lift}
use Rattle.fm_limit.proofs.Principal.{one_fits, no_fits, principal_resolved}
use Rattle.fm_limit.proofs.MatrixWords.{unit_fits, image_length}
use Rattle.fm_limit.proofs.VerdictLaws.{map_verdict, onto_yes_verdict}
use Rattle.fm_limit.proofs.PairIdeals.{under_two, under_three, column_shape}
use Rattle.fm_limit.proofs.PairFacts.{image_all, not_at_once}
use Rattle.fm_limit.proofs.PairPoint.{point_facts}
use Rattle.fm_limit.proofs.PairIdeals as pairs
use Rattle.fm_limit.proofs.LineMaps.{lift_square}

module _ (n : ℕ) where
  abbrev P : Type 0
  P = Polynomial Two n

  open polynomials Two n use {zero as 𝟘, one as 𝟙, add as ◌⊕◌, mul as ◌⊗◌}

  infixl 60 ◌⊕◌
  infixl 70 ◌⊗◌
  abbrev O : PolynomialMatrix Two n
  O = matrix_zero Two n 0 0

  O_fits : HasShape Two n 0 0 O
  unfolding HasShape matrix_zero
  O_fits = zero_shaped (polynomials Two n) 0 0

  -- only the empty vector has to do with a matrix without rows and columns
  of_none : (Q R : List P → Type 0) → ((w : List P) → Q w → length w ≡ 0) → ((w : List P) → R w → length w ≡ 0) → Q [] → R [] → (w : List P) → Q w ↔ R w
  of_none Q R a b q r [] = ((λ h. r), (λ h. q))
  of_none Q R a b q r (z ∷ w) = ((λ h. absurd (let l : length (z ∷ w) ≡ 0 = a (z ∷ w) h in omega arith)), (λ h. absurd (let l : length (z ∷ w) ≡ 0 = b (z ∷ w) h in omega arith)))

  none_in : InImage Two n O []
  unfolding InImage vector_product apply listed matrix_zero zero_matrix table
  none_in = ([], refl, refl)

  none_generates : GeneratesKernel Two n O O
  unfolding InKernel InImage vector_product apply listed matrix_zero zero_matrix table
  none_generates = of_none (InKernel Two n O) (InImage Two n O) (λ w h. h.0) (λ w h. image_length Two n 0 0 O w O_fits h) (refl, refl) ([], refl, refl)

  none_preimage : GeneratesPreimage Two n O O O
  unfolding InPreimage InImage vector_product apply listed matrix_zero zero_matrix table
  none_preimage = of_none (InPreimage Two n O O) (InImage Two n O) (λ w h. h.0) (λ w h. image_length Two n 0 0 O w O_fits h) (refl, ([], refl, refl)) ([], refl, refl)

  module _ (f g : P) (f_nonzero : ¬ (f ≡ polynomial_zero Two n)) (g_nonzero : ¬ (g ≡ polynomial_zero Two n)) (coprime : (b : P) → ((y : P) × (polynomial_product Two n f y ≡ polynomial_product Two n g b)) → (y : P) × (polynomial_product Two n f y ≡ b)) (turned : (b : P) → ((y : P) × (polynomial_product Two n g y ≡ polynomial_product Two n f b)) → (y : P) × (polynomial_product Two n g y ≡ b)) (proper : (a b : P) → ¬ (g ⊗ a ⊕ f ⊗ b ≡ 𝟙)) (one_nonzero : ¬ (polynomial_one Two n ≡ polynomial_zero Two n)) where
    abbrev one : P
    one = polynomial_one Two n

    abbrev J : ResolvedIdeal Two n
    J = pair_ideal n one f g

    abbrev I : ResolvedIdeal Two n
    I = principal_in_degree_two n f

    abbrev N : PolynomialMatrix Two n
    N = pair_row n g f

    three : (Q : ℕ → Type 0) → Q 0 → Q 1 → Q 2 → (j : ℕ) → j < 3 → Q j
    three = under_three n one f g one_nonzero f_nonzero coprime

    two : (Q : ℕ → Type 0) → Q 0 → Q 1 → (j : ℕ) → j < 2 → Q j
    two = under_two n one f g one_nonzero f_nonzero coprime

    -- d_1 * theta_1 = d_1^[2]
    first_square : matrix_product Two n (one_entry Two n f) (one_entry Two n f) ≡ matrix_product Two n (matrix_unit Two n 1) (matrix_twist Two n 1 (one_entry Two n f))
    unfolding matrix_product product table listed entry finite_sum matrix_unit unit_matrix scalar_matrix matrix_twist entrywise
    first_square =
        let R = polynomials_laws Two n in
        ap (λ x. record { rows = 1; columns = (x ∷ []) ∷ [] }) (ap (λ x. 𝟘 ⊕ x) (sym (pairs.square n f) ∙ sym (R.one_mul (frobenius_twist Two n 1 f))))

    -- d_2 * theta_2 = theta_1 * d_2^[2]: both have no columns
    second_square : matrix_product Two n (no_columns Two n) O ≡ matrix_product Two n (one_entry Two n f) (matrix_twist Two n 1 (no_columns Two n))
    unfolding matrix_product product table listed matrix_twist entrywise matrix_zero zero_matrix
    second_square = refl

    -- ker d_2 = 0
    none_above : GeneratesKernel Two n O (no_columns Two n)
    unfolding InKernel InImage vector_product apply listed matrix_zero zero_matrix table finite_sum
    none_above = of_none (InKernel Two n (no_columns Two n)) (InImage Two n O) (λ w h. h.0) (λ w h. image_length Two n 0 0 O w O_fits h) (refl, refl) ([], refl, refl)

    resolved_two : IsResolved Two n 2 I
    unfolding principal_in_degree_two principal matrix_at InIdeal polynomial_product matrix_zero zero_matrix table listed
    resolved_two =
        let r = principal_resolved Two n f f_nonzero in
        let ds = one_entry Two n f ∷ no_columns Two n ∷ O ∷ [] in
        let ts = matrix_unit Two n 1 ∷ one_entry Two n f ∷ O ∷ [] in
        record {
          resolution = record {
            count = refl;
            fits = three (λ j. HasShape Two n (rank Two n ds j) (rank Two n ds (suc j)) (matrix_at Two n ds j)) (one_fits Two n f) (no_fits Two n) O_fits;
            first = r.resolution.first;
            exact = two (λ j. GeneratesKernel Two n (matrix_at Two n ds (suc j)) (matrix_at Two n ds j)) (r.resolution.exact 0 (omega arith)) none_above;
          };
          frobenius = record {
            count = refl;
            fits = three (λ j. HasShape Two n (rank Two n ds j) (rank Two n ds j) (matrix_at Two n ts j)) (unit_fits Two n 1) (one_fits Two n f) O_fits;
            first = refl;
            square = two (λ j. matrix_product Two n (matrix_at Two n ds j) (matrix_at Two n ts (suc j)) ≡ matrix_product Two n (matrix_at Two n ts j) (matrix_twist Two n 1 (matrix_at Two n ds j))) first_square second_square;
          };
        }

    flip_none : matrix_transpose Two n O ≡ O
    unfolding matrix_transpose transpose table listed matrix_zero zero_matrix
    flip_none = refl

    flip_below : matrix_transpose Two n (no_columns Two n) ≡ record { rows = 0; columns = [] ∷ [] }
    unfolding matrix_transpose transpose table listed
    flip_below = refl

    twist_none : matrix_twist Two n 1 O ≡ O
    unfolding matrix_twist entrywise table listed matrix_zero zero_matrix
    twist_none = refl

    -- everything is a coboundary, since there is only 0
    below_generates : GeneratesPreimage Two n O O (record { rows = 0; columns = [] ∷ [] })
    unfolding InPreimage InImage vector_product apply listed matrix_zero zero_matrix table
    below_generates = of_none (InPreimage Two n O (record { rows = 0; columns = [] ∷ [] })) (InImage Two n O) (λ w h. h.0) (λ w h. image_length Two n 0 0 O w O_fits h) (refl, (𝟘 ∷ [], refl, refl)) ([], refl, refl)

    morphism : matrix_product Two n (matrix_transpose Two n O) O ≡ matrix_product Two n (matrix_twist Two n 1 O) O
    unfolding matrix_product product table listed matrix_transpose transpose matrix_twist entrywise matrix_zero zero_matrix
    morphism = refl

    no_column : ColumnsInImage Two n O O
    unfolding matrix_zero zero_matrix table listed
    no_column c d = absurd (omega arith)

    -- the limit of degree 2 is zero: its facts
    facts_two : DegreeFacts Two n 2 I O O (O ∷ O ∷ []) 0
    unfolding principal_in_degree_two matrix_at differential matrix_zero zero_matrix table listed
    facts_two = record {
      resolved = resolved_two;
      ext = record {
        cocycles_fit = O_fits;
        relations_fit = O_fits;
        morphism_fits = O_fits;
        cocycles = subst (GeneratesKernel Two n O) (sym flip_none) none_generates;
        relations = subst (GeneratesPreimage Two n O O) (sym flip_below) below_generates;
        morphism = morphism;
      };
      chain = record {
        fits = λ s b. two (λ s. HasShape Two n 0 (length (matrix_at Two n (O ∷ O ∷ []) s).columns) (matrix_at Two n (O ∷ O ∷ []) s)) O_fits O_fits s (omega arith);
        step = λ s b. let z : zero ≡ s = omega arith in subst (λ s. GeneratesPreimage Two n (matrix_at Two n (O ∷ O ∷ []) (suc s)) O (matrix_twist Two n 1 (matrix_at Two n (O ∷ O ∷ []) s))) z (subst (GeneratesPreimage Two n O O) (sym twist_none) none_preimage);
      };
      repeats = no_column;
    }

    -- ---- the map
    abbrev Phi : PolynomialMatrix Two n
    Phi = record { rows = 0; columns = [] ∷ [] }

    Phi_fits : HasShape Two n 0 1 Phi
    unfolding HasShape
    Phi_fits = (refl, refl, λ j b. let z : zero ≡ j = omega arith in subst (λ j. length (get_or {A = List P} ([] ∷ []) j []) ≡ 0) z refl)

    upper_square : matrix_product Two n (pair_column n g f) (no_columns Two n) ≡ matrix_product Two n (pair_column n one (polynomial_zero Two n)) (no_columns Two n)
    unfolding matrix_product product table listed
    upper_square = refl

    identity : IsLiftOfIdentityOf Two n 2 I.differentials J.differentials (second_lift n)
    unfolding pair_ideal principal_in_degree_two matrix_at polynomial_product matrix_zero zero_matrix table listed
    identity = record {
      count = refl;
      fits = three (λ j. HasShape Two n (rank Two n J.differentials j) (rank Two n I.differentials j) (matrix_at Two n (second_lift n) j)) (unit_fits Two n 1) (column_shape n one f g one_nonzero f_nonzero coprime one (polynomial_zero Two n)) (no_fits Two n);
      first = refl;
      square = two (λ j. matrix_product Two n (matrix_at Two n J.differentials j) (matrix_at Two n (second_lift n) (suc j)) ≡ matrix_product Two n (matrix_at Two n (second_lift n) j) (matrix_at Two n I.differentials j)) (lift_square n f g f_nonzero g_nonzero coprime turned proper one_nonzero) upper_square;
    }

    map_square : matrix_product Two n (matrix_transpose Two n (no_columns Two n)) (one_entry Two n one) ≡ matrix_product Two n O Phi
    unfolding matrix_product product table listed matrix_transpose transpose matrix_zero zero_matrix
    map_square = refl

    map_facts : MapFacts Two n 2 J I (second_lift n) (one_entry Two n one) O Phi
    unfolding matrix_at matrix_zero zero_matrix table listed
    map_facts = record { identity = identity; fits = Phi_fits; square = map_square }

    Phi_in : ColumnsInImage Two n O Phi
    Phi_in c d = let z : zero ≡ c = omega arith in subst (λ c. InImage Two n O (get_or {A = List P} ([] ∷ []) c [])) z none_in

    fibre : GeneratesPreimage Two n (one_entry Two n one) Phi O
    unfolding InPreimage InImage vector_product apply listed matrix_zero zero_matrix table
    fibre [] = ((λ h. absurd (let l : 0 ≡ 1 = h.0 in omega arith)), (λ h. absurd (let l : 0 ≡ 1 = image_length Two n 1 1 (one_entry Two n one) [] (one_fits Two n one) h in omega arith)))
    fibre (z ∷ []) = ((λ h. image_all n f g f_nonzero coprime proper z), (λ h. (refl, none_in)))
    fibre (z ∷ y ∷ w) = (
      (λ h. absurd (let l : length (z ∷ y ∷ w) ≡ 1 = h.0 in omega arith)),
      (λ h. absurd (let l : length (z ∷ y ∷ w) ≡ 1 = image_length Two n 1 1 (one_entry Two n one) (z ∷ y ∷ w) (one_fits Two n one) h in omega arith)),
    )

    beside_is : matrix_beside Two n O Phi ≡ Phi
    unfolding matrix_beside joined table listed matrix_zero zero_matrix
    beside_is = refl

    join : JoinFacts Two n O Phi O (Phi ∷ []) 0
    unfolding matrix_at matrix_zero zero_matrix table listed
    join = record {
      begins = λ v. subst (λ B. InImage Two n Phi v ↔ InImage Two n B v) (sym beside_is) ((λ h. h), (λ h. h));
      chain = record {
        fits = λ s b. let z : zero ≡ s = omega arith in subst (λ s. HasShape Two n 0 (length (matrix_at Two n (Phi ∷ []) s).columns) (matrix_at Two n (Phi ∷ []) s)) z Phi_fits;
        step = λ s b. absurd (omega arith);
      };
    }

    all_in : ColumnsInImage Two n Phi (matrix_unit Two n 0)
    unfolding matrix_unit unit_matrix scalar_matrix table listed
    all_in c d = absurd (omega arith)

    -- zero, not one to one, and onto at once
    pub map_two_holds : Holds Two n (induced_map 2 J I (second_lift n) true false (Some 0))
    unfolding matrix_at
    map_two_holds =
        map_verdict Two n (point_facts n f g f_nonzero g_nonzero coprime turned proper one_nonzero) facts_two map_facts (one_entry Two n one) (one_fits Two n one) fibre true false (Some 0)
        ((λ k. Phi_in), (λ k. refl)) ((λ k. absurd (false≢true k)), (λ k. absurd (not_at_once n f g f_nonzero coprime proper k)))
        (onto_yes_verdict Two n (point_facts n f g f_nonzero g_nonzero coprime turned proper one_nonzero) facts_two map_facts (Phi ∷ []) 0 join all_in (λ k q e. absurd (omega (arith, q))))
