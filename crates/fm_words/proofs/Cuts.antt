-- A text is cut at the first mark.
use Rattle.std.proofs.Common.{◌≡◌, ℕ, zero, suc, ◌+◌, ◌-◌, ◌<◌, ◌≤◌, Bool, true, false, cond, None, List, [], ◌∷◌, get_or, take, drop, length, refl, sym, ◌∙◌, ap, arith, add-one}
use Rattle.std.specs.List.{onto_first}
use Rattle.std.proofs.lemmas.List.{take_rest}
use Rattle.fm_words.specs.declared.mark.Mark.{Mark}
use Rattle.fm_words.specs.Parts.{is_mark, parts, before_mark, after_mark, pair}
use Rattle.fm_words.specs.declared.mark.Mark.TheVariants.{Feed}
use Rattle.fm_words.specs.Lines.{after_lines}

module _ (m : Mark) where
  cut_at : (xs : List ℕ) (i : ℕ) → i < length xs → ((k : ℕ) → k < i → is_mark m (get_or xs k 0) ≡ false) → is_mark m (get_or xs i 0) ≡ true
      → parts m xs ≡ take i xs ∷ parts m (drop (suc i) xs)
  cut_at [] i lt before here = absurd (omega arith)
  cut_at (x ∷ xs) zero lt before here = rw here refl
  cut_at (x ∷ xs) (suc i) lt before here = rw (before 0 (omega arith), cut_at xs i (omega arith) (λ k below. before (suc k) (omega arith)) here) refl

  pub not_cut : (xs : List ℕ) (i : ℕ) → length xs ≤ i → ((k : ℕ) → k < i → is_mark m (get_or xs k 0) ≡ false) → parts m xs ≡ xs ∷ []
  not_cut [] i above before = refl
  not_cut (x ∷ xs) zero above before = absurd (omega arith)
  not_cut (x ∷ xs) (suc i) above before = rw (before 0 (omega arith), not_cut xs i (omega arith) (λ k below. before (suc k) (omega arith))) refl

  pub before_at : (xs : List ℕ) (i : ℕ) → i < length xs → ((k : ℕ) → k < i → is_mark m (get_or xs k 0) ≡ false) → is_mark m (get_or xs i 0) ≡ true
      → take i xs ≡ before_mark m xs
  before_at [] i lt before here = absurd (omega arith)
  before_at (x ∷ xs) zero lt before here = rw here refl
  before_at (x ∷ xs) (suc i) lt before here = rw (before 0 (omega arith)) (ap (λ v. x ∷ v) (before_at xs i (omega arith) (λ k below. before (suc k) (omega arith)) here))

  pub all_before : (xs : List ℕ) (i : ℕ) → length xs ≤ i → ((k : ℕ) → k < i → is_mark m (get_or xs k 0) ≡ false) → xs ≡ before_mark m xs
  all_before [] i above before = refl
  all_before (x ∷ xs) zero above before = absurd (omega arith)
  all_before (x ∷ xs) (suc i) above before = rw (before 0 (omega arith)) (ap (λ v. x ∷ v) (all_before xs i (omega arith) (λ k below. before (suc k) (omega arith))))

  left_after : (xs : List ℕ) (i : ℕ) → i < length xs → ((k : ℕ) → k < i → is_mark m (get_or xs k 0) ≡ false) → is_mark m (get_or xs i 0) ≡ true
      → after_mark m xs ≡ drop (suc i) xs
  left_after [] i lt before here = absurd (omega arith)
  left_after (x ∷ xs) zero lt before here = rw here refl
  left_after (x ∷ xs) (suc i) lt before here = rw (before 0 (omega arith)) (left_after xs i (omega arith) (λ k below. before (suc k) (omega arith)) here)

  pub none_after : (xs : List ℕ) (i : ℕ) → length xs ≤ i → ((k : ℕ) → k < i → is_mark m (get_or xs k 0) ≡ false) → after_mark m xs ≡ []
  none_after [] i above before = refl
  none_after (x ∷ xs) zero above before = absurd (omega arith)
  none_after (x ∷ xs) (suc i) above before = rw (before 0 (omega arith)) (none_after xs i (omega arith) (λ k below. before (suc k) (omega arith)))

  rest_is : (xs : List ℕ) (i : ℕ) → take (length xs - (i + 1)) (drop (i + 1) xs) ≡ drop (suc i) xs
  rest_is xs i = take_rest xs (i + 1) ∙ ap (λ j. drop j xs) (add-one i)

  pub parts_at : (xs : List ℕ) (i : ℕ) → i < length xs → ((k : ℕ) → k < i → is_mark m (get_or xs k 0) ≡ false) → is_mark m (get_or xs i 0) ≡ true
      → parts m xs ≡ take i xs ∷ parts m (take (length xs - (i + 1)) (drop (i + 1) xs))
  parts_at xs i lt before here = cut_at xs i lt before here ∙ ap (λ v. take i xs ∷ parts m v) (sym (rest_is xs i))

  pub after_at : (xs : List ℕ) (i : ℕ) → i < length xs → ((k : ℕ) → k < i → is_mark m (get_or xs k 0) ≡ false) → is_mark m (get_or xs i 0) ≡ true
      → after_mark m xs ≡ take (length xs - (i + 1)) (drop (i + 1) xs)
  after_at xs i lt before here = left_after xs i lt before here ∙ sym (rest_is xs i)

first_of : (x : ℕ) (here : Bool) (ps : List (List ℕ)) → (q : List ℕ) × (qs : List (List ℕ)) × (ps ≡ q ∷ qs)
    → (q : List ℕ) × (qs : List (List ℕ)) × (cond here ([] ∷ ps) (onto_first x ps) ≡ q ∷ qs)
first_of x true ps h = ([], ps, refl)
first_of x false ps h = (x ∷ h.0, h.1, ap (onto_first x) h.2)

-- a text has a first part
pub first_of_parts : (m : Mark) (xs : List ℕ) → (q : List ℕ) × (qs : List (List ℕ)) × (parts m xs ≡ q ∷ qs)
first_of_parts m [] = ([], [], refl)
first_of_parts m (x ∷ xs) = first_of x (is_mark m x) (parts m xs) (first_of_parts m xs)

no_pair_of : (x : List ℕ) (y : List ℕ) (qs : List (List ℕ)) → (q : List ℕ) × (ps : List (List ℕ)) × (qs ≡ q ∷ ps) → pair (x ∷ y ∷ qs) ≡ None
no_pair_of x y qs h = ap (λ v. pair (x ∷ y ∷ v)) h.2

-- a text that is cut twice has not two parts
pub no_pair : (m : Mark) (all rest third x y : List ℕ) → parts m all ≡ x ∷ parts m rest → parts m rest ≡ y ∷ parts m third → None ≡ pair (parts m all)
no_pair m all rest third x y one two = sym (ap pair (one ∙ ap (λ v. x ∷ v) two) ∙ no_pair_of x y (parts m third) (first_of_parts m third))

after_lines_of : (n : ℕ) (x : List ℕ) (qs : List (List ℕ)) → (q : List ℕ) × (ps : List (List ℕ)) × (qs ≡ q ∷ ps) → after_lines n (x ∷ qs) ≡ after_lines (n + 1) qs
after_lines_of n [] qs h = ap (λ v. after_lines n ([] ∷ v)) h.2 ∙ sym (ap (after_lines (n + 1)) h.2)
after_lines_of n (b ∷ bs) qs h = ap (λ v. after_lines n ((b ∷ bs) ∷ v)) h.2 ∙ sym (ap (after_lines (n + 1)) h.2)

-- where a line is followed by another, the count goes on
pub after_more : (n : ℕ) (all rest x : List ℕ) → parts Feed all ≡ x ∷ parts Feed rest → after_lines (n + 1) (parts Feed rest) ≡ after_lines n (parts Feed all)
after_more n all rest x e = sym (ap (after_lines n) e ∙ after_lines_of n x (parts Feed rest) (first_of_parts Feed rest))
