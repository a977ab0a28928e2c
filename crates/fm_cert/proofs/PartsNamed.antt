-- Lines over the variables of a problem, one after another; and the numbers of forms.
use Rattle.std.proofs.Common.{◌≡◌, ℕ, zero, suc, ◌+◌, Bool, true, false, ◌&&◌, ◌||◌, if◌then◌else◌, nat_eq, List, [], ◌∷◌, ◌++◌, map, length, Option, Some, None, Vec, refl, sym, ap, ap₂, ◌∙◌, subst, arith}
use Rattle.std.specs.Global.{Global}
use Rattle.std.specs.List.{list_any, position_or_len, prefix_len}
use Rattle.std.specs.Prelude.{not}
use Rattle.std.proofs.lemmas.Bool.{eqb-true, eq-eqb}
use Rattle.std.proofs.lemmas.List.{length-map, map-append}
use lib.Pointwise.{pointwise}
use Rattle.fm_words.specs.Parts.{Bytes}
use Rattle.fm_words.specs.Words.{same_bytes}
use Rattle.fm_cert.specs.declared.line.Line as program
use Rattle.fm_cert.specs.Naming.{number_after, forms_with}
use Rattle.fm_cert.specs.Parts.{words_of, forms_of}
use Rattle.fm_cert.specs.Said.{AreLinesOver, IsLineOver}

-- one more line over the variables
pub line_over : (n : ℕ) (ls : List program.Line) (l : program.Line) (new : List program.Line) → new ≡ ls ++ l ∷ [] → AreLinesOver n ls → IsLineOver n l
    → AreLinesOver n new
line_over n ls l new e all one = subst (AreLinesOver n) (sym e) (go ls all)
  where
    go : (ls : List program.Line) → AreLinesOver n ls → AreLinesOver n (ls ++ l ∷ [])
    go [] all = (one, tt)
    go (k ∷ ls) all = (all.0, go ls all.1)

-- ---- equality of forms
abbrev Form : Type 0
Form = Vec (Vec ℕ Global) Global

abbrev same_forms : Form → Form → Bool
same_forms x y = pointwise (λ (a b : Vec ℕ Global). pointwise nat_eq a.items b.items) x.items y.items

nat_eq_turned : (m n : ℕ) → nat_eq m n ≡ nat_eq n m
nat_eq_turned m n = by (nat_eq m n) (nat_eq n m) refl refl
  where
    by : (s t : Bool) → nat_eq m n ≡ s → nat_eq n m ≡ t → s ≡ t
    by true true e f = refl
    by false false e f = refl
    by true false e f = sym (eq-eqb n m (sym (eqb-true m n e))) ∙ f
    by false true e f = sym e ∙ eq-eqb m n (sym (eqb-true n m f))

pointwise_turned : {A : Type 0} (E : A → A → Bool) → ((x y : A) → E x y ≡ E y x) → (xs ys : List A) → pointwise E xs ys ≡ pointwise E ys xs
pointwise_turned E turn [] [] = refl
pointwise_turned E turn [] (y ∷ ys) = refl
pointwise_turned E turn (x ∷ xs) [] = refl
pointwise_turned E turn (x ∷ xs) (y ∷ ys) = ap₂ (λ a b. a && b) (turn x y) (pointwise_turned E turn xs ys)

words_same : (xs ys : List (Vec ℕ Global)) → pointwise (λ (a b : Vec ℕ Global). pointwise nat_eq a.items b.items) xs ys ≡ pointwise same_bytes (words_of xs) (words_of ys)
words_same [] [] = refl
words_same [] (y ∷ ys) = refl
words_same (x ∷ xs) [] = refl
words_same (x ∷ xs) (y ∷ ys) = ap (λ b. pointwise nat_eq x.items y.items && b) (words_same xs ys)

form_same : (x y : Form) → same_forms x y ≡ pointwise same_bytes (words_of y.items) (words_of x.items)
form_same x y = words_same x.items y.items ∙ pointwise_turned same_bytes (pointwise_turned nat_eq nat_eq_turned) (words_of x.items) (words_of y.items)

-- ---- the number of a form is its place among the keys
abbrev number_or_none : Bool → ℕ → Option ℕ
number_or_none true n = Some n
number_or_none false n = None

pub number_is : (n : ℕ) (keys : List Form) (form : Form)
    → number_after n (forms_of keys) (words_of form.items) ≡ number_or_none (list_any (same_forms form) keys) (n + suc (position_or_len (same_forms form) keys))
number_is n [] form = refl
number_is n (key ∷ keys) form = by (same_forms form key) (sym (form_same form key)) (number_is (suc n) keys form)
  where
    by : (t : Bool) → pointwise same_bytes (words_of key.items) (words_of form.items) ≡ t
        → number_after (suc n) (forms_of keys) (words_of form.items) ≡ number_or_none (list_any (same_forms form) keys) (suc n + suc (position_or_len (same_forms form) keys))
        → (if pointwise same_bytes (words_of key.items) (words_of form.items) then Some (suc n) else number_after (suc n) (forms_of keys) (words_of form.items))
        ≡ number_or_none (t || list_any (same_forms form) keys) (n + suc (if not t then 1 + prefix_len (λ x. not (same_forms form x)) keys else 0))
    by true is rest = rw is (ap Some (omega arith))
    by false is rest = rw is (rest ∙ ap (number_or_none (list_any (same_forms form) keys)) (omega arith))

-- ---- a form that is inserted
all_before : (form : Form) (ks : List Form) → list_any (same_forms form) ks ≡ false → position_or_len (same_forms form) ks ≡ length ks
all_before form [] e = refl
all_before form (k ∷ ks) e = by (same_forms form k) refl e (all_before form ks)
  where
    by : (t : Bool) → same_forms form k ≡ t → (t || list_any (same_forms form) ks) ≡ false → (list_any (same_forms form) ks ≡ false → position_or_len (same_forms form) ks ≡ length ks)
        → (if not t then 1 + prefix_len (λ x. not (same_forms form x)) ks else 0) ≡ suc (length ks)
    by true is e rest = absurd (let f : true ≡ false = e in cc)
    by false is e rest = let f = rest e in omega (arith, f)

module _ (old new : List Form) (form : Form) (place : ℕ) (keys : new ≡ (if list_any (same_forms form) old then old else old ++ form ∷ [])) (index : place ≡ position_or_len (same_forms form) old) where
  abbrev number : Option ℕ
  number = number_after zero (forms_of old) (words_of form.items)

  -- a new form has no number, and is the last of the forms then
  pub new_form : list_any (same_forms form) old ≡ false → (number ≡ None) × (forms_of new ≡ forms_of old ++ words_of form.items ∷ []) × (place + 1 ≡ length (forms_of old) + 1)
  new_form is = (
    number_is zero old form ∙ ap (λ t. number_or_none t (zero + suc (position_or_len (same_forms form) old))) is,
    ap forms_of (keys ∙ ap (λ (t : Bool). if t then old else old ++ form ∷ []) is) ∙ map-append (λ (f : Form). words_of f.items) old (form ∷ []),
    ap (λ m. m + 1) (index ∙ all_before form old is ∙ sym (length-map old (λ (f : Form). words_of f.items))),
  )

  -- a form that is there has its number
  pub known_form : list_any (same_forms form) old ≡ true → (number ≡ Some (place + 1)) × (forms_of new ≡ forms_of old)
  known_form is = (
    number_is zero old form ∙ ap (λ t. number_or_none t (zero + suc (position_or_len (same_forms form) old))) is ∙ ap Some (omega (arith, index)),
    ap forms_of (keys ∙ ap (λ (t : Bool). if t then old else old ++ form ∷ []) is),
  )

pub turned : (t s : Bool) → not t ≡ not s → t ≡ s
turned true true e = refl
turned false false e = refl
turned true false e = sym e
turned false true e = sym e
