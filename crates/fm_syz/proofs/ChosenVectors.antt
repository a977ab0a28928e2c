-- The vectors that are not zero, by their numbers.
use mathlib.Core.List.{append-nil}
use Rattle.std.proofs.Common.{ℕ, zero, suc, ◌+◌, ◌-◌, ◌≡◌, Bool, true, false, cond, not, List, [], ◌∷◌, ◌++◌, length, map, drop, get_or, refl, sym, ap, ap₂, ◌∙◌, subst, arith, append_assoc}
use Rattle.std.specs.Prelude.{is_some}
use Rattle.std.specs.List.{filter}
use Rattle.std.specs.Borrow.{Bor}
use Rattle.fm_poly.specs.declared.ring.Ring.{Ring}
use Rattle.fm_term.specs.declared.vterm.VTerm.{VTerm}
use Rattle.fm_term.specs.Falling.{head_of}
use Rattle.fm_vec.specs.Vectors.{VectorValue}
use Rattle.fm_complete.specs.Divisions.{terms_of}
use Rattle.fm_complete.specs.Standing.{AreOfShape, values}
use Rattle.fm_graphs.specs.Trims.{is_zero}
use Rattle.fm_syz.specs.Numbers.{numbers_from}

pub some_is : (ts : List VTerm) → is_some (head_of ts) ≡ not (is_zero ts)
some_is [] = refl
some_is (t ∷ ts) = refl

drop_next : (n : ℕ) (ts : List (List VTerm)) (t : List VTerm) (later : List (List VTerm)) → t ∷ later ≡ drop n ts → (t ≡ get_or ts n []) × (later ≡ drop (suc n) ts)
drop_next zero [] t later e = cc
drop_next zero (x ∷ xs) t later e = (cc, cc)
drop_next (suc n) [] t later e = cc
drop_next (suc n) (x ∷ xs) t later e = drop_next n xs t later e

module _ (ts : List (List VTerm)) where
  abbrev pub read : ℕ → List VTerm
  read k = get_or ts (k - 1) []

  abbrev pub is_chosen : ℕ → Bool
  is_chosen k = not (is_zero (read k))

  abbrev pub Chosen : List ℕ → ℕ → ℕ → Type 0
  Chosen numbers number left = numbers ++ filter is_chosen (numbers_from (suc number) left) ≡ filter is_chosen (numbers_from 1 (length ts))

  pub chosen_all : (numbers : List ℕ) (number left : ℕ) → left ≡ 0 → Chosen numbers number left → numbers ≡ filter is_chosen (numbers_from 1 (length ts))
  chosen_all numbers number left e h = sym (append-nil numbers) ∙ ap (λ n. numbers ++ filter is_chosen (numbers_from (suc number) n)) (sym e) ∙ h

  less_one : (n : ℕ) → n + 1 - 1 ≡ n
  less_one n = omega arith

  module _ (number : ℕ) (left later : List VectorValue) (v : VectorValue) (here : left ≡ v ∷ later) (from : terms_of left ≡ drop number ts) where
    both : (v.terms ≡ get_or ts number []) × (terms_of later ≡ drop (suc number) ts)
    both = drop_next number ts v.terms (terms_of later) (sym (ap terms_of here) ∙ from)

    pub read_next : v.terms ≡ read (number + 1)
    read_next = both.0 ∙ ap (λ k. get_or ts k []) (sym (less_one number))

    pub left_next : terms_of later ≡ drop (number + 1) ts
    left_next = both.1 ∙ ap (λ k. drop k ts) (let e : suc number ≡ number + 1 = omega arith in e)

    step : (some : Bool) (numbers : List ℕ) → some ≡ not (is_zero v.terms) → Chosen numbers number (length left)
        → numbers ++ cond some ((number + 1) ∷ filter is_chosen (numbers_from (suc (number + 1)) (length later))) (filter is_chosen (numbers_from (suc (number + 1)) (length later))) ≡ filter is_chosen (numbers_from 1 (length ts))
    step some numbers is h =
        ap (λ b. numbers ++ cond b ((number + 1) ∷ filter is_chosen (numbers_from (suc (number + 1)) (length later))) (filter is_chosen (numbers_from (suc (number + 1)) (length later)))) (is ∙ ap (λ us. not (is_zero us)) read_next)
        ∙ ap (λ k. numbers ++ filter is_chosen (numbers_from k (suc (length later)))) (let e : number + 1 ≡ suc number = omega arith in e)
        ∙ ap (λ k. numbers ++ filter is_chosen (numbers_from (suc number) k)) (sym (ap (λ (vs : List VectorValue). length vs) here)) ∙ h

    pub chosen_next : (some : Bool) (numbers numbers' : List ℕ) (k : ℕ) → some ≡ true → some ≡ not (is_zero v.terms) → k ≡ number + 1 → numbers' ≡ numbers ++ k ∷ [] → Chosen numbers number (length left) → Chosen numbers' (number + 1) (length later)
    chosen_next some numbers numbers' k here' is same pushed h =
        ap (λ ks. ks ++ filter is_chosen (numbers_from (suc (number + 1)) (length later))) (pushed ∙ ap (λ j. numbers ++ j ∷ []) same)
        ∙ append_assoc numbers ((number + 1) ∷ []) (filter is_chosen (numbers_from (suc (number + 1)) (length later))) ∙ step true numbers (sym here' ∙ is) h

    pub passed_next : (some : Bool) (numbers : List ℕ) → some ≡ false → some ≡ not (is_zero v.terms) → Chosen numbers number (length left) → Chosen numbers (number + 1) (length later)
    passed_next some numbers here' is h = step false numbers (sym here' ∙ is) h

  pub terms_next : (chosen chosen' : List (Bor VectorValue)) (numbers numbers' : List ℕ) (v : Bor VectorValue) (k : ℕ) → chosen' ≡ chosen ++ v ∷ [] → numbers' ≡ numbers ++ k ∷ [] → v.now.terms ≡ read k
      → terms_of (values chosen) ≡ map read numbers → terms_of (values chosen') ≡ map read numbers'
  terms_next chosen chosen' numbers numbers' v k e e' same h =
      ap (λ vs. terms_of (values vs)) e ∙ joined chosen ∙ ap₂ (λ us t. us ++ t ∷ []) h same ∙ sym (ap (map read) e' ∙ mapped numbers)
    where
      joined : (vs : List (Bor VectorValue)) → terms_of (values (vs ++ v ∷ [])) ≡ terms_of (values vs) ++ v.now.terms ∷ []
      joined [] = refl
      joined (w ∷ vs) = ap (λ us. w.now.terms ∷ us) (joined vs)

      mapped : (ks : List ℕ) → map read (ks ++ k ∷ []) ≡ map read ks ++ read k ∷ []
      mapped [] = refl
      mapped (j ∷ ks) = ap (λ us. read j ∷ us) (mapped ks)

pub shape_next : (r : Ring) (rows : ℕ) (chosen chosen' : List (Bor VectorValue)) (v : Bor VectorValue) → chosen' ≡ chosen ++ v ∷ [] → AreOfShape r rows (values chosen) → v.now.ring ≡ r → v.now.rows ≡ rows
    → AreOfShape r rows (values chosen')
shape_next r rows chosen chosen' v e s ring high = subst (λ vs. AreOfShape r rows (values vs)) (sym e) (go chosen s)
  where
    go : (vs : List (Bor VectorValue)) → AreOfShape r rows (values vs) → AreOfShape r rows (values (vs ++ v ∷ []))
    go [] s = (ring, high, tt)
    go (w ∷ vs) s = (s.0, s.1, go vs s.2)
