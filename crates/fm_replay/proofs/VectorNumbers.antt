-- Vectors by their numbers.
use Rattle.std.proofs.Common.{ℕ, zero, suc, ◌-◌, ◌<◌, ◌≤◌, ◌≡◌, nat_lt, nat_le, ◌&&◌, true, false, List, [], ◌∷◌, drop, length, refl, sym, ap, ◌∙◌, arith}
use Rattle.std.proofs.lemmas.Bool.{and_from, le-leb, true≢false}
use Rattle.std.proofs.lemmas.Bool.Decides.{nat_tests}
use Rattle.std.specs.List.{list_all}
use Rattle.fm_poly.specs.declared.ring.Ring.{Ring}
use Rattle.fm_term.specs.declared.vterm.VTerm.{VTerm}
use Rattle.fm_vec.specs.Vectors.{VectorValue}
use Rattle.fm_complete.specs.Divisions.{terms_of}
use Rattle.fm_complete.specs.Standing.{AreOfShape}
use Rattle.fm_complete.specs.Trails.{member_at}
use Rattle.fm_complete.proofs.Standing.{length_terms}
use Rattle.fm_parts.specs.Replays.{is_number}

outside : (k n : ℕ) → n < k → (nat_lt 0 k && nat_le k n) ≡ false
outside k n h = grind (arith, nat_tests)

inside : (k n : ℕ) → 0 < k → k ≤ n → (nat_lt 0 k && nat_le k n) ≡ true
inside k n low high = grind (arith, nat_tests)

module _ (vs : List VectorValue) (k : ℕ) where
  pub no_zero : k ≡ 0 → is_number (terms_of vs) k ≡ false
  no_zero e = ap (λ n. nat_lt 0 n && nat_le n (length (terms_of vs))) e

  pub beyond : length vs < k → is_number (terms_of vs) k ≡ false
  beyond h = let l = length_terms vs in outside k (length (terms_of vs)) (omega (arith, h, l))

  pub there : 0 < k → k ≤ length vs → is_number (terms_of vs) k ≡ true
  there low high = let l = length_terms vs in inside k (length (terms_of vs)) low (omega (arith, high, l))

pub no_member : (gs : List (List VTerm)) (k : ℕ) → is_number gs k ≡ false → member_at gs k ≡ []
no_member gs zero e = refl
no_member [] (suc k) e = refl
no_member (g ∷ gs) (suc zero) e = absurd (true≢false (sym (inside 1 (length (g ∷ gs)) (omega arith) (omega arith)) ∙ e))
no_member (g ∷ gs) (suc (suc k)) e = no_member gs (suc k) (sym (shorter k (length gs)) ∙ e)
  where
    shorter : (k n : ℕ) → (nat_lt 0 (suc (suc k)) && nat_le (suc (suc k)) (suc n)) ≡ (nat_lt 0 (suc k) && nat_le (suc k) n)
    shorter k n = grind (arith, nat_tests)

shape_drop : (r : Ring) (rows i : ℕ) (vs : List VectorValue) (m : VectorValue) (later : List VectorValue) → drop i vs ≡ m ∷ later → AreOfShape r rows vs → (m.ring ≡ r) × (m.rows ≡ rows)
shape_drop r rows zero [] m later e a = cc
shape_drop r rows (suc i) [] m later e a = cc
shape_drop r rows zero (v ∷ vs) m later e a = let same : v ≡ m = cc in (sym (ap (λ (x : VectorValue). x.ring) same) ∙ a.0, sym (ap (λ (x : VectorValue). x.rows) same) ∙ a.1)
shape_drop r rows (suc i) (v ∷ vs) m later e a = shape_drop r rows i vs m later e a.2

pub numbered_shape : (n : ℕ) (vs from : List VectorValue) (m : VectorValue) (later : List VectorValue) → from ≡ drop (n - 1) vs → from ≡ m ∷ later
    → (r : Ring) (rows : ℕ) → AreOfShape r rows vs → (m.ring ≡ r) × (m.rows ≡ rows)
numbered_shape n vs from m later back here r rows a = shape_drop r rows (n - 1) vs m later (sym back ∙ here) a

-- a first number that is not there, or that is
pub first_missing : (vs : List VectorValue) (k : ℕ) (ks : List ℕ) → is_number (terms_of vs) k ≡ false → list_all (is_number (terms_of vs)) (k ∷ ks) ≡ false
first_missing vs k ks e = ap (λ b. b && list_all (is_number (terms_of vs)) ks) e

pub first_there : (vs : List VectorValue) (k : ℕ) (ks : List ℕ) → is_number (terms_of vs) k ≡ true → list_all (is_number (terms_of vs)) (k ∷ ks) ≡ list_all (is_number (terms_of vs)) ks
first_there vs k ks e = ap (λ b. b && list_all (is_number (terms_of vs)) ks) e
