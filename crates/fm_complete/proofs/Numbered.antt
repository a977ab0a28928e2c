-- Members by their numbers.
use Rattle.std.proofs.Common.{ℕ, zero, suc, ◌-◌, ◌≤◌, ◌≡◌, List, [], ◌∷◌, drop, sym, ap, ◌∙◌, arith}
use Rattle.fm_poly.specs.declared.ring.Ring.{Ring}
use Rattle.fm_vec.specs.Vectors.{VectorValue}
use Rattle.fm_complete.specs.Divisions.{AreMembers, terms_of}
use Rattle.fm_complete.specs.Trails.{member_at}

at_drop : (i : ℕ) (vs : List VectorValue) (m : VectorValue) (later : List VectorValue) → drop i vs ≡ m ∷ later → member_at (terms_of vs) (suc i) ≡ m.terms
at_drop zero [] m later e = cc
at_drop (suc i) [] m later e = cc
at_drop zero (v ∷ vs) m later e = let same : v ≡ m = cc in ap (λ (x : VectorValue). x.terms) same
at_drop (suc i) (v ∷ vs) m later e = at_drop i vs m later e

are_drop : (r : Ring) (rows i : ℕ) (vs : List VectorValue) (m : VectorValue) (later : List VectorValue) → drop i vs ≡ m ∷ later → AreMembers r rows vs → (m.ring ≡ r) × (m.rows ≡ rows)
are_drop r rows zero [] m later e a = cc
are_drop r rows (suc i) [] m later e a = cc
are_drop r rows zero (v ∷ vs) m later e a = let same : v ≡ m = cc in (sym (ap (λ (x : VectorValue). x.ring) same) ∙ a.0, sym (ap (λ (x : VectorValue). x.rows) same) ∙ a.1)
are_drop r rows (suc i) (v ∷ vs) m later e a = are_drop r rows i vs m later e a.3

module _ (n : ℕ) (vs from : List VectorValue) (m : VectorValue) (later : List VectorValue) (low : 1 ≤ n) (back : from ≡ drop (n - 1) vs) (here : from ≡ m ∷ later) where
  pub numbered : m.terms ≡ member_at (terms_of vs) n
  numbered = sym (at_drop (n - 1) vs m later (sym back ∙ here)) ∙ ap (member_at (terms_of vs)) (next n low)
    where
      next : (n : ℕ) → 1 ≤ n → suc (n - 1) ≡ n
      next n h = omega (arith, h)

  pub numbered_ring : (r : Ring) (rows : ℕ) → AreMembers r rows vs → m.ring ≡ r
  numbered_ring r rows a = (are_drop r rows (n - 1) vs m later (sym back ∙ here) a).0

  pub numbered_rows : (r : Ring) (rows : ℕ) → AreMembers r rows vs → m.rows ≡ rows
  numbered_rows r rows a = (are_drop r rows (n - 1) vs m later (sym back ∙ here) a).1
