-- A vector and its column of polynomials give each other back
use Rattle.std.proofs.Common.{ℕ, zero, suc, ◌+◌, ◌==◌, ◌<◌, ◌≤◌, ◌≡◌, if◌then◌else◌, Bool, true, false, List, [], ◌∷◌, ◌++◌, map, take, drop, length, refl, sym, ap, ap₂, ◌∙◌, subst, arith, eq-eqb, append-nil}
use Rattle.std.proofs.lemmas.Bool.{eqb-true}
use Rattle.std.proofs.lemmas.Bool.Decides.{nat_tests}
use Rattle.fm_poly.specs.declared.ring.Ring.{Ring}
use Rattle.fm_poly.specs.declared.term.Term.{Term}
use Rattle.fm_poly.specs.Polys.{PolyValue, meaning}
use Rattle.fm_term.specs.declared.vterm.VTerm.{VTerm}
use Rattle.fm_term.specs.Places.{Falls}
use Rattle.fm_term.specs.Falling.{AreWithin}
use Rattle.fm_vec.specs.Vectors.{IsVector}
use Rattle.fm_vec.specs.Components.{component_meaning, component_terms, components_meaning, vector_meaning, column_from, placed, column_terms, AreOver}
use Rattle.fm_vec.specs.Steps.{front_count, unplaced, AreFrom}
use Rattle.fm_vec.proofs.PlacedTerms.{IsFront, front, falls_later, column_same, within_from}

-- each component is below m
abbrev AreBelow : ℕ → List VTerm → Type 0
AreBelow m [] = Unit {0}
AreBelow m (t ∷ ts) = (t.component < m) × AreBelow m ts

below_later : (m n : ℕ) (ts : List VTerm) → AreBelow m ts → AreBelow m (drop n ts)
below_later m zero ts w = w
below_later m (suc n) [] w = tt
below_later m (suc n) (t ∷ ts) w = below_later m n ts w.1

within_below : (n : ℕ) (ts : List VTerm) → AreWithin n ts → AreBelow (1 + n) ts
within_below n [] w = tt
within_below n (t ∷ ts) w = (less t.component n w.1, within_below n ts w.2)
  where
    less : (c n : ℕ) → c ≤ n → c < 1 + n
    less c n h = omega arith

take_then_drop : (n : ℕ) (ts : List VTerm) → take n ts ++ drop n ts ≡ ts
take_then_drop zero ts = refl
take_then_drop (suc n) [] = refl
take_then_drop (suc n) (t ∷ ts) = ap (λ x. t ∷ x) (take_then_drop n ts)

-- the terms at the front, placed again
placed_front : (k : ℕ) (ts : List VTerm) → placed k (unplaced (take (front_count k ts) ts)) ≡ take (front_count k ts) ts
placed_front k [] = refl
placed_front k (t ∷ ts) = go (t.component == k) refl (placed_front k ts)
  where
    go : (b : Bool) → (t.component == k) ≡ b → placed k (unplaced (take (front_count k ts) ts)) ≡ take (front_count k ts) ts
        → placed k (unplaced (take (if b then suc (front_count k ts) else 0) (t ∷ ts))) ≡ take (if b then suc (front_count k ts) else 0) (t ∷ ts)
    go true e later = ap₂ (λ c x. record { component = c; mono = t.mono; coeff = t.coeff } ∷ x) (sym (eqb-true t.component k e)) later
    go false e later = refl

other_component : (k i : ℕ) (ts : List Term) (us : List VTerm) → (k == i) ≡ false → component_terms i (placed k ts ++ us) ≡ component_terms i us
other_component k i [] us e = refl
other_component k i (t ∷ ts) us e =
    ap (λ b. if b then record { mono = t.mono; coeff = t.coeff } ∷ component_terms i (placed k ts ++ us) else component_terms i (placed k ts ++ us)) e ∙ other_component k i ts us e

own_component : (k : ℕ) (ts : List Term) (us : List VTerm) → component_terms k (placed k ts ++ us) ≡ ts ++ component_terms k us
own_component k [] us = refl
own_component k (t ∷ ts) us =
    ap (λ b. if b then record { mono = t.mono; coeff = t.coeff } ∷ component_terms k (placed k ts ++ us) else component_terms k (placed k ts ++ us)) (eq-eqb k k refl)
    ∙ ap (λ x. record { mono = t.mono; coeff = t.coeff } ∷ x) (own_component k ts us)

differs : (k i : ℕ) → k < i → (k == i) ≡ false
differs k i h = grind (arith, nat_tests)

differs_back : (k i : ℕ) → i < k → (k == i) ≡ false
differs_back k i h = grind (arith, nat_tests)

none_later : (i k : ℕ) (fs : List PolyValue) → i < k → component_terms i (column_terms k fs) ≡ []
none_later i k [] h = refl
none_later i k (f ∷ fs) h = other_component k i f.terms (column_terms (suc k) fs) (differs_back k i h) ∙ none_later i (suc k) fs (omega arith)

module _ (r : Ring) where
  back_from : (n k : ℕ) (ts : List VTerm) → Falls r.order ts → AreFrom k ts → AreBelow (k + n) ts → column_terms k (column_from r n k ts) ≡ ts
  back_from zero k [] w h b = refl
  back_from zero k (t ∷ ts) w h b = absurd (omega (arith, h.0, b.0))
  back_from (suc n) k ts w h b =
      ap₂ (λ x y. placed k x ++ y) (sym f.own) (ap (column_terms (suc k)) (column_same r n (suc k) ts (drop (front_count k ts) ts) (λ i l. sym (f.others i l))))
      ∙ ap₂ (λ x y. x ++ y) (placed_front k ts) (back_from n (suc k) (drop (front_count k ts) ts) (falls_later r (front_count k ts) ts w) f.above (subst (λ m. AreBelow m (drop (front_count k ts) ts)) moved (below_later (k + suc n) (front_count k ts) ts b)))
      ∙ take_then_drop (front_count k ts) ts
    where
      f : IsFront r k ts (front_count k ts)
      f = front r k ts w h

      moved : k + suc n ≡ suc k + n
      moved = omega arith

  -- the column of a vector gives the vector back
  pub column_of_vector : (n : ℕ) (ts : List VTerm) → IsVector r n ts → column_terms 1 (column_from r n 1 ts) ≡ ts
  column_of_vector n ts v = back_from n 1 ts v.falls (within_from r n ts v.within) (within_below n ts v.within)

  forth_from : (k : ℕ) (fs : List PolyValue) → AreOver r fs → column_from r (length fs) k (column_terms k fs) ≡ fs
  forth_from k [] w = refl
  forth_from k (f ∷ fs) w =
      ap₂ (λ x y. x ∷ y) first (column_same r (length fs) (suc k) (placed k f.terms ++ column_terms (suc k) fs) (column_terms (suc k) fs) (λ i l. other_component k i f.terms (column_terms (suc k) fs) (differs k i l))
      ∙ forth_from (suc k) fs w.1)
    where
      own : component_terms k (placed k f.terms ++ column_terms (suc k) fs) ≡ f.terms
      own = own_component k f.terms (column_terms (suc k) fs) ∙ ap (λ x. f.terms ++ x) (none_later k (suc k) fs (omega arith)) ∙ append-nil f.terms

      first : ◌≡◌ {A = PolyValue} (record { ring = r; terms = component_terms k (placed k f.terms ++ column_terms (suc k) fs) }) f
      first i = record { ring = (sym w.0) i; terms = own i }

  -- the vector of a column gives the column back
  pub vector_of_column : (fs : List PolyValue) → AreOver r fs → column_from r (length fs) 1 (column_terms 1 fs) ≡ fs
  vector_of_column fs w = forth_from 1 fs w

  -- ---- what both mean
  components_are : (n k : ℕ) (ts : List VTerm) → components_meaning r n k ts ≡ map (λ (f : PolyValue). meaning r f.terms) (column_from r n k ts)
  unfolding components_meaning component_meaning
  components_are zero k ts = refl
  components_are (suc n) k ts = ap (λ x. meaning r (component_terms k ts) ∷ x) (components_are n (suc k) ts)

  pub meaning_of_vector : (n : ℕ) (ts : List VTerm) → vector_meaning r n ts ≡ map (λ (f : PolyValue). meaning r f.terms) (column_from r n 1 ts)
  unfolding vector_meaning
  meaning_of_vector n ts = components_are n 1 ts

  pub meaning_of_column : (fs : List PolyValue) → AreOver r fs → vector_meaning r (length fs) (column_terms 1 fs) ≡ map (λ (f : PolyValue). meaning r f.terms) fs
  meaning_of_column fs w = meaning_of_vector (length fs) (column_terms 1 fs) ∙ ap (map (λ (f : PolyValue). meaning r f.terms)) (vector_of_column fs w)
