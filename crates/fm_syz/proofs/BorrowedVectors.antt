-- Lists of borrowed vectors, from which one is taken out and put back.
use Rattle.std.proofs.Common.{ℕ, zero, suc, ◌<◌, ◌≡◌, List, [], ◌∷◌, length, get_or, refl, ap, arith}
use Rattle.std.specs.Prelude.{insert, remove}
use Rattle.std.specs.Borrow.{Bor}
use Rattle.fm_poly.specs.declared.ring.Ring.{Ring}
use Rattle.fm_term.specs.declared.vterm.VTerm.{VTerm}
use Rattle.fm_vec.specs.Vectors.{VectorValue}
use Rattle.fm_complete.specs.Divisions.{terms_of}
use Rattle.fm_complete.specs.Standing.{AreOfShape, values}

-- their terms
abbrev pub terms_in : List (Bor VectorValue) → List (List VTerm)
terms_in vs = terms_of (values vs)

pub terms_count : (vs : List (Bor VectorValue)) → length (terms_in vs) ≡ length vs
terms_count [] = refl
terms_count (v ∷ vs) = ap suc (terms_count vs)

pub terms_removed : (vs : List (Bor VectorValue)) (i : ℕ) → terms_in (remove vs i) ≡ remove (terms_in vs) i
terms_removed [] zero = refl
terms_removed [] (suc i) = refl
terms_removed (v ∷ vs) zero = refl
terms_removed (v ∷ vs) (suc i) = ap (λ ts. v.now.terms ∷ ts) (terms_removed vs i)

pub terms_inserted : (vs : List (Bor VectorValue)) (i : ℕ) (w : Bor VectorValue) → terms_in (insert vs i w) ≡ insert (terms_in vs) i w.now.terms
terms_inserted [] zero w = refl
terms_inserted [] (suc i) w = refl
terms_inserted (v ∷ vs) zero w = refl
terms_inserted (v ∷ vs) (suc i) w = ap (λ ts. v.now.terms ∷ ts) (terms_inserted vs i w)

pub terms_at : (vs : List (Bor VectorValue)) (i : ℕ) (d : Bor VectorValue) (t : List VTerm) → i < length vs → (get_or vs i d).now.terms ≡ get_or (terms_in vs) i t
terms_at [] i d t h = absurd (omega arith)
terms_at (v ∷ vs) zero d t h = refl
terms_at (v ∷ vs) (suc i) d t h = terms_at vs i d t (omega arith)

module _ (r : Ring) (rows : ℕ) where
  pub shape_removed : (vs : List (Bor VectorValue)) (i : ℕ) → AreOfShape r rows (values vs) → AreOfShape r rows (values (remove vs i))
  shape_removed [] zero s = tt
  shape_removed [] (suc i) s = tt
  shape_removed (v ∷ vs) zero s = s.2
  shape_removed (v ∷ vs) (suc i) s = (s.0, s.1, shape_removed vs i s.2)

  pub shape_inserted : (vs : List (Bor VectorValue)) (i : ℕ) (w : Bor VectorValue) → AreOfShape r rows (values vs) → w.now.ring ≡ r → w.now.rows ≡ rows → AreOfShape r rows (values (insert vs i w))
  shape_inserted [] zero w s ring long = (ring, long, tt)
  shape_inserted [] (suc i) w s ring long = (ring, long, tt)
  shape_inserted (v ∷ vs) zero w s ring long = (ring, long, s)
  shape_inserted (v ∷ vs) (suc i) w s ring long = (s.0, s.1, shape_inserted vs i w s.2 ring long)

  pub shape_at : (vs : List (Bor VectorValue)) (i : ℕ) (d : Bor VectorValue) → i < length vs → AreOfShape r rows (values vs) → ((get_or vs i d).now.ring ≡ r) × ((get_or vs i d).now.rows ≡ rows)
  shape_at [] i d h s = absurd (omega arith)
  shape_at (v ∷ vs) zero d h s = (s.0, s.1)
  shape_at (v ∷ vs) (suc i) d h s = shape_at vs i d (omega arith) s.2
