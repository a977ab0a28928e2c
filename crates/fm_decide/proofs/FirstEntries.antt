-- The first entries of columns, as they are printed.
use Rattle.std.proofs.Common.{◌≡◌, ◌∙◌, ℕ, List, [], ◌∷◌, ◌++◌, map, length, Vec, Result, Ok, Err, IfOk, sym, ap, ap₂, subst, subst₂, append_assoc, append-nil}
use Rattle.std.specs.Global.{Global}
use Rattle.std.proofs.lemmas.List.{nil_from_length}
use Rattle.fm_algebra.specs.Matrix.{component}
use Rattle.fm_algebra.specs.Polynomials.{Polynomial, polynomial_zero, polynomials}
use Rattle.fm_poly.specs.declared.ring.Ring.{Ring}
use Rattle.fm_poly.proofs.OrderedTerms.{meaning_empty}
use Rattle.fm_poly.specs.Polys.{PolyValue, IsCanonical, meaning}
use Rattle.fm_vec.specs.Components.{AreOver}
use Rattle.fm_limit.specs.Facts.{first_entries}
use Rattle.fm_mat.specs.Matrices.{AreColumns, MatrixValue, column_meaning, columns_meaning, matrix_meaning}
use Rattle.fm_cert.specs.Pieces.{AreOverVariables}
use Rattle.fm_answers.specs.Printed.{printed, printed_vector}
use Rattle.fm_answers.proofs.PrintedMatrices.{printed_back}

over_one : (n : ℕ) (fs : List PolyValue) (f : PolyValue) → AreOverVariables n fs → n ≡ f.ring.vars → AreOverVariables n (fs ++ f ∷ [])
over_one n [] f all one = (one, tt)
over_one n (g ∷ fs) f all one = (all.0, over_one n fs f all.1 one)

module _ (r : Ring) where
  -- a polynomial of the ring is printed as itself
  printed_same : (f : PolyValue) → f.ring ≡ r → IsCanonical f.ring f.terms → f ≡ printed r (meaning r f.terms)
  printed_same f ring canonical =
      ap (λ q. record { ring = q; terms = f.terms }) ring ∙ sym (printed_back r f.terms (subst (λ q. IsCanonical q f.terms) ring canonical))

  -- the first entries of columns, as they are printed
  abbrev pub firsts_printed : List (List (Polynomial r.prime r.vars)) → List PolyValue
  firsts_printed vs = printed_vector r (map (λ v. component (polynomials r.prime r.vars) v 0) vs)

  -- the first entry of a column, as it is printed
  abbrev pub first_printed : List (Polynomial r.prime r.vars) → PolyValue
  first_printed v = printed r (component (polynomials r.prime r.vars) v 0)

  pub first_is : (f : PolyValue) (later entries : List PolyValue) → entries ≡ f ∷ later → f.ring ≡ r → IsCanonical f.ring f.terms → f ≡ first_printed (column_meaning r entries)
  unfolding component
  first_is f later entries e ring canonical = printed_same f ring canonical ∙ ap (λ fs. first_printed (column_meaning r fs)) (sym e)

  pub first_copied : {E : Type 0} (result : Result PolyValue E) (f : PolyValue) (later entries : List PolyValue) → entries ≡ f ∷ later → AreOver r entries → IsCanonical f.ring f.terms
      → IfOk result (λ g. g ≡ f) → IfOk result (λ g. g ≡ first_printed (column_meaning r entries))
  first_copied (Err x) f later entries e over canonical h = tt
  first_copied (Ok g) f later entries e over canonical h = h ∙ first_is f later entries e (let all : AreOver r (f ∷ later) = subst (AreOver r) e over in all.0) canonical

  -- a column without entries has the first entry zero
  pub none_is : (f : PolyValue) (entries : List PolyValue) → length entries ≡ 0 → f.ring ≡ r → f.terms ≡ [] → f ≡ first_printed (column_meaning r entries)
  unfolding component polynomial_zero
  none_is f entries e ring none =
      ap₂ (λ q ts. record { ring = q; terms = ts }) ring none ∙ sym (printed_back r [] (record { listed = tt; falls = tt }))
      ∙ ap (printed r) (meaning_empty r) ∙ ap (λ fs. first_printed (column_meaning r fs)) (sym (nil_from_length entries e))

  module _ (rows : ℕ) where
    -- the first entries of some columns are printed, and other columns are left
    abbrev pub AreFirstsLeft : (whole out : List PolyValue) → List (List PolyValue) → Type 0
    AreFirstsLeft whole out left = (out ++ firsts_printed (columns_meaning r left) ≡ whole) × AreOverVariables r.vars out × AreColumns r rows left

    pub next_first : (f : PolyValue) (c : List PolyValue) (later left : List (List PolyValue)) (out new whole : List PolyValue) → left ≡ c ∷ later
        → f ≡ first_printed (column_meaning r c) → new ≡ out ++ f ∷ [] → AreFirstsLeft whole out left → AreFirstsLeft whole new later
    next_first f c later left out new whole e is n h =
        let columns : AreColumns r rows (c ∷ later) = subst (AreColumns r rows) e h.2 in
        let rest = firsts_printed (columns_meaning r later) in (
          ap (λ o. o ++ rest) n ∙ append_assoc out (f ∷ []) rest ∙ ap (λ g. out ++ (g ∷ rest)) is
              ∙ ap (λ l. out ++ firsts_printed (columns_meaning r l)) (sym e) ∙ h.0,
          subst (AreOverVariables r.vars) (sym n) (over_one r.vars out f h.1 (sym (ap (λ (g : PolyValue). g.ring.vars) is))),
          columns.2,
        )

    pub firsts_done : (left : List (List PolyValue)) (out whole : List PolyValue) → length left ≡ 0 → AreFirstsLeft whole out left → out ≡ whole
    firsts_done left out whole e h =
        sym (append-nil out) ∙ ap (λ l. out ++ firsts_printed (columns_meaning r l)) (sym (nil_from_length left e)) ∙ h.0

-- the first entries of the columns of a matrix
pub firsts_of : {E : Type 0} (m : MatrixValue) (s : Ring) (columns : List (List PolyValue)) (result : Result (Vec PolyValue Global) E) → s ≡ m.ring → columns ≡ m.columns
    → IfOk result (λ out. out.items ≡ firsts_printed s (columns_meaning s columns))
    → (r : Ring) → m.ring ≡ r → IfOk result (λ out. out.items ≡ printed_vector r (first_entries r.prime r.vars (matrix_meaning r m)))
unfolding first_entries
firsts_of m s columns result es ec h r er =
    subst₂ (λ (q : Ring) (cs : List (List PolyValue)). IfOk result (λ out. out.items ≡ firsts_printed q (columns_meaning q cs))) (es ∙ er) ec h
