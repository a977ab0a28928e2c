-- That entries and columns are read one after another.
use Rattle.std.proofs.Common.{◌≡◌, ℕ, List, [], ◌∷◌, All, length, subst}
use Rattle.std.proofs.lemmas.List.{nil_from_length}
use Rattle.std.proofs.lemmas.List.Elements.{All-cons, All-nil, All-same}
use Rattle.fm_mat.specs.Matrices.{AreColumns}
use Rattle.fm_poly.specs.declared.ring.Ring.{Ring}
use Rattle.fm_poly.specs.Polys.{PolyValue, IsCanonical}
use Rattle.fm_text.specs.SumOfTerms.{IsPolynomialOf}
use Rattle.fm_vec.specs.Components.{AreOver}

-- what is left is over the ring of all; once it is read, all are
abbrev pub AreEntriesRead : (all left : List PolyValue) → Type 0
AreEntriesRead all left = (r : Ring) → AreOver r all → AreOver r left × (All (IsPolynomialOf r) left → All (IsPolynomialOf r) all)

pub no_entry_read : (all : List PolyValue) → AreEntriesRead all all
no_entry_read all r over = (over, λ h. h)

pub entry_read : (all left : List PolyValue) (f : PolyValue) (later : List PolyValue) → left ≡ f ∷ later → IsCanonical f.ring f.terms
    → AreEntriesRead all left → AreEntriesRead all later
entry_read all left f later e canonical h r over =
    let now : AreOver r (f ∷ later) = subst (AreOver r) e (h r over).0 in (
      now.1,
      λ rest. (h r over).1 (All-same (IsPolynomialOf r) left (f ∷ later) e
          (All-cons (IsPolynomialOf r) f later (record { of_ring = now.0; canonical = subst (λ q. IsCanonical q f.terms) now.0 canonical }) rest)),
    )

pub entries_read : (all left : List PolyValue) → length left ≡ 0 → AreEntriesRead all left → (r : Ring) → AreOver r all → All (IsPolynomialOf r) all
entries_read all left e h r over =
    (h r over).1 (All-same (IsPolynomialOf r) left [] (nil_from_length left e) (All-nil (IsPolynomialOf r)))

abbrev pub AreColumnsRead : (all left : List (List PolyValue)) → Type 0
AreColumnsRead all left =
    (r : Ring) (rows : ℕ) → AreColumns r rows all → AreColumns r rows left × (All (All (IsPolynomialOf r)) left → All (All (IsPolynomialOf r)) all)

pub no_column_read : (all : List (List PolyValue)) → AreColumnsRead all all
no_column_read all r rows over = (over, λ h. h)

pub column_read : (all left : List (List PolyValue)) (c : List PolyValue) (later : List (List PolyValue)) → left ≡ c ∷ later
    → ((r : Ring) → AreOver r c → All (IsPolynomialOf r) c) → AreColumnsRead all left → AreColumnsRead all later
column_read all left c later e one h r rows over =
    let now : AreColumns r rows (c ∷ later) = subst (AreColumns r rows) e (h r rows over).0 in (
      now.2,
      λ rest. (h r rows over).1 (All-same (All (IsPolynomialOf r)) left (c ∷ later) e
          (All-cons (All (IsPolynomialOf r)) c later (one r now.0) rest)),
    )

pub columns_read : (all left : List (List PolyValue)) → length left ≡ 0 → AreColumnsRead all left
    → (r : Ring) (rows : ℕ) → AreColumns r rows all → All (All (IsPolynomialOf r)) all
columns_read all left e h r rows over =
    (h r rows over).1 (All-same (All (IsPolynomialOf r)) left [] (nil_from_length left e) (All-nil (All (IsPolynomialOf r))))
