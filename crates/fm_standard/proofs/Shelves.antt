-- What has a number: the forms of parts, which make parts of those before them.
use Rattle.std.proofs.Common.{◌≡◌, ℕ, zero, suc, ◌+◌, Bool, true, false, if◌then◌else◌, List, [], ◌∷◌, ◌++◌, map, length, Some, refl, sym, ap, ap₂, ◌∙◌, arith}
use Rattle.std.proofs.lemmas.Bool.{and_parts, eqb-true}
use Rattle.std.proofs.lemmas.List.{length-map}
use Rattle.fm_algebra.specs.Poly.{None≢Some, Some-same}
use Rattle.fm_words.specs.Words.{AreNames, same_bytes}
use Rattle.fm_words.specs.Parts.{Bytes}
use Rattle.fm_problem.specs.declared.problem.Problem.{Problem}
use Rattle.fm_problem.specs.declared.query.Query.{Query}
use Rattle.fm_report.specs.Parts.{Part}
use Rattle.fm_report.specs.Sheets.{numbered}
use Rattle.fm_standard.specs.Writing.{Shelf, bare, place_from, form_text}
use Rattle.fm_standard.proofs.Forms.{later, Form, form_line, made, still_made}
use Rattle.fm_standard.proofs.FormTexts.{IsWritableForm}

-- ---- equal texts
same_name : (x y : Bytes) → same_bytes x y ≡ true → x ≡ y
same_name [] [] h = refl
same_name [] (b ∷ y) h = absurd (let e : false ≡ true = h in cc)
same_name (a ∷ x) [] h = absurd (let e : false ≡ true = h in cc)
same_name (a ∷ x) (b ∷ y) h = ap₂ (λ u v. u ∷ v) (eqb-true a b (and_parts _ _ h).0) (same_name x y (and_parts _ _ h).1)

pub one_more : (n : ℕ) → suc n ≡ n + 1
one_more n = omega arith

moved : (m n : ℕ) → suc m + suc n ≡ m + suc (suc n)
moved m n = omega arith

pub counted : (n : ℕ) → zero + n ≡ n
counted n = omega arith

module _ (q : Problem) (h : AreNames q.vars) (l : length q.vars ≡ q.ring.vars) (z : Query) where
  -- ---- what has a number
  abbrev pub text_of : Form → Bytes
  text_of f = form_text q.vars (form_line f zero)

  -- these forms can be written, and make these parts
  abbrev pub AllMade : List Part → List Form → List Part → Type 0
  AllMade whole [] [] = Unit {0}
  AllMade whole [] (x ∷ xs) = ⊥
  AllMade whole (f ∷ fs) [] = ⊥
  AllMade whole (f ∷ fs) (x ∷ xs) = (made whole f ≡ Some x) × IsWritableForm q h l z f × AllMade whole fs xs

  -- the forms that have numbers make these parts
  pub record IsShelf (s : Shelf) (ps : List Part) : Type 0 where
    pub forms : List Form
    pub texts : s.forms ≡ map text_of forms
    pub made : AllMade ps forms ps

  -- nothing has a number
  pub bare_shelf : IsShelf bare []
  bare_shelf = record { forms = []; texts = refl; made = tt }

  pub all_kept : (whole : List Part) (y : Part) (fs : List Form) (xs : List Part) → AllMade whole fs xs → AllMade (whole ++ y ∷ []) fs xs
  all_kept whole y [] [] m = tt
  all_kept whole y [] (x ∷ xs) m = m
  all_kept whole y (f ∷ fs) [] m = m
  all_kept whole y (f ∷ fs) (x ∷ xs) m = (still_made whole (y ∷ []) f x m.0, m.1, all_kept whole y fs xs m.2)

  pub all_added : (whole : List Part) (f : Form) (y : Part) (fs : List Form) (xs : List Part) → AllMade whole fs xs → made whole f ≡ Some y → IsWritableForm q h l z f → AllMade whole (fs ++ f ∷ []) (xs ++ y ∷ [])
  all_added whole f y [] [] m e w = (e, w, tt)
  all_added whole f y [] (x ∷ xs) m e w = absurd m
  all_added whole f y (g ∷ fs) [] m e w = absurd m
  all_added whole f y (g ∷ fs) (x ∷ xs) m e w = (m.0, m.1, all_added whole f y fs xs m.2 e w)

  same_count : (whole : List Part) (fs : List Form) (xs : List Part) → AllMade whole fs xs → length fs ≡ length xs
  same_count whole [] [] m = refl
  same_count whole [] (x ∷ xs) m = absurd m
  same_count whole (f ∷ fs) [] m = absurd m
  same_count whole (f ∷ fs) (x ∷ xs) m = ap suc (same_count whole fs xs m.2)

  pub shelf_count : (s : Shelf) (ps : List Part) → IsShelf s ps → length s.forms ≡ length ps
  shelf_count s ps i = ap length i.texts ∙ length-map i.forms text_of ∙ same_count ps i.forms ps i.made

  -- a form with this text, its part, and the number of that
  pub record Found (t : Bytes) (k0 k : ℕ) (whole xs : List Part) : Type 0 where
    pub form : Form
    pub part : Part
    pub spot : ℕ
    pub counts : k ≡ k0 + suc spot
    pub here : numbered xs (suc spot) ≡ Some part
    pub made : made whole form ≡ Some part
    pub writable : IsWritableForm q h l z form
    pub same : text_of form ≡ t

  pub found : (t : Bytes) (k0 k : ℕ) (whole : List Part) (fs : List Form) (xs : List Part) → AllMade whole fs xs → place_from k0 (λ text. same_bytes text t) (map text_of fs) ≡ Some k → Found t k0 k whole xs
  found t k0 k whole [] xs m e = absurd (None≢Some e)
  found t k0 k whole (f ∷ fs) [] m e = absurd m
  found t k0 k whole (f ∷ fs) (x ∷ xs) m e = by (same_bytes (text_of f) t) refl e (found t (suc k0) k whole fs xs m.2)
    where
      by : (b : Bool) → same_bytes (text_of f) t ≡ b → (if b then Some (suc k0) else place_from (suc k0) (λ text. same_bytes text t) (map text_of fs)) ≡ Some k
          → (place_from (suc k0) (λ text. same_bytes text t) (map text_of fs) ≡ Some k → Found t (suc k0) k whole xs) → Found t k0 k whole (x ∷ xs)
      by true same e rest = record {
        form = f;
        part = x;
        spot = 0;
        counts = sym (Some-same e) ∙ one_more k0;
        here = refl;
        made = m.0;
        writable = m.1;
        same = same_name (text_of f) t same;
      }
      by false same e rest =
          let r = rest e in
          record {
            form = r.form;
            part = r.part;
            spot = suc r.spot;
            counts = r.counts ∙ moved k0 r.spot;
            here = later x xs r.spot ∙ r.here;
            made = r.made;
            writable = r.writable;
            same = r.same;
          }
