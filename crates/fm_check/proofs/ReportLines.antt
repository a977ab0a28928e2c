-- No exponent is written in the first line of a report.
use Rattle.std.proofs.Common.{◌≡◌, ℕ, ◌<◌, Bool, true, false, ◌||◌, if◌then◌else◌, cond, nat_eq, nat_lt, List, [], ◌∷◌, codes, Option, Some, None, option_map, refl, sym, ap, ◌∙◌, subst, arith, inl, inr}
use Rattle.std.specs.List.{list_all, list_any, onto_first}
use Rattle.std.proofs.lemmas.Bool.{and_parts, cases_eq, ltb-true, ne_eqb}
use Rattle.fm_poly.specs.declared.ring.Ring.{Ring}
use Rattle.fm_words.specs.declared.mark.Mark.TheVariants.{Blank}
use Rattle.fm_words.specs.Options.{◌>>=◌, where_so}
use Rattle.fm_words.specs.Parts.{Bytes, is_mark, parts, before_mark, after_mark}
use Rattle.fm_words.specs.Words.{words, is_digit, is_number, same_bytes, value}
use Rattle.fm_words.proofs.Cuts.{first_of_parts}
use Rattle.fm_text.proofs.PolynomialsRead.{same_name}
use Rattle.fm_problem.specs.declared.query.Query.{Query}
use Rattle.fm_problem.specs.Statements.{statement_of}
use Rattle.fm_cert.specs.Fields.{Values, exact_number, read_row}
use Rattle.fm_cert.specs.Kinds as kinds
use Rattle.fm_cert.specs.Kinds.{Kind, row, kind_of}
use Rattle.fm_cert.specs.Lines.{Line, Head, Question, Row, begins_head, exact_words, is_full, question_of, row_of, line_of}
use Rattle.fm_judge.proofs.Options.{none_some, same_some, followed, mapped, where_true}

-- what holds of texts that are such lines: no exponent is written in them
abbrev pub IsPlainIf : Bytes → Line → Type 0
IsPlainIf text (Row kinds.Report v) = list_any (nat_eq 94) text ≡ false
IsPlainIf text line = Unit {0}

no_caret : (b : ℕ) → is_mark Blank b ≡ true → nat_eq 94 b ≡ false
no_caret b is = elim (cases_eq 94 b) [
  | inl e ↦ absurd (let x : false ≡ true = ap (is_mark Blank) e ∙ is in cc)
  | inr n ↦ ne_eqb 94 b n
]

or_assoc : (a b c : Bool) → (a || (b || c)) ≡ ((a || b) || c)
or_assoc true b c = refl
or_assoc false b c = refl

in_parts : (text : Bytes) → list_any (nat_eq 94) text ≡ list_any (list_any (nat_eq 94)) (parts Blank text)
in_parts [] = refl
in_parts (b ∷ bs) = by (is_mark Blank b) refl (first_of_parts Blank bs) (in_parts bs) where
  by : (t : Bool) → is_mark Blank b ≡ t → (p : Bytes) × (ps : List Bytes) × (parts Blank bs ≡ p ∷ ps)
      → list_any (nat_eq 94) bs ≡ list_any (list_any (nat_eq 94)) (parts Blank bs)
      → (nat_eq 94 b || list_any (nat_eq 94) bs) ≡ list_any (list_any (nat_eq 94)) (cond t ([] ∷ parts Blank bs) (onto_first b (parts Blank bs)))
  by true is f e = ap (λ (u : Bool). u || list_any (nat_eq 94) bs) (no_caret b is) ∙ e
  by false is f e =
      ap (λ (u : Bool). nat_eq 94 b || u) (e ∙ ap (list_any (list_any (nat_eq 94))) f.2)
      ∙ or_assoc (nat_eq 94 b) (list_any (nat_eq 94) f.0) (list_any (list_any (nat_eq 94)) f.1)
      ∙ sym (ap (λ ps. list_any (list_any (nat_eq 94)) (onto_first b ps)) f.2)

digit_plain : (b : ℕ) → is_digit b ≡ true → nat_eq 94 b ≡ false
digit_plain b h =
    let below : b < 58 = ltb-true b 58 (and_parts (nat_lt 47 b) (nat_lt b 58) h).1 in
    let n : 94 ≡ b → ⊥ = λ e. absurd (omega (arith, below, e)) in
    ne_eqb 94 b n

digits_plain : (bs : Bytes) → list_all is_digit bs ≡ true → list_any (nat_eq 94) bs ≡ false
digits_plain [] h = refl
digits_plain (b ∷ bs) h = let s = and_parts (is_digit b) (list_all is_digit bs) h in rw (digit_plain b s.0) (digits_plain bs s.1)

number_plain : (w : Bytes) → is_number w ≡ true → list_any (nat_eq 94) w ≡ false
number_plain [] h = refl
number_plain (b ∷ bs) h = digits_plain (b ∷ bs) h

exact_plain : (w : Bytes) (n : ℕ) → exact_number w ≡ Some n → list_any (nat_eq 94) w ≡ false
unfolding exact_number
exact_plain w n e = number_plain w (and_parts (is_number w) _ (where_true _ (Some (value w)) n e).0).0

module _ (r : Ring) (names : List Bytes) (asked : Option Query) where
  report_plain : (ws : List Bytes) (v : Values (row kinds.Report)) → read_row r names (row kinds.Report) ws ≡ Some v → list_any (list_any (nat_eq 94)) ws ≡ false
  report_plain [] v e = absurd (none_some e)
  report_plain (w ∷ []) v e = absurd (none_some (where_true (same_bytes w (codes "report")) None v e).1)
  report_plain (w ∷ u ∷ us) v e =
      let t = where_true (same_bytes w (codes "report")) _ v e in
      let n = followed (option_map (λ n. (n, us)) (exact_number u)) _ v t.1 in
      let m = mapped (λ n. (n, us)) (exact_number u) n.0 n.1 in
      let rest = mapped _ (read_row r names [] (n.0).1) v n.2 in
      plain (same_name w (codes "report") t.0) (exact_plain u m.0 m.1) (nothing us rest.0 (subst (λ x. read_row r names [] x.1 ≡ Some rest.0) (sym m.2) rest.1))
    where
      nothing : (us : List Bytes) (x : Unit {0}) → read_row r names [] us ≡ Some x → us ≡ []
      nothing [] x e = refl
      nothing (u ∷ us) x e = absurd (none_some e)

      plain : w ≡ codes "report" → list_any (nat_eq 94) u ≡ false → us ≡ [] → list_any (list_any (nat_eq 94)) (w ∷ u ∷ us) ≡ false
      plain a b c = rw (a, b, c) refl

  -- a text is plain that is such a line
  pub plain_line : (text : Bytes) (l : Line) → line_of r names asked text ≡ Some l → IsPlainIf text l
  unfolding line_of
  plain_line text l e = by (begins_head (words text)) (same_bytes (before_mark Blank text) (codes "query")) e where
    of_row : (kind : Kind) (v : Values (row kind)) → read_row r names (row kind) (parts Blank text) ≡ Some v → IsPlainIf text (Row kind v)
    of_row kinds.Report v e = in_parts text ∙ report_plain (parts Blank text) v e
    of_row kind v e = tt

    by : (b t : Bool) → (if b then option_map Head (statement_of text)
        else (if t then question_of (after_mark Blank text) else (exact_words text >>= row_of r names asked))) ≡ Some l → IsPlainIf text l
    by true t e = let m = mapped Head (statement_of text) l e in subst (IsPlainIf text) m.2 tt
    by false true e =
        let k = followed (exact_number (before_mark Blank (after_mark Blank text))) (λ k. option_map (Question k) (statement_of (after_mark Blank (after_mark Blank text)))) l e in
        let m = mapped (Question k.0) (statement_of (after_mark Blank (after_mark Blank text))) l k.2 in
        subst (IsPlainIf text) m.2 tt
    by false false e =
        let ws = followed (exact_words text) (row_of r names asked) l e in
        let full = where_true (list_all is_full (parts Blank text)) (Some (parts Blank text)) ws.0 ws.1 in
        let k = followed (kind_of asked ws.0) (λ kind. option_map (Row kind) (read_row r names (row kind) ws.0)) l ws.2 in
        let m = mapped (Row k.0) (read_row r names (row k.0) ws.0) l k.2 in
        subst (IsPlainIf text) m.2 (of_row k.0 m.0 (ap (read_row r names (row k.0)) (same_some full.1) ∙ m.1))
