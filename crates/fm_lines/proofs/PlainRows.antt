-- Rows without polynomials depend on no ring.
use Rattle.std.proofs.Common.{◌≡◌, Bool, true, false, List, [], ◌∷◌, Option, Some, None, refl, sym, ap, ◌∙◌}
use Rattle.std.specs.Prelude.{codes, if◌then◌else◌, option_map}
use Rattle.fm_poly.specs.declared.ring.Ring.{Ring}
use Rattle.fm_words.specs.Options.{◌>>=◌, where_so}
use Rattle.fm_words.specs.Parts.{Bytes}
use Rattle.fm_words.specs.Words.{same_bytes}
use Rattle.fm_cert.specs.Fields.{Field, number, times, name, yes_no, yes_with, keep_or_zero, by_numbers, numbers, free_words, generators, columns, Value, Item, word, field, Values, read, read_row}
use Rattle.fm_cert.specs.Kinds as kinds
use Rattle.fm_cert.specs.Kinds.{Kind, row, first_item, kind_among, unanswered_kind, refused_kind, closing_kind}
use Rattle.fm_cert.specs.Lines.{Line, Row}
use Rattle.fm_lines.specs.Plain.{line_after, some_ring, plain_row, plain_line}
use Rattle.fm_lines.specs.Forms.{form_kind, plain_part}
use Rattle.fm_lines.specs.PlainRows.{is_plain, is_plain_row, is_plain_line}

impossible : {A : Type 0} → false ≡ true → A
impossible h = absurd (cc)

module _ (r : Ring) (names : List Bytes) where
  same_field : (f : Field) (ws : List Bytes) → is_plain f ≡ true → read r names f ws ≡ read some_ring [] f ws
  same_field number ws h = refl
  same_field times ws h = refl
  same_field name ws h = refl
  same_field yes_no ws h = refl
  same_field (yes_with w) ws h = refl
  same_field keep_or_zero ws h = refl
  same_field by_numbers ws h = refl
  same_field numbers ws h = refl
  same_field free_words ws h = refl
  same_field generators ws h = impossible h
  same_field columns ws h = impossible h

  both : (a b : Bool) → (if a then b else false) ≡ true → (a ≡ true) × (b ≡ true)
  both true b h = (refl, h)
  both false b h = impossible h

  abbrev with_first : {A B : Type 0} → A → B → A × B
  with_first a b = (a, b)

  then_same : {A : Type 0} (o : Option (A × List Bytes)) (items : List Item) → ((ws : List Bytes) → read_row r names items ws ≡ plain_row items ws)
      → (o >>= λ x. option_map (with_first x.0) (read_row r names items x.1)) ≡ (o >>= λ x. option_map (with_first x.0) (plain_row items x.1))
  then_same None items h = refl
  then_same (Some x) items h = ap (option_map (with_first x.0)) (h x.1)

  pub same_row : (items : List Item) (ws : List Bytes) → is_plain_row items ≡ true → read_row r names items ws ≡ plain_row items ws
  same_row [] [] h = refl
  same_row [] (w ∷ ws) h = refl
  same_row (word w ∷ items) [] h = refl
  same_row (word w ∷ items) (v ∷ ws) h = ap (where_so (same_bytes v w)) (same_row items ws h)
  same_row (field f ∷ items) ws h =
      let b = both (is_plain f) (is_plain_row items) h in
      ap (λ (o : Option (Value f × List Bytes)). o >>= λ x. option_map (with_first x.0) (read_row r names items x.1)) (same_field f ws b.0)
      ∙ then_same {A = Value f} (read some_ring [] f ws) items (λ us. same_row items us b.1)

  pub same_line : (kind : Kind) (ws : List Bytes) → is_plain_row (row kind) ≡ true → line_after r names kind ws ≡ plain_line kind ws
  same_line kind ws h = ap (option_map (Row kind)) (same_row (row kind) (first_item (row kind) ∷ ws) h)

-- the kinds that there may be have no polynomials
abbrev pub may_be_plain : Option Kind → Bool
may_be_plain None = true
may_be_plain (Some kind) = is_plain_row (row kind)

abbrev pub are_plain : List Kind → Bool
are_plain [] = true
are_plain (kind ∷ ks) = if is_plain_row (row kind) then are_plain ks else false

-- a line by its kind, over the ring and over none
module _ (r : Ring) (names : List Bytes) where
  pub same_after : (o : Option Kind) (ws : List Bytes) → may_be_plain o ≡ true → (o >>= λ kind. line_after r names kind ws) ≡ (o >>= λ kind. plain_line kind ws)
  same_after None ws h = refl
  same_after (Some kind) ws h = same_line r names kind ws h

-- ---- which lines have no polynomials
unanswered_tests : (a b : Bool) → may_be_plain (if a then Some (kinds.Ended kinds.Budget) else (if b then Some (kinds.Ended kinds.Exponents) else None)) ≡ true
unanswered_tests true b = refl
unanswered_tests false true = refl
unanswered_tests false false = refl

pub unanswered_plain : (ws : List Bytes) → may_be_plain (unanswered_kind ws) ≡ true
unanswered_plain [] = refl
unanswered_plain (w ∷ ws) = unanswered_tests (same_bytes w (codes "budget")) (same_bytes w (codes "exponents"))

refused_tests : (a b c : Bool) → may_be_plain (if a then Some (kinds.Ended kinds.WrongLength)
    else (if b then Some (kinds.Ended kinds.NotCocycle) else (if c then Some (kinds.Ended kinds.NotContained) else None))) ≡ true
refused_tests true b c = refl
refused_tests false true c = refl
refused_tests false false true = refl
refused_tests false false false = refl

pub refused_plain : (ws : List Bytes) → may_be_plain (refused_kind ws) ≡ true
refused_plain [] = refl
refused_plain (w ∷ []) = refl
refused_plain (w ∷ v ∷ ws) = refused_tests (same_bytes w (codes "wrong")) (same_bytes v (codes "a")) (same_bytes v (codes "contained"))

pub closing_plain : (ws : List Bytes) → may_be_plain (closing_kind ws) ≡ true
closing_plain [] = refl
closing_plain (w ∷ ws) = refl

form_tests : (a b c d e f : Bool) → may_be_plain (if a then Some kinds.Twist else (if b then Some kinds.Flip else (if c then Some kinds.Beside
    else (if d then Some kinds.Stack else (if e then Some kinds.Times else (if f then Some kinds.Pick else None)))))) ≡ true
form_tests true b c d e f = refl
form_tests false true c d e f = refl
form_tests false false true d e f = refl
form_tests false false false true e f = refl
form_tests false false false false true f = refl
form_tests false false false false false true = refl
form_tests false false false false false false = refl

pub form_plain : (w : Bytes) → may_be_plain (form_kind w) ≡ true
form_plain w =
    form_tests (same_bytes w (codes "twist")) (same_bytes w (codes "flip")) (same_bytes w (codes "beside")) (same_bytes w (codes "stack")) (same_bytes w (codes "times"))
    (same_bytes w (codes "pick"))

-- a part of these forms says over each ring the same
pub same_part : (r : Ring) (names : List Bytes) (form : Bytes) (ws : List Bytes) → plain_part form ws ≡ (form_kind form >>= λ kind. line_after r names kind ws)
same_part r names form ws = sym (same_after r names (form_kind form) ws (form_plain form))

-- a line that was read as plain is plain
pub plain_said : (kind : Kind) (o : Option (Values (row kind))) (l : Line) → is_plain_row (row kind) ≡ true → Some l ≡ option_map (Row kind) o → is_plain_line l ≡ true
plain_said kind None l h e = absurd (cc)
plain_said kind (Some vs) l h e = ap is_plain_line (same_some e) ∙ h
  where
    same_some : {x y : Line} → ◌≡◌ {A = Option Line} (Some x) (Some y) → x ≡ y
    same_some e = cc

pub plain_after : (k : Option Kind) (us : List Bytes) (l : Line) → may_be_plain k ≡ true → Some l ≡ (k >>= λ kind. plain_line kind us) → is_plain_line l ≡ true
plain_after None us l h e = absurd (cc)
plain_after (Some kind) us l h e = plain_said kind (plain_row (row kind) (first_item (row kind) ∷ us)) l h e

among_test : (kind : Kind) (o : Option Kind) (t : Bool) → is_plain_row (row kind) ≡ true → may_be_plain o ≡ true → may_be_plain (if t then Some kind else o) ≡ true
among_test kind o true h k = h
among_test kind o false h k = k

pub among_plain : (w : Bytes) (ks : List Kind) → are_plain ks ≡ true → may_be_plain (kind_among w ks) ≡ true
among_plain w [] h = refl
among_plain w (kind ∷ ks) h =
    let b = both some_ring [] (is_plain_row (row kind)) (are_plain ks) h in
    among_test kind (kind_among w ks) (same_bytes w (first_item (row kind))) b.0 (among_plain w ks b.1)
