-- Which lines tell a version.
use Rattle.std.proofs.Common.{◌≡◌, ℕ, Bool, true, false, List, [], ◌∷◌, Option, Some, None, refl, sym, ap, ◌∙◌}
use Rattle.std.specs.Prelude.{codes, if◌then◌else◌, option_map}
use Rattle.std.specs.List.{list_all}
use Rattle.fm_poly.specs.declared.ring.Ring.{Ring}
use Rattle.fm_words.specs.Options.{◌>>=◌, where_so}
use Rattle.fm_words.specs.Parts.{Bytes, parts, before_mark, after_mark}
use Rattle.fm_words.specs.Words.{same_bytes, words, nonempty}
use Rattle.fm_words.specs.declared.mark.Mark.TheVariants.{Blank}
use Rattle.fm_problem.specs.declared.query.Query.{Query}
use Rattle.fm_problem.specs.Statements.{Statement, statement_of}
use Rattle.fm_cert.specs.Fields.{Values, exact_number, read_row}
use Rattle.fm_cert.specs.Kinds as kinds
use Rattle.fm_cert.specs.Kinds.{Kind, row, first_item, kind_among, part_kind, unanswered_kind, refused_kind, closing_kind, kind_of}
use Rattle.fm_cert.specs.Lines.{Line, Head, Question, Row, begins_head, is_full, question_of, row_of, line_of}
use Rattle.fm_lines.specs.Plain.{some_ring, plain_row}
use Rattle.fm_lines.specs.PlainKinds.{answered}
use Rattle.fm_lines.specs.Shapes.{one_number, one_said}
use Rattle.fm_lines.specs.Versions.{version_of, version_in}
use Rattle.fm_lines.proofs.PlainOver.{impossible}

abbrev is_other : Kind → Bool
is_other kinds.Report = false
is_other kind = true

abbrev may_be_other : Option Kind → Bool
may_be_other None = true
may_be_other (Some kind) = is_other kind

abbrev are_others : List Kind → Bool
are_others [] = true
are_others (kind ∷ ks) = if is_other kind then are_others ks else false

other_version : (kind : Kind) (vs : Values (row kind)) → is_other kind ≡ true → version_of (Row kind vs) ≡ None
other_version kinds.Report vs h = impossible h
other_version kind vs h = refl

other_row : (kind : Kind) (o : Option (Values (row kind))) → is_other kind ≡ true → version_in (option_map (Row kind) o) ≡ None
other_row kind None h = refl
other_row kind (Some vs) h = other_version kind vs h

both : (a b : Bool) → (if a then b else false) ≡ true → (a ≡ true) × (b ≡ true)
both true b h = (refl, h)
both false b h = impossible h

either : (t : Bool) (a b : Option Kind) → may_be_other a ≡ true → may_be_other b ≡ true → may_be_other (if t then a else b) ≡ true
either true a b h k = h
either false a b h k = k

among_others : (w : Bytes) (ks : List Kind) → are_others ks ≡ true → may_be_other (kind_among w ks) ≡ true
among_others w [] h = refl
among_others w (kind ∷ ks) h =
    let b = both (is_other kind) (are_others ks) h in
    either (same_bytes w (first_item (row kind))) (Some kind) (kind_among w ks) b.0 (among_others w ks b.1)

part_other : (ws : List Bytes) → may_be_other (part_kind ws) ≡ true
part_other [] = refl
part_other (k ∷ []) = refl
part_other (k ∷ f ∷ ws) =
    either (same_bytes f (codes "given")) _ _ refl (either (same_bytes f (codes "twist")) _ _ refl (either (same_bytes f (codes "flip")) _ _ refl
    (either (same_bytes f (codes "beside")) _ _ refl (either (same_bytes f (codes "stack")) _ _ refl (either (same_bytes f (codes "times")) _ _ refl
    (either (same_bytes f (codes "pick")) (Some kinds.Pick) None refl refl))))))

answer_other : (asked : Option Query) → may_be_other (answered asked) ≡ true
answer_other None = refl
answer_other (Some q) = refl

unanswered_other : (ws : List Bytes) → may_be_other (unanswered_kind ws) ≡ true
unanswered_other [] = refl
unanswered_other (v ∷ ws) =
    either (same_bytes v (codes "budget")) _ _ refl (either (same_bytes v (codes "exponents")) (Some (kinds.Ended kinds.Exponents)) None refl refl)

refused_other : (ws : List Bytes) → may_be_other (refused_kind ws) ≡ true
refused_other [] = refl
refused_other (v ∷ []) = refl
refused_other (v ∷ u ∷ ws) =
    either (same_bytes v (codes "wrong")) _ _ refl (either (same_bytes u (codes "a")) _ _ refl
    (either (same_bytes u (codes "contained")) (Some (kinds.Ended kinds.NotContained)) None refl refl))

closing_other : (ws : List Bytes) → may_be_other (closing_kind ws) ≡ true
closing_other [] = refl
closing_other (v ∷ ws) = refl

first_other : (w : Bytes) (ks : List Kind) (t : Bool) → same_bytes w (codes "report") ≡ t → t ≡ false → are_others ks ≡ true
    → may_be_other (kind_among w (kinds.Report ∷ ks)) ≡ true
first_other w ks true e f h = impossible (sym f)
first_other w ks false e f h = ap (λ (t : Bool). may_be_other (if t then Some kinds.Report else kind_among w ks)) e ∙ among_others w ks h

abbrev after_report : List Kind → List Kind
after_report [] = []
after_report (kind ∷ ks) = ks

kind_other : (asked : Option Query) (w : Bytes) (ws : List Bytes) → same_bytes w (codes "report") ≡ false → may_be_other (kind_of asked (w ∷ ws)) ≡ true
kind_other asked w ws h =
    either (same_bytes w (codes "part")) (part_kind ws) _ (part_other ws)
    (either (same_bytes w (codes "answer")) (answered asked) _ (answer_other asked)
    (either (same_bytes w (codes "unanswered")) (unanswered_kind ws) _ (unanswered_other ws)
    (either (same_bytes w (codes "refused")) (refused_kind ws) _ (refused_other ws)
    (either (same_bytes w (codes "end")) (closing_kind ws) (kind_among w kinds.by_first) (closing_other ws)
    (first_other w (after_report kinds.by_first) (same_bytes w (codes "report")) refl h refl)))))

module _ (r : Ring) (names : List Bytes) (asked : Option Query) where
  row_other : (o : Option Kind) (us : List Bytes) → may_be_other o ≡ true → version_in (o >>= λ kind. option_map (Row kind) (read_row r names (row kind) us)) ≡ None
  row_other None us h = refl
  row_other (Some kind) us h = other_row kind (read_row r names (row kind) us) h

  head_other : (o : Option Statement) → version_in (option_map Head o) ≡ None
  head_other None = refl
  head_other (Some s) = refl

  asks_other : (k : Option ℕ) (o : Option Statement) → version_in (k >>= λ n. option_map (Question n) o) ≡ None
  asks_other None o = refl
  asks_other (Some n) None = refl
  asks_other (Some n) (Some s) = refl

  full_other : (t : Bool) (w : Bytes) (ws : List Bytes) → same_bytes w (codes "report") ≡ false → version_in (where_so t (Some (w ∷ ws)) >>= row_of r names asked) ≡ None
  full_other true w ws h = row_other (kind_of asked (w ∷ ws)) (w ∷ ws) (kind_other asked w ws h)
  full_other false w ws h = refl

  tests_other : (s t : Bool) (a b c : Option Line) → version_in a ≡ None → version_in b ≡ None → version_in c ≡ None → version_in (if s then a else (if t then b else c)) ≡ None
  tests_other true t a b c h k l = h
  tests_other false true a b c h k l = k
  tests_other false false a b c h k l = l

  -- a line whose first word is another tells none
  pub other_line : (text w : Bytes) (ws : List Bytes) → parts Blank text ≡ w ∷ ws → same_bytes w (codes "report") ≡ false → None ≡ version_in (line_of r names asked text)
  unfolding line_of
  other_line text w ws e h =
      sym (tests_other (begins_head (words text)) (same_bytes (before_mark Blank text) (codes "query")) _ _ _ (head_other (statement_of text))
      (asks_other (exact_number (before_mark Blank (after_mark Blank text))) (statement_of (after_mark Blank (after_mark Blank text))))
      (ap (λ ps. version_in (where_so (list_all is_full ps) (Some ps) >>= row_of r names asked)) e ∙ full_other (list_all is_full (w ∷ ws)) w ws h))

  abbrev first_value : Values one_number → ℕ
  first_value vs = vs.0

  abbrev with_words : ℕ → List Bytes → ℕ × List Bytes
  with_words n us = (n, us)

  abbrev with_end : ℕ → Unit {0} → ℕ × Unit {0}
  with_end n end = (n, end)

  -- a number, where this is read, and then the end
  abbrev rowed : Ring → List Bytes → Option ℕ → List Bytes → Option (Values one_number)
  rowed s ns o us = option_map (λ n. with_words n us) o >>= λ x. option_map (with_end x.0) (read_row s ns [] x.1)

  number_said : (o : Option ℕ) (us : List Bytes) → version_in (option_map (Row kinds.Report) (rowed r names o us)) ≡ option_map first_value (rowed some_ring [] o us)
  number_said None us = refl
  number_said (Some n) [] = refl
  number_said (Some n) (v ∷ vs) = refl

  row_said : (ws : List Bytes) → version_in (row_of r names asked (codes "report" ∷ ws)) ≡ option_map first_value (plain_row one_number ws)
  row_said [] = refl
  row_said (w ∷ us) = number_said (exact_number w) us

  no_word : (w : Bytes) → list_all is_full (w ∷ []) ≡ false → option_map first_value (plain_row one_number (w ∷ [])) ≡ None
  unfolding exact_number
  no_word [] h = refl
  no_word (b ∷ bs) h = impossible (sym h)

  more_words : (o : Option ℕ) (v : Bytes) (vs : List Bytes) → option_map first_value (rowed some_ring [] o (v ∷ vs)) ≡ None
  more_words None v vs = refl
  more_words (Some n) v vs = refl

  not_full : (ws : List Bytes) → list_all is_full ws ≡ false → option_map first_value (plain_row one_number ws) ≡ None
  not_full [] h = impossible (sym h)
  not_full (w ∷ []) h = no_word w h
  not_full (w ∷ v ∷ us) h = more_words (exact_number w) v us

  gated : (t : Bool) (us : List Bytes) (x : Option ℕ) → version_in (row_of r names asked us) ≡ x → (t ≡ false → x ≡ None) → version_in (where_so t (Some us) >>= row_of r names asked) ≡ x
  gated true us x h k = h
  gated false us x h k = sym (k refl)

  value_of : (n : Option ℕ) → n ≡ option_map first_value (option_map one_said n)
  value_of None = refl
  value_of (Some k) = refl

  -- a line whose first word is `report` tells the number that is all of the rest
  pub report_line : (text : Bytes) (ws : List Bytes) (n : Option ℕ) → parts Blank text ≡ codes "report" ∷ ws → before_mark Blank text ≡ codes "report"
      → option_map one_said n ≡ plain_row one_number ws → n ≡ version_in (line_of r names asked text)
  unfolding line_of
  report_line text ws n e b h =
      value_of n ∙ ap (option_map first_value) h
      ∙ sym (ap (λ ps. version_in (if begins_head (nonempty ps) then option_map Head (statement_of text)
      else (if same_bytes (before_mark Blank text) (codes "query") then question_of (after_mark Blank text)
      else (where_so (list_all is_full ps) (Some ps) >>= row_of r names asked)))) e
      ∙ ap (λ u. version_in (if same_bytes u (codes "query") then question_of (after_mark Blank text)
      else (where_so (list_all is_full ws) (Some (codes "report" ∷ ws)) >>= row_of r names asked))) b
      ∙ gated (list_all is_full ws) (codes "report" ∷ ws) (option_map first_value (plain_row one_number ws)) (row_said ws) (not_full ws))
