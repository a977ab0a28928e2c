-- Lines that are appended to what is written.
use Rattle.std.proofs.Common.{ℕ, zero, suc, ◌≡◌, ◌<◌, ◌^◌, Bool, true, nat_eq, List, [], ◌∷◌, ◌++◌, map, length, Some, None, Result, Ok, Err, OnOk, refl, sym, ap, ap₂, ◌∙◌, subst, arith, append_assoc, append-nil}
use Rattle.std.specs.Prelude.{codes, decimal, drop, slice_get, Vec}
use Rattle.std.specs.Global.{Global}
use Rattle.std.specs.List.{flat_map}
use Rattle.std.proofs.lemmas.Grind.{flat_map-append}
use Rattle.fm_groebner.specs.Logs.{Entry}
use Rattle.fm_text.specs.Printing.{joined}
use Rattle.fm_text.proofs.PrintingSteps.{join_first}
use Rattle.fm_words.specs.Parts.{Bytes}
use Rattle.fm_words.specs.Words.{same_bytes}
use Rattle.fm_cert.specs.Kinds as kinds
use Rattle.fm_cert.specs.Lines.{Line, Row, line_words, line_text, lines_text}
use Rattle.fm_cert.specs.Pieces.{words_text, AreOverVariables, ArePiecesOver, IsPieceOver}
use Rattle.fm_cert.specs.declared.piece.Piece.{Piece}
use Rattle.fm_cert.proofs.LinesWritten.{text_append}
use Rattle.fm_poly.specs.Polys.{PolyValue}
use Rattle.fm_poly.specs.declared.ring.Ring.{Ring}
use Rattle.fm_vec.specs.Components.{AreOver}
use Rattle.fm_standard.specs.Writing.{Shelf, place_from, form_text, form_at, form_written, log_at, log_written, log_lines, entry_line}
use Rattle.fm_standard.specs.Small.{IsSmallLine, AreSmallLines}
use Rattle.fm_writer.specs.Writers.{WriterValue, texts_of, with_lines, HasNumbered, IsFormLine}

pub on_ok : {X E P Q : Type 0} (r : Result X E) → (P → Q) → OnOk r P → OnOk r Q
on_ok (Ok x) f p = f p
on_ok (Err e) f p = tt

-- one line is its words
pub one_line : (names : List Bytes) (l : Line) → lines_text names (l ∷ []) ≡ words_text (line_words names l)
unfolding lines_text line_text
one_line names l = append-nil (words_text (line_words names l))

pub line_page : (w : WriterValue) (l : Line) → record { names = w.names; text = w.text ++ words_text (line_words w.names l); shelf = w.shelf } ≡ with_lines w (l ∷ []) w.shelf
line_page w l = ap (λ t. record { names = w.names; text = w.text ++ t; shelf = w.shelf }) (sym (one_line w.names l))

-- lines after lines
pub more_lines : (w : WriterValue) (xs ys : List Line) (s t : Shelf) → with_lines (with_lines w xs s) ys t ≡ with_lines w (xs ++ ys) t
more_lines w xs ys s t =
    ap (λ u. record { names = w.names; text = u; shelf = t }) (append_assoc w.text (lines_text w.names xs) (lines_text w.names ys) ∙ ap (λ u. w.text ++ u) (sym (text_append w.names xs ys)))

pub no_lines : (w : WriterValue) → w ≡ with_lines w [] w.shelf
unfolding lines_text
no_lines w = ap (λ u. record { names = w.names; text = u; shelf = w.shelf }) (sym (append-nil w.text))

pub small_append : (xs ys : List Line) → AreSmallLines xs → AreSmallLines ys → AreSmallLines (xs ++ ys)
unfolding AreSmallLines
small_append [] ys s t = t
small_append (x ∷ xs) ys s t = (s.0, small_append xs ys s.1 t)

pub small_one : (l : Line) → IsSmallLine l → AreSmallLines (l ∷ [])
unfolding AreSmallLines
small_one l s = (s, tt)

pub small_cons : (l : Line) (ls : List Line) → IsSmallLine l → AreSmallLines ls → AreSmallLines (l ∷ ls)
unfolding AreSmallLines
small_cons l ls s t = (s, t)

pub small_none : AreSmallLines []
unfolding AreSmallLines
small_none = tt

pub line_from : (w new : WriterValue) (l : Line) (words : List Bytes) → words ≡ line_words w.names l
    → new ≡ record { names = w.names; text = w.text ++ words_text words; shelf = w.shelf } → new ≡ with_lines w (l ∷ []) w.shelf
line_from w new l words e n =
    n ∙ ap (λ ws. record { names = w.names; text = w.text ++ words_text ws; shelf = w.shelf }) e ∙ line_page w l

-- one more line of those that are to be written
pub one_more : (w v new : WriterValue) (l : Line) (ls all : List Line) → new ≡ with_lines v (l ∷ []) v.shelf → with_lines v (l ∷ ls) v.shelf ≡ with_lines w all w.shelf
    → with_lines new ls new.shelf ≡ with_lines w all w.shelf
one_more w v new l ls all n e = ap (λ (x : WriterValue). with_lines x ls x.shelf) n ∙ more_lines v (l ∷ []) ls v.shelf v.shelf ∙ e

-- ---- the line of a part
part_words : (d first : Bytes) (more : List Bytes) → words_text (codes "part" ∷ d ∷ first ∷ more) ≡ codes "part " ++ (d ++ 32 ∷ words_text (first ∷ more))
part_words d first more =
    ap (λ (t : Bytes). t ++ 10 ∷ []) (join_first 32 (codes "part") (d ∷ first ∷ more))
    ∙ ap (λ (t : Bytes). codes "part " ++ t) (append_assoc d (32 ∷ (first ++ joined 32 true more)) (10 ∷ []) ∙ ap (λ (t : Bytes). d ++ 32 ∷ (t ++ 10 ∷ [])) (sym (join_first 32 first more)))

module _ (w new : WriterValue) (first : Bytes) (more : List Bytes) (line : ℕ → Line) (is : IsFormLine w.names (first ∷ more) line) (t : Bytes) (e : t ≡ words_text (first ∷ more)) where
  abbrev test : Bytes → Bytes → Bool
  test t x = same_bytes x t

  text_is : form_text w.names (line zero) ≡ t
  text_is = ap (λ ws. words_text (drop 2 ws)) (is.words zero) ∙ sym e

  pub form_new : place_from zero (λ x. same_bytes x t) w.shelf.forms ≡ None → (n : ℕ) → n ≡ suc (length w.shelf.forms) → n < 2 ^ 64
      → new ≡ record { names = w.names; text = w.text ++ (codes "part " ++ (decimal n ++ 32 ∷ t)); shelf = record { forms = w.shelf.forms ++ t ∷ []; logs = w.shelf.logs } }
      → HasNumbered w (form_written w.names line w.shelf) new n
  unfolding form_written
  form_new none n count few page =
      let place : place_from zero (λ x. same_bytes x (form_text w.names (line zero))) w.shelf.forms ≡ None = ap (λ u. place_from zero (test u) w.shelf.forms) text_is ∙ none in
      let there = line (suc (length w.shelf.forms)) in
      let lines : lines_text w.names (line n ∷ []) ≡ codes "part " ++ (decimal n ++ 32 ∷ t) =
      one_line w.names (line n) ∙ ap words_text (is.words n) ∙ part_words (decimal n) first more ∙ ap (λ (u : Bytes). codes "part " ++ (decimal n ++ 32 ∷ u)) (sym e) in
      subst (λ o. HasNumbered w (form_at w.names line w.shelf o) new n) (sym place) (record {
        page = page ∙ ap₂ (λ u v. record { names = w.names; text = w.text ++ u; shelf = record { forms = w.shelf.forms ++ v ∷ []; logs = w.shelf.logs } })
            (sym lines ∙ ap (λ k. lines_text w.names (line k ∷ [])) count) (sym text_is);
        number = sym count;
        small = small_one there (is.small (suc (length w.shelf.forms)) (omega (arith, count, few)));
      })

  pub form_known : (n : ℕ) → place_from zero (λ x. same_bytes x t) w.shelf.forms ≡ Some n → new ≡ w → HasNumbered w (form_written w.names line w.shelf) new n
  unfolding form_written
  form_known n there page =
      let place : place_from zero (λ x. same_bytes x (form_text w.names (line zero))) w.shelf.forms ≡ Some n = ap (λ u. place_from zero (test u) w.shelf.forms) text_is ∙ there in
      subst (λ o. HasNumbered w (form_at w.names line w.shelf o) new n) (sym place) (record { page = page ∙ no_lines w; number = refl; small = small_none })

-- ---- logs
module _ (w new : WriterValue) (entries : List Entry) (k : ℕ) where
  pub log_new : k < 2 ^ 64 → AreSmallLines (map entry_line entries) → place_from zero (λ j. nat_eq j k) w.shelf.logs ≡ None → (n : ℕ) → n ≡ suc (length w.shelf.logs) → n < 2 ^ 64
      → new ≡ with_lines w (log_lines n k entries) (record { forms = w.shelf.forms; logs = w.shelf.logs ++ k ∷ [] })
      → HasNumbered w (log_written entries k w.shelf) new n
  unfolding log_written AreSmallLines
  log_new some entries_small none n count few page =
      subst (λ o. HasNumbered w (log_at entries k w.shelf o) new n) (sym none) (record {
        page = page ∙ ap (λ m. with_lines w (log_lines m k entries) (record { forms = w.shelf.forms; logs = w.shelf.logs ++ k ∷ [] })) count;
        number = sym count;
        small = ((subst (λ m. m < 2 ^ 64) count few, (some, tt)), small_append (map entry_line entries) (Row kinds.EndLog tt ∷ []) entries_small (tt, tt));
      })

  pub log_known : (n : ℕ) → place_from zero (λ j. nat_eq j k) w.shelf.logs ≡ Some n → new ≡ w → HasNumbered w (log_written entries k w.shelf) new n
  unfolding log_written
  log_known n there page =
      subst (λ o. HasNumbered w (log_at entries k w.shelf o) new n) (sym there) (record { page = page ∙ no_lines w; number = refl; small = small_none })

-- ---- pieces
pub pieces_more : (f : Piece → List Bytes) (ps new : List Piece) (p : Piece) (word : Bytes) (rest all : List Bytes) → new ≡ ps ++ p ∷ [] → f p ≡ word ∷ []
    → flat_map f ps ++ word ∷ rest ≡ all → flat_map f new ++ rest ≡ all
pieces_more f ps new p word rest all n is e =
    ap (λ (x : List Piece). flat_map f x ++ rest) n ∙ ap (λ (x : List Bytes). x ++ rest) (flat_map-append f ps (p ∷ []) ∙ ap (λ (x : List Bytes). flat_map f ps ++ x) (append-nil (f p) ∙ is))
    ∙ append_assoc (flat_map f ps) (word ∷ []) rest ∙ e

pub pieces_over : (n : ℕ) (ps : List Piece) (p : Piece) → ArePiecesOver n ps → IsPieceOver n p → ArePiecesOver n (ps ++ p ∷ [])
pieces_over n [] p all one = (one, tt)
pieces_over n (q ∷ ps) p all one = (all.0, pieces_over n ps p all.1 one)

-- a part is appended piece by piece
pub part_pushed : (old t1 t2 t3 t4 part d d' f form : Bytes) → t1 ≡ old ++ part → t2 ≡ t1 ++ d' → d' ≡ d → t3 ≡ t2 ++ 32 ∷ [] → t4 ≡ t3 ++ f → f ≡ form
    → t4 ≡ old ++ (part ++ (d ++ 32 ∷ form))
part_pushed old t1 t2 t3 t4 part d d' f form a b e g h i =
    h ∙ ap₂ (λ (x y : Bytes). x ++ y) (g ∙ ap (λ (x : Bytes). x ++ 32 ∷ []) (b ∙ ap₂ (λ (x y : Bytes). x ++ y) a e)) i
    ∙ append_assoc ((old ++ part) ++ d) (32 ∷ []) form ∙ append_assoc (old ++ part) d (32 ∷ form) ∙ append_assoc old part (d ++ 32 ∷ form)

pub text_at : (keys : List (Vec ℕ Global)) (k : ℕ) (f : Vec ℕ Global) (form : Bytes) → Some f ≡ slice_get keys k → slice_get (texts_of keys) k ≡ Some form → f.items ≡ form
text_at [] k f form e g = absurd (cc)
text_at (x ∷ keys) zero f form e g = cc
text_at (x ∷ keys) (suc k) f form e g = text_at keys k f form e g

-- entries over a ring are over its variables
pub entries_over : (r : Ring) (fs : List PolyValue) → AreOver r fs → AreOverVariables r.vars fs
entries_over r [] all = tt
entries_over r (f ∷ fs) all = (ap (λ (x : Ring). x.vars) (sym all.0), entries_over r fs all.1)

pub last_text : (ts us : List Bytes) (t : Bytes) (k : ℕ) → us ≡ ts ++ t ∷ [] → k ≡ length ts → slice_get us k ≡ Some t
last_text ts us t k e n = ap₂ slice_get e n ∙ at ts
  where
    at : (ts : List Bytes) → slice_get (ts ++ t ∷ []) (length ts) ≡ Some t
    at [] = refl
    at (x ∷ ts) = at ts

-- the lines of a log, one after another
pub log_pushed : (w s1 s2 s3 : WriterValue) (sh : Shelf) (n k : ℕ) (entries : List Entry)
    → s1 ≡ record { names = w.names; text = w.text ++ words_text (line_words w.names (Row kinds.Log (n, (k, tt)))); shelf = sh }
    → s2 ≡ with_lines s1 (map entry_line entries) s1.shelf
    → s3 ≡ record { names = s2.names; text = s2.text ++ words_text (line_words s2.names (Row kinds.EndLog tt)); shelf = s2.shelf }
    → s3 ≡ with_lines w (log_lines n k entries) sh
log_pushed w s1 s2 s3 sh n k entries a b e =
    let first : s1 ≡ with_lines w (Row kinds.Log (n, (k, tt)) ∷ []) sh =
    a ∙ ap (λ t. record { names = w.names; text = w.text ++ t; shelf = sh }) (sym (one_line w.names (Row kinds.Log (n, (k, tt))))) in
    let second : s2 ≡ with_lines w ((Row kinds.Log (n, (k, tt)) ∷ []) ++ map entry_line entries) sh =
    b ∙ ap (λ (x : WriterValue). with_lines x (map entry_line entries) x.shelf) first ∙ more_lines w (Row kinds.Log (n, (k, tt)) ∷ []) (map entry_line entries) sh sh in
    e ∙ line_page s2 (Row kinds.EndLog tt) ∙ ap (λ (x : WriterValue). with_lines x (Row kinds.EndLog tt ∷ []) x.shelf) second
    ∙ more_lines w ((Row kinds.Log (n, (k, tt)) ∷ []) ++ map entry_line entries) (Row kinds.EndLog tt ∷ []) sh sh
