-- Written lines state what they say.
use Rattle.std.proofs.Common.{◌≡◌, List, [], ◌∷◌, ◌++◌, map, true, refl, sym, ap, ◌∙◌, append_assoc}
use Rattle.std.specs.Prelude.{Some}
use Rattle.std.specs.List.{flat_map}
use Rattle.fm_words.specs.Parts.{Bytes}
use Rattle.fm_cert.specs.Lines.{Line, line_text, line_of}
use Rattle.fm_cert.proofs.LinesRead.{line_read}
use Rattle.fm_cert.proofs.OneLine.{one_line}
use Rattle.fm_report.specs.Sheets.{Sheet, blank, ring_in, names_in, say}
use Rattle.fm_report.specs.Reading.{stated_by, line_in, said_of, states, sheet_after, reading, lines_from, statements}
use Rattle.fm_cert.specs.Lines.{lines_text}
use Rattle.fm_report.specs.Reports.{says, after, IsWritableAfter, AreWritable}
use Rattle.fm_report.proofs.Lines.{is_one_line, lines_at}

module _ (names : List Bytes) where
  line_back : (s : Sheet) (l : Line) → IsWritableAfter names s l → line_in s (line_text names l) ≡ Some l
  unfolding line_in
  line_back s l w = ap (line_of (ring_in s.head) (names_in s.head) s.asked) (sym w.printed) ∙ line_read (ring_in s.head) (names_in s.head) w.named w.listed s.asked l w.writable

  line_whole : (s : Sheet) (l : Line) → IsWritableAfter names s l → is_one_line (line_text names l) ≡ true
  line_whole s l w = ap is_one_line (sym w.printed) ∙ one_line (ring_in s.head) (names_in s.head) w.named w.listed s.asked l w.writable

  pub lines_cut : (s : Sheet) (ls : List Line) → AreWritable names s ls → lines_from [] (lines_text names ls) ≡ map (line_text names) ls
  unfolding lines_text
  lines_cut s [] w = refl
  lines_cut s (l ∷ ls) w =
      ap (lines_from []) (append_assoc (line_text names l) (10 ∷ []) (flat_map (λ x. line_text names x ++ 10 ∷ []) ls))
      ∙ lines_at [] (line_text names l) (flat_map (λ x. line_text names x ++ 10 ∷ []) ls) (line_whole s l w.0)
      ∙ ap (λ rest. line_text names l ∷ rest) (lines_cut (sheet_after s (say s l)) ls w.1)

  pub lines_read : (s : Sheet) (ls : List Line) → AreWritable names s ls → reading s (map (line_text names) ls) ≡ says s ls
  lines_read s [] w = refl
  lines_read s (l ∷ ls) w =
      ap (λ o. states s (line_text names l) o (said_of s o) ++ reading (sheet_after s (said_of s o)) (map (line_text names) ls)) (line_back s l w.0)
      ∙ ap (λ o. states s (line_text names l) (Some l) o ++ reading (sheet_after s (say s l)) (map (line_text names) ls)) w.0.said
      ∙ ap (λ rest. stated_by s l ++ rest) (lines_read (sheet_after s (say s l)) ls w.1)

  -- written lines state what they say
  pub text_states : (ls : List Line) → AreWritable names blank ls → statements (lines_text names ls) ≡ says blank ls
  unfolding statements
  text_states ls w = ap (reading blank) (lines_cut blank ls w) ∙ lines_read blank ls w

-- ---- lists of lines
pub says_append : (s : Sheet) (ls ms : List Line) → says s (ls ++ ms) ≡ says s ls ++ says (after s ls) ms
says_append s [] ms = refl
says_append s (l ∷ ls) ms = ap (λ rest. stated_by s l ++ rest) (says_append (sheet_after s (say s l)) ls ms) ∙ sym (append_assoc (stated_by s l) (says (sheet_after s (say s l)) ls) (says (after (sheet_after s (say s l)) ls) ms))

pub after_append : (s : Sheet) (ls ms : List Line) → after s (ls ++ ms) ≡ after (after s ls) ms
after_append s [] ms = refl
after_append s (l ∷ ls) ms = after_append (sheet_after s (say s l)) ls ms

pub writable_append : (names : List Bytes) (s : Sheet) (ls ms : List Line) → AreWritable names s ls → AreWritable names (after s ls) ms → AreWritable names s (ls ++ ms)
writable_append names s [] ms w v = v
writable_append names s (l ∷ ls) ms w v = (w.0, writable_append names (sheet_after s (say s l)) ls ms w.1 v)
