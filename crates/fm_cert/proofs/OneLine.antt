-- A printed line holds no LF.
use Rattle.std.proofs.Common.{◌≡◌, ℕ, ◌^◌, ◌<◌, Bool, true, nat_eq, not, List, [], ◌∷◌, length, Option, refl, arith}
use Rattle.std.specs.Prelude.{decimal}
use Rattle.std.specs.List.{list_all, join_with_byte}
use Rattle.std.proofs.lemmas.Bool.{and_parts}
use Rattle.std.proofs.lemmas.Bool.Decides.{nat_tests}
use Rattle.fm_mono.specs.declared.order.Order.TheVariants.{Grevlex, Deglex, Lex}
use Rattle.fm_words.specs.Words.{AreNames, is_name}
use Rattle.fm_poly.specs.declared.ring.Ring.{Ring}
use Rattle.fm_words.specs.Parts.{Bytes}
use Rattle.fm_problem.specs.declared.keyword.Question.{Question}
use Rattle.fm_problem.specs.declared.keyword.Question.TheVariants.{Zero, Root, Support, Resolution, Ext}
use Rattle.fm_problem.specs.declared.query.Query.{Query}
use Rattle.fm_problem.specs.Statements.{Statement, RingLine, OrderLine, IdealLine, ModuleLine, ClassLine, InvertLine, MapLine, MemberLine}
use Rattle.fm_cert.specs.Kinds.{row}
use Rattle.fm_cert.specs.Statements.{question_word, vector_of_texts, statement_words}
use Rattle.fm_cert.specs.Lines.{Line, Head, Question as Asks, Row, line_words, line_text}
use Rattle.fm_cert.specs.Writable.{is_inner, is_word, is_poly_byte, is_spelled, IsWritableStatement, IsWritableLine}
use Rattle.fm_text.proofs.Bytes.{all_append, all_weaker, AllAre, all_joined}
use Rattle.fm_cert.proofs.KindsRead.{row_is}
use Rattle.fm_cert.proofs.WordsRead.{word_parts, number_word, name_word, row_words}

-- a byte that isn't LF
abbrev pub is_kept : ℕ → Bool
is_kept b = not (nat_eq b 10)

inner_kept : (b : ℕ) → is_inner b ≡ true → is_kept b ≡ true
inner_kept b h = grind (arith, nat_tests)

poly_kept : (b : ℕ) → is_poly_byte b ≡ true → is_kept b ≡ true
poly_kept b h = grind (arith, nat_tests)

word_kept : (w : Bytes) → is_word w ≡ true → list_all is_kept w ≡ true
word_kept w h = all_weaker is_inner is_kept inner_kept w (word_parts w h).1

words_kept : (ws : List Bytes) → list_all is_word ws ≡ true → AllAre is_kept ws
words_kept [] h = tt
words_kept (w ∷ ws) h = (word_kept w (and_parts _ _ h).0, words_kept ws (and_parts _ _ h).1)

names_kept : (ws : List Bytes) → list_all is_name ws ≡ true → AllAre is_kept ws
names_kept [] h = tt
names_kept (w ∷ ws) h = (word_kept w (name_word w (and_parts _ _ h).0), names_kept ws (and_parts _ _ h).1)

texts_kept : (ts : List Bytes) → list_all is_spelled ts ≡ true → AllAre is_kept ts
texts_kept [] h = tt
texts_kept (t ∷ ts) h = (all_weaker is_poly_byte is_kept poly_kept t (and_parts _ _ (and_parts _ _ h).0).1, texts_kept ts (and_parts _ _ h).1)

number_kept : (n : ℕ) → n < 2 ^ 64 → list_all is_kept (decimal n) ≡ true
number_kept n h = word_kept (decimal n) (number_word n h)

question_kept : (a : Question) → list_all is_kept (question_word a) ≡ true
question_kept Zero = refl
question_kept Root = refl
question_kept Support = refl
question_kept Resolution = refl
question_kept Ext = refl

vector_kept : (texts : List Bytes) → list_all is_spelled texts ≡ true → list_all is_kept (vector_of_texts texts) ≡ true
vector_kept texts s = all_append is_kept (join_with_byte 44 texts) (41 ∷ []) (all_joined is_kept 44 refl texts (texts_kept texts s)) refl

statement_kept : (s : Statement) → IsWritableStatement s → AllAre is_kept (statement_words s)
statement_kept (RingLine p names) w = (refl, (number_kept p w.0, names_kept names w.2))
statement_kept (OrderLine Grevlex) w = (refl, (refl, tt))
statement_kept (OrderLine Deglex) w = (refl, (refl, tt))
statement_kept (OrderLine Lex) w = (refl, (refl, tt))
statement_kept (IdealLine m texts) w = (refl, (word_kept m (name_word m w.0), (all_joined is_kept 44 refl texts (texts_kept texts w.2), tt)))
statement_kept (ModuleLine a i m) w = (question_kept a, (number_kept i w.0, (word_kept m (name_word m w.1), tt)))
statement_kept (ClassLine i m e texts) w = (refl, (number_kept i w.0, (word_kept m (name_word m w.1), (number_kept e w.2, (vector_kept texts w.3, tt)))))
statement_kept (InvertLine i m text) w = (refl, (number_kept i w.0, (word_kept m (name_word m w.1), (word_kept text w.3, tt))))
statement_kept (MapLine i source target) w = (refl, (number_kept i w.0, (word_kept source (name_word source w.1), (word_kept target (name_word target w.2), tt))))
statement_kept (MemberLine m text) w = (refl, (word_kept m (name_word m w.0), (word_kept text w.2, tt)))

module _ (r : Ring) (names : List Bytes) (h : AreNames names) (l : length names ≡ r.vars) (asked : Option Query) where
  line_kept : (x : Line) → IsWritableLine r asked x → AllAre is_kept (line_words names x)
  line_kept (Head s) w = statement_kept s w.1
  line_kept (Asks k s) w = (refl, (number_kept k w.0, statement_kept s w.1))
  line_kept (Row k vs) w = words_kept (line_words names (Row k vs)) (row_words r names h l (row k) vs (row_is k) w.1)

  pub one_line : (x : Line) → IsWritableLine r asked x → list_all is_kept (line_text names x) ≡ true
  unfolding line_text
  one_line x w = all_joined is_kept 32 refl (line_words names x) (line_kept x w)
