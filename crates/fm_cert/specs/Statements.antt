-- How the lines of a head and of queries are printed. They are lines of a problem text.
use Rattle.std.specs.Prelude.{List, [], ◌∷◌, ◌++◌, codes, decimal}
use Rattle.std.specs.List.{join_with_byte}
use Rattle.fm_mono.specs.declared.order.Order.{Order}
use Rattle.fm_mono.specs.declared.order.Order.TheVariants.{Grevlex, Deglex, Lex}
use Rattle.fm_words.specs.Parts.{Bytes}
use Rattle.fm_problem.specs.Statements.{Statement, RingLine, OrderLine, IdealLine, ModuleLine, ClassLine, InvertLine, MapLine, MemberLine}
use Rattle.fm_problem.specs.declared.keyword.Question.{Question}
use Rattle.fm_problem.specs.declared.keyword.Question as questions

abbrev pub order_word : Order → Bytes
order_word Grevlex = codes "grevlex"
order_word Deglex = codes "deglex"
order_word Lex = codes "lex"

abbrev pub question_word : Question → Bytes
question_word questions.TheVariants.Zero = codes "zero"
question_word questions.TheVariants.Root = codes "root"
question_word questions.TheVariants.Support = codes "support"
question_word questions.TheVariants.Resolution = codes "resolution"
question_word questions.TheVariants.Ext = codes "ext"

-- the text of a vector whose entries have these texts
abbrev pub vector_of_texts : List Bytes → Bytes
vector_of_texts texts = 40 ∷ join_with_byte 44 texts ++ 41 ∷ []

-- The words of a line of a problem text. What stands after the `=` of an ideal is the texts of its generators, joined by commas, with the
-- blanks that stand before them.
abbrev pub statement_words : Statement → List Bytes
statement_words (RingLine p names) = codes "ring" ∷ decimal p ∷ names
statement_words (OrderLine o) = codes "order" ∷ order_word o ∷ []
statement_words (IdealLine m texts) = codes "ideal" ∷ m ∷ (codes "=" ++ join_with_byte 44 texts) ∷ []
statement_words (ModuleLine a i m) = question_word a ∷ decimal i ∷ m ∷ []
statement_words (ClassLine i m e texts) = codes "class" ∷ decimal i ∷ m ∷ decimal e ∷ vector_of_texts texts ∷ []
statement_words (InvertLine i m text) = codes "invert" ∷ decimal i ∷ m ∷ text ∷ []
statement_words (MapLine i source target) = codes "map" ∷ decimal i ∷ source ∷ target ∷ []
statement_words (MemberLine m text) = codes "member" ∷ m ∷ text ∷ []
