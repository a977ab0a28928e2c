-- Lines that are written one after another.
use Rattle.std.proofs.Common.{◌≡◌, ◌∙◌, ℕ, List, [], ◌∷◌, ◌++◌, All, map, length, true, codes, decimal, refl, sym, ap, ap₂, subst, append_assoc, append-nil}
use Rattle.std.specs.List.{join_with_byte}
use Rattle.std.proofs.lemmas.Grind.{flat_map-append}
use Rattle.std.proofs.lemmas.List.{length-map, nil_from_length}
use Rattle.std.proofs.lemmas.List.Elements.{All-head, All-tail}
use Rattle.fm_poly.specs.Polys.{PolyValue, pairs}
use Rattle.fm_text.specs.Texts.{poly_text}
use Rattle.fm_text.specs.Printing.{joined}
use Rattle.fm_poly.specs.declared.ring.Ring.{Ring}
use Rattle.fm_text.proofs.PrintingSteps.{join_first}
use Rattle.fm_words.specs.Parts.{Bytes}
use Rattle.fm_problem.specs.declared.ideal.Ideal.{Ideal}
use Rattle.fm_problem.specs.declared.problem.Problem.{Problem}
use Rattle.fm_problem.specs.Sound.{IsProblem, IsIdealOf}
use Rattle.fm_text.specs.SumOfTerms.{IsPolynomialOf}
use Rattle.fm_cert.specs.Fields.{comma_words, polynomial_word}
use Rattle.std.specs.Fmt.{digits}
use Rattle.fm_gfp.specs.Primes.{prime_value}
use Rattle.fm_problem.specs.Statements.{RingLine}
use Rattle.fm_cert.specs.declared.end.End.{End}
use Rattle.fm_cert.specs.Said.{AreLinesOver, end_line, line_value, line_values}
use Rattle.fm_cert.specs.declared.line.Line as program
use Rattle.fm_problem.specs.declared.query.Query.{Query}
use Rattle.fm_problem.specs.declared.query.Query as queries
use Rattle.fm_cert.specs.Statements.{order_word, vector_of_texts}
use Rattle.fm_cert.specs.Lines.{Line, Head, Question, line_text, line_words, lines_text}
use Rattle.fm_cert.specs.Pieces.{AreOverVariables, words_text, after_commas}
use Rattle.fm_cert.specs.Questions.{generator_texts, head_lines, ideal_line, name_at, question_line}
use Rattle.fm_cert.proofs.PiecesWritten.{commas}

-- a line by its words, and by its text
pub text_of_words : (names : List Bytes) (l : Line) → words_text (line_words names l) ≡ line_text names l ++ 10 ∷ []
unfolding line_text
text_of_words names l = refl

pub text_append : (names : List Bytes) (ls ms : List Line) → lines_text names (ls ++ ms) ≡ lines_text names ls ++ lines_text names ms
unfolding lines_text
text_append names ls ms = flat_map-append (λ l. line_text names l ++ 10 ∷ []) ls ms

pub no_lines : (names : List Bytes) → lines_text names [] ≡ []
unfolding lines_text
no_lines names = refl

-- one line, and then others
pub line_first : (names : List Bytes) (l : Line) (ls : List Line) → lines_text names (l ∷ ls) ≡ (line_text names l ++ 10 ∷ []) ++ lines_text names ls
unfolding lines_text
line_first names l ls = refl

-- one more line of these is written
pub line_written : (names : List Bytes) (all : List Line) (l : Line) (ls : List Line) (old new : Bytes) → all ≡ l ∷ ls
    → new ≡ old ++ (line_text names l ++ 10 ∷ []) → new ++ lines_text names ls ≡ old ++ lines_text names all
line_written names all l ls old new e n =
    ap (λ y. y ++ lines_text names ls) n ∙ append_assoc old (line_text names l ++ 10 ∷ []) (lines_text names ls)
    ∙ ap (λ y. old ++ y) (sym (line_first names l ls) ∙ ap (lines_text names) (sym e))

-- ---- ideals

after_blanks : (names : List Bytes) (fs : List PolyValue)
    → joined 44 true (map (λ (g : PolyValue). 32 ∷ poly_text names (pairs g.terms)) fs) ≡ after_commas (map (polynomial_word names) fs)
after_blanks names [] = refl
after_blanks names (f ∷ fs) = ap (λ y. (44 ∷ 32 ∷ polynomial_word names f) ++ y) (after_blanks names fs)

generators_text : (names : List Bytes) (fs : List PolyValue)
    → joined 32 true (comma_words (map (polynomial_word names) fs)) ≡ join_with_byte 44 (generator_texts names fs)
unfolding poly_text
generators_text names [] = refl
generators_text names (f ∷ fs) =
    commas (polynomial_word names f) (map (polynomial_word names) fs)
    ∙ ap (λ y. 32 ∷ (polynomial_word names f ++ y)) (sym (after_blanks names fs))
    ∙ sym (join_first 44 (32 ∷ polynomial_word names f) (map (λ (g : PolyValue). 32 ∷ poly_text names (pairs g.terms)) fs))

-- the line of an ideal, whose generators are words
pub ideal_text : (names : List Bytes) (a : Ideal)
    → words_text (codes "ideal" ∷ a.name ∷ codes "=" ∷ comma_words (map (polynomial_word names) a.generators) ++ [])
    ≡ words_text (line_words names (ideal_line names a))
ideal_text names a =
    ap (λ y. (codes "ideal" ++ 32 ∷ (a.name ++ 32 ∷ y)) ++ 10 ∷ [])
    (join_first 32 (codes "=") (comma_words (map (polynomial_word names) a.generators) ++ [])
    ∙ ap (λ ws. codes "=" ++ joined 32 true ws) (append-nil (comma_words (map (polynomial_word names) a.generators)))
    ∙ ap (λ y. codes "=" ++ y) (generators_text names a.generators))

-- polynomials of a ring are over its variables
pub over_variables : (r : Ring) (n : ℕ) (fs : List PolyValue) → n ≡ r.vars → All (IsPolynomialOf r) fs → AreOverVariables n fs
over_variables r n [] e all = tt
over_variables r n (f ∷ fs) e all =
    (e ∙ ap (λ (x : Ring). x.vars) (sym (All-head (IsPolynomialOf r) f fs all).of_ring), over_variables r n fs e (All-tail (IsPolynomialOf r) f fs all))

-- the generators of an ideal of the list are over the variables
pub ideal_over : {X : Type 0} (g : X → Bytes) (q : Problem) (names : List X) (a : Ideal) (rest left : List Ideal) → IsProblem q → map g names ≡ q.vars
    → left ≡ a ∷ rest → All (IsIdealOf q.ring) left → AreOverVariables (length names) a.generators
ideal_over g q names a rest left sound named e all =
    over_variables q.ring (length names) a.generators (sym (length-map names g) ∙ ap length named ∙ sound.bounded.named)
    (All-head (IsIdealOf q.ring) a rest (subst (All (IsIdealOf q.ring)) e all)).of_ring

-- one more ideal is written
pub ideal_written : (r : Ring) (names vars : List Bytes) (all rest : List Ideal) (a : Ideal) (old new whole : Bytes) → names ≡ vars → all ≡ a ∷ rest
    → new ≡ old ++ words_text (line_words names (ideal_line names a))
    → (old ++ lines_text vars (map (ideal_line vars) all) ≡ whole) × All (IsIdealOf r) all
    → (new ++ lines_text vars (map (ideal_line vars) rest) ≡ whole) × All (IsIdealOf r) rest
ideal_written r names vars all rest a old new whole same e n h = (
  line_written vars (map (ideal_line vars) all) (ideal_line vars a) (map (ideal_line vars) rest) old new (ap (map (ideal_line vars)) e)
      (n ∙ ap (λ ns. old ++ words_text (line_words ns (ideal_line ns a))) same ∙ ap (λ y. old ++ y) (text_of_words vars (ideal_line vars a)))
      ∙ h.0,
  All-tail (IsIdealOf r) a rest (subst (All (IsIdealOf r)) e h.1),
)

pub ideal_row : (names : List Bytes) (a : Ideal) (name : Bytes) (fs : List PolyValue) (old new : Bytes) → name ≡ a.name → fs ≡ a.generators
    → new ≡ old ++ words_text (codes "ideal" ∷ name ∷ codes "=" ∷ comma_words (map (polynomial_word names) fs) ++ [])
    → new ≡ old ++ words_text (line_words names (ideal_line names a))
ideal_row names a name fs old new e g n =
    n ∙ ap₂ (λ m gs. old ++ words_text (codes "ideal" ∷ m ∷ codes "=" ∷ comma_words (map (polynomial_word names) gs) ++ [])) e g
    ∙ ap (λ y. old ++ y) (ideal_text names a)

-- ---- the head

abbrev ring_text : Problem → Bytes
ring_text q = words_text (line_words q.vars (Head (RingLine (prime_value q.ring.prime) q.vars)))

abbrev ideals_text : Problem → Bytes
ideals_text q = lines_text q.vars (map (ideal_line q.vars) q.ideals)

abbrev version_text : ℕ → Bytes
version_text version = words_text (codes "report" ∷ decimal version ∷ [])

head_text : (version : ℕ) (q : Problem)
    → lines_text q.vars (head_lines version q) ≡ version_text version ++ (ring_text q ++ (words_text (codes "order" ∷ order_word q.ring.order ∷ []) ++ ideals_text q))
unfolding lines_text line_text
head_text version q = refl

pub head_written : (version : ℕ) (q : Problem) (order s0 s1 s2 s3 s4 : Bytes) → order ≡ order_word q.ring.order → s1 ≡ s0 ++ version_text version
    → s2 ≡ s1 ++ ring_text q → s3 ≡ s2 ++ words_text (codes "order" ∷ order ∷ []) → s4 ≡ s3 ++ ideals_text q
    → s4 ≡ s0 ++ lines_text q.vars (head_lines version q)
head_written version q order s0 s1 s2 s3 s4 o e1 e2 e3 e4 =
    let first = version_text version in
    let ring = ring_text q in
    let third = words_text (codes "order" ∷ order_word q.ring.order ∷ []) in
    e4 ∙ ap (λ y. y ++ ideals_text q) (e3 ∙ ap₂ (λ y w. y ++ words_text (codes "order" ∷ w ∷ [])) (e2 ∙ ap (λ y. y ++ ring) e1) o)
    ∙ append_assoc ((s0 ++ first) ++ ring) third (ideals_text q) ∙ append_assoc (s0 ++ first) ring (third ++ ideals_text q)
    ∙ append_assoc s0 first (ring ++ (third ++ ideals_text q)) ∙ ap (λ y. s0 ++ y) (sym (head_text version q))

-- ---- ends

-- the line of an end, by the words that were written
pub end_written : (names : List Bytes) (e is : End) (words : List Bytes) (old new : Bytes) → e ≡ is → words ≡ line_words names (end_line is)
    → new ≡ old ++ words_text words → new ≡ old ++ words_text (line_words names (end_line e))
end_written names e is words old new same w n =
    n ∙ ap (λ ws. old ++ words_text ws) w ∙ ap (λ x. old ++ words_text (line_words names (end_line x))) (sym same)

-- no ideal is left
pub all_written : (names : List Bytes) (all : List Ideal) (now whole : Bytes) → length all ≡ 0
    → now ++ lines_text names (map (ideal_line names) all) ≡ whole → now ≡ whole
all_written names all now whole e h =
    sym (append-nil now) ∙ ap (λ y. now ++ y) (sym (no_lines names)) ∙ ap (λ is. now ++ lines_text names (map (ideal_line names) is)) (sym (nil_from_length all e)) ∙ h

-- ---- queries

abbrev question_words : Problem → ℕ → Query → List Bytes
question_words q k z = line_words q.vars (Question k (question_line q z))

-- the line of a query, by the words that were written
pub question_written : (q : Problem) (k : ℕ) (z is : Query) (words : List Bytes) (old new : Bytes) → z ≡ is → words ≡ question_words q k is
    → new ≡ old ++ words_text words → new ≡ old ++ words_text (question_words q k z)
question_written q k z is words old new same w n = n ∙ ap (λ ws. old ++ words_text ws) (w ∙ ap (question_words q k) (sym same))

pub class_written : (q : Problem) (k : ℕ) (z : Query) (i m e : ℕ) (v : List PolyValue) (names : List Bytes) (i' : ℕ) (name : Bytes) (e' : ℕ)
    (v' : List PolyValue) (old new : Bytes) → z ≡ queries.TheVariants.Class i m e v → names ≡ q.vars → i' ≡ i → name ≡ name_at q m → e' ≡ e → v' ≡ v
    → new ≡ old ++ words_text (codes "query" ∷ decimal k ∷ codes "class" ∷ decimal i' ∷ name ∷ decimal e' ∷ vector_of_texts (map (polynomial_word names) v') ∷ [])
    → new ≡ old ++ words_text (question_words q k z)
class_written q k z i m e v names i' name e' v' old new is own degree named stage vector n =
    question_written q k z (queries.TheVariants.Class i m e v) _ old new is
    (ap₂ (λ a b. codes "query" ∷ decimal k ∷ codes "class" ∷ decimal a ∷ name ∷ decimal b ∷ vector_of_texts (map (polynomial_word names) v') ∷ []) degree stage
    ∙ ap₂ (λ a t. codes "query" ∷ decimal k ∷ codes "class" ∷ decimal i ∷ a ∷ decimal e ∷ t ∷ []) named
    (ap₂ (λ ns fs. vector_of_texts (map (polynomial_word ns) fs)) own vector))
    n

-- ---- lines of the program

-- no line is left
pub none_written : (q : Problem) (all : List program.Line) (now whole : Bytes) → length all ≡ 0
    → now ++ lines_text q.vars (line_values q all) ≡ whole → now ≡ whole
none_written q all now whole e h =
    sym (append-nil now) ∙ ap (λ y. now ++ y) (sym (no_lines q.vars)) ∙ ap (λ ls. now ++ lines_text q.vars (line_values q ls)) (sym (nil_from_length all e)) ∙ h

-- one more line is written
pub one_written : (q : Problem) (all : List program.Line) (l : program.Line) (rest : List program.Line) (old new whole : Bytes) → all ≡ l ∷ rest
    → new ≡ old ++ (line_text q.vars (line_value q l) ++ 10 ∷ [])
    → (old ++ lines_text q.vars (line_values q all) ≡ whole) × AreLinesOver q.ring.vars all
    → (new ++ lines_text q.vars (line_values q rest) ≡ whole) × AreLinesOver q.ring.vars rest
one_written q all l rest old new whole e n h = (
  line_written q.vars (line_values q all) (line_value q l) (line_values q rest) old new (ap (line_values q) e) n ∙ h.0,
  (subst (AreLinesOver q.ring.vars) e h.1).1,
)
