-- How the ideals and the queries of a problem are printed, as lines of a problem text.
use Rattle.std.specs.Prelude.{ℕ, List, [], ◌∷◌, map, slice_get, Option, Some, None}
use Rattle.fm_poly.specs.Polys.{PolyValue, pairs}
use Rattle.fm_text.specs.Texts.{poly_text}
use Rattle.fm_words.specs.Parts.{Bytes}
use Rattle.fm_problem.specs.Statements.{Statement, RingLine, OrderLine, IdealLine, ModuleLine, ClassLine, InvertLine, MapLine, MemberLine}
use Rattle.fm_problem.specs.declared.keyword.Question as questions
use Rattle.fm_problem.specs.declared.ideal.Ideal.{Ideal}
use Rattle.fm_problem.specs.declared.problem.Problem.{Problem}
use Rattle.fm_problem.specs.declared.query.Query.{Query}
use Rattle.fm_problem.specs.declared.query.Query as queries
use Rattle.fm_gfp.specs.Primes.{prime_value}
use Rattle.fm_cert.specs.Kinds as kinds
use Rattle.fm_cert.specs.Lines.{Line, Head, Row}

-- the texts of the generators of an ideal, each after a blank; that of the zero ideal is 0
abbrev pub generator_texts : List Bytes → List PolyValue → List Bytes
generator_texts names [] = (32 ∷ poly_text names []) ∷ []
generator_texts names (f ∷ fs) = map (λ (g : PolyValue). 32 ∷ poly_text names (pairs g.terms)) (f ∷ fs)

abbrev pub ideal_line : List Bytes → Ideal → Line
ideal_line names a = Head (IdealLine a.name (generator_texts names a.generators))

abbrev pub name_of : Option Ideal → Bytes
name_of None = []
name_of (Some a) = a.name

-- the name of an ideal by its number
abbrev pub name_at : Problem → ℕ → Bytes
name_at q k = name_of (slice_get q.ideals k)

abbrev pub text_of : Problem → PolyValue → Bytes
text_of q f = poly_text q.vars (pairs f.terms)

-- the line that asks a query, after `query K`
abbrev pub question_line : Problem → Query → Statement
question_line q (queries.TheVariants.Zero i k) = ModuleLine questions.TheVariants.Zero i (name_at q k)
question_line q (queries.TheVariants.Class i k e z) = ClassLine i (name_at q k) e (map (text_of q) z)
question_line q (queries.TheVariants.Root i k) = ModuleLine questions.TheVariants.Root i (name_at q k)
question_line q (queries.TheVariants.Invert i k f) = InvertLine i (name_at q k) (text_of q f)
question_line q (queries.TheVariants.Support i k) = ModuleLine questions.TheVariants.Support i (name_at q k)
question_line q (queries.TheVariants.Map i k j) = MapLine i (name_at q k) (name_at q j)
question_line q (queries.TheVariants.Member k f) = MemberLine (name_at q k) (text_of q f)
question_line q (queries.TheVariants.Resolution i k) = ModuleLine questions.TheVariants.Resolution i (name_at q k)
question_line q (queries.TheVariants.ExtOf i k) = ModuleLine questions.TheVariants.Ext i (name_at q k)

-- the first lines of a report of this version
abbrev pub head_lines : ℕ → Problem → List Line
head_lines version q =
    Row kinds.Report (version, tt) ∷ Head (RingLine (prime_value q.ring.prime) q.vars) ∷ Head (OrderLine q.ring.order) ∷ map (ideal_line q.vars) q.ideals
