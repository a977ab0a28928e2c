-- The kinds of lines, and the row of each: its words and the kinds of its fields. Numbers of parts, logs, members and columns count from 1, as
-- they are written.
use Rattle.std.specs.Prelude.{if◌then◌else◌, List, [], ◌∷◌, codes, Option, Some, None, option_map}
use Rattle.fm_words.specs.Parts.{Bytes}
use Rattle.fm_words.specs.Words.{same_bytes}
use Rattle.fm_problem.specs.declared.query.Query.{Query}
use Rattle.fm_problem.specs.declared.query.Query as queries
use Rattle.fm_cert.specs.Fields.{number, times, name, yes_no, yes_with, keep_or_zero, by_numbers, numbers, free_words, generators, columns, Item, word, field}

-- how a query ends: nine kinds of answers, one for each kind of query; two kinds of stops, and three refusals
pub data EndKind : Type 0 where
  -- the module is zero or not, and how many moves it takes
  Zero : EndKind
  -- a class is zero from a stage on, or never
  Class : EndKind
  -- the least power that annihilates, or none
  Invert : EndKind
  -- the ideal of the support
  Support : EndKind
  -- the rank of a root, and how many moves it takes
  Root : EndKind
  -- the ranks of a resolution
  Ranks : EndKind
  -- the numbers of generators and of relations
  ExtOf : EndKind
  -- a map is zero, one to one, onto from a stage on
  Map : EndKind
  -- a polynomial is in the ideal or not
  Member : EndKind
  -- no unit was left in a task
  Budget : EndKind
  -- an exponent of a task passes the bound
  Exponents : EndKind
  -- the length of a vector, and the one that is needed
  WrongLength : EndKind
  -- the component that is not 0
  NotCocycle : EndKind
  -- the generator that is not in the source
  NotContained : EndKind

-- the kinds of lines that are rows of words and fields
pub data Kind : Type 0 where
  Ended : EndKind → Kind
  -- the forms of parts, each with the number of the part
  Given Twist Flip Beside Stack Times Pick : Kind
  -- the lines of logs
  Log Input Pair Skip EndLog : Kind
  -- the lines of certificates
  Datum D Exact Theta Cocycles Relations Morphism Chain Grows Stable Z N : Kind
  U K Whole Proper Coordinates Lives Dies Cofactors Foreign Annihilator Power Least : Kind
  Colon Settles Lambda Phi Null NonNull Fibre One NotOne Link Short Onto : Kind
  Closes : Kind
  -- the first line of a report, the last of a query, and the last of all
  Report Done EndReport : Kind

abbrev pub end_row : EndKind → List Item
end_row Zero = word (codes "answer") ∷ field yes_no ∷ word (codes "stable") ∷ field number ∷ []
end_row Class = word (codes "answer") ∷ field (yes_with (codes "stage")) ∷ []
end_row Invert = word (codes "answer") ∷ field (yes_with (codes "power")) ∷ []
end_row Support = word (codes "answer") ∷ word (codes "ideal") ∷ field generators ∷ []
end_row Root = word (codes "answer") ∷ word (codes "root") ∷ word (codes "rank") ∷ field number ∷ word (codes "stable") ∷ field number ∷ []
end_row Ranks = word (codes "answer") ∷ word (codes "ranks") ∷ field numbers ∷ []
end_row ExtOf = word (codes "answer") ∷ word (codes "generators") ∷ field number ∷ word (codes "relations") ∷ field number ∷ []
end_row Map =
    word (codes "answer") ∷ word (codes "zero") ∷ field yes_no ∷ word (codes "one") ∷ field yes_no ∷ word (codes "onto") ∷ field (yes_with (codes "stage")) ∷ []
end_row Member = word (codes "answer") ∷ field yes_no ∷ []
end_row Budget = word (codes "unanswered") ∷ word (codes "budget") ∷ field free_words ∷ []
end_row Exponents = word (codes "unanswered") ∷ word (codes "exponents") ∷ field free_words ∷ []
end_row WrongLength =
    word (codes "refused") ∷ word (codes "wrong") ∷ word (codes "length") ∷ field number ∷ word (codes "needed") ∷ field number ∷ []
end_row NotCocycle =
    word (codes "refused") ∷ word (codes "not") ∷ word (codes "a") ∷ word (codes "cocycle") ∷ word (codes "component") ∷ field number ∷ []
end_row NotContained = word (codes "refused") ∷ word (codes "not") ∷ word (codes "contained") ∷ word (codes "generator") ∷ field number ∷ []

-- the row of each kind of line
abbrev pub row : Kind → List Item
row (Ended e) = end_row e
row Given = word (codes "part") ∷ field number ∷ word (codes "given") ∷ field number ∷ field columns ∷ []
row Twist = word (codes "part") ∷ field number ∷ word (codes "twist") ∷ field number ∷ field times ∷ []
row Flip = word (codes "part") ∷ field number ∷ word (codes "flip") ∷ field number ∷ []
row Beside = word (codes "part") ∷ field number ∷ word (codes "beside") ∷ field number ∷ field number ∷ []
row Stack = word (codes "part") ∷ field number ∷ word (codes "stack") ∷ field number ∷ field number ∷ []
row Times = word (codes "part") ∷ field number ∷ word (codes "times") ∷ field number ∷ field number ∷ []
row Pick = word (codes "part") ∷ field number ∷ word (codes "pick") ∷ field number ∷ field numbers ∷ []
row Report = word (codes "report") ∷ field number ∷ []
row Log = word (codes "log") ∷ field number ∷ field number ∷ []
row Input = word (codes "input") ∷ field number ∷ field by_numbers ∷ field keep_or_zero ∷ []
row Pair = word (codes "pair") ∷ field number ∷ field number ∷ field by_numbers ∷ field keep_or_zero ∷ []
row Skip = word (codes "skip") ∷ field number ∷ field number ∷ word (codes "by") ∷ field number ∷ []
row Datum = word (codes "datum") ∷ field name ∷ field number ∷ []
row D = word (codes "d") ∷ field number ∷ field number ∷ []
row Exact = word (codes "exact") ∷ field number ∷ field number ∷ field number ∷ field number ∷ []
row Theta = word (codes "theta") ∷ field number ∷ field number ∷ []
row Cocycles = word (codes "cocycles") ∷ field number ∷ field number ∷ field number ∷ field number ∷ []
row Relations = word (codes "relations") ∷ field number ∷ field number ∷ field number ∷ field number ∷ []
row Morphism = word (codes "morphism") ∷ field number ∷ []
row Chain = word (codes "chain") ∷ field number ∷ field number ∷ field number ∷ field number ∷ field number ∷ []
row Grows = word (codes "grows") ∷ field number ∷ field number ∷ field number ∷ field by_numbers ∷ []
row Stable = word (codes "stable") ∷ field number ∷ field number ∷ []
row Z = word (codes "Z") ∷ field number ∷ []
row N = word (codes "N") ∷ field number ∷ []
row U = word (codes "U") ∷ field number ∷ []
row K = word (codes "K") ∷ field number ∷ field number ∷ []
row Whole = word (codes "whole") ∷ field number ∷ []
row Proper = word (codes "proper") ∷ field number ∷ field number ∷ field by_numbers ∷ []
row Coordinates = word (codes "coordinates") ∷ field number ∷ []
row Lives = word (codes "lives") ∷ field number ∷ field number ∷ field by_numbers ∷ []
row Dies = word (codes "dies") ∷ field number ∷ field number ∷ []
row Cofactors = word (codes "cofactors") ∷ field number ∷ []
row Foreign = word (codes "foreign") ∷ field number ∷ field by_numbers ∷ []
row Annihilator = word (codes "annihilator") ∷ field number ∷ field number ∷ field number ∷ field number ∷ []
row Power = word (codes "power") ∷ field number ∷ []
row Least = word (codes "least") ∷ field number ∷ field number ∷ field by_numbers ∷ []
row Colon = word (codes "colon") ∷ field number ∷ field number ∷ field number ∷ field number ∷ field number ∷ []
row Settles = word (codes "settles") ∷ field number ∷ field number ∷ []
row Lambda = word (codes "lambda") ∷ field number ∷ field number ∷ []
row Phi = word (codes "phi") ∷ field number ∷ []
row Null = word (codes "null") ∷ field number ∷ []
row NonNull = word (codes "nonnull") ∷ field number ∷ field number ∷ field by_numbers ∷ []
row Fibre = word (codes "fibre") ∷ field number ∷ field number ∷ field number ∷ field number ∷ []
row One = word (codes "one") ∷ field number ∷ []
row NotOne = word (codes "notone") ∷ field number ∷ field number ∷ field by_numbers ∷ []
row Link = word (codes "link") ∷ field number ∷ field number ∷ field number ∷ field number ∷ field number ∷ []
row Short = word (codes "short") ∷ field number ∷ field number ∷ field number ∷ field by_numbers ∷ []
row Onto = word (codes "onto") ∷ field number ∷ field number ∷ []
row Closes = word (codes "closes") ∷ field number ∷ field number ∷ []
row Done = word (codes "done") ∷ field number ∷ []
row EndLog = word (codes "end") ∷ []
row EndReport = word (codes "end") ∷ word (codes "report") ∷ []

-- ---- the kind of a line, by its words

-- the kinds that are known by the first word
abbrev pub by_first : List Kind
by_first =
    Report ∷ Log ∷ Input ∷ Pair ∷ Skip ∷ Datum ∷ D ∷ Exact ∷ Theta ∷ Cocycles ∷ Relations ∷ Morphism ∷ Chain ∷ Grows ∷ Stable
    ∷ Z ∷ N ∷ U ∷ K ∷ Whole ∷ Proper ∷ Coordinates ∷ Lives ∷ Dies ∷ Cofactors ∷ Foreign ∷ Annihilator ∷ Power ∷ Least ∷ Colon
    ∷ Settles ∷ Lambda ∷ Phi ∷ Null ∷ NonNull ∷ Fibre ∷ One ∷ NotOne ∷ Link ∷ Short ∷ Onto ∷ Closes ∷ Done ∷ []

abbrev pub first_item : List Item → Bytes
first_item [] = []
first_item (word w ∷ items) = w
first_item (field f ∷ items) = []

abbrev pub kind_among : Bytes → List Kind → Option Kind
kind_among w [] = None
kind_among w (k ∷ ks) = if same_bytes w (first_item (row k)) then Some k else kind_among w ks

-- the form of a part, by the word after its number
abbrev pub part_kind : List Bytes → Option Kind
part_kind [] = None
part_kind (k ∷ []) = None
part_kind (k ∷ w ∷ ws) =
    if same_bytes w (codes "given") then Some Given
    else (if same_bytes w (codes "twist") then Some Twist
    else (if same_bytes w (codes "flip") then Some Flip
    else (if same_bytes w (codes "beside") then Some Beside
    else (if same_bytes w (codes "stack") then Some Stack
    else (if same_bytes w (codes "times") then Some Times
    else (if same_bytes w (codes "pick") then Some Pick else None))))))

-- the kind of answer that a query has
abbrev pub answer_kind : Query → EndKind
answer_kind (queries.TheVariants.Zero i k) = Zero
answer_kind (queries.TheVariants.Class i k e z) = Class
answer_kind (queries.TheVariants.Root i k) = Root
answer_kind (queries.TheVariants.Invert i k f) = Invert
answer_kind (queries.TheVariants.Support i k) = Support
answer_kind (queries.TheVariants.Map i k j) = Map
answer_kind (queries.TheVariants.Member k f) = Member
answer_kind (queries.TheVariants.Resolution i k) = Ranks
answer_kind (queries.TheVariants.ExtOf i k) = ExtOf

abbrev pub unanswered_kind : List Bytes → Option Kind
unanswered_kind [] = None
unanswered_kind (w ∷ ws) =
    if same_bytes w (codes "budget") then Some (Ended Budget) else (if same_bytes w (codes "exponents") then Some (Ended Exponents) else None)

abbrev pub refused_kind : List Bytes → Option Kind
refused_kind [] = None
refused_kind (w ∷ []) = None
refused_kind (w ∷ v ∷ ws) =
    if same_bytes w (codes "wrong") then Some (Ended WrongLength)
    else (if same_bytes v (codes "a") then Some (Ended NotCocycle) else (if same_bytes v (codes "contained") then Some (Ended NotContained) else None))

abbrev pub closing_kind : List Bytes → Option Kind
closing_kind [] = Some EndLog
closing_kind (w ∷ ws) = Some EndReport

-- The kind of a line by its words. An answer is read by the query that it answers.
abbrev pub kind_of : Option Query → List Bytes → Option Kind
kind_of asked [] = None
kind_of asked (w ∷ ws) =
    if same_bytes w (codes "part") then part_kind ws
    else (if same_bytes w (codes "answer") then option_map (λ q. Ended (answer_kind q)) asked
    else (if same_bytes w (codes "unanswered") then unanswered_kind ws
    else (if same_bytes w (codes "refused") then refused_kind ws
    else (if same_bytes w (codes "end") then closing_kind ws else kind_among w by_first))))
