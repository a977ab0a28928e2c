-- The kinds of lines without polynomials, by their words.
use Rattle.std.specs.Prelude.{Bool, true, false, if◌then◌else◌, List, Option, Some, None, codes, option_map}
use Rattle.fm_words.specs.Parts.{Bytes}
use Rattle.fm_words.specs.Words.{same_bytes}
use Rattle.fm_problem.specs.declared.query.Query.{Query}
use Rattle.fm_problem.specs.declared.query.Query.TheVariants.{Support}
use Rattle.fm_cert.specs.Kinds.{Kind, Ended, answer_kind, unanswered_kind, refused_kind, closing_kind, kind_among, by_first}

-- the kind of a line that begins with this word, which is neither `part` nor `answer`
abbrev pub plain_kind : Bytes → List Bytes → Option Kind
plain_kind w ws =
    if same_bytes w (codes "unanswered") then unanswered_kind ws
    else (if same_bytes w (codes "refused") then refused_kind ws
    else (if same_bytes w (codes "end") then closing_kind ws else kind_among w by_first))

-- the kind of an answer to what was asked
abbrev pub answered : Option Query → Option Kind
answered asked = option_map (λ q. Ended (answer_kind q)) asked

abbrev pub asks_support : Query → Bool
asks_support (Support i k) = true
asks_support q = false

-- the kind of an answer to this query, where it has no polynomials
abbrev pub plain_answer : Query → Option Kind
plain_answer (Support i k) = None
plain_answer q = Some (Ended (answer_kind q))
