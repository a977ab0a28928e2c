-- How many answers of a text are ended, by the first words of its lines.
use Rattle.std.specs.Prelude.{ℕ, suc, Bool, true, false, if◌then◌else◌, List, [], ◌∷◌, codes}
use Rattle.fm_words.specs.Parts.{Bytes}
use Rattle.fm_words.specs.Words.{words, same_bytes}
use Rattle.fm_report.specs.Reading.{lines_from}

-- the first word of the line is this
abbrev pub begins_with : Bytes → List Bytes → Bool
begins_with w [] = false
begins_with w (v ∷ vs) = same_bytes v w

-- the answers that are ended: each `answer` line of a query that a `done` line ends; `begun` tells whether one stands
abbrev pub ended_answers : Bool → List Bytes → ℕ
ended_answers begun [] = 0
ended_answers begun (l ∷ ls) =
    if begins_with (codes "answer") (words l) then ended_answers true ls
    else (if begins_with (codes "query") (words l) then ended_answers false ls
    else (if begins_with (codes "done") (words l) then (if begun then suc (ended_answers false ls) else ended_answers false ls) else ended_answers begun ls))

abbrev pub answers_of : Bytes → ℕ
answers_of bytes = ended_answers false (lines_from [] bytes)
