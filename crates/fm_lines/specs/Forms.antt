-- The forms of parts without polynomials.
use Rattle.std.specs.Prelude.{ℕ, if◌then◌else◌, List, [], ◌∷◌, Option, Some, None, codes}
use Rattle.fm_words.specs.Options.{◌>>=◌}
use Rattle.fm_words.specs.Parts.{Bytes}
use Rattle.fm_words.specs.Words.{same_bytes}
use Rattle.fm_cert.specs.Fields.{Item, word, field, number, times, Values}
use Rattle.fm_cert.specs.Kinds.{Kind, Twist, Flip, Beside, Stack, Times, Pick}
use Rattle.fm_cert.specs.Lines.{Line}
use Rattle.fm_lines.specs.Plain.{plain_line}

abbrev pub form_kind : Bytes → Option Kind
form_kind w =
    if same_bytes w (codes "twist") then Some Twist
    else (if same_bytes w (codes "flip") then Some Flip
    else (if same_bytes w (codes "beside") then Some Beside
    else (if same_bytes w (codes "stack") then Some Stack
    else (if same_bytes w (codes "times") then Some Times
    else (if same_bytes w (codes "pick") then Some Pick else None)))))

-- the line of a part of this form
abbrev pub plain_part : Bytes → List Bytes → Option Line
plain_part form ws = form_kind form >>= λ kind. plain_line kind ws

-- how often a twist is done
abbrev pub last_times : List Item
last_times = field times ∷ []

abbrev pub times_said : ℕ → Values last_times
times_said n = (n, tt)

-- the number of a part, its form and two operands
abbrev pub operands : Bytes → List Item
operands form = field number ∷ word form ∷ field number ∷ field number ∷ []

abbrev pub operands_said : (form : Bytes) → ℕ × ℕ × ℕ → Values (operands form)
operands_said form f = (f.0, (f.1, (f.2, tt)))
