-- What stands last in lines on how queries end.
use Rattle.std.specs.Prelude.{ℕ, Bool, List, [], ◌∷◌, Option}
use Rattle.fm_words.specs.Parts.{Bytes, parts}
use Rattle.fm_words.specs.declared.mark.Mark.TheVariants.{Blank}
use Rattle.fm_cert.specs.Fields.{Item, field, yes_no, yes_with, free_words, Values}

abbrev pub task : List Item
task = field free_words ∷ []

abbrev pub task_said : Bytes → Values task
task_said text = (parts Blank text, tt)

abbrev pub last_yes_no : List Item
last_yes_no = field yes_no ∷ []

abbrev pub yes_said : Bool → Values last_yes_no
yes_said b = (b, tt)

abbrev pub last_yes_with : Bytes → List Item
last_yes_with w = field (yes_with w) ∷ []

abbrev pub yes_with_said : (w : Bytes) → Option ℕ → Values (last_yes_with w)
yes_with_said w o = (o, tt)
