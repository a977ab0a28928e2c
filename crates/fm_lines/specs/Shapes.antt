-- The fields that follow one another in rows, and what they say.
use Rattle.std.specs.Prelude.{ℕ, Bool, List, [], ◌∷◌, Vec}
use Rattle.std.specs.Global.{Global}
use Rattle.fm_cert.specs.Fields.{Item, field, number, by_numbers, keep_or_zero, Values}
use Rattle.fm_lines.specs.declared.shown.Generated.{Generated}
use Rattle.fm_lines.specs.declared.shown.Excluded.{Excluded}

abbrev pub one_number : List Item
one_number = field number ∷ []

abbrev pub two_numbers : List Item
two_numbers = field number ∷ one_number

abbrev pub three_numbers : List Item
three_numbers = field number ∷ two_numbers

abbrev pub four_numbers : List Item
four_numbers = field number ∷ three_numbers

abbrev pub five_numbers : List Item
five_numbers = field number ∷ four_numbers

abbrev pub last_by : List Item
last_by = field by_numbers ∷ []

abbrev pub number_and_by : List Item
number_and_by = field number ∷ last_by

abbrev pub two_numbers_and_by : List Item
two_numbers_and_by = field number ∷ number_and_by

abbrev pub by_and_keep : List Item
by_and_keep = field by_numbers ∷ field keep_or_zero ∷ []

abbrev pub one_said : ℕ → Values one_number
one_said n = (n, tt)

abbrev pub two_said : ℕ × ℕ → Values two_numbers
two_said f = (f.0, (f.1, tt))

abbrev pub generated_said : Generated → Values three_numbers
generated_said g = (g.log, (g.x, (g.w, tt)))

abbrev pub one_and_generated_said : ℕ × Generated → Values four_numbers
one_and_generated_said f = (f.0, generated_said f.1)

abbrev pub two_and_generated_said : ℕ × ℕ × Generated → Values five_numbers
two_and_generated_said f = (f.0, (f.1, generated_said f.2))

abbrev pub by_said : Vec ℕ Global → Values last_by
by_said by = (by.items, tt)

abbrev pub number_and_by_said : ℕ × Vec ℕ Global → Values number_and_by
number_and_by_said f = (f.0, by_said f.1)

abbrev pub excluded_said : Excluded → Values two_numbers_and_by
excluded_said e = (e.log, (e.column, by_said e.by))

abbrev pub kept_said : Vec ℕ Global × Bool → Values by_and_keep
kept_said f = (f.0.items, (f.1, tt))
