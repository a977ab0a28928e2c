-- The shapes of parts, as the program keeps them.
use Rattle.std.specs.Prelude.{ℕ, ◌+◌, ◌&&◌, nat_eq, nat_lt, Option, Some}
use Rattle.fm_words.specs.Options.{where_so, ◌>>=◌}
use Rattle.fm_report.specs.Parts.{Part}
use Rattle.fm_parts.specs.Shapes.{SIZE, rows_of, columns_of, fits}
use Rattle.fm_pres.specs.declared.shape.Shape.{Shape}

abbrev pub measure_of : Part → Shape
measure_of a = record { rows = rows_of a; columns = columns_of a }

-- the shape of a part whose shapes fit
abbrev pub measure : Part → Option Shape
measure a = where_so (fits a) (Some (measure_of a))

-- a shape that is not too large
abbrev pub of_size : ℕ → ℕ → Option Shape
of_size m k = where_so (nat_lt m SIZE && nat_lt k SIZE) (Some (record { rows = m; columns = k }))

-- those of transposes, of sums of blocks and of products
abbrev pub flipped : Option Shape → Option Shape
flipped a = a >>= λ s. Some (record { rows = s.columns; columns = s.rows })

abbrev pub joined : Shape → Shape → Option Shape
joined s t = where_so (nat_eq s.rows t.rows && nat_lt (s.columns + t.columns) SIZE) (Some (record { rows = s.rows; columns = s.columns + t.columns }))

abbrev pub multiplied : Shape → Shape → Option Shape
multiplied s t = where_so (nat_eq s.columns t.rows) (Some (record { rows = s.rows; columns = t.columns }))

abbrev pub of_both : Option Shape → Option Shape → (Shape → Shape → Option Shape) → Option Shape
of_both a b f = a >>= λ s. b >>= λ t. f s t
