-- The limits of problem texts.
use Rattle.std.specs.Prelude.{ℕ}

-- the greatest number of variables
abbrev pub most_variables : ℕ
most_variables = 8

-- the greatest length of a name, in bytes, where it is defined
abbrev pub longest_name : ℕ
longest_name = 16

-- the greatest number of ideals
abbrev pub most_ideals : ℕ
most_ideals = 100

-- the greatest number of generators that are written for one ideal
abbrev pub most_generators : ℕ
most_generators = 64

-- the greatest number of queries
abbrev pub most_queries : ℕ
most_queries = 1000

-- the greatest stage of a class
abbrev pub greatest_stage : ℕ
greatest_stage = 16

-- the greatest exponent of a variable in a written term
abbrev pub greatest_exponent : ℕ
greatest_exponent = 1000
