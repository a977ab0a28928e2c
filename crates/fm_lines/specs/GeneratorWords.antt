-- Generators, one after another.
use Rattle.std.specs.Prelude.{Bool, if◌then◌else◌, List, Option, option_map}
use Rattle.fm_poly.specs.Polys.{PolyValue}
use Rattle.fm_poly.specs.declared.ring.Ring.{Ring}
use Rattle.fm_words.specs.Options.{◌>>=◌}
use Rattle.fm_words.specs.Parts.{Bytes, parts}
use Rattle.fm_words.specs.declared.mark.Mark.TheVariants.{Comma}
use Rattle.fm_cert.specs.Fields.{read_polynomial, without_comma, generators_of, nonzero}

-- the generator that a word is: a comma stands after each but the last
abbrev pub generator_of : Ring → List Bytes → Bool → Bytes → Option PolyValue
generator_of r names last w = if last then read_polynomial r names w else (without_comma (parts Comma w) >>= read_polynomial r names)

-- the generators but zeros
abbrev pub kept_generators : Ring → List Bytes → List Bytes → Option (List PolyValue)
kept_generators r names ws = option_map nonzero (generators_of r names ws)
