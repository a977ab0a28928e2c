-- The lines of the kinds that there may be.
use Rattle.std.specs.Prelude.{List, Option}
use Rattle.fm_poly.specs.declared.ring.Ring.{Ring}
use Rattle.fm_words.specs.Options.{◌>>=◌}
use Rattle.fm_words.specs.Parts.{Bytes}
use Rattle.fm_cert.specs.Kinds.{Kind}
use Rattle.fm_cert.specs.Lines.{Line}
use Rattle.fm_lines.specs.Plain.{line_after, plain_line}

-- the line of the kind, if there is one, that follows its first word
abbrev pub kind_line : Ring → List Bytes → Option Kind → List Bytes → Option Line
kind_line r names kind ws = kind >>= λ k. line_after r names k ws

-- the same where no polynomials stand
abbrev pub plain_kind_line : Option Kind → List Bytes → Option Line
plain_kind_line kind ws = kind >>= λ k. plain_line k ws
