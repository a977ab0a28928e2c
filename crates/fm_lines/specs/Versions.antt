-- The version that the first line of a report tells.
use Rattle.std.specs.Prelude.{ℕ, Option, Some, None}
use Rattle.fm_cert.specs.Kinds.{Report}
use Rattle.fm_cert.specs.Lines.{Line, Row}

abbrev pub version_of : Line → Option ℕ
version_of (Row Report vs) = Some vs.0
version_of l = None

abbrev pub version_in : Option Line → Option ℕ
version_in None = None
version_in (Some l) = version_of l
