-- The lines of certificates by their kinds: the first word, the number that some have, and what is named after it.
use Rattle.std.specs.Prelude.{ℕ, Bool, true, false, List, [], ◌∷◌, Option, Some, None, codes}
use Rattle.fm_words.specs.Parts.{Bytes}
use Rattle.fm_cert.specs.Kinds as kinds
use Rattle.fm_cert.specs.Lines.{Line, Row}
use Rattle.fm_writer.specs.declared.kinds.Named.{Named}
use Rattle.fm_writer.specs.declared.kinds.Named.TheVariants as named
use Rattle.fm_writer.specs.declared.kinds.Generating.{Generating}
use Rattle.fm_writer.specs.declared.kinds.Generating.TheVariants as generating
use Rattle.fm_writer.specs.declared.kinds.Excluding.{Excluding}
use Rattle.fm_writer.specs.declared.kinds.Excluding.TheVariants as excluding

-- ---- lines that name one part
abbrev pub named_line : Named → ℕ → Line
named_line (named.D j) p = Row kinds.D (j, (p, tt))
named_line (named.Theta j) p = Row kinds.Theta (j, (p, tt))
named_line (named.Morphism) p = Row kinds.Morphism (p, tt)
named_line (named.Stable s) p = Row kinds.Stable (s, (p, tt))
named_line (named.Whole) p = Row kinds.Whole (p, tt)
named_line (named.Coordinates) p = Row kinds.Coordinates (p, tt)
named_line (named.Dies s) p = Row kinds.Dies (s, (p, tt))
named_line (named.Cofactors) p = Row kinds.Cofactors (p, tt)
named_line (named.Power) p = Row kinds.Power (p, tt)
named_line (named.Settles j) p = Row kinds.Settles (j, (p, tt))
named_line (named.Lambda j) p = Row kinds.Lambda (j, (p, tt))
named_line (named.Phi) p = Row kinds.Phi (p, tt)
named_line (named.Null) p = Row kinds.Null (p, tt)
named_line (named.One) p = Row kinds.One (p, tt)
named_line (named.Onto s) p = Row kinds.Onto (s, (p, tt))
named_line (named.Closes s) p = Row kinds.Closes (s, (p, tt))

abbrev pub named_word : Named → Bytes
named_word (named.D j) = codes "d"
named_word (named.Theta j) = codes "theta"
named_word (named.Morphism) = codes "morphism"
named_word (named.Stable s) = codes "stable"
named_word (named.Whole) = codes "whole"
named_word (named.Coordinates) = codes "coordinates"
named_word (named.Dies s) = codes "dies"
named_word (named.Cofactors) = codes "cofactors"
named_word (named.Power) = codes "power"
named_word (named.Settles j) = codes "settles"
named_word (named.Lambda j) = codes "lambda"
named_word (named.Phi) = codes "phi"
named_word (named.Null) = codes "null"
named_word (named.One) = codes "one"
named_word (named.Onto s) = codes "onto"
named_word (named.Closes s) = codes "closes"

abbrev pub named_number : Named → Option ℕ
named_number (named.D j) = Some j
named_number (named.Theta j) = Some j
named_number (named.Morphism) = None
named_number (named.Stable s) = Some s
named_number (named.Whole) = None
named_number (named.Coordinates) = None
named_number (named.Dies s) = Some s
named_number (named.Cofactors) = None
named_number (named.Power) = None
named_number (named.Settles j) = Some j
named_number (named.Lambda j) = Some j
named_number (named.Phi) = None
named_number (named.Null) = None
named_number (named.One) = None
named_number (named.Onto s) = Some s
named_number (named.Closes s) = Some s

-- ---- lines that name a log, X and W
abbrev pub exact_line : (j n x w : ℕ) → Line
exact_line j n x w = Row kinds.Exact (j, (n, (x, (w, tt))))

-- ---- lines that name P, a log, X and W
abbrev pub generating_line : Generating → (p n x w : ℕ) → Line
generating_line (generating.Cocycles) p n x w = Row kinds.Cocycles (p, (n, (x, (w, tt))))
generating_line (generating.Relations) p n x w = Row kinds.Relations (p, (n, (x, (w, tt))))
generating_line (generating.Chain s) p n x w = Row kinds.Chain (s, (p, (n, (x, (w, tt)))))
generating_line (generating.Annihilator) p n x w = Row kinds.Annihilator (p, (n, (x, (w, tt))))
generating_line (generating.Colon j) p n x w = Row kinds.Colon (j, (p, (n, (x, (w, tt)))))
generating_line (generating.Fibre) p n x w = Row kinds.Fibre (p, (n, (x, (w, tt))))
generating_line (generating.Link j) p n x w = Row kinds.Link (j, (p, (n, (x, (w, tt)))))

abbrev pub generating_word : Generating → Bytes
generating_word (generating.Cocycles) = codes "cocycles"
generating_word (generating.Relations) = codes "relations"
generating_word (generating.Chain s) = codes "chain"
generating_word (generating.Annihilator) = codes "annihilator"
generating_word (generating.Colon j) = codes "colon"
generating_word (generating.Fibre) = codes "fibre"
generating_word (generating.Link j) = codes "link"

abbrev pub generating_number : Generating → Option ℕ
generating_number (generating.Cocycles) = None
generating_number (generating.Relations) = None
generating_number (generating.Chain s) = Some s
generating_number (generating.Annihilator) = None
generating_number (generating.Colon j) = Some j
generating_number (generating.Fibre) = None
generating_number (generating.Link j) = Some j

-- ---- lines that name a log, the number of a column, and the members that reduce it
abbrev pub excluding_line : Excluding → (n c : ℕ) → List ℕ → Line
excluding_line (excluding.Grows s) n c by = Row kinds.Grows (s, (n, (c, (by, tt))))
excluding_line (excluding.Proper) n c by = Row kinds.Proper (n, (c, (by, tt)))
excluding_line (excluding.Lives k) n c by = Row kinds.Lives (k, (n, (by, tt)))
excluding_line (excluding.Foreign) n c by = Row kinds.Foreign (n, (by, tt))
excluding_line (excluding.Least) n c by = Row kinds.Least (n, (c, (by, tt)))
excluding_line (excluding.NonNull) n c by = Row kinds.NonNull (n, (c, (by, tt)))
excluding_line (excluding.NotOne) n c by = Row kinds.NotOne (n, (c, (by, tt)))
excluding_line (excluding.Short s) n c by = Row kinds.Short (s, (n, (c, (by, tt))))

abbrev pub excluding_word : Excluding → Bytes
excluding_word (excluding.Grows s) = codes "grows"
excluding_word (excluding.Proper) = codes "proper"
excluding_word (excluding.Lives k) = codes "lives"
excluding_word (excluding.Foreign) = codes "foreign"
excluding_word (excluding.Least) = codes "least"
excluding_word (excluding.NonNull) = codes "nonnull"
excluding_word (excluding.NotOne) = codes "notone"
excluding_word (excluding.Short s) = codes "short"

abbrev pub excluding_number : Excluding → Option ℕ
excluding_number (excluding.Grows s) = Some s
excluding_number (excluding.Proper) = None
excluding_number (excluding.Lives k) = Some k
excluding_number (excluding.Foreign) = None
excluding_number (excluding.Least) = None
excluding_number (excluding.NonNull) = None
excluding_number (excluding.NotOne) = None
excluding_number (excluding.Short s) = Some s

abbrev pub has_column : Excluding → Bool
has_column (excluding.Grows s) = true
has_column (excluding.Proper) = true
has_column (excluding.Lives k) = false
has_column (excluding.Foreign) = false
has_column (excluding.Least) = true
has_column (excluding.NonNull) = true
has_column (excluding.NotOne) = true
has_column (excluding.Short s) = true
