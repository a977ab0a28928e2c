-- The first word of a row is that of its kind.
use Rattle.std.proofs.Common.{◌≡◌, Bool, true, false, List, [], ◌∷◌, Option, Some, None, refl, ap}
use Rattle.std.specs.Prelude.{codes, if◌then◌else◌, option_map}
use Rattle.fm_poly.specs.declared.ring.Ring.{Ring}
use Rattle.fm_words.specs.Options.{◌>>=◌}
use Rattle.fm_words.specs.Parts.{Bytes}
use Rattle.fm_words.specs.Words.{same_bytes}
use Rattle.fm_text.proofs.PolynomialsRead.{same_name}
use Rattle.fm_problem.specs.declared.query.Query.{Query}
use Rattle.fm_problem.specs.declared.query.Query.TheVariants as queries
use Rattle.fm_cert.specs.Fields.{read_row}
use Rattle.fm_cert.specs.Kinds as kinds
use Rattle.fm_cert.specs.Kinds.{Kind, row, first_item, kind_among, by_first, part_kind, unanswered_kind, refused_kind, closing_kind, kind_of, answer_kind}
use Rattle.fm_cert.specs.Lines.{Row, row_of}
use Rattle.fm_lines.specs.KindLines.{kind_line}
use Rattle.fm_lines.specs.PlainKinds.{answered}

-- the kind that there may be begins with this word
abbrev Begins : Bytes → Option Kind → Type 0
Begins w None = Unit {0}
Begins w (Some kind) = w ≡ first_item (row kind)

same_test : (w v : Bytes) (t : Bool) → same_bytes w v ≡ t → (a b : Option Kind) → (w ≡ v → Begins w a) → Begins w b → Begins w (if t then a else b)
same_test w v true e a b h k = h (same_name w v e)
same_test w v false e a b h k = k

test : (w v : Bytes) (a b : Option Kind) → (w ≡ v → Begins w a) → Begins w b → Begins w (if same_bytes w v then a else b)
test w v a b h k = same_test w v (same_bytes w v) refl a b h k

either : (w : Bytes) (t : Bool) (a b : Option Kind) → Begins w a → Begins w b → Begins w (if t then a else b)
either w true a b h k = h
either w false a b h k = k

part_begins : (w : Bytes) (ws : List Bytes) → w ≡ codes "part" → Begins w (part_kind ws)
part_begins w [] e = tt
part_begins w (k ∷ []) e = tt
part_begins w (k ∷ f ∷ ws) e =
    either w (same_bytes f (codes "given")) _ _ e (either w (same_bytes f (codes "twist")) _ _ e (either w (same_bytes f (codes "flip")) _ _ e
    (either w (same_bytes f (codes "beside")) _ _ e (either w (same_bytes f (codes "stack")) _ _ e (either w (same_bytes f (codes "times")) _ _ e
    (either w (same_bytes f (codes "pick")) (Some kinds.Pick) None e tt))))))

answer_begins : (w : Bytes) (asked : Option Query) → w ≡ codes "answer" → Begins w (answered asked)
answer_begins w None e = tt
answer_begins w (Some (queries.Zero i k)) e = e
answer_begins w (Some (queries.Class i k s z)) e = e
answer_begins w (Some (queries.Root i k)) e = e
answer_begins w (Some (queries.Invert i k f)) e = e
answer_begins w (Some (queries.Support i k)) e = e
answer_begins w (Some (queries.Map i k j)) e = e
answer_begins w (Some (queries.Member k f)) e = e
answer_begins w (Some (queries.Resolution i k)) e = e
answer_begins w (Some (queries.ExtOf i k)) e = e

unanswered_begins : (w : Bytes) (ws : List Bytes) → w ≡ codes "unanswered" → Begins w (unanswered_kind ws)
unanswered_begins w [] e = tt
unanswered_begins w (v ∷ ws) e = either w (same_bytes v (codes "budget")) _ _ e (either w (same_bytes v (codes "exponents")) (Some (kinds.Ended kinds.Exponents)) None e tt)

refused_begins : (w : Bytes) (ws : List Bytes) → w ≡ codes "refused" → Begins w (refused_kind ws)
refused_begins w [] e = tt
refused_begins w (v ∷ []) e = tt
refused_begins w (v ∷ u ∷ ws) e =
    either w (same_bytes v (codes "wrong")) _ _ e (either w (same_bytes u (codes "a")) _ _ e (either w (same_bytes u (codes "contained")) (Some (kinds.Ended kinds.NotContained)) None e tt))

closing_begins : (w : Bytes) (ws : List Bytes) → w ≡ codes "end" → Begins w (closing_kind ws)
closing_begins w [] e = e
closing_begins w (v ∷ ws) e = e

among_begins : (w : Bytes) (ks : List Kind) → Begins w (kind_among w ks)
among_begins w [] = tt
among_begins w (kind ∷ ks) = test w (first_item (row kind)) (Some kind) (kind_among w ks) (λ e. e) (among_begins w ks)

kind_begins : (asked : Option Query) (w : Bytes) (ws : List Bytes) → Begins w (kind_of asked (w ∷ ws))
kind_begins asked w ws =
    test w (codes "part") (part_kind ws) _ (part_begins w ws)
    (test w (codes "answer") (answered asked) _ (answer_begins w asked)
    (test w (codes "unanswered") (unanswered_kind ws) _ (unanswered_begins w ws)
    (test w (codes "refused") (refused_kind ws) _ (refused_begins w ws)
    (test w (codes "end") (closing_kind ws) (kind_among w by_first) (closing_begins w ws) (among_begins w by_first)))))

line_begins : (r : Ring) (names : List Bytes) (o : Option Kind) (w : Bytes) (ws : List Bytes) → Begins w o
    → (o >>= λ kind. option_map (Row kind) (read_row r names (row kind) (w ∷ ws))) ≡ kind_line r names o ws
line_begins r names None w ws h = refl
line_begins r names (Some kind) w ws h = ap (λ v. option_map (Row kind) (read_row r names (row kind) (v ∷ ws))) h

-- a row by its kind and the words after the first one
pub row_is : (r : Ring) (names : List Bytes) (asked : Option Query) (w : Bytes) (ws : List Bytes) → row_of r names asked (w ∷ ws) ≡ kind_line r names (kind_of asked (w ∷ ws)) ws
row_is r names asked w ws = line_begins r names (kind_of asked (w ∷ ws)) w ws (kind_begins asked w ws)
