-- The pieces of lines that a program writes, and their words.
use Rattle.std.specs.Prelude.{ℕ, ◌≡◌, List, [], ◌∷◌, ◌++◌, map, length, decimal, Vec}
use Rattle.std.specs.Global.{Global}
use Rattle.std.specs.List.{join_with_byte, flat_map}
use Rattle.fm_poly.specs.Polys.{PolyValue}
use Rattle.fm_words.specs.Parts.{Bytes}
use Rattle.fm_cert.specs.declared.piece.Piece.{Piece}
use Rattle.fm_cert.specs.declared.piece.Piece.TheVariants as pieces
use Rattle.fm_cert.specs.Ends.{task_words}
use Rattle.fm_cert.specs.Fields.{yes_word, yes_with_words, keep_word, by_words, comma_words, polynomial_word, vector_word}
use Rattle.fm_cert.specs.Statements.{vector_of_texts}

-- the lists that a list of vectors holds
abbrev pub columns_of : List (Vec PolyValue Global) → List (List PolyValue)
columns_of cs = map (λ c. c.items) cs

-- the words of a piece
abbrev pub piece_words : List Bytes → Piece → List Bytes
piece_words names (pieces.Word w) = w.now ∷ []
piece_words names (pieces.Number n) = decimal n ∷ []
piece_words names (pieces.Numbers ks) = map decimal ks.now
piece_words names (pieces.By ks) = by_words ks.now
piece_words names (pieces.YesNo b) = yes_word b ∷ []
piece_words names (pieces.YesWith w o) = yes_with_words w.now o
piece_words names (pieces.Keep b) = keep_word b ∷ []
piece_words names (pieces.Names) = names
piece_words names (pieces.Task t) = task_words t
piece_words names (pieces.Polynomial f) = polynomial_word names f.now ∷ []
piece_words names (pieces.Vector fs) = vector_of_texts (map (polynomial_word names) fs.now) ∷ []
piece_words names (pieces.Generators fs) = comma_words (map (polynomial_word names) fs.now)
piece_words names (pieces.Columns cs) = decimal (length cs.now) ∷ map (vector_word names) (columns_of cs.now)

-- the words of a row that begins with a word
abbrev pub row_words : List Bytes → Bytes → List Piece → List Bytes
row_words names first rest = first ∷ flat_map (piece_words names) rest

-- the words joined by blanks, and LF
abbrev pub words_text : List Bytes → Bytes
words_text words = join_with_byte 32 words ++ 10 ∷ []

-- ---- what can be printed over n variables

abbrev pub AreOverVariables : ℕ → List PolyValue → Type 0
AreOverVariables n [] = Unit {0}
AreOverVariables n (f ∷ fs) = (n ≡ f.ring.vars) × AreOverVariables n fs

abbrev pub AreColumnsOver : ℕ → List (Vec PolyValue Global) → Type 0
AreColumnsOver n [] = Unit {0}
AreColumnsOver n (c ∷ cs) = AreOverVariables n c.items × AreColumnsOver n cs

abbrev pub IsPieceOver : ℕ → Piece → Type 0
IsPieceOver n (pieces.Word w) = Unit {0}
IsPieceOver n (pieces.Number k) = Unit {0}
IsPieceOver n (pieces.Numbers ks) = Unit {0}
IsPieceOver n (pieces.By ks) = Unit {0}
IsPieceOver n (pieces.YesNo b) = Unit {0}
IsPieceOver n (pieces.YesWith w o) = Unit {0}
IsPieceOver n (pieces.Keep b) = Unit {0}
IsPieceOver n (pieces.Names) = Unit {0}
IsPieceOver n (pieces.Task t) = Unit {0}
IsPieceOver n (pieces.Polynomial f) = n ≡ f.now.ring.vars
IsPieceOver n (pieces.Vector fs) = AreOverVariables n fs.now
IsPieceOver n (pieces.Generators fs) = AreOverVariables n fs.now
IsPieceOver n (pieces.Columns cs) = AreColumnsOver n cs.now

abbrev pub ArePiecesOver : ℕ → List Piece → Type 0
ArePiecesOver n [] = Unit {0}
ArePiecesOver n (p ∷ ps) = IsPieceOver n p × ArePiecesOver n ps

-- these texts, each after a comma and a blank
abbrev pub after_commas : List Bytes → Bytes
after_commas texts = flat_map (λ text. 44 ∷ 32 ∷ text) texts
