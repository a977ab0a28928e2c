-- Cutting a text at marks.
use Rattle.std.specs.Prelude.{ℕ, Bool, ◌||◌, if◌then◌else◌, nat_eq, List, [], ◌∷◌, Option, Some, None}
use Rattle.std.specs.List.{slice_split}
use Rattle.fm_words.specs.declared.mark.Mark.{Mark}
use Rattle.fm_words.specs.declared.mark.Mark.TheVariants.{Feed, Blank, Comma, Equals, Star, Caret, Open, Close}

abbrev pub Bytes : Type 0
Bytes = List ℕ

-- the bytes of each kind, in ASCII; a blank is a space or a tab
abbrev pub is_mark : Mark → ℕ → Bool
is_mark Feed b = nat_eq b 10
is_mark Blank b = nat_eq b 32 || nat_eq b 9
is_mark Comma b = nat_eq b 44
is_mark Equals b = nat_eq b 61
is_mark Star b = nat_eq b 42
is_mark Caret b = nat_eq b 94
is_mark Open b = nat_eq b 40
is_mark Close b = nat_eq b 41

-- the parts of a text between marks; a text without the mark is one part
abbrev pub parts : Mark → Bytes → List Bytes
parts m text = slice_split (is_mark m) text

-- the pieces of a text between the bytes c
abbrev pub pieces : ℕ → Bytes → List Bytes
pieces c text = slice_split (λ b. nat_eq b c) text

-- the text before the first mark
abbrev pub before_mark : Mark → Bytes → Bytes
before_mark m [] = []
before_mark m (b ∷ bs) = if is_mark m b then [] else (b ∷ before_mark m bs)

-- the text after the first mark; nothing where there is none
abbrev pub after_mark : Mark → Bytes → Bytes
after_mark m [] = []
after_mark m (b ∷ bs) = if is_mark m b then bs else after_mark m bs

-- the entry of a list that has exactly one
abbrev pub only : {A : Type 0} → List A → Option A
only [] = None
only (x ∷ []) = Some x
only (x ∷ y ∷ rest) = None

-- the entries of a list that has exactly two
abbrev pub pair : {A : Type 0} → List A → Option (A × A)
pair [] = None
pair (x ∷ []) = None
pair (x ∷ y ∷ []) = Some (x, y)
pair (x ∷ y ∷ z ∷ rest) = None

-- the entries of a list that has exactly three
abbrev pub triple : {A : Type 0} → List A → Option (A × A × A)
triple [] = None
triple (x ∷ []) = None
triple (x ∷ y ∷ []) = None
triple (x ∷ y ∷ z ∷ []) = Some (x, y, z)
triple (x ∷ y ∷ z ∷ u ∷ rest) = None
