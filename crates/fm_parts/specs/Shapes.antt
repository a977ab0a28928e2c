-- The shapes of parts, and how deep parts are made of others.
use Rattle.std.specs.Prelude.{ℕ, suc, ◌+◌, ◌^◌, max, Bool, true, ◌&&◌, nat_eq, nat_lt, nat_le, List, length}
use Rattle.std.specs.List.{list_all}
use Rattle.fm_report.specs.Parts.{Part, given, twist, flip, beside, stack, times, pick}

-- numbers of rows and of columns stay below this
abbrev pub SIZE : ℕ
SIZE = 2 ^ 32

-- a part is at most so deep
abbrev pub DEPTH : ℕ
DEPTH = 1000

-- the numbers of rows and of columns
abbrev pub shape_of : Part → ℕ × ℕ
shape_of (given rows columns) = (rows, length columns)
shape_of (twist a e) = shape_of a
shape_of (flip a) = ((shape_of a).1, (shape_of a).0)
shape_of (beside a b) = ((shape_of a).0, (shape_of a).1 + (shape_of b).1)
shape_of (stack a b) = ((shape_of a).0 + (shape_of b).0, (shape_of a).1)
shape_of (times a b) = ((shape_of a).0, (shape_of b).1)
shape_of (pick a js) = ((shape_of a).0, length js)

abbrev pub rows_of : Part → ℕ
rows_of a = (shape_of a).0

abbrev pub columns_of : Part → ℕ
columns_of a = (shape_of a).1

abbrev pub have_one_shape : Part → Part → Bool
have_one_shape a b = nat_eq (rows_of a) (rows_of b) && nat_eq (columns_of a) (columns_of b)

-- the shapes of the operands fit: those of a sum of blocks, of a product; each column has an entry for each row; and what is picked is there
abbrev pub operands_fit : Part → Bool
operands_fit (given rows columns) = list_all (λ v. nat_eq (length v) rows) columns
operands_fit (twist a e) = true
operands_fit (flip a) = true
operands_fit (beside a b) = nat_eq (rows_of a) (rows_of b)
operands_fit (stack a b) = nat_eq (columns_of a) (columns_of b)
operands_fit (times a b) = nat_eq (columns_of a) (rows_of b)
operands_fit (pick a js) = list_all (λ j. nat_lt j (columns_of a)) js

-- and the numbers of rows and of columns are not too large
abbrev pub fits_here : Part → Bool
fits_here a = operands_fit a && (nat_lt (rows_of a) SIZE && nat_lt (columns_of a) SIZE)

-- so it is throughout the part
abbrev pub fits : Part → Bool
fits (given rows columns) = fits_here (given rows columns)
fits (twist a e) = fits a && fits_here (twist a e)
fits (flip a) = fits a && fits_here (flip a)
fits (beside a b) = fits a && (fits b && fits_here (beside a b))
fits (stack a b) = fits a && (fits b && fits_here (stack a b))
fits (times a b) = fits a && (fits b && fits_here (times a b))
fits (pick a js) = fits a && fits_here (pick a js)

-- a given matrix has depth 1, any other part one more than the deepest of its operands
abbrev pub depth_of : Part → ℕ
depth_of (given rows columns) = 1
depth_of (twist a e) = suc (depth_of a)
depth_of (flip a) = suc (depth_of a)
depth_of (beside a b) = suc (max (depth_of a) (depth_of b))
depth_of (stack a b) = suc (max (depth_of a) (depth_of b))
depth_of (times a b) = suc (max (depth_of a) (depth_of b))
depth_of (pick a js) = suc (depth_of a)

abbrev pub is_shallow : Part → Bool
is_shallow a = nat_le (depth_of a) DEPTH
