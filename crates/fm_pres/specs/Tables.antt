-- The parts of a table, and what a form adds to them.
use Rattle.std.specs.Prelude.{ℕ, suc, ◌-◌, ◌≡◌, Bool, true, ◌&&◌, if◌then◌else◌, nat_lt, nat_le, List, [], ◌∷◌, ◌++◌, map, length, get_or, Option, Some, None, Result, Ok, Err}
use Rattle.std.specs.List.{list_all}
use Rattle.fm_poly.specs.declared.ring.Ring.{Ring}
use Rattle.fm_report.specs.Parts.{Part, given, twist, flip, beside, stack, times, pick}
use Rattle.fm_parts.specs.Replays.{is_number}
use Rattle.fm_parts.specs.Shapes.{columns_of, fits, is_shallow}
use Rattle.fm_pres.specs.declared.form.Form.{Form}
use Rattle.fm_pres.specs.declared.form.Form.TheVariants.{Given, Twist, Flip, Beside, Stack, Times, Pick}
use Rattle.fm_pres.specs.declared.part_fault.PartFault.{PartFault}
use Rattle.fm_pres.specs.declared.part_fault.PartFault.TheVariants.{Reference, Shape, Depth}

-- what contracts see of a table: its ring, and its forms
pub record TableValue : Type 0 where
  pub ring : Ring
  pub forms : List Form

-- the part with this number; numbers count from 1
abbrev pub part_at : List Part → ℕ → Part
part_at ps k = get_or ps (k - 1) (given 0 [])

-- the part that a form means, where its numbers are those of these parts
abbrev pub tree_of : List Part → Form → Part
tree_of ps (Given m) = given m.rows m.columns
tree_of ps (Twist a e) = twist (part_at ps a) e
tree_of ps (Flip a) = flip (part_at ps a)
tree_of ps (Beside a b) = beside (part_at ps a) (part_at ps b)
tree_of ps (Stack a b) = stack (part_at ps a) (part_at ps b)
tree_of ps (Times a b) = times (part_at ps a) (part_at ps b)
tree_of ps (Pick a js) = pick (part_at ps a) (map (λ j. j - 1) js.items)

-- the parts, those of the forms after the parts so far
abbrev pub parts_from : List Part → List Form → List Part
parts_from ps [] = ps
parts_from ps (f ∷ fs) = parts_from (ps ++ tree_of ps f ∷ []) fs

-- the parts of a table, each as a tree
unfoldable pub parts_in : TableValue → List Part
parts_in t = parts_from [] t.forms

-- j is the number of one of c columns
abbrev pub is_column : ℕ → ℕ → Bool
is_column c j = nat_lt 0 j && nat_le j c

-- each number is that of a part, and the columns that are picked exist
abbrev pub refers : List Part → Form → Bool
refers ps (Given m) = true
refers ps (Twist a e) = is_number ps a
refers ps (Flip a) = is_number ps a
refers ps (Beside a b) = is_number ps a && is_number ps b
refers ps (Stack a b) = is_number ps a && is_number ps b
refers ps (Times a b) = is_number ps a && is_number ps b
refers ps (Pick a js) = is_number ps a && list_all (is_column (columns_of (part_at ps a))) js.items

-- why a form is no part, in the order of the tests
abbrev pub fault_of : List Part → Form → Option PartFault
fault_of ps f =
    if refers ps f then (if fits (tree_of ps f) then (if is_shallow (tree_of ps f) then None else Some Depth) else Some Shape) else Some Reference

-- the next number, or the fault
abbrev pub number_or : List Part → Option PartFault → Result ℕ PartFault
number_or ps None = Ok (suc (length ps))
number_or ps (Some why) = Err why

-- the parts with that of a form, where it has no fault
abbrev pub grown_by : List Part → Part → Option PartFault → List Part
grown_by ps a None = ps ++ a ∷ []
grown_by ps a (Some why) = ps

unfoldable pub answer_to : List Part → Form → Result ℕ PartFault
answer_to ps f = number_or ps (fault_of ps f)

unfoldable pub parts_with : List Part → Form → List Part
parts_with ps f = grown_by ps (tree_of ps f) (fault_of ps f)

-- a matrix that is given is of the ring
abbrev pub IsOver : Ring → Form → Type 0
IsOver r (Given m) = m.ring ≡ r
IsOver r f = Unit {0}
