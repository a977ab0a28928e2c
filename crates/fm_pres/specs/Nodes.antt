-- The forms of a table with the shapes and depths that are kept of them.
use Rattle.std.specs.Prelude.{ℕ, ◌≡◌, ◌<◌, true, List, [], ◌∷◌, ◌++◌, map, Some, None, Result, Ok, Err}
use Rattle.fm_poly.specs.declared.ring.Ring.{Ring}
use Rattle.fm_report.specs.Parts.{Part}
use Rattle.fm_parts.specs.Shapes.{rows_of, columns_of, depth_of, fits, is_shallow}
use Rattle.fm_pres.specs.Tables.{part_at, tree_of, parts_from, refers, fault_of, IsOver}
use Rattle.fm_pres.specs.declared.form.Form.{Form}
use Rattle.fm_pres.specs.declared.form.Form.TheVariants.{Given, Twist, Flip, Beside, Stack, Times, Pick}
use Rattle.fm_pres.specs.declared.node.Node.{Node}
use Rattle.fm_pres.specs.declared.part_fault.PartFault.{PartFault}
use Rattle.fm_pres.specs.declared.shape.Shape.{Shape}

abbrev pub forms_of : List Node → List Form
forms_of ns = map (λ (n : Node). n.form) ns

unfoldable pub parts_of : List Node → List Part
parts_of ns = parts_from [] (forms_of ns)

-- the shape and the depth are those of the part
pub record IsMeasured (a : Part) (s : Shape) (d : ℕ) : Type 0 where
  pub rows : s.rows ≡ rows_of a
  pub columns : s.columns ≡ columns_of a
  pub depth : d ≡ depth_of a

-- the form is a part after these, and its shape and its depth are kept
pub record IsNode (ps : List Part) (n : Node) : Type 0 where
  pub faultless : fault_of ps n.form ≡ None
  pub measured : IsMeasured (tree_of ps n.form) n.shape n.depth

abbrev pub AreNodesFrom : List Part → List Node → Type 0
AreNodesFrom ps [] = Unit {0}
AreNodesFrom ps (n ∷ ns) = IsNode ps n × AreNodesFrom (ps ++ tree_of ps n.form ∷ []) ns

unfoldable pub AreNodes : List Node → Type 0
AreNodes ns = AreNodesFrom [] ns

-- matrices that are given are of the ring
abbrev pub AreOver : Ring → List Node → Type 0
AreOver r [] = Unit {0}
AreOver r (n ∷ ns) = IsOver r n.form × AreOver r ns

-- the operands have numbers below k
abbrev pub IsBelow : ℕ → Form → Type 0
IsBelow k (Given m) = Unit {0}
IsBelow k (Twist a e) = a < k
IsBelow k (Flip a) = a < k
IsBelow k (Beside a b) = (a < k) × (b < k)
IsBelow k (Stack a b) = (a < k) × (b < k)
IsBelow k (Times a b) = (a < k) × (b < k)
IsBelow k (Pick a js) = a < k

-- part k of these parts is that of the form
pub record IsPart (ps : List Part) (k : ℕ) (n : Node) : Type 0 where
  pub is : part_at ps k ≡ tree_of ps n.form
  pub below : IsBelow k n.form
  pub refers_back : refers ps n.form ≡ true
  pub fitting : fits (part_at ps k) ≡ true
  pub shallow : is_shallow (part_at ps k) ≡ true
  pub measured : IsMeasured (part_at ps k) n.shape n.depth

-- the fault, or the shape and the depth
abbrev pub IsJudged : List Part → Form → Result (Shape × ℕ) PartFault → Type 0
IsJudged ps f (Err why) = fault_of ps f ≡ Some why
IsJudged ps f (Ok x) = (fault_of ps f ≡ None) × IsMeasured (tree_of ps f) x.0 x.1
