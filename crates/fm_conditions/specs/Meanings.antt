-- The conditions of lines, as the program keeps them.
use Rattle.std.specs.Prelude.{ℕ, ◌+◌, ◌-◌, ◌<◌, ◌≤◌, ◌^◌, ◌≡◌, true, List, [], ◌∷◌, map, get_or, Ok}
use Rattle.fm_poly.specs.declared.ring.Ring.{Ring}
use Rattle.fm_vec.specs.Components.{AreOver}
use Rattle.fm_complete.specs.Divisions.{terms_of}
use Rattle.fm_complete.specs.Divisions.{AreMembers}
use Rattle.fm_report.specs.Parts.{Part, given, twist, flip, beside, times}
use Rattle.fm_parts.specs.Replays.{is_number}
use Rattle.fm_parts.specs.Shapes.{rows_of, columns_of}
use Rattle.fm_parts.specs.Values.{is_within_bound}
use Rattle.fm_parts.specs.Conditions as conditions
use Rattle.fm_judge.specs.Claims.{unit_part, power_part, factored_part, unit_column_part, blocks_part}
use Rattle.fm_pres.specs.Tables.{part_at}
use Rattle.fm_conditions.specs.declared.kept_log.KeptLog.{KeptLog}
use Rattle.fm_conditions.specs.declared.operand.Operand.{Operand}
use Rattle.fm_conditions.specs.declared.operand.Operand as operands
use Rattle.fm_conditions.specs.declared.condition.Condition as program
use Rattle.fm_conditions.specs.declared.condition.Condition.TheVariants as kinds

-- a log, where its part is one of these
abbrev pub log_of : List Part → KeptLog → conditions.Log
log_of ps l = record { part = part_at ps l.part; members = terms_of l.members.items }

abbrev pub logs_of : List Part → List KeptLog → List conditions.Log
logs_of ps ls = map (log_of ps) ls

-- the log with this number; numbers count from 1
abbrev pub log_at : List conditions.Log → ℕ → conditions.Log
log_at ls n = get_or ls (n - 1) (record { part = given 0 []; members = [] })

module _ (r : Ring) (ps : List Part) where
  -- the part that an operand means
  abbrev pub operand_part : Operand → Part
  operand_part (operands.Part k) = part_at ps k
  operand_part (operands.Given m) = given m.rows m.columns
  operand_part (operands.Unit n) = unit_part r n
  operand_part (operands.UnitColumn n) = unit_column_part r n
  operand_part (operands.Blocks k) = blocks_part r (part_at ps k)
  operand_part (operands.Power f k n) = power_part r f k n
  operand_part (operands.Twist' q a e) = twist (operand_part a) e
  operand_part (operands.Flip' q a) = flip (operand_part a)
  operand_part (operands.Beside' q a s b) = beside (operand_part a) (operand_part b)
  operand_part (operands.Times' q a s b) = times (operand_part a) (operand_part b)

  -- the condition that is kept so
  abbrev pub condition_of : List conditions.Log → program.Condition → conditions.Condition
  condition_of ls (kinds.Equal a b) = conditions.equal (operand_part a) (operand_part b)
  condition_of ls (kinds.Powers f k) = conditions.equal (factored_part r f k) (factored_part r f k)
  condition_of ls (kinds.Follows a b) = conditions.follows (part_at ps a) (part_at ps b)
  condition_of ls (kinds.Kernel log a c x w) = conditions.kernel (log_at ls log) (operand_part a) (part_at ps c) (part_at ps x) (part_at ps w)
  condition_of ls (kinds.Preimage log a b c x w) = conditions.preimage (log_at ls log) (operand_part a) (operand_part b) (part_at ps c) (part_at ps x) (part_at ps w)
  condition_of ls (kinds.Outside log e a v column by) = conditions.outside (log_at ls log) e (operand_part a) (operand_part v) column by.items
  condition_of ls (kinds.Lists fs k) = conditions.lists fs.items (part_at ps k)
  condition_of ls (kinds.Agrees told found) = conditions.agrees told found
  condition_of ls kinds.Never = conditions.never

  -- ---- what is asked of them

  -- the parts that an operand names are there, and what is given is of the ring
  abbrev pub IsOperand : Operand → Type 0
  IsOperand (operands.Part k) = is_number ps k ≡ true
  IsOperand (operands.Given m) = m.ring ≡ r
  IsOperand (operands.Unit n) = Unit {0}
  IsOperand (operands.UnitColumn n) = Unit {0}
  IsOperand (operands.Blocks k) = is_number ps k ≡ true
  IsOperand (operands.Power f k n) = f.ring ≡ r
  IsOperand (operands.Twist' q a e) = IsOperand a
  IsOperand (operands.Flip' q a) = IsOperand a
  IsOperand (operands.Beside' q a s b) = IsOperand a × IsOperand b
  IsOperand (operands.Times' q a s b) = IsOperand a × IsOperand b

  -- and so of a condition; the column exists
  abbrev pub IsCondition : List KeptLog → program.Condition → Type 0
  IsCondition ls (kinds.Equal a b) = IsOperand a × IsOperand b
  IsCondition ls (kinds.Powers f k) = f.ring ≡ r
  IsCondition ls (kinds.Follows a b) = (is_number ps a ≡ true) × (is_number ps b ≡ true)
  IsCondition ls (kinds.Kernel log a c x w) = (is_number ls log ≡ true) × IsOperand a × (is_number ps c ≡ true) × (is_number ps x ≡ true) × (is_number ps w ≡ true)
  IsCondition ls (kinds.Preimage log a b c x w) =
      (is_number ls log ≡ true) × IsOperand a × IsOperand b × (is_number ps c ≡ true) × (is_number ps x ≡ true) × (is_number ps w ≡ true)
  IsCondition ls (kinds.Outside log e a v column by) = (is_number ls log ≡ true) × IsOperand a × IsOperand v × (1 ≤ column)
  IsCondition ls (kinds.Lists fs k) = AreOver r fs.items × (is_number ps k ≡ true)
  IsCondition ls (kinds.Agrees told found) = Unit {0}
  IsCondition ls kinds.Never = Unit {0}

  abbrev pub AreConditions : List KeptLog → List program.Condition → Type 0
  AreConditions ls [] = Unit {0}
  AreConditions ls (c ∷ cs) = IsCondition ls c × AreConditions ls cs

  -- The values that an operand is made of, and that no condition tests with it, can be formed: a power in its factors, and the part whose blocks
  -- are taken.
  abbrev pub CanBeFormed : Operand → Type 0
  CanBeFormed (operands.Part k) = Unit {0}
  CanBeFormed (operands.Given m) = Unit {0}
  CanBeFormed (operands.Unit n) = Unit {0}
  CanBeFormed (operands.UnitColumn n) = Unit {0}
  CanBeFormed (operands.Blocks k) = is_within_bound r (part_at ps k) ≡ true
  CanBeFormed (operands.Power f k n) = is_within_bound r (factored_part r f k) ≡ true
  CanBeFormed (operands.Twist' q a e) = CanBeFormed a
  CanBeFormed (operands.Flip' q a) = CanBeFormed a
  CanBeFormed (operands.Beside' q a s b) = CanBeFormed a × CanBeFormed b
  CanBeFormed (operands.Times' q a s b) = CanBeFormed a × CanBeFormed b

  -- and so of the operands of a condition
  abbrev pub IsFormable : program.Condition → Type 0
  IsFormable (kinds.Equal a b) = CanBeFormed a × CanBeFormed b
  IsFormable (kinds.Powers f k) = Unit {0}
  IsFormable (kinds.Follows a b) = Unit {0}
  IsFormable (kinds.Kernel log a c x w) = CanBeFormed a
  IsFormable (kinds.Preimage log a b c x w) = CanBeFormed a × CanBeFormed b
  IsFormable (kinds.Outside log e a v column by) = CanBeFormed a × CanBeFormed v
  IsFormable (kinds.Lists fs k) = Unit {0}
  IsFormable (kinds.Agrees told found) = Unit {0}
  IsFormable kinds.Never = Unit {0}

  -- it is asked of a condition where those before it hold
  abbrev pub AreFormable : List conditions.Log → List program.Condition → Type 0
  AreFormable ls [] = Unit {0}
  AreFormable ls (c ∷ cs) = IsFormable c × (conditions.holds r (condition_of ls c) ≡ Ok (tt {0}) → AreFormable ls cs)

  -- the part of a log is there, and its members are vectors with a component for each row and each column of it, with monic heads
  pub record IsKeptLog (l : KeptLog) : Type 0 where
    pub part : is_number ps l.part ≡ true
    pub room : rows_of (part_at ps l.part) + columns_of (part_at ps l.part) < 2 ^ 32
    pub members : AreMembers r (rows_of (part_at ps l.part) + columns_of (part_at ps l.part)) l.members.items

  abbrev pub AreKeptLogs : List KeptLog → Type 0
  AreKeptLogs [] = Unit {0}
  AreKeptLogs (l ∷ ls) = IsKeptLog l × AreKeptLogs ls
