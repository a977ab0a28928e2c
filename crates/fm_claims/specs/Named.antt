-- Matrices and conditions that several lines name.
use Rattle.std.specs.Prelude.{ℕ, ◌≡◌, true, List, [], ◌∷◌, Vec, Option, Some, None, option_map}
use Rattle.std.specs.Global.{Global}
use Rattle.fm_words.specs.Options.{◌>>=◌}
use Rattle.fm_poly.specs.Polys.{PolyValue, meaning}
use Rattle.fm_poly.specs.declared.ring.Ring.{Ring}
use Rattle.fm_report.specs.Parts.{Part, flip, beside, times}
use Rattle.fm_report.specs.Sheets.{Block}
use Rattle.fm_parts.specs.Conditions.{Log, Condition, equal, preimage, lists}
use Rattle.fm_parts.specs.Replays.{is_number}
use Rattle.fm_parts.specs.Shapes.{rows_of}
use Rattle.fm_judge.specs.Goals.{Goal}
use Rattle.fm_judge.specs.Claims.{unit_part, scalar_part, power_part, factored_part, unit_column_part, blocks_part, generated, excluded}
use Rattle.fm_pres.specs.Tables.{part_at}
use Rattle.fm_conditions.specs.Meanings.{logs_of, condition_of, IsCondition, AreConditions, IsFormable, AreFormable}
use Rattle.fm_conditions.specs.declared.condition.Condition as program
use Rattle.fm_conditions.specs.declared.kept_log.KeptLog.{KeptLog}
use Rattle.fm_claims.specs.Views.{conditions_of}
use Rattle.fm_claims.specs.declared.link.Link.{Link}
use Rattle.fm_claims.specs.declared.link.Link.TheVariants as links

-- the matrix L_r that is meant
abbrev pub link_part : List Part → Link → Part
link_part ps (links.First n phi) = beside (part_at ps n) (part_at ps phi)
link_part ps (links.Found k) = part_at ps k

-- its parts are there
abbrev pub IsLink : List Part → Link → Type 0
IsLink ps (links.First n phi) = (is_number ps n ≡ true) × (is_number ps phi ≡ true)
IsLink ps (links.Found k) = is_number ps k ≡ true

-- A is K * W
abbrev pub covered_by : (A : Part) (K W : Option Part) → Option (List Condition)
covered_by A K W = K >>= λ K. option_map (λ W. equal A (times K W) ∷ []) W

-- last is K * W, where both last and K may be missing
abbrev pub settled_by : (K last W : Option Part) → Option (List Condition)
settled_by K last W = K >>= λ K. last >>= λ last. option_map (λ W. equal last (times K W) ∷ []) W

-- L is everything, by L * W = 1
abbrev pub filled_by : Ring → (L W : Option Part) → Option (List Condition)
filled_by r L W = L >>= λ L. option_map (λ W. equal (times L W) (unit_part r (rows_of L)) ∷ []) W

-- f^k can be formed, and sends everything into the image of K
abbrev pub power_covered_by : Ring → PolyValue → (k : ℕ) (K W : Option Part) → Option (List Condition)
power_covered_by r f k K W =
    K >>= λ K. option_map (λ W. equal (factored_part r f k) (factored_part r f k) ∷ equal (power_part r f k (rows_of K)) (times K W) ∷ []) W

-- Phi is induced by the last lift, on the cocycles Z of the source and Y of the target
abbrev pub induced_by : (Z last Y : Option Part) (Phi : Part) → Option (List Condition)
induced_by Z last Y Phi = Z >>= λ Z. last >>= λ last. option_map (λ Y. equal (times (flip last) Z) (times Y Phi) ∷ []) Y

-- a condition that is found, if one is, is made of values that can be formed
abbrev pub IsFormableIf : Ring → List Part → Option program.Condition → Type 0
IsFormableIf r ps None = Unit {0}
IsFormableIf r ps (Some c) = IsFormable r ps c

module _ (r : Ring) (ps : List Part) (ls : List KeptLog) where
  -- a condition that is found can be tested
  abbrev pub IsConditionIf : Option program.Condition → Type 0
  IsConditionIf None = Unit {0}
  IsConditionIf (Some c) = IsCondition r ps ls c

  abbrev pub AreConditionsIf : Option (Vec program.Condition Global) → Type 0
  AreConditionsIf None = Unit {0}
  AreConditionsIf (Some cs) = AreConditions r ps ls cs.items

  abbrev pub AreFormableIf : Option (Vec program.Condition Global) → Type 0
  AreFormableIf None = Unit {0}
  AreFormableIf (Some cs) = AreFormable r ps (logs_of ps ls) cs.items

  -- it is the one that is claimed, and what it names is there
  pub record Names (claimed : Option (List Condition)) (found : Option program.Condition) : Type 0 where
    pub same : claimed ≡ option_map (λ c. condition_of r ps (logs_of ps ls) c ∷ []) found
    pub testable : IsConditionIf found

  -- and the values that it is made of can be formed
  pub record Finds (claimed : Option (List Condition)) (found : Option program.Condition) : Type 0 where
    pub same : claimed ≡ option_map (λ c. condition_of r ps (logs_of ps ls) c ∷ []) found
    pub testable : IsConditionIf found
    pub formable : IsFormableIf r ps found

  -- and so of several
  pub record FindsAll (claimed : Option (List Condition)) (found : Option (Vec program.Condition Global)) : Type 0 where
    pub same : claimed ≡ option_map (λ cs. conditions_of r ps (logs_of ps ls) cs.items) found
    pub testable : AreConditionsIf found
    pub formable : AreFormableIf found

module _ (r : Ring) (g : Goal) (b : Block) (parts : List Part) (logs : List Log) where
  -- a column of V lies outside of the image of K
  abbrev pub outside_of : (K : Option Part) (V : Part) → (n c : ℕ) → List ℕ → Option (List Condition)
  outside_of K V n c by = K >>= λ K. excluded r g b parts logs 0 K V n c by

  -- the image of L isn't everything
  abbrev pub not_everything : (L : Option Part) → (n c : ℕ) → List ℕ → Option (List Condition)
  not_everything L n c by = L >>= λ L. excluded r g b parts logs 0 L (unit_part r (rows_of L)) n c by

  -- P generates all that A sends into the image of K
  abbrev pub sent_into_by : (A : Part) (K : Option Part) (P : Part) → (n x w : ℕ) → Option (List Condition)
  sent_into_by A K P n x w = K >>= λ K. generated r g b parts logs (λ log X W. preimage log A K P X W) n x w []

  -- f^k can be formed, and doesn't send everything into the image of K
  abbrev pub power_outside_of : PolyValue → (k : ℕ) (K : Option Part) → (n c : ℕ) → List ℕ → Option (List Condition)
  power_outside_of f k K n c by =
      K >>= λ K. option_map (λ cs. equal (factored_part r f k) (factored_part r f k) ∷ cs) (excluded r g b parts logs 0 K (power_part r f k (rows_of K)) n c by)

  -- P generates all that f sends into the image of C
  abbrev pub sent_by_polynomial : PolyValue → (C : Option Part) (P : Part) → (n x w : ℕ) → Option (List Condition)
  sent_by_polynomial f C P n x w =
      C >>= λ C. generated r g b parts logs (λ log X W. preimage log (scalar_part r (meaning r f.terms) (rows_of C)) C P X W) n x w []

  -- K can be formed, P generates the polynomials that send everything into its image, and the entries of P are the ideal
  abbrev pub annihilated_by : List PolyValue → (K P : Option Part) → (n x w : ℕ) → Option (List Condition)
  annihilated_by ideal K P n x w = K >>= λ K. P >>= λ P. option_map (λ cs. equal K K ∷ cs)
      (generated r g b parts logs (λ log X W. preimage log (unit_column_part r (rows_of K)) (blocks_part r K) P X W) n x w (lists ideal P ∷ []))
