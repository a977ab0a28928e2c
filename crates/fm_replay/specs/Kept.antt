-- Logs as far as they were replayed, as the program keeps them.
use Rattle.std.specs.Prelude.{◌≡◌, ◌<◌, ◌^◌, ℕ, Bool, length, List, [], ◌∷◌, ◌++◌, Option, Some, None, Result, Ok, Err}
use Rattle.fm_poly.specs.declared.ring.Ring.{Ring}
use Rattle.fm_term.specs.declared.vterm.VTerm.{VTerm}
use Rattle.fm_term.specs.Falling.{IsMonic}
use Rattle.fm_vec.specs.Vectors.{VectorValue}
use Rattle.fm_complete.specs.Divisions.{terms_of}
use Rattle.fm_complete.specs.Standing.{AreOfShape, AreMonicMembers}
use Rattle.fm_parts.specs.Replays.{Reason, BadEntry, Replay, is_taken, is_treated, with_rest, is_whole}
use Rattle.fm_replay.specs.declared.refusal.Refusal.{Refusal}
use Rattle.fm_replay.specs.declared.refusal.Refusal.TheVariants.{Memory, Bad}
use Rattle.fm_replay.specs.Refusals.{reason_of, Gives}

-- what contracts see of a replay: its ring, the number of components, the members, the inputs that were taken and the pairs that were treated
pub record ReplayValue : Type 0 where
  pub ring : Ring
  pub rows : ℕ
  pub members : List VectorValue
  pub taken : List ℕ
  pub treated : List (ℕ × ℕ)

abbrev pub nothing_kept : Ring → ℕ → ReplayValue
nothing_kept r rows = record { ring = r; rows = rows; members = []; taken = []; treated = [] }

-- the members are monic, of this shape, and not too many to be numbered
pub record AreNumbered (r : Ring) (rows : ℕ) (members : List VectorValue) : Type 0 where
  pub shape : AreOfShape r rows members
  pub monic : AreMonicMembers (terms_of members)
  pub few : length members < 2 ^ 32

-- the same members, inputs and pairs; these two may be listed in another order
pub record Keeps (p : ReplayValue) (s : Replay) : Type 0 where
  pub members : terms_of p.members ≡ s.members
  pub taken : (k : ℕ) → is_taken p.taken k ≡ is_taken s.taken k
  pub treated : (a b : ℕ) → is_treated p.treated a b ≡ is_treated s.treated a b

-- ---- entries

-- what is known after a step: a replay that is kept, or exactly the reason, unless memory ran out
abbrev pub Entered : {X : Type 0} → ReplayValue → Result X Refusal → Result Replay Reason → Type 0
Entered new (Ok _) said = (t : Replay) × (said ≡ Ok t) × Keeps new t
Entered new (Err (Bad f)) said = said ≡ Err (reason_of BadEntry f)
Entered new (Err Memory) said = Unit {0}

-- the step is made from each replay that was kept
abbrev pub Enters : {X : Type 0} → ReplayValue → ReplayValue → Result X Refusal → (Replay → Result Replay Reason) → Type 0
Enters old new result step = (s : Replay) → Keeps old s → Entered new result (step s)

-- ---- what an entry adds

abbrev pub with_member : Option VectorValue → List (List VTerm) → List (List VTerm)
with_member None members = members
with_member (Some v) members = members ++ v.terms ∷ []

abbrev pub after_input : Replay → ℕ → Option VectorValue → Replay
after_input s k member = record { members = with_member member s.members; taken = k ∷ s.taken; treated = s.treated }

abbrev pub after_pair : Replay → ℕ → ℕ → Option VectorValue → Replay
after_pair s a b member = record { members = with_member member s.members; taken = s.taken; treated = (a, b) ∷ s.treated }

-- the next member, if there is one, is monic and of this shape
abbrev pub IsNextMember : Ring → ℕ → Option VectorValue → Type 0
IsNextMember r rows None = Unit {0}
IsNextMember r rows (Some v) = (v.ring ≡ r) × (v.rows ≡ rows) × IsMonic v.terms

-- what becomes of a rest
abbrev pub RestIs : Ring → Bool → List VTerm → Result (Option VectorValue) Refusal → Type 0
RestIs r keep w result = (s : Replay) → Gives BadEntry (λ m. record { members = with_member m s.members; taken = s.taken; treated = s.treated }) result (with_rest r keep w s)

-- a step finds what is added, from each replay that is kept
abbrev pub Finds : {X : Type 0} → ReplayValue → Result X Refusal → (Replay → X → Replay) → (Replay → Result Replay Reason) → Type 0
Finds p result after step = (s : Replay) → Keeps p s → Gives BadEntry (after s) result (step s)

abbrev pub Adds : ReplayValue → ReplayValue → (Replay → Replay) → Type 0
Adds old new after = (s : Replay) → Keeps old s → Keeps new (after s)

-- ---- the end

abbrev pub DecidesWhole : ReplayValue → List (List VTerm) → Bool → Type 0
DecidesWhole p inputs result = (s : Replay) → Keeps p s → result ≡ is_whole inputs s
