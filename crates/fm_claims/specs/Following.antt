-- When what is found of a line follows the table of claims.
use Rattle.std.specs.Prelude.{List, Option}
use Rattle.fm_poly.specs.declared.ring.Ring.{Ring}
use Rattle.fm_problem.specs.declared.problem.Problem.{Problem}
use Rattle.fm_report.specs.Parts.{Part}
use Rattle.fm_judge.specs.Claims as claims
use Rattle.fm_judge.specs.Places as places
use Rattle.fm_lines.specs.Rows.{row_line}
use Rattle.fm_lines.specs.declared.row.Row.{Row}
use Rattle.fm_conditions.specs.declared.kept_log.KeptLog.{KeptLog}
use Rattle.fm_conditions.specs.Meanings.{logs_of}
use Rattle.fm_places.specs.declared.aim.Aim.{Aim}
use Rattle.fm_pres.specs.declared.block.Block.{Block}
use Rattle.fm_claims.specs.declared.claimed.Claimed.{Claimed}
use Rattle.fm_places.specs.declared.goal.Goal.{Goal}
use Rattle.fm_places.specs.declared.place.Place.{Place}
use Rattle.fm_pres.specs.Blocks.{block_of}
use Rattle.fm_places.specs.Meanings.{goal_of, place_of}
use Rattle.fm_claims.specs.Views.{claim_on, IsClaim, IsSound}

module _ (r : Ring) (ps : List Part) (ls : List KeptLog) where
  -- what is found is the claim, and can be tested
  pub record Follows (aim : Aim) (claimed : Option claims.Claim) (found : Claimed) : Type 0 where
    pub claim : IsClaim r ps (logs_of ps ls) aim found claimed
    pub sound : IsSound r ps ls found

-- the claim of a row in a place, by the table
abbrev pub claim_in : Problem → List Part → List KeptLog → Goal → Block → places.Place → Row → Option claims.Claim
claim_in q ps ls g b p row = claim_on q.ring (goal_of q ps g) (block_of ps b) ps (logs_of ps ls) p (row_line row)

-- what is found of a row in a place follows the table
abbrev pub FollowsIn : Problem → List Part → List KeptLog → Goal → Block → Place → Row → Claimed → Type 0
FollowsIn q ps ls g b p row found = Follows q.ring ps ls g.aim (claim_in q ps ls g b (place_of q.ring ps g.aim p) row) found
