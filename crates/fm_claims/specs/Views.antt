-- What the claims of the program mean.
use Rattle.std.specs.Prelude.{◌≡◌, List, map, Option, Some, None}
use Rattle.fm_poly.specs.declared.ring.Ring.{Ring}
use Rattle.fm_cert.specs.Lines as lines
use Rattle.fm_cert.specs.Lines.{Line}
use Rattle.fm_report.specs.Parts.{Part}
use Rattle.fm_report.specs.Sheets as sheets
use Rattle.fm_parts.specs.Conditions.{Log}
use Rattle.fm_parts.specs.Conditions as conditions
use Rattle.fm_judge.specs.Claims as claims
use Rattle.fm_judge.specs.Goals as goals
use Rattle.fm_judge.specs.Places as places
use Rattle.fm_conditions.specs.declared.condition.Condition.{Condition}
use Rattle.fm_conditions.specs.declared.kept_log.KeptLog.{KeptLog}
use Rattle.fm_conditions.specs.Meanings.{condition_of, logs_of, AreConditions, AreFormable}
use Rattle.fm_places.specs.declared.aim.Aim.{Aim}
use Rattle.fm_places.specs.Meanings.{IsPlace, place_of}
use Rattle.fm_claims.specs.declared.claimed.Claimed.{Claimed}
use Rattle.fm_claims.specs.declared.claimed.Claimed.TheVariants as outcomes

-- what the table of claims says of a line in a place; a line that is no row claims nothing
abbrev pub claim_on : (r : Ring) → goals.Goal → sheets.Block → List Part → List Log → places.Place → Line → Option claims.Claim
claim_on r g b parts logs p (lines.Row kind v) = claims.claim r g b parts logs p kind v
claim_on r g b parts logs p (lines.Head statement) = None
claim_on r g b parts logs p (lines.Question k statement) = None

-- the conditions that are kept mean those that are claimed
abbrev pub conditions_of : Ring → List Part → List Log → List Condition → List conditions.Condition
conditions_of r ps ls cs = map (condition_of r ps ls) cs

-- the claim that is found is the one of the table; where a part, a log, a member or a column doesn't exist, the place after it isn't looked at
abbrev pub IsClaim : Ring → List Part → List Log → Aim → Claimed → Option claims.Claim → Type 0
IsClaim r ps ls aim outcomes.Form c = c ≡ None
IsClaim r ps ls aim outcomes.Reference None = ⊥
IsClaim r ps ls aim outcomes.Reference (Some c) = c.conditions ≡ None
IsClaim r ps ls aim (outcomes.Claim k) c = c ≡ Some (record { conditions = Some (conditions_of r ps ls k.conditions.items); next = place_of r ps aim k.next })

-- the conditions can be tested, each where those before it hold, and the place after them is one
abbrev pub IsSound : Ring → List Part → List KeptLog → Claimed → Type 0
IsSound r ps ls outcomes.Form = Unit {0}
IsSound r ps ls outcomes.Reference = Unit {0}
IsSound r ps ls (outcomes.Claim c) =
    AreConditions r ps ls c.conditions.items × AreFormable r ps (logs_of ps ls) c.conditions.items × IsPlace ps c.next
