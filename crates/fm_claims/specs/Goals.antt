-- Goals by answers, and when they are sound.
use Rattle.std.specs.Prelude.{◌≡◌, List, Option, Some, None}
use Rattle.fm_poly.specs.declared.ring.Ring.{Ring}
use Rattle.fm_vec.specs.Components.{AreOver}
use Rattle.fm_problem.specs.declared.problem.Problem.{Problem}
use Rattle.fm_problem.specs.declared.query.Query.{Query}
use Rattle.fm_problem.specs.declared.query.Query.TheVariants as queries
use Rattle.fm_cert.specs.Kinds as kinds
use Rattle.fm_cert.specs.Lines as lines
use Rattle.fm_cert.specs.Lines.{Line}
use Rattle.fm_report.specs.Parts.{Part}
use Rattle.fm_judge.specs.Goals as goals
use Rattle.fm_lines.specs.Rows.{ending_line}
use Rattle.fm_lines.specs.declared.ending.Ending.{Ending}
use Rattle.fm_places.specs.declared.goal.Goal.{Goal}
use Rattle.fm_places.specs.Meanings.{goal_of, IsGoal}

-- the polynomials of a query are of the ring
abbrev pub IsQueryOver : Ring → Query → Type 0
IsQueryOver r (queries.Class i k e z) = AreOver r z
IsQueryOver r (queries.Invert i k f) = f.ring ≡ r
IsQueryOver r (queries.Member k f) = f.ring ≡ r
IsQueryOver r z = Unit {0}

-- what a line that ends a query is to be shown by
abbrev pub goal_on : Problem → Query → Line → Option goals.Goal
goal_on q z (lines.Row (kinds.Ended kind) v) = goals.goal_of q z kind v
goal_on q z line = None

abbrev pub goal_in : Problem → Query → Ending → Option goals.Goal
goal_in q z ending = goal_on q z (ending_line ending)

-- the goal that is found is that one, and sound
abbrev pub IsGoalIn : Problem → List Part → Option goals.Goal → Option Goal → Type 0
IsGoalIn q ps o None = o ≡ None
IsGoalIn q ps o (Some g) = (o ≡ Some (goal_of q ps g)) × IsGoal q ps g
