-- What rows that end queries do.
use Rattle.std.proofs.Common.{◌≡◌, suc, true, false, List, Option, Some, None, Result, Ok, Err, refl, sym, ap, ◌∙◌}
use Rattle.fm_problem.specs.declared.problem.Problem.{Problem}
use Rattle.fm_cert.specs.Fields.{Values}
use Rattle.fm_cert.specs.Kinds as kinds
use Rattle.fm_cert.specs.Kinds.{Kind}
use Rattle.fm_cert.specs.Lines as lines
use Rattle.fm_cert.specs.Lines.{Line}
use Rattle.fm_poly.specs.declared.ring.Ring.{Ring}
use Rattle.fm_report.specs.Parts.{Part}
use Rattle.fm_report.specs.Sheets.{Answer, say}
use Rattle.fm_parts.specs.Replays.{Reason, Form}
use Rattle.fm_judge.specs.Goals as goals
use Rattle.fm_judge.specs.Places as places
use Rattle.fm_judge.specs.Judging.{State, at_answer, at_done, end_line, judged_at, judged_line, stage_at}
use Rattle.fm_places.specs.declared.aim.Aim.{Aim}
use Rattle.fm_places.specs.declared.goal.Goal.{Goal}
use Rattle.fm_places.specs.declared.place.Place.{Place}
use Rattle.fm_places.specs.declared.place.Place.TheVariants as program
use Rattle.fm_places.specs.Meanings.{aim_of, goal_of, place_of}
use Rattle.fm_claims.specs.Goals.{goal_on}
use Rattle.fm_asked.specs.Ending.{may_end_line}
use Rattle.fm_asked.specs.declared.asked.Asked.{Asked}
use Rattle.fm_check.specs.Standings.{IsAnswered, IsPassed, Says, is_answer_line, is_end, parts_of}

-- the first place is not the last
pub begins_before : (r : Ring) (ps : List Part) (a : Aim) (aim : goals.Aim) (p : Place) → place_of r ps a p ≡ places.first_place aim → is_end p ≡ false
begins_before r ps a (goals.membership f inside) program.End h = absurd (cc h)
begins_before r ps a aim program.End h = absurd (cc h)
begins_before r ps a aim p h = refl

-- what a line does that ends a query
abbrev end_on : State → Line → Result State Reason
end_on s (lines.Row (kinds.Ended kind) v) = end_line s kind v
end_on s line = Err Form

judged_row : (s : State) (kind : Kind) (v : Values (kinds.row kind)) → judged_at s at_answer (lines.Row kind v) ≡ end_on s (lines.Row kind v)
judged_row s (kinds.Ended kind) v = refl
judged_row s kind v = refl

judged_on : (s : State) (l : Line) → judged_at s at_answer l ≡ end_on s l
judged_on s (lines.Row kind v) = judged_row s kind v
judged_on s (lines.Head statement) = refl
judged_on s (lines.Question k statement) = refl

module _ (q : Problem) (a : Asked) (s : State) (w : Says q a s) (at : s.stage ≡ at_answer) (l : Line) where
  judged_ended : judged_line s l ≡ end_on s l
  unfolding judged_line
  judged_ended = ap (λ stage. judged_at s stage l) at ∙ judged_on s l

  -- ---- without an answer

  abbrev passed : State
  passed = record s { stage = at_done; passed = suc s.passed }

  bad : (l : Line) → is_answer_line l ≡ false → may_end_line a.query l ≡ false → end_on s l ≡ Err Form
  bad (lines.Row (kinds.Ended kind) v) n m = rw (n, w.asked.asked, m) refl
  bad l n m = refl

  over : (l : Line) → is_answer_line l ≡ false → may_end_line a.query l ≡ true → end_on s l ≡ Ok passed
  unfolding say
  over (lines.Row (kinds.Ended kind) v) n m = rw (n, w.asked.asked, m) refl
  over l n m = absurd (cc m)

  pub ends_badly : is_answer_line l ≡ false → may_end_line a.query l ≡ false → judged_line s l ≡ Err Form
  ends_badly n m = judged_ended ∙ bad l n m

  pub ends_passed : is_answer_line l ≡ false → may_end_line a.query l ≡ true → (t : State) × (judged_line s l ≡ Ok t) × IsPassed q a s t
  ends_passed n m = (
    passed,
    judged_ended ∙ over l n m,
    record {
      says = record {
        head = w.head;
        asked = record { asked = w.asked.asked; parts = w.asked.parts; finished = w.asked.finished; block = w.asked.block; identity = w.asked.identity; logs = w.asked.logs };
      };
      stands = refl;
      version = refl;
      count = refl;
      verdicts = refl;
      passed = refl;
    },
  )

  -- ---- with an answer

  abbrev answered : goals.Goal → Option Answer → State
  answered g x = record s { sheet = record s.sheet { answer = x }; stage = stage_at g (places.first_place g.aim); verdicts = suc s.verdicts }

  no_goal : (l : Line) → is_answer_line l ≡ true → goal_on q a.query l ≡ None → end_on s l ≡ Err Form
  no_goal (lines.Row (kinds.Ended kind) v) y n = rw (y, w.head, w.asked.asked, n) refl
  no_goal l y n = refl

  told : (l : Line) (g : goals.Goal) → is_answer_line l ≡ true → s.sheet.answer ≡ None → goal_on q a.query l ≡ Some g → (x : Option Answer) × (end_on s l ≡ Ok (answered g x))
  unfolding say
  told (lines.Row (kinds.Ended kind) v) g y none n = (Some (record { kind = kind; values = v }), rw (y, w.head, w.asked.asked, n, none) refl)
  told l g y none n = absurd (cc y)

  pub answers_nothing : is_answer_line l ≡ true → goal_on q a.query l ≡ None → judged_line s l ≡ Err Form
  answers_nothing y n = judged_ended ∙ no_goal l y n

  pub ends_answered : is_answer_line l ≡ true → s.sheet.answer ≡ None → (g : Goal) (p : Place) → goal_on q a.query l ≡ Some (goal_of q (parts_of a) g)
      → place_of q.ring (parts_of a) g.aim p ≡ places.first_place (aim_of q (parts_of a) g.aim)
      → (t : State) × (judged_line s l ≡ Ok t) × IsAnswered q a (record { goal = g; place = p; log = None }) s t
  ends_answered y none g p n first =
      let x = told l (goal_of q (parts_of a) g) y none n in (
        answered (goal_of q (parts_of a) g) x.0,
        judged_ended ∙ x.1,
        record {
          says = record {
            head = w.head;
            asked = record { asked = w.asked.asked; parts = w.asked.parts; finished = w.asked.finished; block = w.asked.block; identity = w.asked.identity; logs = w.asked.logs };
          };
          stands = ap (stage_at (goal_of q (parts_of a) g)) (sym first);
          version = refl;
          count = refl;
          verdicts = refl;
          passed = refl;
        },
      )
