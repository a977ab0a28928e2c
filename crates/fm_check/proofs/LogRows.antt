-- What rows in logs do, by what the program keeps.
use Rattle.std.proofs.Common.{◌≡◌, ◌+◌, Bool, true, false, List, Option, Some, None, Result, Ok, Err, refl, sym, ap, ap₂, ◌∙◌, subst}
use Rattle.std.specs.Prelude.{is_some}
use Rattle.fm_problem.specs.declared.problem.Problem.{Problem}
use Rattle.fm_complete.specs.Standing.{AreOfShape}
use Rattle.fm_cert.specs.Lines.{Line, Head, Question, Row}
use Rattle.fm_cert.specs.Kinds as kinds
use Rattle.fm_report.specs.Parts.{Part, part_value}
use Rattle.fm_report.specs.Sheets.{ring_in}
use Rattle.fm_parts.specs.Replays.{graph_inputs}
use Rattle.fm_parts.specs.Shapes.{rows_of, columns_of}
use Rattle.fm_judge.specs.Goals as goals
use Rattle.fm_judge.specs.Places as places
use Rattle.fm_judge.specs.Judging as judging
use Rattle.fm_judge.specs.Judging.{State, in_certificate, in_log, judged_at, judged_line, stage_at, end_log_line}
use Rattle.fm_poly.specs.declared.ring.Ring.{Ring}
use Rattle.fm_pres.specs.Tables.{TableValue, part_at, parts_in}
use Rattle.fm_conditions.specs.Meanings.{logs_of}
use Rattle.fm_conditions.specs.Reasons.{Judges}
use Rattle.fm_conditions.specs.declared.why.Refused.{Refused}
use Rattle.fm_conditions.specs.declared.why.Refused.TheVariants.{Memory, Bad}
use Rattle.fm_places.specs.Meanings.{goal_of, place_of}
use Rattle.fm_asked.specs.OpenLogs.{IsEntered, IsLogOf, IsOpen, entry_on}
use Rattle.fm_asked.specs.States.{SaysAsked, with_logs}
use Rattle.fm_asked.specs.declared.asked.Asked.{Asked}
use Rattle.fm_asked.specs.declared.logs.OpenLog.{OpenLog}
use Rattle.fm_check.specs.Standings.{IsOpenIf, IsReplaying, Leads, Says, StandsIn, StandsWith, parts_of}
use Rattle.fm_check.specs.declared.certificate.Certificate.{Certificate}
use Rattle.fm_check.proofs.PartRows.{says_staged}

-- a log is open, and can be replayed; or none is
pub is_replaying : (r : Ring) (ps : List Part) (o : Option OpenLog) (b : Bool) → b ≡ is_some o → b ≡ true → IsOpenIf r ps o → IsReplaying o
is_replaying r ps None b e w h = absurd (cc (e, w))
is_replaying r ps (Some l) b e w h =
    (subst (λ n. AreOfShape l.replay.ring n l.inputs.items) (sym h.rows) (subst (λ r. AreOfShape r (rows_of (part_at ps l.part) + columns_of (part_at ps l.part)) l.inputs.items) (sym h.ring) h.inputs.shape), h.inputs.few)

pub is_closed : (o : Option OpenLog) (b : Bool) → b ≡ is_some o → b ≡ false → o ≡ None
is_closed None b e w = refl
is_closed (Some l) b e w = absurd (cc (e, w))

judged_in_log : (s : State) (g : goals.Goal) (p : places.Place) (o : judging.OpenLog) (l : Line) → judged_at s (in_log g p o) l ≡ entry_on s g p o l
judged_in_log s g p o (Row kind v) = refl
judged_in_log s g p o (Head statement) = refl
judged_in_log s g p o (Question k statement) = refl

-- the judgement of a line in a log
judged_logged : (s : State) (g : goals.Goal) (p : places.Place) (o : judging.OpenLog) (l : Line) → s.stage ≡ in_log g p o → judged_line s l ≡ entry_on s g p o l
unfolding judged_line
judged_logged s g p o l e = ap (λ stage. judged_at s stage l) e ∙ judged_in_log s g p o l

module _ (q : Problem) (a : Asked) (s : State) (says : Says q a s) (c : Certificate) (l : OpenLog) (is : c.log ≡ Some l) (stands : StandsIn q (parts_of a) c s.stage) where
  abbrev g : goals.Goal
  g = goal_of q (parts_of a) c.goal

  abbrev p : places.Place
  p = place_of q.ring (parts_of a) c.goal.aim c.place

  -- the log in the state
  abbrev pub there : StandsWith g p (parts_of a) (Some l) s.stage
  there = subst (λ o. StandsWith g p (parts_of a) o s.stage) is stands

  abbrev pub o : judging.OpenLog
  o = there.0

  judged_here : (line : Line) → judged_line s line ≡ entry_on s g p o line
  judged_here line = judged_logged s g p o line there.1

  pub logged : IsOpen q.ring (parts_of a) l → IsLogOf s o l
  logged h = record {
    ring = ap ring_in says.head ∙ sym h.ring;
    inputs = ap₂ (λ r x. graph_inputs r (part_value r x)) (ap ring_in says.head) there.2.part ∙ sym h.inputs.terms;
    kept = there.2.kept;
  }

  -- an entry
  pub entry_leads : {X : Type 0} (new : OpenLog) (result : Result X Refused) (line : Line) → new.part ≡ l.part
      → IsEntered s g p o.part new.replay result (entry_on s g p o line) → Leads q a (record c { log = Some new }) s result (judged_line s line)
  entry_leads new (Ok x) line e h =
      let m : judging.OpenLog = record { part = o.part; replay = h.0 } in (
        record s { stage = in_log g p m },
        judged_here line ∙ h.1,
        record {
          says = record { head = says.head; asked = says_staged a s (in_log g p m) says.asked };
          stands = (m, refl, record { part = there.2.part ∙ sym (ap (part_at (parts_of a)) e); kept = h.2 });
          version = refl;
          count = refl;
          verdicts = refl;
          passed = refl;
        },
      )
  entry_leads new (Err (Bad why)) line e h = judged_here line ∙ h
  entry_leads new (Err Memory) line e h = tt

  -- the end of a log
  pub end_leads : {X : Type 0} (b : Asked) (left : Option OpenLog) (result : Result X Refused) → left ≡ None → b.table ≡ a.table → stage_at g p ≡ in_certificate g p
      → let t = with_logs s g p (logs_of (parts_of a) b.logs.items) in SaysAsked b t → Judges (λ _. t) result (end_log_line s g p o)
      → Leads q b (record c { log = left }) s result (judged_line s (Row kinds.EndLog tt))
  end_leads b left (Ok x) gone same in_place w h = (
    with_logs s g p (logs_of (parts_of a) b.logs.items),
    judged_here (Row kinds.EndLog tt) ∙ h,
    record {
      says = record { head = says.head; asked = w };
      stands = subst (λ m. StandsIn q (parts_of b) (record c { log = m }) (in_certificate g p)) (sym gone)
          (subst (λ (x : TableValue). in_certificate g p ≡ stage_at (goal_of q (parts_in x) c.goal) (place_of q.ring (parts_in x) c.goal.aim c.place)) (sym same) (sym in_place));
      version = refl;
      count = refl;
      verdicts = refl;
      passed = refl;
    },
  )
  end_leads b left (Err (Bad why)) gone same in_place w h = judged_here (Row kinds.EndLog tt) ∙ h
  end_leads b left (Err Memory) gone same in_place w h = tt
