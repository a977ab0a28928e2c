-- What rows that add parts and begin logs do, by what the program keeps.
use Rattle.std.proofs.Common.{◌≡◌, ℕ, false, List, None, Some, Result, Ok, Err, refl, sym, ap₂, ◌∙◌, subst}
use Rattle.std.specs.Prelude.{OnOk}
use Rattle.fm_poly.specs.declared.ring.Ring.{Ring}
use Rattle.fm_problem.specs.declared.problem.Problem.{Problem}
use Rattle.fm_parts.specs.Replays.{Reason, nothing_replayed}
use Rattle.fm_judge.specs.Goals as goals
use Rattle.fm_judge.specs.Places as places
use Rattle.fm_judge.specs.Judging as judging
use Rattle.fm_judge.specs.Judging.{State, Stage, in_certificate, stage_at}
use Rattle.fm_report.specs.Parts.{Part}
use Rattle.fm_lines.specs.Rows.{part_line}
use Rattle.fm_lines.specs.declared.part_form.PartForm.{PartForm}
use Rattle.fm_lines.specs.declared.part_form.PartForm.TheVariants as forms
use Rattle.fm_pres.specs.Tables.{part_at}
use Rattle.fm_pres.proofs.Tables.{Extends}
use Rattle.fm_replay.specs.Kept.{Keeps}
use Rattle.fm_conditions.specs.Reasons.{Judges}
use Rattle.fm_conditions.specs.declared.why.Refused.{Refused}
use Rattle.fm_conditions.specs.declared.why.Refused.TheVariants.{Memory, Bad}
use Rattle.fm_places.specs.declared.aim.Aim.{Aim}
use Rattle.fm_places.specs.declared.place.Place.{Place}
use Rattle.fm_places.specs.declared.place.Place.TheVariants as program
use Rattle.fm_places.specs.Meanings.{goal_of, place_of}
use Rattle.fm_asked.specs.OpenLogs.{with_log}
use Rattle.fm_asked.specs.Partings.{IsGrown, with_parts}
use Rattle.fm_asked.specs.States.{SaysAsked}
use Rattle.fm_asked.specs.declared.asked.Asked.{Asked}
use Rattle.fm_asked.specs.declared.logs.OpenLog.{OpenLog}
use Rattle.fm_asked.proofs.Grown.{grown_extends}
use Rattle.fm_check.specs.Standings.{Goes, IsCertificate, Leads, Says, StandsWith, certificate_on, is_end, parts_of}
use Rattle.fm_check.specs.declared.certificate.Certificate.{Certificate}
use Rattle.fm_check.proofs.Growing.{goal_same, place_same, certificate_there}

pub in_place : (r : Ring) (ps : List Part) (aim : Aim) (p : Place) (g : goals.Goal) → is_end p ≡ false → stage_at g (place_of r ps aim p) ≡ in_certificate g (place_of r ps aim p)
in_place r ps aim program.End g h = absurd (cc h)
in_place r ps aim p g h = refl

-- the state says the same of the query where another stage comes next
pub says_staged : (a : Asked) (s : State) (stage : Stage) → SaysAsked a s → SaysAsked a (record s { stage = stage })
says_staged a s stage w = record { asked = w.asked; parts = w.parts; finished = w.finished; block = w.block; identity = w.identity; logs = w.logs }

-- ---- parts

pub part_on : (s : State) (g : goals.Goal) (p : places.Place) (k : ℕ) (form : PartForm) → certificate_on s g p (part_line k form) ≡ judging.part_line s (in_certificate g p) k (part_line k form)
part_on s g p k (forms.Given rows columns) = refl
part_on s g p k (forms.Twist part times) = refl
part_on s g p k (forms.Flip part) = refl
part_on s g p k (forms.Beside left right) = refl
part_on s g p k (forms.Stack above below) = refl
part_on s g p k (forms.Times left right) = refl
part_on s g p k (forms.Pick part columns) = refl

module _ (q : Problem) (a b : Asked) (c : Certificate) (k : IsCertificate q (parts_of a) c) (none : c.log ≡ None) where
  abbrev on_place : Stage
  on_place = in_certificate (goal_of q (parts_of a) c.goal) (place_of q.ring (parts_of a) c.goal.aim c.place)

  part_goes : (s : State) → Extends (parts_of a) (parts_of b) → is_end c.place ≡ false → Says q a s → SaysAsked b (with_parts s (parts_of b) on_place)
      → Goes q b c s (with_parts s (parts_of b) on_place)
  part_goes s e at w says = record {
    says = record { head = w.head; asked = says };
    stands = subst (λ o. StandsWith (goal_of q (parts_of b) c.goal) (place_of q.ring (parts_of b) c.goal.aim c.place) (parts_of b) o on_place) (sym none)
        (sym (in_place q.ring (parts_of a) c.goal.aim c.place (goal_of q (parts_of a) c.goal) at)
        ∙ ap₂ stage_at (goal_same (parts_of a) (parts_of b) e q c.goal k.goal) (place_same (parts_of a) (parts_of b) e q.ring c.goal.aim c.place k.place));
    version = refl;
    count = refl;
    verdicts = refl;
    passed = refl;
  }

  pub part_leads : {X : Type 0} (s : State) (result : Result X Refused) (said : Result State Reason) → OnOk result (IsGrown (parts_of a) (parts_of b)) → is_end c.place ≡ false
      → Says q a s → SaysAsked b (with_parts s (parts_of b) on_place) → Judges (λ _. with_parts s (parts_of b) on_place) result said → Leads q b c s result said
  part_leads s (Ok x) said e at w says j = (with_parts s (parts_of b) on_place, j, part_goes s (grown_extends (parts_of a) (parts_of b) (Ok x) e tt) at w says)
  part_leads s (Err (Bad why)) said e at w says j = j
  part_leads s (Err Memory) said e at w says j = tt

  pub grown_certificate : {X : Type 0} (result : Result X Refused) → OnOk result (IsGrown (parts_of a) (parts_of b)) → OnOk result (IsCertificate q (parts_of b) c)
  grown_certificate (Ok x) e = certificate_there (parts_of a) (parts_of b) (grown_extends (parts_of a) (parts_of b) (Ok x) e tt) q c none k
  grown_certificate (Err why) e = tt

-- ---- logs

pub log_begins : (q : Problem) (a b : Asked) (c : Certificate) (s : State) (log : OpenLog) (said : Result State Reason) → b ≡ a → Says q a s
    → Keeps log.replay nothing_replayed → let g = goal_of q (parts_of a) c.goal in let p = place_of q.ring (parts_of a) c.goal.aim c.place in
    said ≡ Ok (with_log s g p (part_at (parts_of a) log.part) nothing_replayed)
    → (t : State) × (said ≡ Ok t) × Goes q b (record c { log = Some log }) s t
log_begins q a b c s log said e w fresh is =
    let g = goal_of q (parts_of a) c.goal in
    let p = place_of q.ring (parts_of a) c.goal.aim c.place in
    let t : State = with_log s g p (part_at (parts_of a) log.part) nothing_replayed in (
      t,
      is,
      subst (λ (x : Asked). Goes q x (record c { log = Some log }) s t) (sym e) (record {
        says = record { head = w.head; asked = says_staged a s t.stage w.asked };
        stands = (record { part = part_at (parts_of a) log.part; replay = nothing_replayed }, refl, record { part = refl; kept = fresh });
        version = refl;
        count = refl;
        verdicts = refl;
        passed = refl;
      }),
    )
