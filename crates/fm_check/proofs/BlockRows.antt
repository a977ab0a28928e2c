-- What rows that begin blocks do.
use Rattle.std.proofs.Common.{◌≡◌, ℕ, true, ◌&&◌, nat_eq, Some, None, Ok, Err, refl, sym, ap, ◌∙◌, subst}
use Rattle.std.specs.Prelude.{is_some}
use Rattle.fm_words.specs.Parts.{Bytes}
use Rattle.fm_words.specs.Steps.{place}
use Rattle.fm_words.specs.Words.{same_bytes}
use Rattle.fm_problem.specs.Problems.{ideal_names}
use Rattle.fm_problem.specs.declared.problem.Problem.{Problem}
use Rattle.fm_report.specs.Sheets.{Sheet, say, say_datum}
use Rattle.fm_parts.specs.Replays.{Value}
use Rattle.fm_judge.specs.Goals.{Goal}
use Rattle.fm_judge.specs.Places as places
use Rattle.fm_judge.specs.Judging.{State, datum_line, in_certificate, moved_to, names_ideal}
use Rattle.fm_places.specs.declared.place.Place.TheVariants as program
use Rattle.fm_places.specs.Meanings.{goal_of}
use Rattle.fm_pres.specs.Tables.{TableValue, parts_in}
use Rattle.fm_asked.specs.States.{SaysAsked, with_sheet}
use Rattle.fm_asked.specs.declared.asked.Asked.{Asked}
use Rattle.fm_check.specs.Standings.{Goes, StandsWith, parts_of}
use Rattle.fm_check.specs.declared.certificate.Certificate.{Certificate}
use Rattle.fm_check.proofs.PartRows.{says_staged}

-- a line that begins a block for an ideal of the head, which is the one of the goal
module _ (q : Problem) (s : State) (g : Goal) (name : Bytes) (i : ℕ) (head : s.sheet.head ≡ Some q) (named : is_some (place 0 name (ideal_names q)) ≡ true)
    (h : (same_bytes name g.name && nat_eq i g.degree) ≡ true) where
  names : names_ideal s.sheet.head name ≡ true
  names = ap (λ o. names_ideal o name) head ∙ named

  pub not_next : say_datum s.sheet name i ≡ None → datum_line s g name i ≡ Err Value
  unfolding say
  not_next n = rw (names, h, n) refl

  pub begins : (t : Sheet) → say_datum s.sheet name i ≡ Some t → datum_line s g name i ≡ Ok (moved_to s t (in_certificate g (places.differential 0)))
  unfolding say
  begins t n = rw (names, h, n) refl

-- the state after it
pub block_goes : (q : Problem) (a b : Asked) (c : Certificate) (s : State) (t : Sheet) → s.sheet.head ≡ Some q → t.head ≡ s.sheet.head → t.count ≡ s.sheet.count
    → b.table ≡ a.table → c.log ≡ None → SaysAsked b (with_sheet s t)
    → Goes q b (record c { place = program.Differential 0 }) s (moved_to s t (in_certificate (goal_of q (parts_of a) c.goal) (places.differential 0)))
block_goes q a b c s t head same_head count same none w =
    let stage = in_certificate (goal_of q (parts_of a) c.goal) (places.differential 0) in
    record {
      says = record { head = same_head ∙ head; asked = says_staged b (with_sheet s t) stage w };
      stands = subst (λ o. StandsWith (goal_of q (parts_of b) c.goal) (places.differential 0) (parts_of b) o stage) (sym none)
          (ap (λ (x : TableValue). in_certificate (goal_of q (parts_in x) c.goal) (places.differential 0)) (sym same));
      version = refl;
      count = count;
      verdicts = refl;
      passed = refl;
    }
