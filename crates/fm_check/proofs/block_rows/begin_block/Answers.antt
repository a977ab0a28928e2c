use Rattle.std.proofs.Common.{◌≡◌, ◌∙◌, true, not, map, refl, sym, ap, subst}
use Rattle.std.specs.Prelude.{is_some}
use Rattle.fm_words.specs.Steps.{place}
use Rattle.fm_problem.specs.Problems.{ideal_names}
use Rattle.fm_report.specs.Sheets.{say_datum}
use Rattle.fm_judge.specs.Judging.{in_certificate, moved_to}
use Rattle.fm_judge.specs.Places.{differential}
use Rattle.fm_places.specs.Meanings.{goal_of}
use Rattle.fm_asked.specs.Beginnings.{IsSaid, with_blocks}
use Rattle.fm_check.specs.Standings.{parts_of}
use Rattle.fm_check.proofs.BlockRows.{begins, block_goes, not_next}
use Rattle.fm_check.proofs.block_rows.begin_block.Goals as goal
use Rattle.fm_check.proofs.block_rows.begin_block.Goals.{Else-not-is_of_goal}

-- the ideal is one of the head
named : (c : Else-not-is_of_goal) → is_some (place 0 c.args.name.now (ideal_names c.args.problem.now)) ≡ true
named c = ap is_some (sym (c.ideal_place.ensures ∙ ap (λ xs. place 0 c.args.name.now (map (λ i. i.name) xs)) c.as_slice.ensures)) ∙ c.is_none.ensures ∙ ap not c.if-is_none.false

pub returns-then-not-branch-clause-leads : goal.returns-then-not-branch-clause-leads
returns-then-not-branch-clause-leads c = λ s says.
    let q = c.args.problem.now in
    let a = c.args.asked.now in
    let b = c.datum_row.new.asked in
    let t = with_blocks s.sheet (parts_of a) b.finished.items b.block in
    not_next q s (goal_of q (parts_of a) c.args.certificate.now.goal) c.args.name.now c.args.degree says.head (named (goal.at.returns-then-not-branch-clause-leads c).Else-not-is_of_goal)
    (sym c.is_of_goal.ensures ∙ c.if-not-is_of_goal.false)
    (subst (λ said. IsSaid said t (say_datum s.sheet c.args.name.now c.args.degree)) c.if-not-branch.true (c.in_ok-datum_row.ensures.said s says.head says.asked))

pub returns-clause-leads : goal.returns-clause-leads
returns-clause-leads c = λ s says.
    let q = c.args.problem.now in
    let a = c.args.asked.now in
    let b = c.datum_row.new.asked in
    let k = c.args.certificate.now in
    let g = goal_of q (parts_of a) k.goal in
    let t = with_blocks s.sheet (parts_of a) b.finished.items b.block in (
      moved_to s t (in_certificate g (differential 0)),
      begins q s g c.args.name.now c.args.degree says.head (named (goal.at.returns-clause-leads c).Else-not-is_of_goal) (sym c.is_of_goal.ensures ∙ c.if-not-is_of_goal.false) t
          (subst (λ said. IsSaid said t (say_datum s.sheet c.args.name.now c.args.degree)) c.if-not-branch.false (c.in_ok-datum_row.ensures.said s says.head says.asked)),
      block_goes q a b k s t says.head refl refl c.datum_row.ensures.table c.requires.log (c.datum_row.ensures.says s says.asked),
    )
