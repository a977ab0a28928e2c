use Rattle.std.proofs.Common.{◌≡◌, map, sym, ◌∙◌, subst}
use Rattle.std.proofs.lemmas.List.{nil_from_length}
use Rattle.fm_complete.specs.Bases.{entry_value}
use Rattle.fm_standard.specs.Small.{AreSmallLines}
use Rattle.fm_standard.specs.Writing.{entry_line}
use Rattle.fm_writer.specs.Writers.{with_lines}
use Rattle.fm_writer.proofs.Pages.{one_more, no_lines, small_none, small_cons}
use Rattle.fm_writer.proofs.writer.Writer.push_entries.Goals as goal

pub returns-in_default : goal.returns-in_default
returns-in_default c =
    let none = nil_from_length _ c.in_default.ensures.cases in
    record {
      page = no_lines c.entries.self
          ∙ subst (λ es. with_lines c.entries.self (map entry_line (map entry_value es)) c.entries.self.shelf ≡ with_lines c.args.self.now (map entry_line (map entry_value c.args.entries.now)) c.args.self.now.shelf)
          none c.entries.invariant.page;
      small = c.entries.invariant.small (subst (λ es. AreSmallLines (map entry_line (map entry_value es))) (sym none) small_none);
    }

pub entries-preserved : goal.entries-preserved
entries-preserved c = record {
  page = one_more c.args.self.now c.entries.self c.push_entry.new.self (entry_line (entry_value c.in-Some.entry.now)) (map entry_line (map entry_value c.in-Some.later.now))
      (map entry_line (map entry_value c.args.entries.now)) c.in_ok-push_entry.ensures.page
      (subst (λ es. with_lines c.entries.self (map entry_line (map entry_value es)) c.entries.self.shelf ≡ with_lines c.args.self.now (map entry_line (map entry_value c.args.entries.now)) c.args.self.now.shelf)
      c.in-Some.ensures.cases.0 c.entries.invariant.page);
  small = λ rest. c.entries.invariant.small (subst (λ es. AreSmallLines (map entry_line (map entry_value es))) (sym c.in-Some.ensures.cases.0) (small_cons _ _ c.in_ok-push_entry.ensures.small rest));
}
