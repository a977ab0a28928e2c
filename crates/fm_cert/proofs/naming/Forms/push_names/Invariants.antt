use Rattle.std.proofs.Common.{◌≡◌, ◌++◌}
use Rattle.std.specs.Vec.Iter.{into_iter_items, into_iter_len}
use Rattle.fm_cert.specs.Naming.{naming_lines, forms_after}
use Rattle.fm_cert.specs.Parts.{AreNamingsOver, naming_values}
use Rattle.fm_cert.specs.Said.{AreLinesOver, line_values}
use Rattle.fm_cert.proofs.naming.Forms.push_names.Given as goal

abbrev pub invariant-namings : goal.invariant-namings
invariant-namings l = record {
  value : line_values l.fn.problem l.lines.items ++ naming_lines l.fn.problem.vars (naming_values (into_iter_items l.left)) l.self
      ≡ line_values l.fn.problem l.fn.lines.items ++ naming_lines l.fn.problem.vars (naming_values l.fn.namings.items) l.fn.self;
  forms : forms_after l.fn.problem.vars (naming_values (into_iter_items l.left)) l.self ≡ forms_after l.fn.problem.vars (naming_values l.fn.namings.items) l.fn.self;
  left : AreNamingsOver l.fn.problem.ring.vars (into_iter_items l.left);
  over : AreLinesOver l.fn.problem.ring.vars l.lines.items;
}

abbrev pub decreases-namings : goal.decreases-namings
decreases-namings l = into_iter_len l.left
