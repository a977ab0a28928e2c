use Rattle.std.proofs.Common.{ap, ◌∙◌}
use Rattle.fm_poly.specs.Polys.{PolyValue, meaning}
use Rattle.fm_mat.proofs.Meanings.{entry_meaning, entry_over}
use Rattle.fm_mat.proofs.flipping.entry.Goals as goal

pub returns-clause-over : goal.returns-clause-over
returns-clause-over c = ap (λ (f : PolyValue). f.ring) (c.in_ok-copy.ensures ∙ c.index-entries-i.is) ∙ entry_over c.args.ring c.args.entries.now c.args.i _ c.requires.over c.requires.within

pub returns-clause-value : goal.returns-clause-value
returns-clause-value c = ap (λ (f : PolyValue). meaning c.args.ring f.terms) (c.in_ok-copy.ensures ∙ c.index-entries-i.is) ∙ entry_meaning c.args.ring c.args.entries.now c.args.i _ c.requires.within
