use Rattle.std.proofs.Common.{◌≡◌, ◌∙◌, ◌++◌, ◌∷◌, [], ap, ap₂, sym, subst, length, List, rules}
use Rattle.fm_term.specs.declared.vterm.VTerm.{VTerm}
use Rattle.fm_vec.specs.Components.{AreOver, column_terms}
use Rattle.fm_vec.specs.Vectors.{IsVector}
use Rattle.fm_complete.proofs.LongRuns.{finished_terms, long_gathered, tail_vector}
use Rattle.fm_complete.proofs.Spread.{parts_ring}
use Rattle.fm_complete.proofs.spreading.finish.Goals as goal

pub from_column-requires-clause-few : goal.from_column-requires-clause-few
from_column-requires-clause-few c =
    let h = c.requires.holds in
    let whole = tail_vector c.args.ring c.args.rows c.args.head h.0 h.1 in
    let l : length c.deref.result.now ≡ c.args.rows =
    ap length c.deref.ensures.value ∙ long_gathered c.args.ring c.args.rows _ h.0 _ _ c.requires.count (c.in_ok-column.ensures.column c.args.ring) whole h.2 in
    let small = c.ranges.rows.fits in
    search rules

pub from_column-requires-clause-over : goal.from_column-requires-clause-over
from_column-requires-clause-over c =
    subst (AreOver c.args.ring) (sym c.deref.ensures.value) (c.in_ok-column.ensures.over c.args.ring (parts_ring c.args.ring 1 _ _ c.requires.holds.2))

pub from_falling-requires : goal.from_falling-requires
from_falling-requires c =
    let h = c.requires.holds in
    let out : c.extend_from_slice.new.self.items ≡ c.args.head ∷ c.in_ok-later.later.terms =
    c.in_ok-extend_from_slice.ensures.items
    ∙ ap₂ (λ (x y : List VTerm). x ++ y) (c.in_ok-push.ensures.items ∙ ap (λ (x : List VTerm). x ++ c.args.head ∷ []) c.new-terms.ensures.items) c.terms.ensures.same in
    let column : c.in_ok-later.later.terms ≡ column_terms 1 c.in_ok-column.column.items = ap (λ v. v.terms) c.in_ok-later.ensures ∙ ap (column_terms 1) c.deref.ensures.value in
    subst (IsVector c.args.ring c.args.rows)
    (sym (finished_terms c.args.ring c.args.rows _ c.args.head h.0 _ _ _ _ out column c.requires.count (c.in_ok-column.ensures.column c.args.ring) h.1 h.2)) h.1

pub returns-clause-terms : goal.returns-clause-terms
returns-clause-terms c = λ ts vector parts.
    let out : c.extend_from_slice.new.self.items ≡ c.args.head ∷ c.in_ok-later.later.terms =
    c.in_ok-extend_from_slice.ensures.items
    ∙ ap₂ (λ (x y : List VTerm). x ++ y) (c.in_ok-push.ensures.items ∙ ap (λ (x : List VTerm). x ++ c.args.head ∷ []) c.new-terms.ensures.items) c.terms.ensures.same in
    let column : c.in_ok-later.later.terms ≡ column_terms 1 c.in_ok-column.column.items = ap (λ v. v.terms) c.in_ok-later.ensures ∙ ap (column_terms 1) c.deref.ensures.value in
    ap (λ v. v.terms) c.from_falling.ensures
    ∙ finished_terms c.args.ring c.args.rows _ c.args.head ts _ _ _ _ out column c.requires.count (c.in_ok-column.ensures.column c.args.ring) vector parts
