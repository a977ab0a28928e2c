use Rattle.std.proofs.Common.{◌∷◌, ◌++◌, length, map, take, sym, ap, ◌∙◌, subst, arith, List}
use Rattle.std.proofs.lemmas.List.{length-take-le, take-map}
use Rattle.fm_poly.specs.Polys.{PolyValue, meaning}
use Rattle.fm_vec.specs.Components.{AreOver}
use Rattle.fm_mat.specs.Matrices.{AreColumns, column_meaning, columns_meaning}
use Rattle.fm_mat.proofs.Steps.{columns_more, mapped_more}
use Rattle.fm_conditions.proofs.FirstRows.{first_over}
use Rattle.fm_conditions.proofs.syzygies.first_entries.Goals as goal

pub columns-preserved : goal.columns-preserved
columns-preserved c =
    let r = c.args.ring in
    let n = c.args.count in
    let column = c.in-Some.c.now in
    let here = c.in-Some.ensures.cases.0 in
    let shape : AreColumns r c.args.long (column ∷ c.in-Some.later.now) = subst (AreColumns r c.args.long) here c.columns.invariant.columns in
    let first = c.in_ok-copy_of.field-0 in
    let is = c.in_ok-copy_of.ensures ∙ c.split_at.ensures.front ∙ ap (take n) c.entries.ensures in
    let pushed = c.in_ok-push.ensures.items in
    let short = c.requires.count in
    record {
      columns = shape.2;
      shape = subst (AreColumns r n) (sym {A = List (List PolyValue)} pushed) (columns_more r n c.columns.out.items first c.columns.invariant.shape (subst (AreOver r) (sym is) (first_over r n column shape.0))
          (ap (λ (x : List PolyValue). length x) is ∙ length-take-le n column (let l = shape.1 in omega (arith, l, short))));
      whole = mapped_more (column_meaning r) c.columns.out.items first (take n (column_meaning r column)) (map (take n) (columns_meaning r c.in-Some.later.now)) _ c.push.new.self.items pushed
          (ap (column_meaning r) is ∙ sym (take-map (λ (f : PolyValue). meaning r f.terms) n column))
          (ap (λ cs. columns_meaning r c.columns.out.items ++ map (take n) (columns_meaning r cs)) (sym here) ∙ c.columns.invariant.whole);
    }
