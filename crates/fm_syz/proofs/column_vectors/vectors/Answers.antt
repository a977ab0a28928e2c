use Rattle.std.proofs.Common.{◌∷◌, ◌++◌, length, map, ap, sym, ◌∙◌, subst}
use Rattle.fm_complete.specs.Divisions as divisions
use Rattle.fm_vec.specs.Vectors.{VectorValue}
use Rattle.fm_vec.specs.Components.{AreOver}
use Rattle.fm_mat.specs.Matrices.{AreColumns, column_meaning, columns_meaning}
use Rattle.fm_graphs.specs.Listing.{terms_of}
use Rattle.fm_complete.specs.Standing.{AreOfShape}
use Rattle.fm_syz.proofs.ColumnTerms.{vector_terms, terms_more, shape_more}
use Rattle.fm_syz.proofs.column_vectors.vectors.Goals as goal

pub columns-preserved : goal.columns-preserved
columns-preserved c =
    let r = c.args.ring in
    let here = c.in-Some.ensures.cases.0 in
    let shape : AreColumns r c.args.rows (c.in-Some.c.now ∷ c.in-Some.later.now) = subst (AreColumns r c.args.rows) here c.columns.invariant.columns in
    let read = c.entries.ensures in
    let v : VectorValue = c.in_ok-v.v in
    let w = c.entries.result.now in
    record {
      columns = shape.2;
      shape = subst (AreOfShape r c.args.rows) (sym c.in_ok-push.ensures.items) (shape_more r c.args.rows c.columns.out.items v c.columns.invariant.shape
          (ap (λ (x : VectorValue). x.ring) c.in_ok-v.ensures) (ap (λ (x : VectorValue). x.rows) c.in_ok-v.ensures ∙ ap length read ∙ shape.1));
      whole = terms_more c.columns.out.items c.push.new.self.items v (terms_of r (column_meaning r w)) _ _ c.in_ok-push.ensures.items
          (vector_terms r v w c.in_ok-v.ensures (subst (AreOver r) (sym read) shape.0) c.head-head.ensures.proper)
          (ap (λ x. divisions.terms_of c.columns.out.items ++ terms_of r (column_meaning r x) ∷ map (terms_of r) (columns_meaning r c.in-Some.later.now)) read
          ∙ ap (λ a. divisions.terms_of c.columns.out.items ++ map (terms_of r) (columns_meaning r a)) (sym here) ∙ c.columns.invariant.whole);
    }
