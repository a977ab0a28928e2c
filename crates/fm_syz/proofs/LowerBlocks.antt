-- The matrix of the lower blocks is that of the syzygies.
use Rattle.std.proofs.Common.{ℕ, ◌≡◌, List, length, map, sym, ap, ap₂, ◌∙◌, subst}
use Rattle.std.specs.List.{filter}
use Rattle.fm_algebra.specs.Polynomials.{Polynomial}
use Rattle.fm_poly.specs.declared.ring.Ring.{Ring}
use Rattle.fm_poly.specs.Polys.{PolyValue}
use Rattle.fm_vec.specs.Vectors.{VectorValue}
use Rattle.fm_complete.specs.Divisions as divisions
use Rattle.fm_mat.specs.Matrices.{MatrixValue, columns_meaning, matrix_meaning}
use Rattle.fm_mat.proofs.Steps.{map_length}
use Rattle.fm_graphs.specs.Graphs.{is_below, lower_block, syzygies}
use Rattle.fm_syz.specs.GraphValues.{GraphValue, graph_meaning}

module _ (r s : Ring) (g : GraphValue) (m c d : ℕ) (members : List VectorValue) (columns : List (List PolyValue)) (ring : s ≡ r) (rows : m ≡ g.matrix.rows) (width : c ≡ length g.matrix.columns)
    (same : members ≡ g.members) (is : columns_meaning s columns ≡ map (lower_block s m c) (filter (is_below m) (divisions.terms_of members))) where
  counted : length g.matrix.columns ≡ length (columns_meaning r g.matrix.columns)
  counted = sym (map_length _ g.matrix.columns)

  lowers : columns_meaning r columns ≡ (syzygies r (graph_meaning r g)).columns
  unfolding syzygies
  lowers =
      subst (λ (q : Ring). columns_meaning q columns ≡ map (lower_block q m c) (filter (is_below m) (divisions.terms_of members))) ring is
      ∙ ap (λ k. map (lower_block r k c) (filter (is_below k) (divisions.terms_of members))) rows
      ∙ ap (λ k. map (lower_block r g.matrix.rows k) (filter (is_below g.matrix.rows) (divisions.terms_of members))) (width ∙ counted)
      ∙ ap (λ ms. map (lower_block r g.matrix.rows (length (columns_meaning r g.matrix.columns))) (filter (is_below g.matrix.rows) (divisions.terms_of ms))) same

  pub syzygies_are : (k : MatrixValue) → k ≡ record { ring = s; rows = d; columns = columns } → d ≡ length g.matrix.columns → matrix_meaning r k ≡ syzygies r (graph_meaning r g)
  unfolding syzygies
  syzygies_are k made high =
      ap (matrix_meaning r) made
      ∙ ap₂ (λ n (cs : List (List (Polynomial r.prime r.vars))). record { rows = n; columns = cs }) (high ∙ counted) lowers
