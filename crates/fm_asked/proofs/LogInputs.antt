-- What a log begins with: the columns of the graph of the value of its part.
use Rattle.std.proofs.Common.{◌≡◌, ◌+◌, ◌<◌, ◌^◌, List, length, map, ap, ap₂, ◌∙◌, subst}
use Rattle.fm_groebner.specs.Graphs.{graph}
use Rattle.fm_graphs.specs.Graphs.{MatrixOf}
use Rattle.fm_graphs.specs.Listing.{terms_of}
use Rattle.fm_complete.specs.Divisions as divisions
use Rattle.fm_complete.specs.Standing.{AreOfShape}
use Rattle.fm_mat.specs.Matrices.{MatrixValue, matrix_meaning}
use Rattle.fm_poly.specs.declared.ring.Ring.{Ring}
use Rattle.fm_vec.specs.Vectors.{VectorValue}
use Rattle.fm_report.specs.Parts.{Part}
use Rattle.fm_parts.specs.Replays.{graph_inputs}
use Rattle.fm_pres.specs.Kept.{IsValue}
use Rattle.fm_asked.specs.OpenLogs.{AreInputs}

pub inputs_are : (r : Ring) (a : Part) (m : MatrixValue) (out : List VectorValue) → IsValue r a m
    → divisions.terms_of out ≡ map (terms_of m.ring) (graph m.ring.prime m.ring.vars (matrix_meaning m.ring m)).columns
    → AreOfShape m.ring (m.rows + length m.columns) out → length out < 2 ^ 32 → AreInputs r a out
unfolding graph_inputs
inputs_are r a m out v e s few = record {
  terms = subst (λ (q : Ring). divisions.terms_of out ≡ map (terms_of q) (graph q.prime q.vars (matrix_meaning q m)).columns) v.ring e
      ∙ ap (λ (A : MatrixOf r). map (terms_of r) (graph r.prime r.vars A).columns) v.meaning;
  shape = subst (λ n. AreOfShape r n out) (ap₂ (λ x y. x + y) v.rows v.columns) (subst (λ (q : Ring). AreOfShape q (m.rows + length m.columns) out) v.ring s);
  few = few;
}
