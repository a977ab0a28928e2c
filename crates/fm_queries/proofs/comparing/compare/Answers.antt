use Rattle.std.proofs.Common.{◌≡◌, ◌≤◌, length, Ok, Err, refl, sym, ap, ◌∙◌, subst}
use Rattle.fm_mat.specs.Matrices.{MatrixValue, matrix_meaning}
use Rattle.fm_plan.specs.Following.{unanswered_by}
use Rattle.fm_plan.specs.Queries.{compared}
use Rattle.fm_poly.specs.declared.ring.Ring.{Ring}
use Rattle.fm_run.proofs.Parts.{failed}
use Rattle.fm_syz.specs.GeneratorValues.{GeneratorsValue, PreimageValue}
use Rattle.fm_syz.specs.GraphValues.{GraphValue}
use Rattle.fm_syz.specs.Insides.{inside_value}
use Rattle.fm_induced.specs.Fibres.{fibre_value}
use Rattle.fm_induced.specs.Joins.{IsOntoOver, onto_value}
use Rattle.fm_ext.specs.Exts.{ExtValue, relations_matrix, ring_of}
use Rattle.fm_queries.specs.Bases.{base_meaning, stable_graph}
use Rattle.fm_queries.specs.Maps.{compared_value}
use Rattle.fm_queries.proofs.CallsTold.{columns_told}
use Rattle.fm_queries.proofs.MapPlans.{null_stops, one_stops, onto_stops, onto_ends}
use Rattle.fm_queries.proofs.MapTold.{fibre_told, null_told, one_told, onto_told}
use Rattle.fm_queries.proofs.StableGraphs.{stable_ring, stable_rows}
use Rattle.fm_queries.proofs.comparing.compare.Goals as goal

pub is_zero-requires-clause-ring : goal.is_zero-requires-clause-ring
is_zero-requires-clause-ring c =
    let S = c.args.source.now in
    let T = c.args.target.now in
    let r = ring_of S.ext in
    let KT = c.stable_kernel-kernel.ensures.same in
    let ring_t : (stable_graph T).matrix.ring ≡ r = stable_ring T c.stable_kernel-kernel.ensures.base ∙ c.requires.ring in
    let rows_t = stable_rows T c.stable_kernel-kernel.ensures.base in
    c.requires.ring_phi ∙ sym (ap (λ (g : GraphValue). g.matrix.ring) KT ∙ ring_t)

pub is_zero-requires-clause-rows : goal.is_zero-requires-clause-rows
is_zero-requires-clause-rows c =
    let S = c.args.source.now in
    let T = c.args.target.now in
    let r = ring_of S.ext in
    let KT = c.stable_kernel-kernel.ensures.same in
    let ring_t : (stable_graph T).matrix.ring ≡ r = stable_ring T c.stable_kernel-kernel.ensures.base ∙ c.requires.ring in
    let rows_t = stable_rows T c.stable_kernel-kernel.ensures.base in
    c.requires.rows ∙ sym (ap (λ (g : GraphValue). g.matrix.rows) KT ∙ rows_t)

pub returns-in_err-null-clause-follows : goal.returns-in_err-null-clause-follows
returns-in_err-null-clause-follows c =
    let S = c.args.source.now in
    let T = c.args.target.now in
    let r = ring_of S.ext in
    let KT = c.stable_kernel-kernel.ensures.same in
    let ring_t : (stable_graph T).matrix.ring ≡ r = stable_ring T c.stable_kernel-kernel.ensures.base ∙ c.requires.ring in
    let rows_t = stable_rows T c.stable_kernel-kernel.ensures.base in
    let phi = c.args.phi.now in
    let P = matrix_meaning r phi in
    let B = base_meaning r S in
    let C = base_meaning r T in
    let old = c.args.work.now in
    let one = c.is_zero.new.work in
    let z = c.in_err-null.field-0.0 in
    λ answer. failed (compared_value r answer) unanswered_by c.from_residual.result z old one (compared r B C P answer old) c.from_residual.ensures
    (null_stops r B C P answer old one z (null_told r phi (stable_graph T) c.stable_kernel-kernel.result.now KT ring_t old one (Err z) c.in_err-null.ensures.follows))

pub is_one_to_one-requires-clause-some : goal.is_one_to_one-requires-clause-some
is_one_to_one-requires-clause-some c =
    let S = c.args.source.now in
    let T = c.args.target.now in
    let r = ring_of S.ext in
    let KS = c.stable_kernel.ensures.same in
    let ring_s : (stable_graph S).matrix.ring ≡ r = stable_ring S c.stable_kernel.ensures.base in
    let rows_s = stable_rows S c.stable_kernel.ensures.base in
    subst (λ (q : Ring). 1 ≤ q.vars) (sym (ap (λ (g : GraphValue). g.matrix.ring) KS ∙ ring_s)) c.requires.some

pub is_one_to_one-requires-clause-few : goal.is_one_to_one-requires-clause-few
is_one_to_one-requires-clause-few c =
    let S = c.args.source.now in
    let T = c.args.target.now in
    let r = ring_of S.ext in
    let KS = c.stable_kernel.ensures.same in
    let ring_s : (stable_graph S).matrix.ring ≡ r = stable_ring S c.stable_kernel.ensures.base in
    let rows_s = stable_rows S c.stable_kernel.ensures.base in
    subst (λ (q : Ring). q.vars ≤ 8) (sym (ap (λ (g : GraphValue). g.matrix.ring) KS ∙ ring_s)) c.requires.few

pub is_one_to_one-requires-clause-ring : goal.is_one_to_one-requires-clause-ring
is_one_to_one-requires-clause-ring c =
    let S = c.args.source.now in
    let T = c.args.target.now in
    let r = ring_of S.ext in
    let KS = c.stable_kernel.ensures.same in
    let ring_s : (stable_graph S).matrix.ring ≡ r = stable_ring S c.stable_kernel.ensures.base in
    let rows_s = stable_rows S c.stable_kernel.ensures.base in
    c.requires.ring_phi ∙ sym (ap (λ (g : GraphValue). g.matrix.ring) KS ∙ ring_s)

pub is_one_to_one-requires-clause-ring_k : goal.is_one_to_one-requires-clause-ring_k
is_one_to_one-requires-clause-ring_k c =
    let S = c.args.source.now in
    let T = c.args.target.now in
    let r = ring_of S.ext in
    let KT = c.stable_kernel-kernel.ensures.same in
    let ring_t : (stable_graph T).matrix.ring ≡ r = stable_ring T c.stable_kernel-kernel.ensures.base ∙ c.requires.ring in
    let rows_t = stable_rows T c.stable_kernel-kernel.ensures.base in
    let KS = c.stable_kernel.ensures.same in
    let ring_s : (stable_graph S).matrix.ring ≡ r = stable_ring S c.stable_kernel.ensures.base in
    let rows_s = stable_rows S c.stable_kernel.ensures.base in
    ap (λ (m : MatrixValue). m.ring) c.matrix.ensures.same ∙ (ap (λ (g : GraphValue). g.matrix.ring) KT ∙ ring_t) ∙ sym (ap (λ (g : GraphValue). g.matrix.ring) KS ∙ ring_s)

pub is_one_to_one-requires-clause-rows : goal.is_one_to_one-requires-clause-rows
is_one_to_one-requires-clause-rows c =
    let S = c.args.source.now in
    let T = c.args.target.now in
    let r = ring_of S.ext in
    let KT = c.stable_kernel-kernel.ensures.same in
    let ring_t : (stable_graph T).matrix.ring ≡ r = stable_ring T c.stable_kernel-kernel.ensures.base ∙ c.requires.ring in
    let rows_t = stable_rows T c.stable_kernel-kernel.ensures.base in
    c.requires.rows ∙ sym (ap (λ (m : MatrixValue). m.rows) c.matrix.ensures.same ∙ ap (λ (g : GraphValue). g.matrix.rows) KT ∙ rows_t)

pub is_one_to_one-requires-clause-count : goal.is_one_to_one-requires-clause-count
is_one_to_one-requires-clause-count c =
    let S = c.args.source.now in
    let T = c.args.target.now in
    let r = ring_of S.ext in
    let KS = c.stable_kernel.ensures.same in
    let ring_s : (stable_graph S).matrix.ring ≡ r = stable_ring S c.stable_kernel.ensures.base in
    let rows_s = stable_rows S c.stable_kernel.ensures.base in
    c.requires.count ∙ sym (ap (λ (g : GraphValue). g.matrix.rows) KS ∙ rows_s)

pub returns-in_err-fibre-clause-follows : goal.returns-in_err-fibre-clause-follows
returns-in_err-fibre-clause-follows c =
    let S = c.args.source.now in
    let T = c.args.target.now in
    let r = ring_of S.ext in
    let KT = c.stable_kernel-kernel.ensures.same in
    let ring_t : (stable_graph T).matrix.ring ≡ r = stable_ring T c.stable_kernel-kernel.ensures.base ∙ c.requires.ring in
    let rows_t = stable_rows T c.stable_kernel-kernel.ensures.base in
    let KS = c.stable_kernel.ensures.same in
    let ring_s : (stable_graph S).matrix.ring ≡ r = stable_ring S c.stable_kernel.ensures.base in
    let rows_s = stable_rows S c.stable_kernel.ensures.base in
    let phi = c.args.phi.now in
    let P = matrix_meaning r phi in
    let B = base_meaning r S in
    let C = base_meaning r T in
    let old = c.args.work.now in
    let one = c.is_zero.new.work in
    let y = c.in_ok-null.null in
    let nulls = null_told r phi (stable_graph T) c.stable_kernel-kernel.result.now KT ring_t old one (Ok y) c.in_ok-null.ensures.follows in
    let two = c.is_one_to_one.new.work in
    let K : c.matrix.result.now ≡ (stable_graph T).matrix = c.matrix.ensures.same ∙ ap (λ (g : GraphValue). g.matrix) KT in
    let z = c.in_err-fibre.field-0.0 in
    λ answer. failed (compared_value r answer) unanswered_by c.from_residual-in_err-fibre.result z old two (compared r B C P answer old) c.from_residual-in_err-fibre.ensures
    (one_stops r B C P answer (compared_value r answer) old one (inside_value r y) nulls two z
    (one_told r phi (stable_graph S) c.stable_kernel.result.now KS ring_s one two (stable_graph T).matrix c.matrix.result.now K (Err z) c.in_err-fibre.ensures.follows))

pub is_onto-requires-clause-some : goal.is_onto-requires-clause-some
is_onto-requires-clause-some c =
    let S = c.args.source.now in
    let T = c.args.target.now in
    let r = ring_of S.ext in
    let E : ExtValue = T.ext in
    let X = c.ext-ext.ensures.base.ext in
    let N : c.found-relations.result.now ≡ relations_matrix E = c.found-relations.ensures ∙ ap (λ (x : GeneratorsValue). x.graph.matrix) c.generators.ensures.same ∙ ap (λ (x : PreimageValue). x.generators.graph.matrix) c.relations.ensures.same
    ∙ ap (λ (y : ExtValue). relations_matrix y) c.ext-ext.ensures.same in
    let U : c.u.result.now ≡ E.u = c.u.ensures.same ∙ ap (λ (y : ExtValue). y.u) c.ext-ext.ensures.same in
    let ring_n : c.found-relations.result.now.ring ≡ r = ap (λ (m : MatrixValue). m.ring) N ∙ X.relations ∙ c.requires.ring in
    subst (λ (q : Ring). 1 ≤ q.vars) (sym ring_n) c.requires.some

pub is_onto-requires-clause-few : goal.is_onto-requires-clause-few
is_onto-requires-clause-few c =
    let S = c.args.source.now in
    let T = c.args.target.now in
    let r = ring_of S.ext in
    let E : ExtValue = T.ext in
    let X = c.ext-ext.ensures.base.ext in
    let N : c.found-relations.result.now ≡ relations_matrix E = c.found-relations.ensures ∙ ap (λ (x : GeneratorsValue). x.graph.matrix) c.generators.ensures.same ∙ ap (λ (x : PreimageValue). x.generators.graph.matrix) c.relations.ensures.same
    ∙ ap (λ (y : ExtValue). relations_matrix y) c.ext-ext.ensures.same in
    let U : c.u.result.now ≡ E.u = c.u.ensures.same ∙ ap (λ (y : ExtValue). y.u) c.ext-ext.ensures.same in
    let ring_n : c.found-relations.result.now.ring ≡ r = ap (λ (m : MatrixValue). m.ring) N ∙ X.relations ∙ c.requires.ring in
    subst (λ (q : Ring). q.vars ≤ 8) (sym ring_n) c.requires.few

pub is_onto-requires-clause-ring : goal.is_onto-requires-clause-ring
is_onto-requires-clause-ring c =
    let S = c.args.source.now in
    let T = c.args.target.now in
    let r = ring_of S.ext in
    let E : ExtValue = T.ext in
    let X = c.ext-ext.ensures.base.ext in
    let N : c.found-relations.result.now ≡ relations_matrix E = c.found-relations.ensures ∙ ap (λ (x : GeneratorsValue). x.graph.matrix) c.generators.ensures.same ∙ ap (λ (x : PreimageValue). x.generators.graph.matrix) c.relations.ensures.same
    ∙ ap (λ (y : ExtValue). relations_matrix y) c.ext-ext.ensures.same in
    let U : c.u.result.now ≡ E.u = c.u.ensures.same ∙ ap (λ (y : ExtValue). y.u) c.ext-ext.ensures.same in
    let ring_n : c.found-relations.result.now.ring ≡ r = ap (λ (m : MatrixValue). m.ring) N ∙ X.relations ∙ c.requires.ring in
    c.requires.ring_phi ∙ sym ring_n

pub is_onto-requires-clause-rows : goal.is_onto-requires-clause-rows
is_onto-requires-clause-rows c =
    let S = c.args.source.now in
    let T = c.args.target.now in
    let r = ring_of S.ext in
    let E : ExtValue = T.ext in
    let X = c.ext-ext.ensures.base.ext in
    let N : c.found-relations.result.now ≡ relations_matrix E = c.found-relations.ensures ∙ ap (λ (x : GeneratorsValue). x.graph.matrix) c.generators.ensures.same ∙ ap (λ (x : PreimageValue). x.generators.graph.matrix) c.relations.ensures.same
    ∙ ap (λ (y : ExtValue). relations_matrix y) c.ext-ext.ensures.same in
    let U : c.u.result.now ≡ E.u = c.u.ensures.same ∙ ap (λ (y : ExtValue). y.u) c.ext-ext.ensures.same in
    let ring_n : c.found-relations.result.now.ring ≡ r = ap (λ (m : MatrixValue). m.ring) N ∙ X.relations ∙ c.requires.ring in
    c.requires.rows ∙ sym (ap (λ (m : MatrixValue). m.rows) N ∙ X.relations_rows)

pub is_onto-requires-clause-ring_u : goal.is_onto-requires-clause-ring_u
is_onto-requires-clause-ring_u c =
    let S = c.args.source.now in
    let T = c.args.target.now in
    let r = ring_of S.ext in
    let E : ExtValue = T.ext in
    let X = c.ext-ext.ensures.base.ext in
    let N : c.found-relations.result.now ≡ relations_matrix E = c.found-relations.ensures ∙ ap (λ (x : GeneratorsValue). x.graph.matrix) c.generators.ensures.same ∙ ap (λ (x : PreimageValue). x.generators.graph.matrix) c.relations.ensures.same
    ∙ ap (λ (y : ExtValue). relations_matrix y) c.ext-ext.ensures.same in
    let U : c.u.result.now ≡ E.u = c.u.ensures.same ∙ ap (λ (y : ExtValue). y.u) c.ext-ext.ensures.same in
    let ring_n : c.found-relations.result.now.ring ≡ r = ap (λ (m : MatrixValue). m.ring) N ∙ X.relations ∙ c.requires.ring in
    ap (λ (m : MatrixValue). m.ring) U ∙ X.morphism ∙ c.requires.ring ∙ sym ring_n

pub is_onto-requires-clause-rows_u : goal.is_onto-requires-clause-rows_u
is_onto-requires-clause-rows_u c =
    let S = c.args.source.now in
    let T = c.args.target.now in
    let r = ring_of S.ext in
    let E : ExtValue = T.ext in
    let X = c.ext-ext.ensures.base.ext in
    let N : c.found-relations.result.now ≡ relations_matrix E = c.found-relations.ensures ∙ ap (λ (x : GeneratorsValue). x.graph.matrix) c.generators.ensures.same ∙ ap (λ (x : PreimageValue). x.generators.graph.matrix) c.relations.ensures.same
    ∙ ap (λ (y : ExtValue). relations_matrix y) c.ext-ext.ensures.same in
    let U : c.u.result.now ≡ E.u = c.u.ensures.same ∙ ap (λ (y : ExtValue). y.u) c.ext-ext.ensures.same in
    let ring_n : c.found-relations.result.now.ring ≡ r = ap (λ (m : MatrixValue). m.ring) N ∙ X.relations ∙ c.requires.ring in
    ap (λ (m : MatrixValue). m.rows) U ∙ X.morphism_rows ∙ sym (ap (λ (m : MatrixValue). m.rows) N ∙ X.relations_rows)

pub is_onto-requires-clause-square : goal.is_onto-requires-clause-square
is_onto-requires-clause-square c =
    let S = c.args.source.now in
    let T = c.args.target.now in
    let r = ring_of S.ext in
    let E : ExtValue = T.ext in
    let X = c.ext-ext.ensures.base.ext in
    let N : c.found-relations.result.now ≡ relations_matrix E = c.found-relations.ensures ∙ ap (λ (x : GeneratorsValue). x.graph.matrix) c.generators.ensures.same ∙ ap (λ (x : PreimageValue). x.generators.graph.matrix) c.relations.ensures.same
    ∙ ap (λ (y : ExtValue). relations_matrix y) c.ext-ext.ensures.same in
    let U : c.u.result.now ≡ E.u = c.u.ensures.same ∙ ap (λ (y : ExtValue). y.u) c.ext-ext.ensures.same in
    let ring_n : c.found-relations.result.now.ring ≡ r = ap (λ (m : MatrixValue). m.ring) N ∙ X.relations ∙ c.requires.ring in
    ap (λ (m : MatrixValue). length m.columns) U ∙ X.morphism_columns ∙ sym (ap (λ (m : MatrixValue). m.rows) N ∙ X.relations_rows)

pub returns-in_err-onto-clause-follows : goal.returns-in_err-onto-clause-follows
returns-in_err-onto-clause-follows c =
    let S = c.args.source.now in
    let T = c.args.target.now in
    let r = ring_of S.ext in
    let KT = c.stable_kernel-kernel.ensures.same in
    let ring_t : (stable_graph T).matrix.ring ≡ r = stable_ring T c.stable_kernel-kernel.ensures.base ∙ c.requires.ring in
    let rows_t = stable_rows T c.stable_kernel-kernel.ensures.base in
    let KS = c.stable_kernel.ensures.same in
    let ring_s : (stable_graph S).matrix.ring ≡ r = stable_ring S c.stable_kernel.ensures.base in
    let rows_s = stable_rows S c.stable_kernel.ensures.base in
    let E : ExtValue = T.ext in
    let X = c.ext-ext.ensures.base.ext in
    let N : c.found-relations.result.now ≡ relations_matrix E = c.found-relations.ensures ∙ ap (λ (x : GeneratorsValue). x.graph.matrix) c.generators.ensures.same ∙ ap (λ (x : PreimageValue). x.generators.graph.matrix) c.relations.ensures.same
    ∙ ap (λ (y : ExtValue). relations_matrix y) c.ext-ext.ensures.same in
    let U : c.u.result.now ≡ E.u = c.u.ensures.same ∙ ap (λ (y : ExtValue). y.u) c.ext-ext.ensures.same in
    let ring_n : c.found-relations.result.now.ring ≡ r = ap (λ (m : MatrixValue). m.ring) N ∙ X.relations ∙ c.requires.ring in
    let phi = c.args.phi.now in
    let P = matrix_meaning r phi in
    let B = base_meaning r S in
    let C = base_meaning r T in
    let old = c.args.work.now in
    let one = c.is_zero.new.work in
    let y = c.in_ok-null.null in
    let nulls = null_told r phi (stable_graph T) c.stable_kernel-kernel.result.now KT ring_t old one (Ok y) c.in_ok-null.ensures.follows in
    let two = c.is_one_to_one.new.work in
    let x = c.in_ok-fibre.fibre in
    let K : c.matrix.result.now ≡ (stable_graph T).matrix = c.matrix.ensures.same ∙ ap (λ (g : GraphValue). g.matrix) KT in
    let fibres = one_told r phi (stable_graph S) c.stable_kernel.result.now KS ring_s one two (stable_graph T).matrix c.matrix.result.now K (Ok x) c.in_ok-fibre.ensures.follows in
    let new = c.is_onto.new.work in
    let z = c.in_err-onto.field-0.0 in
    λ answer. failed (compared_value r answer) unanswered_by c.from_residual-in_err-onto.result z old new (compared r B C P answer old) c.from_residual-in_err-onto.ensures
    (onto_stops r B C P answer (compared_value r answer) old one (inside_value r y) nulls two (fibre_value r x) fibres new z
    (onto_told r (relations_matrix E) c.found-relations.result.now phi E.u c.u.result.now N U (X.relations ∙ c.requires.ring) (Err z) two new c.in_err-onto.ensures.follows))

pub returns-clause-follows : goal.returns-clause-follows
returns-clause-follows c =
    let S = c.args.source.now in
    let T = c.args.target.now in
    let r = ring_of S.ext in
    let KT = c.stable_kernel-kernel.ensures.same in
    let ring_t : (stable_graph T).matrix.ring ≡ r = stable_ring T c.stable_kernel-kernel.ensures.base ∙ c.requires.ring in
    let rows_t = stable_rows T c.stable_kernel-kernel.ensures.base in
    let KS = c.stable_kernel.ensures.same in
    let ring_s : (stable_graph S).matrix.ring ≡ r = stable_ring S c.stable_kernel.ensures.base in
    let rows_s = stable_rows S c.stable_kernel.ensures.base in
    let E : ExtValue = T.ext in
    let X = c.ext-ext.ensures.base.ext in
    let N : c.found-relations.result.now ≡ relations_matrix E = c.found-relations.ensures ∙ ap (λ (x : GeneratorsValue). x.graph.matrix) c.generators.ensures.same ∙ ap (λ (x : PreimageValue). x.generators.graph.matrix) c.relations.ensures.same
    ∙ ap (λ (y : ExtValue). relations_matrix y) c.ext-ext.ensures.same in
    let U : c.u.result.now ≡ E.u = c.u.ensures.same ∙ ap (λ (y : ExtValue). y.u) c.ext-ext.ensures.same in
    let ring_n : c.found-relations.result.now.ring ≡ r = ap (λ (m : MatrixValue). m.ring) N ∙ X.relations ∙ c.requires.ring in
    let phi = c.args.phi.now in
    let P = matrix_meaning r phi in
    let B = base_meaning r S in
    let C = base_meaning r T in
    let old = c.args.work.now in
    let one = c.is_zero.new.work in
    let y = c.in_ok-null.null in
    let nulls = null_told r phi (stable_graph T) c.stable_kernel-kernel.result.now KT ring_t old one (Ok y) c.in_ok-null.ensures.follows in
    let two = c.is_one_to_one.new.work in
    let x = c.in_ok-fibre.fibre in
    let K : c.matrix.result.now ≡ (stable_graph T).matrix = c.matrix.ensures.same ∙ ap (λ (g : GraphValue). g.matrix) KT in
    let fibres = one_told r phi (stable_graph S) c.stable_kernel.result.now KS ring_s one two (stable_graph T).matrix c.matrix.result.now K (Ok x) c.in_ok-fibre.ensures.follows in
    let new = c.is_onto.new.work in
    let o = c.in_ok-onto.onto in
    λ answer. onto_ends r B C P answer (compared_value r answer) old one (inside_value r y) nulls two (fibre_value r x) fibres new (onto_value r o)
    (onto_told r (relations_matrix E) c.found-relations.result.now phi E.u c.u.result.now N U (X.relations ∙ c.requires.ring) (Ok o) two new c.in_ok-onto.ensures.follows)
    (record { null = y; fibre = x; onto = o }) refl

pub returns-clause-over : goal.returns-clause-over
returns-clause-over c =
    let S = c.args.source.now in
    let T = c.args.target.now in
    let r = ring_of S.ext in
    let KT = c.stable_kernel-kernel.ensures.same in
    let ring_t : (stable_graph T).matrix.ring ≡ r = stable_ring T c.stable_kernel-kernel.ensures.base ∙ c.requires.ring in
    let KS = c.stable_kernel.ensures.same in
    let ring_s : (stable_graph S).matrix.ring ≡ r = stable_ring S c.stable_kernel.ensures.base in
    let E : ExtValue = T.ext in
    let X = c.ext-ext.ensures.base.ext in
    let N : c.found-relations.result.now ≡ relations_matrix E = c.found-relations.ensures ∙ ap (λ (x : GeneratorsValue). x.graph.matrix) c.generators.ensures.same ∙ ap (λ (x : PreimageValue). x.generators.graph.matrix) c.relations.ensures.same
    ∙ ap (λ (y : ExtValue). relations_matrix y) c.ext-ext.ensures.same in
    let ring_n : c.found-relations.result.now.ring ≡ r = ap (λ (m : MatrixValue). m.ring) N ∙ X.relations ∙ c.requires.ring in
    record {
      null = columns_told r (stable_graph T) c.stable_kernel-kernel.result.now KT ring_t c.in_ok-null.null c.in_ok-null.ensures.columns;
      one = fibre_told r (stable_graph S) c.stable_kernel.result.now KS ring_s c.in_ok-fibre.fibre c.in_ok-fibre.ensures.over;
      onto = subst (λ (s : Ring). IsOntoOver s c.in_ok-onto.onto) ring_n c.in_ok-onto.ensures.over;
    }
