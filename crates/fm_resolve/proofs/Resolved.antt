-- A resolution of the program is one of the plan, with its facts.
use Rattle.std.proofs.Common.{suc, ◌≡◌, List, [], ◌∷◌, length, refl, sym, ap, ◌∙◌, subst, subst₂}
use Rattle.fm_limit.proofs.AnnihilatorRows.{entries_row}
use Rattle.fm_algebra.specs.PolynomialMatrices.{HasShape}
use Rattle.fm_poly.specs.declared.ring.Ring.{Ring}
use Rattle.fm_mat.specs.Matrices.{column_meaning}
use Rattle.fm_mat.proofs.Steps.{map_length}
use Rattle.fm_graphs.specs.Graphs.{IsCompletedGraph, width}
use Rattle.fm_graphs.specs.Trims.{Generating}
use Rattle.fm_plan.proofs.Resolving.{StepOf, Resolves, Resolved, resolved_from}
use Rattle.fm_syz.specs.GraphValues.{GraphValue, graph_meaning}
use Rattle.fm_syz.specs.GeneratorValues.{GeneratorsValue, generators_meaning}
use Rattle.fm_resolve.specs.Resolutions.{ResolutionValue, AreKernelGenerators, AreExactFrom, IsResolution, generators_from, generators_of, resolution_value}

step : (r : Ring) (g : GraphValue) (x : GeneratorsValue) → g.matrix.ring ≡ r → AreKernelGenerators g x → StepOf r (graph_meaning r g) (generators_meaning r g x)
step r g x ring h =
    let s = g.matrix.ring in
    let G = graph_meaning s g in
    let X = generators_meaning s g x in
    let wide : x.graph.matrix.rows ≡ width s G = h.rows ∙ sym (map_length (column_meaning s) g.matrix.columns) in
    let D : Generating s (width s G) 0 G X = subst₂ (λ a b. Generating s a b G X) wide h.below h.generators.generating in
    subst (λ (q : Ring). StepOf q (graph_meaning q g) (generators_meaning q g x)) ring (record { graph = D.graph; matrix = D.graph_matrix; shape = D.found_shape; exact = h.exact; generating = D })

steps : (r : Ring) (g : GraphValue) (xs : List GeneratorsValue) → g.matrix.ring ≡ r → AreExactFrom g xs → Resolves r (graph_meaning r g) (generators_from r g xs)
steps r g [] ring h = tt
steps r g (x ∷ xs) ring h = (step r g x ring h.0, steps r x.graph xs (h.0.generators.graph_ring ∙ ring) h.1)

long : (r : Ring) (g : GraphValue) (xs : List GeneratorsValue) → length (generators_from r g xs) ≡ length xs
long r g [] = refl
long r g (x ∷ xs) = ap suc (long r x.graph xs)

pub resolved : (r : Ring) (x : ResolutionValue) → IsResolution x → x.first.matrix.ring ≡ r → Resolved r (length x.next) (generators_of r x) (resolution_value r x)
resolved r x h ring =
    let G : IsCompletedGraph r (graph_meaning r x.first) = subst (λ (s : Ring). IsCompletedGraph s (graph_meaning s x.first)) ring h.graph.completed in
    let R = steps r x.first x.next ring h.exact in
    let l = long r x.first x.next in
    let row = entries_row r.prime r.vars (subst (λ m. HasShape r.prime r.vars m (width r (graph_meaning r x.first)) (graph_meaning r x.first).matrix) h.row G.shape) in
    record { first = G; next = R; long = l; resolution = resolved_from r (length x.next) (generators_of r x) (graph_meaning r x.first) (generators_from r x.first x.next) G (sym row) R l }
