-- The graphs of a resolution by their numbers.
use Rattle.std.proofs.Common.{ℕ, zero, suc, ◌+◌, ◌-◌, ◌≤◌, ◌<◌, ◌≡◌, List, [], ◌∷◌, ◌++◌, map, length, take, Some, get_or, slice_get, sym, ap, ◌∙◌, subst, arith}
use Rattle.fm_poly.specs.declared.ring.Ring.{Ring}
use Rattle.fm_syz.specs.GraphValues.{GraphValue}
use Rattle.fm_resolve.specs.Resolutions.{AreExactFrom}
use Rattle.fm_syz.specs.GeneratorValues.{GeneratorsValue}

-- a beginning of a list, and one item more
pub take_more : {A : Type 0} (xs : List A) (j : ℕ) (x : A) → slice_get xs j ≡ Some x → take (suc j) xs ≡ take j xs ++ x ∷ []
take_more [] zero x h = cc
take_more [] (suc j) x h = cc
take_more (y ∷ xs) zero x h = let same : y ≡ x = cc in ap (λ z. z ∷ []) same
take_more (y ∷ xs) (suc j) x h = ap (λ zs. y ∷ zs) (take_more xs j x h)

read_graph : (xs : List GeneratorsValue) (k : ℕ) (x : GeneratorsValue) → k < length xs → x ≡ get_or xs k x → slice_get (map (λ (y : GeneratorsValue). y.graph) xs) k ≡ Some x.graph
read_graph [] k x less is = absurd (omega (arith, less))
read_graph (y ∷ xs) zero x less is = ap (λ (z : GeneratorsValue). Some z.graph) (sym is)
read_graph (y ∷ xs) (suc k) x less is = read_graph xs k x (omega (arith, less)) is

-- graph j, counted from 1, where j is not 1
pub graph_at : (g : GraphValue) (xs : List GeneratorsValue) (j : ℕ) (x : GeneratorsValue) (h : GraphValue) → 2 ≤ j → j ≤ length xs + 1 → x ≡ get_or xs (j - 2) x → h ≡ x.graph
    → slice_get (g ∷ map (λ (y : GeneratorsValue). y.graph) xs) (j - 1) ≡ Some h
graph_at g xs j x h low high is same =
    let above : suc (j - 2) ≡ j - 1 = omega (arith, low) in
    subst (λ k. slice_get (g ∷ map (λ (y : GeneratorsValue). y.graph) xs) k ≡ Some h) above (read_graph xs (j - 2) x (omega (arith, low, high)) is ∙ ap Some (sym same))

-- all graphs are over the ring of the first
pub ring_at : (r : Ring) (g : GraphValue) (xs : List GeneratorsValue) → g.matrix.ring ≡ r → AreExactFrom g xs → (k : ℕ) (h : GraphValue)
    → slice_get (g ∷ map (λ (y : GeneratorsValue). y.graph) xs) k ≡ Some h → h.matrix.ring ≡ r
ring_at r g xs ring exact zero h is = let same : g ≡ h = cc in ap (λ (g : GraphValue). g.matrix.ring) (sym same) ∙ ring
ring_at r g [] ring exact (suc k) h is = cc
ring_at r g (x ∷ xs) ring exact (suc k) h is = ring_at r x.graph xs (exact.0.generators.graph_ring ∙ ring) exact.1 k h is
