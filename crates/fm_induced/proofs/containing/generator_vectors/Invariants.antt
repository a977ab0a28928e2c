use Rattle.std.proofs.Common.{◌≡◌, ◌+◌, ◌∷◌, ◌++◌, [], length, map}
use Rattle.fm_complete.specs.Divisions as divisions
use Rattle.fm_complete.specs.Standing.{AreOfShape}
use Rattle.fm_graphs.specs.Listing.{terms_of}
use Rattle.fm_mat.specs.Matrices.{column_meaning}
use Rattle.fm_vec.specs.Components.{AreOver}
use Rattle.fm_induced.proofs.containing.generator_vectors.Given as goal

abbrev pub invariant-generators : goal.invariant-generators
invariant-generators l = record {
  over : AreOver l.ring l.left;
  shape : AreOfShape l.ring 1 l.out.items;
  count : length l.out.items + length l.left ≡ length l.initial.left;
  whole : divisions.terms_of l.out.items ++ map (λ f. terms_of l.ring (f ∷ [])) (column_meaning l.ring l.left) ≡ map (λ f. terms_of l.ring (f ∷ [])) (column_meaning l.ring l.initial.left);
}

abbrev pub decreases-generators : goal.decreases-generators
decreases-generators l = length l.left
