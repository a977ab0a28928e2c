use Rattle.std.proofs.Common.{ℕ, ◌≡◌, ◌≤◌, ◌<◌, ◌^◌, length, map}
use Rattle.fm_complete.specs.Divisions.{terms_of}
use Rattle.fm_complete.specs.Standing.{AreOfShape, values}
use Rattle.fm_graphs.specs.Listing as listing
use Rattle.fm_graphs.specs.Listing.{VectorOf}
use Rattle.fm_graphs.specs.Trims.{trimmed}
use Rattle.fm_syz.proofs.KeptNumbers.{Along}
use Rattle.fm_syz.proofs.trimming.trim_vectors.Given as goal

abbrev pub invariant-trim : goal.invariant-trim
invariant-trim l = record {
  shape : AreOfShape l.fn.ring l.fn.rows (values l.others.items);
  count : length l.others.items ≡ length l.numbers.items;
  few : length l.numbers.items < 2 ^ 32;
  left : l.left ≤ length l.numbers.items;
  terms : (column : ℕ → VectorOf l.fn.ring) → terms_of (values l.initial.others.items) ≡ map (λ k. listing.terms_of l.fn.ring (column k)) l.initial.numbers.items
      → terms_of (values l.others.items) ≡ map (λ k. listing.terms_of l.fn.ring (column k)) l.numbers.items;
  along : (column : ℕ → VectorOf l.fn.ring) → terms_of (values l.initial.others.items) ≡ map (λ k. listing.terms_of l.fn.ring (column k)) l.initial.numbers.items
      → (l.work ≤ l.initial.work) × Along l.fn.ring column l.left l.numbers.items l.work (trimmed l.fn.ring column l.initial.numbers.items l.initial.work);
}

abbrev pub decreases-trim : goal.decreases-trim
decreases-trim l = l.left
