use Rattle.std.proofs.Common.{ℕ, ◌≡◌, ◌+◌, length, map, drop}
use Rattle.fm_poly.specs.declared.ring.Ring.{Ring}
use Rattle.fm_complete.specs.Divisions.{terms_of}
use Rattle.fm_complete.specs.Standing.{AreOfShape, values}
use Rattle.fm_syz.proofs.ChosenVectors.{read, Chosen}
use Rattle.fm_syz.proofs.choosing.nonzero.Given as goal

abbrev pub invariant-search : goal.invariant-search
invariant-search l = record {
  count : l.number + length l.left ≡ length l.initial.left;
  from : terms_of l.left ≡ drop l.number (terms_of l.initial.left);
  numbers : Chosen (terms_of l.initial.left) l.numbers.items l.number (length l.left);
  terms : terms_of (values l.chosen.items) ≡ map (read (terms_of l.initial.left)) l.numbers.items;
  shape : (r : Ring) (rows : ℕ) → AreOfShape r rows l.initial.left → AreOfShape r rows l.left × AreOfShape r rows (values l.chosen.items);
}

abbrev pub decreases-search : goal.decreases-search
decreases-search l = length l.left
