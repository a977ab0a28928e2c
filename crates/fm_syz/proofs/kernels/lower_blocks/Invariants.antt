use Rattle.std.proofs.Common.{◌≡◌, ◌+◌, ◌≤◌, ◌++◌, length, map}
use Rattle.std.specs.List.{filter}
use Rattle.fm_complete.specs.Divisions.{AreMembers, terms_of}
use Rattle.fm_graphs.specs.Graphs.{is_below, lower_block}
use Rattle.fm_mat.specs.Matrices.{AreColumns, columns_meaning}
use Rattle.fm_syz.proofs.kernels.lower_blocks.Given as goal

abbrev pub invariant-members : goal.invariant-members
invariant-members l = record {
  members : AreMembers l.fn.ring (l.fn.m + l.fn.c) l.members;
  shape : AreColumns l.fn.ring l.fn.c l.out.items;
  few : length l.out.items + length l.members ≤ length l.initial.members;
  whole : columns_meaning l.fn.ring l.out.items ++ map (lower_block l.fn.ring l.fn.m l.fn.c) (filter (is_below l.fn.m) (terms_of l.members))
      ≡ map (lower_block l.fn.ring l.fn.m l.fn.c) (filter (is_below l.fn.m) (terms_of l.initial.members));
}

abbrev pub decreases-members : goal.decreases-members
decreases-members l = length l.members
