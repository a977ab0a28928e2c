use Rattle.std.proofs.Common.{◌≡◌, ◌+◌, ◌≤◌, ◌++◌, length, take, drop}
use Rattle.fm_complete.specs.Divisions.{AreMembers, terms_of}
use Rattle.fm_mat.specs.Matrices.{AreColumns, columns_meaning}
use Rattle.fm_syz.proofs.CutBlocks.{Cuts}
use Rattle.fm_syz.proofs.parts.cut_blocks.Given as goal

abbrev pub invariant-members : goal.invariant-members
invariant-members l = record {
  members : AreMembers l.fn.ring (l.fn.m + (l.fn.a + l.fn.b)) l.members;
  upper_shape : AreColumns l.fn.ring l.fn.a l.upper.items;
  lower_shape : AreColumns l.fn.ring l.fn.b l.lower.items;
  few : length l.upper.items + length l.members ≤ length l.initial.members;
  count : length l.lower.items ≡ length l.upper.items;
  upper : columns_meaning l.fn.ring l.upper.items ++ Cuts l.fn.ring l.fn.m (l.fn.a + l.fn.b) (take l.fn.a) (terms_of l.members)
      ≡ Cuts l.fn.ring l.fn.m (l.fn.a + l.fn.b) (take l.fn.a) (terms_of l.initial.members);
  lower : columns_meaning l.fn.ring l.lower.items ++ Cuts l.fn.ring l.fn.m (l.fn.a + l.fn.b) (drop l.fn.a) (terms_of l.members)
      ≡ Cuts l.fn.ring l.fn.m (l.fn.a + l.fn.b) (drop l.fn.a) (terms_of l.initial.members);
}

abbrev pub decreases-members : goal.decreases-members
decreases-members l = length l.members
