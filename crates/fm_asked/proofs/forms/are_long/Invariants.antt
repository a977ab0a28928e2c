use Rattle.std.proofs.Common.{◌≡◌, length, nat_eq}
use Rattle.std.specs.List.{list_all}
use Rattle.fm_asked.proofs.forms.are_long.Given as goal

abbrev pub invariant-columns : goal.invariant-columns
invariant-columns l = list_all (λ c. nat_eq (length c.items) l.rows) l.left ≡ list_all (λ c. nat_eq (length c.items) l.rows) l.columns

abbrev pub decreases-columns : goal.decreases-columns
decreases-columns l = length l.left
