use Rattle.fm_resolve.proofs.Resolved.{resolved}
use Rattle.fm_resolve.proofs.laws.a_resolution_resolves_the_entries_of_its_row.Goals as goal

pub returns : goal.returns
returns c r x h ring = (resolved r x h ring).resolution
