-- What contracts see of head reductions.
use Rattle.fm_complete.specs.declared.reducing.Reduction.{Reduction}
use Rattle.fm_complete.specs.Reductions.{Reduced}

abbrev pub reduction_value : Reduction → Reduced
reduction_value x = record { steps = x.steps.items; rest = x.rest.terms }
