use Rattle.std.proofs.Common.{drop, map, string_bytes}
use Rattle.fm_text.specs.Printing.{joined}
use Rattle.fm_text.specs.Texts.{factor_texts}
use Rattle.fm_text.proofs.PrintingSteps.{Writing}
use Rattle.fm_text.proofs.printing.push_factors.Given as goal

-- the factors of the variables that are left
abbrev pub invariant-loop-k : goal.invariant-loop-k
invariant-loop-k l =
    Writing l.initial.out.items l.out.items (joined 42 l.some (factor_texts (map string_bytes l.left) (drop l.k l.mono)))
    (joined 42 l.fn.started (factor_texts (map string_bytes l.fn.names) l.fn.mono))
