use Rattle.std.proofs.Common.{refl, sym, ap, ◌∙◌, ◌++◌, decimal, string_bytes}
use Rattle.std.proofs.lemmas.List.{length-map}
use Rattle.fm_text.proofs.PrintingSteps.{term_with_coefficient, term_without_coefficient}
use Rattle.fm_text.proofs.printing.push_term.Goals as goal

pub returns-then-leaves_out_coefficient-clause-ok : goal.returns-then-leaves_out_coefficient-clause-ok
returns-then-leaves_out_coefficient-clause-ok c =
    term_without_coefficient _ _ _ _ _ _ refl c.if-leaves_out_coefficient.ensures (c.requires ∙ sym (length-map c.args.names.now string_bytes)) c.in_ok-push_factors.ensures.ok

pub returns-clause-ok : goal.returns-clause-ok
returns-clause-ok c =
    term_with_coefficient _ _ _ _ _ _ _ refl c.if-leaves_out_coefficient.ensures
    (c.in_ok-extend_from_slice.ensures.items ∙ ap (λ y. c.args.out.now.items ++ y) (c.as_bytes.ensures.value ∙ c.format.ensures.text ∙ ap decimal c.number.ensures))
    c.in_ok-push_factors-2.ensures.ok
