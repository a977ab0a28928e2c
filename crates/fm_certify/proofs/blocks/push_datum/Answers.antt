use Rattle.std.proofs.Common.{◌≡◌, List, Some, get_or, length, refl, sym, ap, ◌∙◌, subst}
use Rattle.std.proofs.lemmas.Option.{slice_get_read}
use Rattle.fm_cert.specs.Kinds as kinds
use Rattle.fm_cert.specs.Lines.{Row}
use Rattle.fm_cert.specs.Questions.{name_at, name_of}
use Rattle.fm_problem.specs.declared.ideal.Ideal.{Ideal}
use Rattle.fm_standard.specs.Writing.{plain_claim}
use Rattle.fm_words.specs.Parts.{Bytes}
use Rattle.fm_certify.proofs.Appended.{claim_appended}
use Rattle.fm_certify.proofs.blocks.push_datum.Goals as goal

pub returns : goal.returns
returns c =
    let q = c.args.problem.now in
    let k = c.args.ideal in
    let a = c.index-as_slice-ideal.result in
    let found = slice_get_read q.ideals (length q.ideals) k a refl c.requires.ideal (subst (λ (xs : List Ideal). a ≡ get_or xs k a) c.as_slice.ensures c.index-as_slice-ideal.is) in
    let name : c.as_bytes.result.now ≡ name_at q k = c.as_bytes.ensures.value ∙ c.as_str.ensures ∙ ap (λ (x : Ideal). x.name) (sym c.index-as_slice-ideal.is) ∙ sym (ap name_of found) in
    claim_appended q.ring.vars _ _ _ _ c.in_ok-push.ensures.items tt (ap (λ (m : Bytes). plain_claim (Row kinds.Datum (m, (c.args.degree, tt)))) name)
