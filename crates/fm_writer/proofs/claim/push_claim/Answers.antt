use Rattle.std.proofs.Common.{ℕ, ◌<◌, ◌^◌, [], ◌∷◌, map, OnOk, sym, subst, arith, refl}
use Rattle.fm_cert.specs.Kinds as kinds
use Rattle.fm_cert.specs.Lines.{Row, line_words}
use Rattle.fm_complete.specs.Bases.{entry_value}
use Rattle.fm_standard.specs.Writing.{log, part}
use Rattle.fm_writer.specs.Claims.{claim_value, given_of, operand_part, shown_names, whole_part}
use Rattle.fm_writer.specs.Writers.{HasClaimed, HasLine}
use Rattle.fm_writer.specs.declared.claim.Claim.{Claim}
use Rattle.fm_writer.specs.declared.claim.Claim.TheVariants as variants
use Rattle.fm_writer.proofs.Claimed.{claimed, more_named, none_named, one_named}
use Rattle.fm_writer.proofs.KindRows.{line_pushed}
use Rattle.fm_writer.proofs.Pages.{on_ok}
use Rattle.fm_writer.proofs.claim.push_claim.Goals as goal

pub returns-in-Datum : goal.returns-in-Datum
returns-in-Datum c =
    let w = c.args.writer.now in
    let new = c.push.new.self in
    let l = Row kinds.Datum (c.in-Datum.name.now, (c.from.result, tt)) in
    let x = variants.Datum c.in-Datum.name c.in-Datum.degree in
    let low = c.from.type_inv in
    subst (λ (y : Claim). OnOk c.push.result (HasClaimed w (claim_value y ∷ []) new)) (sym c.in-Datum.is)
    (on_ok c.push.result
    (λ h. claimed w w new (claim_value x) [] (none_named w)
    (subst (λ d. HasLine w (Row kinds.Datum (c.in-Datum.name.now, (d, tt))) new) c.from.ensures (line_pushed w new l (line_words w.names l) refl (tt, (omega (arith, low), tt)) h)))
    c.push.ensures)

pub returns-in_ok-p-in-Named : goal.returns-in_ok-p-in-Named
returns-in_ok-p-in-Named c =
    let w = c.args.writer.now in
    let one = c.operand_number.new.writer in
    let new = c.push_named.new.writer in
    let x = variants.Named c.in-Named.kind c.in-Named.operand in
    subst (λ (y : Claim). OnOk c.push_named.result (HasClaimed w (claim_value y ∷ []) new)) (sym c.in-Named.is)
    (on_ok c.push_named.result
    (claimed w one new (claim_value x) (c.in_ok-p-in-Named.p ∷ []) (one_named w one (part (operand_part c.in-Named.operand)) c.in_ok-p-in-Named.p c.in_ok-p-in-Named.ensures))
    c.push_named.ensures)

pub returns-in_ok-s-in-Exact : goal.returns-in_ok-s-in-Exact
returns-in_ok-s-in-Exact c =
    let w = c.args.writer.now in
    let one = c.push_shown.new.writer in
    let new = c.push_exact.new.writer in
    let k = c.in_ok-s-in-Exact.s in
    let x = variants.Exact c.in-Exact.number c.in-Exact.shown in
    subst (λ (y : Claim). OnOk c.push_exact.result (HasClaimed w (claim_value y ∷ []) new)) (sym c.in-Exact.is)
    (on_ok c.push_exact.result (claimed w one new (claim_value x) (k.n ∷ k.x ∷ k.w ∷ []) c.in_ok-s-in-Exact.ensures) c.push_exact.ensures)

pub returns-in_ok-s-in-Generating : goal.returns-in_ok-s-in-Generating
returns-in_ok-s-in-Generating c =
    let w = c.args.writer.now in
    let one = c.matrix_number.new.writer in
    let two = c.push_shown-in-Generating.new.writer in
    let new = c.push_generating.new.writer in
    let p = c.in_ok-p-in-Generating.p in
    let k = c.in_ok-s-in-Generating.s in
    let x = variants.Generating c.in-Generating.kind c.in-Generating.found c.in-Generating.shown in
    subst (λ (y : Claim). OnOk c.push_generating.result (HasClaimed w (claim_value y ∷ []) new)) (sym c.in-Generating.is)
    (on_ok c.push_generating.result
    (claimed w two new (claim_value x) (p ∷ k.n ∷ k.x ∷ k.w ∷ [])
    (more_named w one two (part (given_of c.in-Generating.found.now)) (shown_names c.in-Generating.shown) p (k.n ∷ k.x ∷ k.w ∷ []) c.in_ok-p-in-Generating.ensures
    c.in_ok-s-in-Generating.ensures))
    c.push_generating.ensures)

pub returns-in_ok-n-in-Excluding : goal.returns-in_ok-n-in-Excluding
returns-in_ok-n-in-Excluding c =
    let w = c.args.writer.now in
    let one = c.log_number.new.writer in
    let new = c.push_excluding.new.writer in
    let n = c.in_ok-n-in-Excluding.n in
    let e = c.in-Excluding in
    let x = variants.Excluding e.kind e.whole e.log e.column e.by in
    subst (λ (y : Claim). OnOk c.push_excluding.result (HasClaimed w (claim_value y ∷ []) new)) (sym e.is)
    (on_ok c.push_excluding.result
    (claimed w one new (claim_value x) (n ∷ []) (one_named w one (log (whole_part e.whole) (map entry_value e.log.now)) n c.in_ok-n-in-Excluding.ensures))
    c.push_excluding.ensures)
