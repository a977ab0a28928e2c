use Rattle.fm_check.proofs.PlaceRows.{form_leads, judged_leads, placed_names, reference_leads, unsaid_leads}
use Rattle.fm_check.proofs.certificates.place_row.Goals as goal

pub returns-in-Form-clause-leads : goal.returns-in-Form-clause-leads
returns-in-Form-clause-leads c = λ s says.
    form_leads c.args.problem.now c.args.asked.now c.name_row.new.asked c.args.certificate.now s says.head (c.name_row.ensures.says s says.asked) c.name_row.ensures.table c.args.row.now c.requires.placed c.requires.log
    c.replace-place.result c.replace-place.ensures.value c.in_ok-claim_at.field-0 c.in_ok-claim_at.ensures.claim c.in-Form.is

pub returns-in-Reference-clause-leads : goal.returns-in-Reference-clause-leads
returns-in-Reference-clause-leads c = λ s says.
    reference_leads c.args.problem.now c.args.asked.now c.name_row.new.asked c.args.certificate.now s says.head (c.name_row.ensures.says s says.asked) c.name_row.ensures.table c.args.row.now c.requires.placed
    c.requires.log c.replace-place.result c.replace-place.ensures.value c.in_ok-claim_at.field-0 c.in_ok-claim_at.ensures.claim c.in-Reference.is c.in_ok-said.said
    (c.in_ok-said.ensures.said (placed_names c.args.row.now c.requires.placed) s says.asked)

pub returns-then-not-said-clause-leads : goal.returns-then-not-said-clause-leads
returns-then-not-said-clause-leads c = λ s says.
    unsaid_leads c.args.problem.now c.args.asked.now c.name_row.new.asked c.args.certificate.now s says.head (c.name_row.ensures.says s says.asked) c.name_row.ensures.table c.args.row.now c.requires.placed
    c.requires.log c.replace-place.result c.replace-place.ensures.value c.in_ok-claim_at.field-0 c.in_ok-claim_at.ensures.claim c.in-Claim.claim c.in-Claim.is c.in_ok-said.said
    (c.in_ok-said.ensures.said (placed_names c.args.row.now c.requires.placed) s says.asked) c.if-not-said.true

pub returns-else-not-said-clause-leads : goal.returns-else-not-said-clause-leads
returns-else-not-said-clause-leads c = λ s says.
    judged_leads c.args.problem.now c.args.asked.now c.name_row.new.asked c.args.certificate.now s says.head (c.name_row.ensures.says s says.asked) c.name_row.ensures.table c.args.row.now c.requires.placed
    c.requires.log c.replace-place.result c.replace-place.ensures.value c.in_ok-claim_at.field-0 c.in_ok-claim_at.ensures.claim c.in-Claim.claim c.in-Claim.is c.in_ok-said.said
    (c.in_ok-said.ensures.said (placed_names c.args.row.now c.requires.placed) s says.asked) c.if-not-said.false c.judge.new.table c.judge.result c.name_row.new.asked.table.ring c.deref.result.now
    c.deref-in-Claim.result.now c.judge.ensures.unchanged (c.in_ok-said.ensures.asked c.args.problem.now.ring c.requires.asked).ring c.deref.ensures.value c.deref-in-Claim.ensures.value c.judge.ensures.judges
