use Rattle.fm_pres.specs.Tables.{parts_in}
use Rattle.fm_asked.specs.declared.asked.Asked.{Asked}
use Rattle.fm_asked.specs.Beginnings.{AreBlocks, IsBlockIf}
use Rattle.fm_asked.specs.States.{IsAsked}
use Rattle.fm_asked.proofs.Namings.{on_ok}
use Rattle.fm_asked.proofs.asked_names.datum_row.Goals as goal

pub returns-clause-asked : goal.returns-clause-asked
returns-clause-asked c r =
    let a = c.args.asked.now in
    let ps = parts_in a.table in
    let b : Asked = record a { finished = c.say_datum.new.finished; block = c.say_datum.new.block } in
    on_ok (λ _. AreBlocks ps a.finished.items → IsBlockIf ps a.block → AreBlocks ps b.finished.items × IsBlockIf ps b.block) (λ _. IsAsked r a → IsAsked r b) c.say_datum.result
    (λ _ f h. record { ring = h.ring; logs = h.logs; finished = (f h.finished h.named.0).0; named = ((f h.finished h.named.0).1, h.named.1) })
    (c.say_datum.ensures.known ps)
