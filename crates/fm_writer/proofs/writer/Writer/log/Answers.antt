use Rattle.std.proofs.Common.{◌++◌, ◌∷◌, [], ◌+◌, map, true, false, sym, ap, ◌∙◌, subst, arith}
use Rattle.std.specs.Prelude.{string_bytes}
use Rattle.fm_complete.specs.Bases.{entry_value}
use Rattle.fm_cert.specs.Kinds as kinds
use Rattle.fm_cert.specs.Lines.{Row, line_words}
use Rattle.fm_cert.specs.Pieces.{words_text}
use Rattle.fm_standard.specs.Writing.{log_written}
use Rattle.fm_writer.specs.Writers.{WriterValue, texts_of, HasNumbered}
use Rattle.fm_writer.proofs.Pages.{log_new, log_known, log_pushed}
use Rattle.fm_writer.proofs.Places.{new_number, known_number, turned}
use Rattle.fm_writer.proofs.writer.Writer.log.Goals as goal

pub returns-in_ok-push-2 : goal.returns-in_ok-push-2
returns-in_ok-push-2 c =
    let i = c.self.inside in
    let x = c.in_ok-place.ensures in
    let new = c.insert_full.new.self.keys in
    let entries = map entry_value c.args.entries.now in
    let n = c.in_ok-place.place + 1 in
    let k = new_number i.logs.keys new c.args.part c.in_ok-place.place x.keys x.index (turned _ false (sym x.added ∙ c.if-is_new.true)) in
    let w : WriterValue = record { names = map string_bytes i.names.now; text = i.text.items; shelf = record { forms = texts_of i.forms.keys; logs = i.logs.keys } } in
    let small = c.len-count.ensures.small in
    let within = x.within in
    let len = c.len-count.ensures.len in
    let few = c.ranges.part.fits in
    subst (λ (w : WriterValue). HasNumbered w (log_written entries c.args.part w.shelf) c.push-then-is_new.new.self n) c.self.view_is
    (log_new w c.push-then-is_new.new.self entries c.args.part (omega (arith, few)) c.in_ok-push_entries.ensures.small k.0 n (let l = k.2 in omega (arith, l)) (omega (arith, within, small, len))
    (log_pushed w c.push.new.self c.push_entries.new.self c.push-then-is_new.new.self (record { forms = texts_of i.forms.keys; logs = i.logs.keys ++ c.args.part ∷ [] }) n c.args.part entries
    (c.in_ok-push.ensures ∙ ap (λ ls. record { names = w.names; text = w.text ++ words_text (line_words w.names (Row kinds.Log (n, (c.args.part, tt)))); shelf = record { forms = texts_of i.forms.keys; logs = ls } }) k.1)
    c.in_ok-push_entries.ensures.page c.in_ok-push-2.ensures))

pub returns-else-is_new : goal.returns-else-is_new
returns-else-is_new c =
    let i = c.self.inside in
    let x = c.in_ok-place.ensures in
    let new = c.insert_full.new.self.keys in
    let entries = map entry_value c.args.entries.now in
    let k = known_number i.logs.keys new c.args.part c.in_ok-place.place x.keys x.index (turned _ true (sym x.added ∙ c.if-is_new.false)) in
    let w : WriterValue = record { names = map string_bytes i.names.now; text = i.text.items; shelf = record { forms = texts_of i.forms.keys; logs = i.logs.keys } } in
    let after : WriterValue = record { names = map string_bytes i.names.now; text = i.text.items; shelf = record { forms = texts_of i.forms.keys; logs = new } } in
    subst (λ (w : WriterValue). HasNumbered w (log_written entries c.args.part w.shelf) after (c.in_ok-place.place + 1)) c.self.view_is
    (log_known w after entries c.args.part (c.in_ok-place.place + 1) k.0 (ap (λ ls. record { names = map string_bytes i.names.now; text = i.text.items; shelf = record { forms = texts_of i.forms.keys; logs = ls } }) k.1))
