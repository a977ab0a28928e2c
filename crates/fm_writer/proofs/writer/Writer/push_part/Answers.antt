use Rattle.std.proofs.Common.{◌≡◌, ◌++◌, ◌∷◌, map, Some, ap, ◌∙◌, subst}
use Rattle.std.specs.Prelude.{codes, decimal, slice_get, string_bytes}
use Rattle.fm_words.specs.Parts.{Bytes}
use Rattle.fm_writer.specs.Writers.{WriterValue, texts_of}
use Rattle.fm_writer.proofs.Pages.{part_pushed, text_at}
use Rattle.fm_writer.proofs.writer.Writer.push_part.Goals as goal

pub returns : goal.returns
returns c =
    let i = c.self.inside in
    let names = map string_bytes i.names.now in
    let new : WriterValue = record { names = names; text = c.extend_from_slice-3.new.self.items; shelf = record { forms = texts_of i.forms.keys; logs = i.logs.keys } } in
    subst (λ (w : WriterValue). (form : Bytes) → slice_get w.shelf.forms c.args.place ≡ Some form
    → new ≡ record { names = w.names; text = w.text ++ (codes "part " ++ (decimal c.args.number ++ 32 ∷ form)); shelf = w.shelf }) c.self.view_is
    (λ form at. ap (λ t. record { names = names; text = t; shelf = record { forms = texts_of i.forms.keys; logs = i.logs.keys } })
    (part_pushed i.text.items c.extend_from_slice.new.self.items c.extend_from_slice-2.new.self.items c.push.new.self.items c.extend_from_slice-3.new.self.items (codes "part ") (decimal c.args.number)
    c.as_bytes.result.now c.deref.result.now form c.in_ok-extend_from_slice.ensures.items c.in_ok-extend_from_slice-2.ensures.items (c.as_bytes.ensures.value ∙ c.format.ensures.text) c.in_ok-push.ensures.items
    c.in_ok-extend_from_slice-3.ensures.items (c.deref.ensures.value ∙ text_at i.forms.keys c.args.place c.in-Some.form.now form c.in-Some.ensures.key at)))
