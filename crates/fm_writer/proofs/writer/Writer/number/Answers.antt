use Rattle.std.proofs.Common.{◌≡◌, ◌++◌, ◌∷◌, ◌+◌, ℕ, map, List, Bool, true, false, Vec, sym, ap, ◌∙◌, subst, arith}
use Rattle.std.specs.Prelude.{codes, decimal, string_bytes}
use Rattle.std.specs.Global.{Global}
use Rattle.fm_words.specs.Parts.{Bytes}
use Rattle.fm_words.specs.Words.{same_bytes}
use Rattle.fm_cert.specs.Lines.{Line}
use Rattle.fm_cert.specs.Pieces.{words_text}
use Rattle.fm_standard.specs.Writing.{form_written}
use Rattle.fm_writer.specs.Writers.{WriterValue, texts_of, HasNumbered, IsFormLine}
use Rattle.fm_writer.proofs.Pages.{form_new, form_known, last_text}
use Rattle.fm_writer.proofs.Places.{new_key, known_key, turned, bytes_turned}
use Rattle.fm_writer.proofs.writer.Writer.number.Goals as goal

abbrev same : Vec ℕ Global → Vec ℕ Global → Bool
same x y = same_bytes x.items y.items

abbrev test : Vec ℕ Global → Bytes → Bool
test x y = same_bytes y x.items

pub returns-in_ok-push_part : goal.returns-in_ok-push_part
returns-in_ok-push_part c =
    let i = c.self.inside in
    let x = c.in_ok-place.ensures in
    let form = c.args.form in
    let new = c.insert_full.new.self.keys in
    let k = new_key (λ (v : Vec ℕ Global). v.items) (same form) (test form) (λ v. bytes_turned form.items v.items) i.forms.keys new form c.in_ok-place.place x.keys x.index (turned _ false (sym x.added ∙ c.if-is_new.true)) in
    let before : WriterValue = record { names = map string_bytes i.names.now; text = i.text.items; shelf = record { forms = texts_of i.forms.keys; logs = i.logs.keys } } in
    let small = c.len-count.ensures.small in
    let within = x.within in
    let len = c.len-count.ensures.len in
    subst (λ (w : WriterValue). (first : Bytes) (more : List Bytes) (line : ℕ → Line) → form.items ≡ words_text (first ∷ more) → IsFormLine w.names (first ∷ more) line
    → HasNumbered w (form_written w.names line w.shelf) c.push_part.new.self (c.in_ok-place.place + 1)) c.self.view_is
    (λ first more line e is. form_new before c.push_part.new.self first more line is form.items e k.0 (c.in_ok-place.place + 1) (let l = k.2 in omega (arith, l)) (omega (arith, within, small, len))
    (c.in_ok-push_part.ensures form.items (last_text (texts_of i.forms.keys) (texts_of new) form.items c.in_ok-place.place k.1 k.2) ∙ ap (λ fs. record { names = map string_bytes i.names.now; text = i.text.items ++ (codes "part " ++ (decimal (c.in_ok-place.place + 1) ++ 32 ∷ form.items)); shelf = record { forms = fs; logs = i.logs.keys } }) k.1))

pub returns-else-is_new : goal.returns-else-is_new
returns-else-is_new c =
    let i = c.self.inside in
    let x = c.in_ok-place.ensures in
    let form = c.args.form in
    let new = c.insert_full.new.self.keys in
    let k = known_key (λ (v : Vec ℕ Global). v.items) (same form) (test form) (λ v. bytes_turned form.items v.items) i.forms.keys new form c.in_ok-place.place x.keys x.index (turned _ true (sym x.added ∙ c.if-is_new.false)) in
    let after : WriterValue = record { names = map string_bytes i.names.now; text = i.text.items; shelf = record { forms = texts_of new; logs = i.logs.keys } } in
    subst (λ (w : WriterValue). (first : Bytes) (more : List Bytes) (line : ℕ → Line) → form.items ≡ words_text (first ∷ more) → IsFormLine w.names (first ∷ more) line
    → HasNumbered w (form_written w.names line w.shelf) after (c.in_ok-place.place + 1)) c.self.view_is
    (λ first more line e is. form_known (record { names = map string_bytes i.names.now; text = i.text.items; shelf = record { forms = texts_of i.forms.keys; logs = i.logs.keys } }) after first more line is form.items e
    (c.in_ok-place.place + 1) k.0 (ap (λ fs. record { names = map string_bytes i.names.now; text = i.text.items; shelf = record { forms = fs; logs = i.logs.keys } }) k.1))
