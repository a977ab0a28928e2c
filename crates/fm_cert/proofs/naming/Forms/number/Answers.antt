use Rattle.std.proofs.Common.{◌≡◌, ◌+◌, zero, Result, length, List, Bool, true, false, IfOk, sym, ap, subst, ◌∙◌}
use Rattle.std.specs.declared.alloc.AllocError.{AllocError}
use Rattle.fm_words.specs.Parts.{Bytes}
use Rattle.fm_cert.specs.declared.naming.Numbered.{Numbered}
use Rattle.fm_cert.specs.Naming.{number_after}
use Rattle.fm_cert.specs.Parts.{forms_of, known_number, words_of, IsNext}
use Rattle.fm_cert.proofs.PartsNamed.{new_form, known_form, turned}
use Rattle.fm_cert.proofs.naming.Forms.number.Goals as goal
use Rattle.fm_cert.proofs.naming.Forms.number.Goals.{then-is_new, else-is_new}

pub returns-clause-number : goal.returns-clause-number
returns-clause-number c =
    let old = c.self.inside.forms.keys in
    let new = c.insert_full.new.self.keys in
    let x = c.in_ok-place.ensures in
    let says = λ (s : List (List Bytes)) (r : Result Numbered AllocError). IfOk r (λ n. number_after zero s (words_of c.args.form.items) ≡ known_number n) in
    subst (λ s. says s c.if-is_new.result) c.self.view_is (elim c.if-is_new.branch [
      | then-is_new w ↦ subst (says (forms_of old)) (sym w.result-is) (new_form old new c.args.form c.in_ok-place.place x.keys x.index (turned _ false (sym x.added ∙ w.if-is_new.true))).0
      | else-is_new w ↦ subst (says (forms_of old)) (sym w.result-is) (known_form old new c.args.form c.in_ok-place.place x.keys x.index (turned _ true (sym x.added ∙ w.if-is_new.false))).0
    ])

pub returns-clause-new : goal.returns-clause-new
returns-clause-new c =
    let old = c.self.inside.forms.keys in
    let new = c.insert_full.new.self.keys in
    let x = c.in_ok-place.ensures in
    let says = λ (s : List (List Bytes)) (r : Result Numbered AllocError). IfOk r (λ n. IsNext (length s) n) in
    subst (λ s. says s c.if-is_new.result) c.self.view_is (elim c.if-is_new.branch [
      | then-is_new w ↦ subst (says (forms_of old)) (sym w.result-is) (new_form old new c.args.form c.in_ok-place.place x.keys x.index (turned _ false (sym x.added ∙ w.if-is_new.true))).2
      | else-is_new w ↦ subst (says (forms_of old)) (sym w.result-is) tt
    ])
