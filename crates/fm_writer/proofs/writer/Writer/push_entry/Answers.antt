use Rattle.std.proofs.Common.{◌≡◌, [], ◌∷◌, OnOk, sym, ap, ap₂, ◌∙◌, subst}
use Rattle.fm_complete.specs.declared.entry.Start.{Start}
use Rattle.fm_complete.specs.Bases.{start_value}
use Rattle.fm_cert.specs.Kinds as kinds
use Rattle.fm_cert.specs.Lines.{Row, line_words}
use Rattle.fm_standard.specs.Writing.{start_line}
use Rattle.fm_writer.specs.Writers.{with_lines}
use Rattle.fm_writer.proofs.Pages.{on_ok, line_from}
use Rattle.fm_writer.proofs.writer.Writer.push_entry.Goals as goal

pub returns-in-Input-clause-page : goal.returns-in-Input-clause-page
returns-in-Input-clause-page c =
    let w = c.args.self.now in
    let e = c.args.entry.now in
    subst (λ (s : Start). OnOk c.push.result (c.push.new.self ≡ with_lines w (start_line (start_value s) e.by.items e.keep ∷ []) w.shelf)) (sym c.in-Input.is)
    (on_ok c.push.result
    (line_from w c.push.new.self (Row kinds.Input (c.in-Input.k, (e.by.items, (e.keep, tt)))) (line_words w.names (Row kinds.Input (c.from.result, (c.as_slice-by.result.now, (e.keep, tt)))))
    (ap₂ (λ n by. line_words w.names (Row kinds.Input (n, (by, (e.keep, tt))))) c.from.ensures c.as_slice-by.ensures.value))
    c.push.ensures)

pub returns-in-Pair-clause-page : goal.returns-in-Pair-clause-page
returns-in-Pair-clause-page c =
    let w = c.args.self.now in
    let e = c.args.entry.now in
    subst (λ (s : Start). OnOk c.push-in-Pair.result (c.push-in-Pair.new.self ≡ with_lines w (start_line (start_value s) e.by.items e.keep ∷ []) w.shelf)) (sym c.in-Pair.is)
    (on_ok c.push-in-Pair.result
    (line_from w c.push-in-Pair.new.self (Row kinds.Pair (c.in-Pair.a, (c.in-Pair.b, (e.by.items, (e.keep, tt)))))
    (line_words w.names (Row kinds.Pair (c.from-in-Pair.result, (c.from-in-Pair-2.result, (c.as_slice-by.result.now, (e.keep, tt))))))
    (ap₂ (λ a b. line_words w.names (Row kinds.Pair (a, (b, (c.as_slice-by.result.now, (e.keep, tt)))))) c.from-in-Pair.ensures c.from-in-Pair-2.ensures
    ∙ ap (λ by. line_words w.names (Row kinds.Pair (c.in-Pair.a, (c.in-Pair.b, (by, (e.keep, tt)))))) c.as_slice-by.ensures.value))
    c.push-in-Pair.ensures)

pub returns-in-Skip-clause-page : goal.returns-in-Skip-clause-page
returns-in-Skip-clause-page c =
    let w = c.args.self.now in
    let e = c.args.entry.now in
    subst (λ (s : Start). OnOk c.push-in-Skip.result (c.push-in-Skip.new.self ≡ with_lines w (start_line (start_value s) e.by.items e.keep ∷ []) w.shelf)) (sym c.in-Skip.is)
    (on_ok c.push-in-Skip.result
    (line_from w c.push-in-Skip.new.self (Row kinds.Skip (c.in-Skip.a, (c.in-Skip.b, (c.in-Skip.k, tt))))
    (line_words w.names (Row kinds.Skip (c.from-in-Skip.result, (c.from-in-Skip-2.result, (c.from-in-Skip-3.result, tt)))))
    (ap₂ (λ a b. line_words w.names (Row kinds.Skip (a, (b, (c.from-in-Skip-3.result, tt))))) c.from-in-Skip.ensures c.from-in-Skip-2.ensures
    ∙ ap (λ k. line_words w.names (Row kinds.Skip (c.in-Skip.a, (c.in-Skip.b, (k, tt))))) c.from-in-Skip-3.ensures))
    c.push-in-Skip.ensures)
