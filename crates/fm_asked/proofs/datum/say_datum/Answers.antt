use Rattle.std.proofs.Common.{◌≡◌, ◌+◌, ◌∙◌, length, sym, arith}
use Rattle.std.proofs.lemmas.Bool.{ne_eqb}
use Rattle.fm_asked.proofs.Datums.{other_degree, other_ideal, datum_begins, one_if, one_is}
use Rattle.fm_asked.proofs.datum.say_datum.Goals as goal

pub returns-then-degree-next_degree-clause-said : goal.returns-then-degree-next_degree-clause-said
returns-then-degree-next_degree-clause-said c ps s h =
    let done = c.args.finished.now.items in
    let o = c.args.block.now in
    let count = c.len.ensures in
    let last = one_is o c.is_some.result c.from.result c.is_some.ensures c.from.ensures in
    let n : c.len.result + c.from.result ≡ length done + one_if o = omega (arith, count, last, c.args.finished.now.ok) in
    other_degree ps c.args.problem.now c.args.asked.now done o s h (c.len.result + c.from.result) c.in-Some.ideal c.in-Some.next_degree n
    (sym c.next_block.ensures ∙ c.in-Some.is) c.args.name.now c.args.degree (ne_eqb c.args.degree c.in-Some.next_degree c.if-degree-next_degree.true)

pub returns-then-not-is_place-clause-said : goal.returns-then-not-is_place-clause-said
returns-then-not-is_place-clause-said c ps s h =
    let done = c.args.finished.now.items in
    let o = c.args.block.now in
    let count = c.len.ensures in
    let last = one_is o c.is_some.result c.from.result c.is_some.ensures c.from.ensures in
    let n : c.len.result + c.from.result ≡ length done + one_if o = omega (arith, count, last, c.args.finished.now.ok) in
    other_ideal ps c.args.problem.now c.args.asked.now done o s h (c.len.result + c.from.result) c.in-Some.ideal c.in-Some.next_degree n
    (sym c.next_block.ensures ∙ c.in-Some.is) c.args.name.now c.args.degree (sym c.is_place.ensures ∙ c.if-not-is_place.true)

pub returns-clause-said : goal.returns-clause-said
returns-clause-said c ps s h =
    let done = c.args.finished.now.items in
    let o = c.args.block.now in
    let count = c.len.ensures in
    let last = one_is o c.is_some.result c.from.result c.is_some.ensures c.from.ensures in
    let n : c.len.result + c.from.result ≡ length done + one_if o = omega (arith, count, last, c.args.finished.now.ok) in
    datum_begins ps c.args.problem.now c.args.asked.now done o s h (c.len.result + c.from.result) c.in-Some.ideal c.in-Some.next_degree n
    (sym c.next_block.ensures ∙ c.in-Some.is) c.args.name.now c.args.degree (sym c.is_place.ensures ∙ c.if-not-is_place.false) c.if-degree-next_degree.false
    c.begin.new.finished.items c.begin.new.block (c.in_ok-begin.ensures.finished ps) (c.in_ok-begin.ensures.begun ps)
