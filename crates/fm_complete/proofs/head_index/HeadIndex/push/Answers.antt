use Rattle.std.proofs.Common.{◌+◌, ◌-◌, ◌<◌, ◌≡◌, ◌++◌, ◌∷◌, ◌∙◌, List, [], length, get_or, set, ap, ap₂, arith}
use Rattle.std.proofs.lemmas.Result.{on_ok_weaker}
use Rattle.fm_complete.specs.declared.head_index.Head.{Head}
use Rattle.fm_complete.specs.Indexed.{heads_in}
use Rattle.fm_complete.proofs.Indexed.{heads_at, heads_length, heads_more}
use Rattle.fm_complete.proofs.head_index.HeadIndex.push.Goals as goal

pub returns-clause-heads : goal.returns-clause-heads
returns-clause-heads c =
    let h = c.args.head in
    let k = h.component in
    let own : Head = record { number = c.args.number; term = h } in
    let d = c.index_mut.result.now in
    on_ok_weaker c.push.result (λ pushed n members ts e number.
    let long : length c.args.self.now ≡ n = ap (λ (rows : List (List Head)). length rows) e ∙ heads_length n 1 members in
    let within : k - 1 < n = (let a = c.requires.low in let b = c.requires.high in omega (arith, a, b, long)) in
    let one_more : 1 + (k - 1) ≡ k = (let a = c.requires.low in omega (arith, a)) in
    let row : d ≡ heads_in k 1 members = c.index_mut.ensures.value ∙ ap (λ (rows : List (List Head)). get_or rows (k - 1) d) (c.self.view_is ∙ e) ∙ heads_at n 1 (k - 1) members d within ∙ ap (λ i. heads_in i 1 members) one_more in
    ap₂ (λ (rows : List (List Head)) row. set rows (k - 1) row) (c.self.view_is ∙ e) (pushed ∙ ap (λ row. row ++ own ∷ []) row)
    ∙ heads_more h ts c.args.number members number n 1 (k - 1) one_more within)
    c.push.ensures
