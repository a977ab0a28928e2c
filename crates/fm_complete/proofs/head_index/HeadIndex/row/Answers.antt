use Rattle.std.proofs.Common.{◌+◌, ◌-◌, ◌<◌, ◌≡◌, ◌∙◌, List, length, get_or, ap, sym, arith, inl, inr}
use Rattle.fm_complete.specs.declared.head_index.Head.{Head}
use Rattle.fm_complete.specs.Indexed.{heads_in}
use Rattle.fm_complete.proofs.Indexed.{heads_at, heads_length, none_out}
use Rattle.fm_complete.proofs.head_index.HeadIndex.row.Goals as goal
use Rattle.fm_complete.proofs.head_index.HeadIndex.row.Goals.{then-component-eq0-via-then-component-eq0, then-component-eq0-via-else-component-eq0+then-component-len}

pub returns : goal.returns
returns c = λ r n members w.
    let k = c.args.component in
    let d = c.index.result.now in
    let long : length c.args.self.now ≡ n = ap (λ (rows : List (List Head)). length rows) w.heads ∙ heads_length n 1 members in
    let size = ap (λ (rows : List (List Head)). length rows) c.self.view_is in
    let some = c.if-component-eq0.false in
    let high = c.if-component-len.false in
    let len = c.len.ensures in
    let within : k - 1 < n = omega (arith, some, high, len, size, long) in
    let one_more : 1 + (k - 1) ≡ k = omega (arith, some) in
    c.heads.ensures ∙ c.index.ensures ∙ ap (λ (rows : List (List Head)). get_or rows (k - 1) d) (c.self.view_is ∙ w.heads) ∙ heads_at n 1 (k - 1) members d within ∙ ap (λ i. heads_in i 1 members) one_more

pub returns-then-component-eq0 : goal.returns-then-component-eq0
returns-then-component-eq0 c = λ r n members w.
    let long : length c.args.self.now ≡ n = ap (λ (rows : List (List Head)). length rows) w.heads ∙ heads_length n 1 members in
    let size = ap (λ (rows : List (List Head)). length rows) c.self.view_is in
    elim c.then-component-eq0.branch [
      | then-component-eq0-via-then-component-eq0 b ↦ sym (none_out r n c.args.component 1 members w.vectors (inl b.if-component-eq0.true))
      | then-component-eq0-via-else-component-eq0+then-component-len b ↦ (
          let high = b.if-component-len.true in
          let len = b.len.ensures in
          sym (none_out r n c.args.component 1 members w.vectors (inr (omega (arith, high, len, size, long)))))
    ]
