use Rattle.std.proofs.Common.{Some, None, option_map, sym, ap, ◌∙◌}
use Rattle.fm_pres.specs.Tables.{part_at}
use Rattle.fm_pres.specs.Blocks.{block_of, parts_at}
use Rattle.fm_claims.specs.Named.{link_part}
use Rattle.fm_claims.proofs.Followed.{numbered_in, numbers_in}
use Rattle.fm_claims.proofs.FurtherShown.{first_link, later_link, no_link_kernel}
use Rattle.fm_claims.proofs.chained.link_at.Goals as goal

pub returns-in_err-n-clause-link : goal.returns-in_err-n-clause-link
returns-in_err-n-clause-link c = λ r g ps logs.
    let B = block_of ps c.args.block.now in
    no_link_kernel r g B ps logs (part_at ps c.args.phi) (parts_at ps c.args.found.now) c.args.j (numbered_in ps _ _ 1 None c.deref.ensures.value (c.in_err-n.ensures.part ps))
    ∙ ap (option_map (link_part ps)) (sym c.from_residual.ensures)

pub returns-then-j-eq0 : goal.returns-then-j-eq0
returns-then-j-eq0 c = record {
  link = λ r g ps logs.
      let B = block_of ps c.args.block.now in
      let N = part_at ps c.in_ok-n.n in
      first_link r g B ps logs (part_at ps c.args.phi) (parts_at ps c.args.found.now) c.args.j N
      (numbered_in ps _ _ 1 (Some N) c.deref.ensures.value (c.in_ok-n.ensures.part ps)) c.if-j-eq0.true;
  there = λ ps block phi found. (c.in_ok-n.ensures.there ps (numbers_in ps _ _ c.deref.ensures.value block.3), phi);
}

pub returns-in_err-k-clause-link : goal.returns-in_err-k-clause-link
returns-in_err-k-clause-link c = λ r g ps logs.
    let B = block_of ps c.args.block.now in
    let N = part_at ps c.in_ok-n.n in
    later_link r g B ps logs (part_at ps c.args.phi) (parts_at ps c.args.found.now) c.args.j N
    (numbered_in ps _ _ 1 (Some N) c.deref.ensures.value (c.in_ok-n.ensures.part ps)) c.if-j-eq0.false ∙ c.in_err-k.ensures.part ps
    ∙ ap (option_map (link_part ps)) (sym c.from_residual-in_err-k.ensures)

pub returns : goal.returns
returns c = record {
  link = λ r g ps logs.
      let B = block_of ps c.args.block.now in
      let N = part_at ps c.in_ok-n.n in
      later_link r g B ps logs (part_at ps c.args.phi) (parts_at ps c.args.found.now) c.args.j N
      (numbered_in ps _ _ 1 (Some N) c.deref.ensures.value (c.in_ok-n.ensures.part ps)) c.if-j-eq0.false ∙ c.in_ok-k.ensures.part ps;
  there = λ ps block phi found. c.in_ok-k.ensures.there ps found;
}
