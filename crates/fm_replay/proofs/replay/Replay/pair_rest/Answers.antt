use Rattle.std.proofs.Common.{◌≡◌, sym, ap, subst, not, ◌∙◌}
use Rattle.fm_vec.specs.Vectors.{VectorValue}
use Rattle.fm_vec.specs.Multiples.{s_vector_of}
use Rattle.fm_complete.specs.Divisions.{terms_of}
use Rattle.fm_complete.specs.Standing.{AreMonicMembers}
use Rattle.fm_complete.specs.Trails.{member_at}
use Rattle.fm_parts.specs.Replays as definitions
use Rattle.fm_replay.specs.Refusals.{Gives}
use Rattle.fm_replay.specs.Kept.{ReplayValue, after_pair}
use Rattle.fm_replay.proofs.PairSteps.{open_heads, formed}
use Rattle.fm_replay.proofs.replay.Replay.pair_rest.Goals as goal

pub s_vector-requires-clause-heads : goal.s_vector-requires-clause-heads
s_vector-requires-clause-heads c =
    let vs = c.self.inside.members.items in
    open_heads (terms_of vs) c.args.a c.args.b c.in-Some.f.now.terms c.in-Some-numbered.g.now.terms (not (definitions.is_treated c.args.self.now.treated c.args.a c.args.b)) c.self.invariant.monic
    (c.in-Some.ensures.terms ∙ ap (λ ms. member_at (terms_of ms) c.args.a) c.deref.ensures.value)
    (c.in-Some-numbered.ensures.terms ∙ ap (λ ms. member_at (terms_of ms) c.args.b) c.deref-2.ensures.value)
    c.if-not-is_open.ensures

pub returns-clause-finds : goal.returns-clause-finds
returns-clause-finds c inputs s kept =
    let p = c.args.self.now in
    let r = p.ring in
    let vs = p.members in
    let a = c.args.a in
    let b = c.args.b in
    let by = c.args.by.now in
    let f = c.in-Some.f.now.terms in
    let g = c.in-Some-numbered.g.now.terms in
    let w = c.in-Ok-reduce_by.rest.terms in
    let here = ap (λ (v : ReplayValue). v.members) c.self.view_is in
    let ring = ap (λ (v : ReplayValue). v.ring) c.self.view_is in
    let first = c.deref.ensures.value ∙ here in
    let second = c.deref-2.ensures.value ∙ here in
    let third = c.deref-3.ensures.value ∙ here in
    let fourth = c.deref-4.ensures.value ∙ here in
    let v_is : s_vector_of r f g ≡ c.in-Ok.v.terms =
    sym (ap (λ (x : VectorValue). x.terms) c.in-Ok.ensures.value ∙ ap (λ q. s_vector_of q f g) (c.in-Some.ensures.shape.0 ∙ ring)) in
    let step = formed r inputs vs p.treated s kept.members kept.treated a b by c.args.keep f g w
    (c.in-Some.ensures.terms ∙ ap (λ ms. member_at (terms_of ms) a) first)
    (c.in-Some-numbered.ensures.terms ∙ ap (λ ms. member_at (terms_of ms) b) second)
    (sym (ap (λ ms. definitions.is_number (terms_of ms) a) first) ∙ c.in-Some.ensures.there)
    (sym (ap (λ ms. definitions.is_number (terms_of ms) b) second) ∙ c.in-Some-numbered.ensures.there)
    (c.if-not-are_numbers.ensures ∙ ap (λ ms. definitions.are_numbers (terms_of ms) by) third)
    c.if-not-is_open.ensures c.in-Ok.ensures.fits
    ((λ i. definitions.reduce_by (sym ring i) definitions.BadEntry (terms_of (sym fourth i)) by (v_is i)) ∙ c.in-Ok-reduce_by.ensures.follows definitions.BadEntry) in
    subst (λ said. Gives definitions.BadEntry (λ m. after_pair s a b m) c.rest_kept.result said)
    ((λ i. definitions.with_rest ((c.in-Ok-reduce_by.ensures.shape.0 ∙ ring) i) c.args.keep w (definitions.with_pair s a b)) ∙ sym step)
    (c.rest_kept.ensures.rest (definitions.with_pair s a b))
