use Rattle.std.proofs.Common.{◌∙◌, ◌+◌, ◌≡◌, ◌++◌, ◌∷◌, [], length, sym, ap, ap₂, refl, subst, arith, List}
use Rattle.fm_vec.specs.Vectors.{VectorValue}
use Rattle.fm_vec.specs.Multiples.{monic_of}
use Rattle.fm_vec.proofs.Proper.{moved_vector}
use Rattle.fm_complete.specs.declared.head_index.Head.{Head}
use Rattle.fm_complete.specs.Bases.{start_value}
use Rattle.fm_complete.specs.Completions.{with_pairs}
use Rattle.fm_complete.specs.Divisions.{terms_of}
use Rattle.fm_complete.specs.Indexed.{IsIndexOf}
use Rattle.fm_complete.specs.Spread.{IsFront, tail_columns}
use Rattle.fm_complete.proofs.Indexed.{heads_length, front_more}
use Rattle.fm_complete.proofs.Standing.{length_terms, terms_more, standing_more, pairs_more, pairs_earlier, kept_more}
use Rattle.fm_complete.proofs.completing.keep.Goals as goal

pub returns-clause-kept : goal.returns-clause-kept
returns-clause-kept c =
    kept_more c.args.ring c.args.rows c.args.remainder.rest.terms c.in-Some.head c.in-Some.ensures.head (moved_vector c.requires.ring c.requires.rows refl c.head.ensures.proper)
    c.args.c.now.members.items c.push-2.new.self.items c.in_ok-member.member c.in_ok-push-2.ensures.items
    (c.in_ok-member.ensures ∙ (λ i. record { ring = c.requires.ring i; rows = c.requires.rows i; terms = monic_of (c.requires.ring i) c.args.remainder.rest.terms })) c.requires.standing
    (start_value c.args.start) c.args.remainder.by.items c.args.c.now.pending.pairs c.push_pairs.new.pending.pairs c.args.c.now.log.items c.push-3.new.self.items _
    (c.in_ok-push_pairs.ensures.pairs ∙ ap₂ (λ n (ms : List VectorValue). with_pairs c.args.ring.order (n + 1) c.in-Some.head 1 (terms_of ms) c.args.c.now.pending.pairs) (c.len-count.ensures ∙ sym c.deref.ensures.len ∙ ap (λ (vs : List VectorValue). length vs) c.deref.ensures.value) c.deref.ensures.value)
    c.in_ok-push-3.ensures.items refl

pub returns-clause-standing : goal.returns-clause-standing
returns-clause-standing c =
    standing_more c.args.ring c.args.rows c.args.remainder.rest.terms c.in-Some.head c.in-Some.ensures.head (moved_vector c.requires.ring c.requires.rows refl c.head.ensures.proper)
    c.args.c.now.members.items c.push-2.new.self.items c.in_ok-member.member c.in_ok-push-2.ensures.items
    (c.in_ok-member.ensures ∙ (λ i. record { ring = c.requires.ring i; rows = c.requires.rows i; terms = monic_of (c.requires.ring i) c.args.remainder.rest.terms })) c.requires.standing
    (let a = c.if-count-ge4294967295.false in let b = c.len-count.ensures ∙ sym c.deref.ensures.len ∙ ap (λ (vs : List VectorValue). length vs) c.deref.ensures.value in omega (arith, a, b))

pub returns-clause-pairs : goal.returns-clause-pairs
returns-clause-pairs c = record {
  pairs = pairs_more c.args.ring c.args.rows c.args.remainder.rest.terms c.in-Some.head c.in-Some.ensures.head (moved_vector c.requires.ring c.requires.rows refl c.head.ensures.proper)
      c.args.c.now.members.items c.push-2.new.self.items c.in_ok-member.member c.in_ok-push-2.ensures.items
      (c.in_ok-member.ensures ∙ (λ i. record { ring = c.requires.ring i; rows = c.requires.rows i; terms = monic_of (c.requires.ring i) c.args.remainder.rest.terms })) c.requires.standing
      c.args.c.now.pending.pairs c.push_pairs.new.pending.pairs c.requires.pairs.pairs
      (c.in_ok-push_pairs.ensures.pairs ∙ ap₂ (λ n (ms : List VectorValue). with_pairs c.args.ring.order (n + 1) c.in-Some.head 1 (terms_of ms) c.args.c.now.pending.pairs) (c.len-count.ensures ∙ sym c.deref.ensures.len ∙ ap (λ (vs : List VectorValue). length vs) c.deref.ensures.value) c.deref.ensures.value)
      c.in_ok-push_pairs.ensures.over;
  compared = c.push_pairs.ensures.order ∙ c.requires.pairs.compared;
}

pub add-requires-clause-count : goal.add-requires-clause-count
add-requires-clause-count c =
    ap (λ (rows : List (List Head)). length rows) c.requires.ready.heads.heads ∙ heads_length c.args.rows 1 (terms_of c.args.c.now.members.items)
    ∙ sym (ap (λ (x : VectorValue). x.rows) c.in_ok-member.ensures ∙ c.requires.rows)

pub returns-clause-ready : goal.returns-clause-ready
returns-clause-ready c =
    let r = c.args.ring in
    let old = c.args.c.now.members.items in
    let v : VectorValue = c.in_ok-member.member in
    let rows : v.rows ≡ c.args.rows = ap (λ (x : VectorValue). x.rows) c.in_ok-member.ensures ∙ c.requires.rows in
    let more = sym (ap terms_of c.in_ok-push-2.ensures.items ∙ terms_more old v) in
    let count = (let a = c.len-count.ensures ∙ sym c.deref.ensures.len ∙ ap (λ (vs : List VectorValue). length vs) c.deref.ensures.value in a) in
    let long = length_terms old in
    record {
      heads = subst (λ ms. IsIndexOf r c.args.rows ms c.add.new.self) more
          (subst (λ n. IsIndexOf r n (terms_of old ++ v.terms ∷ []) c.add.new.self) rows
          (c.in_ok-add.ensures.index (terms_of old) (subst (λ n. IsIndexOf r n (terms_of old) c.args.c.now.heads) (sym rows) c.requires.ready.heads) (omega (arith, count, long))));
      tails = subst (λ ms. IsFront c.args.c.now.tails.items (tail_columns r c.args.rows ms)) more (front_more r c.args.rows (terms_of old) v.terms c.args.c.now.tails.items c.requires.ready.tails);
    }

pub push_pairs-requires-clause-new : goal.push_pairs-requires-clause-new
push_pairs-requires-clause-new c =
    let count = c.len-count.ensures ∙ sym c.deref.ensures.len ∙ ap (λ (vs : List VectorValue). length vs) c.deref.ensures.value in
    let long = length_terms c.args.c.now.members.items in
    pairs_earlier (terms_of c.args.c.now.members.items) (c.len-count.result + 1) c.args.c.now.pending.pairs (omega (arith, count, long)) c.requires.pairs.pairs.0
