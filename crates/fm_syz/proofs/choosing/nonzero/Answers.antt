use Rattle.std.proofs.Common.{◌+◌, length, map, refl, sym, ap, ◌∙◌, subst, arith, List}
use Rattle.std.specs.Prelude.{Option, is_some}
use Rattle.std.specs.List.{filter}
use Rattle.fm_term.specs.declared.vterm.VTerm.{VTerm}
use Rattle.fm_vec.specs.Vectors.{VectorValue}
use Rattle.fm_complete.specs.Divisions.{terms_of}
use Rattle.fm_complete.specs.Standing.{AreOfShape, values}
use Rattle.fm_complete.proofs.Standing.{length_terms}
use Rattle.fm_syz.specs.Numbers.{numbers_from}
use Rattle.fm_syz.proofs.ChosenVectors.{read, is_chosen, Chosen, chosen_all, read_next, left_next, chosen_next, passed_next, terms_next, shape_next, some_is}
use Rattle.fm_syz.proofs.choosing.nonzero.Goals as goal

pub search-init : goal.search-init
search-init c =
    let ts = terms_of c.args.vectors.now in
    record {
      count = omega arith;
      from = refl;
      numbers = subst (λ ks. Chosen ts ks 0 (length c.args.vectors.now)) (sym c.new-numbers.ensures.items) (ap (λ n. filter (is_chosen ts) (numbers_from 1 n)) (sym (length_terms c.args.vectors.now)));
      terms = ap (λ vs. terms_of (values vs)) c.new-chosen.ensures.items ∙ ap (map (read ts)) (sym c.new-numbers.ensures.items);
      shape = λ r rows s. (s, subst (λ vs. AreOfShape r rows (values vs)) (sym c.new-chosen.ensures.items) tt);
    }

pub returns-in_default-clause-numbers : goal.returns-in_default-clause-numbers
returns-in_default-clause-numbers c =
    let ts = terms_of c.args.vectors.now in
    chosen_all ts c.search.numbers.items c.search.number (length c.search.left.now) c.in_default.ensures.cases c.search.invariant.numbers
    ∙ ap (λ n. filter (is_chosen ts) (numbers_from 1 n)) (length_terms c.args.vectors.now)

pub returns-in_default-clause-shape : goal.returns-in_default-clause-shape
returns-in_default-clause-shape c r rows s = (c.search.invariant.shape r rows s).1

pub search-preserved-in_ok-push-2 : goal.search-preserved-in_ok-push-2
search-preserved-in_ok-push-2 c =
    let ts = terms_of c.args.vectors.now in
    let number = c.search.number in
    let v : VectorValue = c.in-Some.v.now in
    let here = c.in-Some.ensures.cases.0 in
    record {
      count = (let n = c.search.invariant.count in let m = ap (λ (vs : List VectorValue). length vs) here in omega (arith, n, m));
      from = left_next ts number c.search.left.now c.in-Some.later.now v here c.search.invariant.from;
      numbers = chosen_next ts number c.search.left.now c.in-Some.later.now v here c.search.invariant.from c.is_some.result c.search.numbers.items c.push.new.self.items (number + 1) c.if-is_some.true
          (c.is_some.ensures ∙ ap (λ (o : Option VTerm). is_some o) c.head.ensures.head ∙ some_is v.terms) refl c.in_ok-push.ensures.items c.search.invariant.numbers;
      terms = terms_next ts c.search.chosen.items c.push-then-is_some.new.self.items c.search.numbers.items c.push.new.self.items c.in-Some.v (number + 1) c.in_ok-push-2.ensures.items c.in_ok-push.ensures.items
          (read_next ts number c.search.left.now c.in-Some.later.now v here c.search.invariant.from) c.search.invariant.terms;
      shape = λ r rows s.
          let w = c.search.invariant.shape r rows s in
          let t = subst (AreOfShape r rows) here w.0 in
          (t.2, shape_next r rows c.search.chosen.items c.push-then-is_some.new.self.items c.in-Some.v c.in_ok-push-2.ensures.items w.1 t.0 t.1);
    }

pub search-preserved : goal.search-preserved
search-preserved c =
    let ts = terms_of c.args.vectors.now in
    let number = c.search.number in
    let v : VectorValue = c.in-Some.v.now in
    let here = c.in-Some.ensures.cases.0 in
    record {
      count = (let n = c.search.invariant.count in let m = ap (λ (vs : List VectorValue). length vs) here in omega (arith, n, m));
      from = left_next ts number c.search.left.now c.in-Some.later.now v here c.search.invariant.from;
      numbers = passed_next ts number c.search.left.now c.in-Some.later.now v here c.search.invariant.from c.is_some.result c.search.numbers.items c.if-is_some.false
          (c.is_some.ensures ∙ ap (λ (o : Option VTerm). is_some o) c.head.ensures.head ∙ some_is v.terms) c.search.invariant.numbers;
      terms = c.search.invariant.terms;
      shape = λ r rows s.
          let w = c.search.invariant.shape r rows s in
          let t = subst (AreOfShape r rows) here w.0 in
          (t.2, w.1);
    }
