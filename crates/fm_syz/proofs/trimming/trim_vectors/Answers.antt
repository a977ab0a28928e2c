use Rattle.std.proofs.Common.{ℕ, suc, ◌-◌, ◌<◌, ◌≡◌, true, false, List, Ok, length, map, sym, ap, ◌∙◌, subst, arith}
use Rattle.std.specs.Borrow.{Bor}
use Rattle.fm_vec.specs.Vectors.{VectorValue}
use Rattle.fm_complete.specs.Standing.{AreOfShape, values}
use Rattle.fm_run.specs.Runs.{Ended}
use Rattle.fm_graphs.specs.Listing.{VectorOf, terms_of}
use Rattle.fm_graphs.specs.Trims.{trimmed}
use Rattle.fm_syz.proofs.BorrowedVectors.{shape_removed, shape_inserted, shape_at}
use Rattle.fm_syz.proofs.KeptNumbers.{Named, Next, tested, turned, along_begun, along_next, along_dropped, along_kept, along_stops, along_spent, others_are, one_is, fewer_are, all_are}
use Rattle.fm_syz.proofs.trimming.trim_vectors.Goals as goal

pub trim-init : goal.trim-init
trim-init c = record {
  shape = c.requires.shape;
  count = c.requires.count;
  few = c.requires.few;
  left = omega (arith, c.len-left.ensures);
  terms = λ column h. h;
  along = λ column h. (omega arith, along_begun c.args.ring column c.args.all.items c.len-left.result c.args.work.now (omega (arith, c.len-left.ensures)));
}

pub is_spanned-requires-clause-others : goal.is_spanned-requires-clause-others
is_spanned-requires-clause-others c =
    subst (λ vs. AreOfShape c.args.ring c.args.rows (values vs)) (sym (c.deref.ensures.value ∙ c.remove-v.ensures.items))
    (shape_removed c.args.ring c.args.rows c.trim.others.items (c.trim.left - 1) c.trim.invariant.shape)

pub is_spanned-requires-clause-ring : goal.is_spanned-requires-clause-ring
is_spanned-requires-clause-ring c =
    ap (λ (x : Bor VectorValue). x.now.ring) c.remove-v.ensures.value
    ∙ (shape_at c.args.ring c.args.rows c.trim.others.items (c.trim.left - 1) c.remove-v.result (omega (arith, c.trim.invariant.left, c.trim.invariant.count, c.trim-test.true)) c.trim.invariant.shape).0

pub is_spanned-requires-clause-rows : goal.is_spanned-requires-clause-rows
is_spanned-requires-clause-rows c =
    ap (λ (x : Bor VectorValue). x.now.rows) c.remove-v.ensures.value
    ∙ (shape_at c.args.ring c.args.rows c.trim.others.items (c.trim.left - 1) c.remove-v.result (omega (arith, c.trim.invariant.left, c.trim.invariant.count, c.trim-test.true)) c.trim.invariant.shape).1

pub trim-preserved-in-Ok-true : goal.trim-preserved-in-Ok-true
trim-preserved-in-Ok-true c =
    let r = c.args.ring in
    let i = c.trim.left - 1 in
    let others = c.trim.others.items in
    let numbers = c.trim.numbers.items in
    let all : (ℕ → VectorOf r) → Ended (List ℕ) = λ column. trimmed r column c.args.all.items c.args.work.now in
    let lt : i < length others = omega (arith, c.trim.invariant.left, c.trim.invariant.count, c.trim-test.true) in
    let next : c.trim.left ≡ suc i = omega (arith, c.trim-test.true) in
    let less = c.deref.ensures.value ∙ c.remove-v.ensures.items in
    let along : (column : ℕ → VectorOf r) → Named r c.args.vectors.items c.args.all.items column → Next r column i numbers c.trim.work (all column) = λ column h. along_next r column i c.trim.left numbers c.trim.work (all column) next (c.trim.invariant.along column h).1 in
    let test : (column : ℕ → VectorOf r) (h : Named r c.args.vectors.items c.args.all.items column)
    → tested r column (turned (along column h).former (along column h).kept) (along column h).number c.trim.work ≡ record { end = Ok true; left = c.is_spanned.new.work } = λ column h.
    let w = along column h in
    let terms = c.trim.invariant.terms column h in
    c.in-Ok-true.ensures (map column (turned w.former w.kept)) (column w.number) (others_are r column i numbers c.trim.work (all column) w others terms c.deref.result.now less)
    (one_is r column i numbers c.trim.work (all column) w others terms c.remove-v.result lt c.remove-v.ensures.value)
    ∙ ap (λ b. record { end = Ok b; left = c.is_spanned.new.work }) c.in-Ok-true.field-0-test in
    record {
      shape = subst (λ vs. AreOfShape r c.args.rows (values vs)) (sym c.remove-v.ensures.items) (shape_removed r c.args.rows others i c.trim.invariant.shape);
      count = omega (arith, c.trim.invariant.count, c.remove-v.ensures.len, c.remove.ensures.len);
      few = omega (arith, c.trim.invariant.few, c.remove.ensures.len);
      left = omega (arith, c.trim.invariant.left, c.remove.ensures.len, c.trim-test.true);
      terms = λ column h. fewer_are r column i numbers c.trim.work (all column) (along column h) others (c.trim.invariant.terms column h) c.remove-v.new.self.items c.remove.new.self.items c.remove-v.ensures.items c.remove.ensures.items;
      along = λ column h. (
        (let s = along_spent r column i numbers c.trim.work (all column) (along column h) c.is_spanned.new.work _ (test column h) in let e = (c.trim.invariant.along column h).0 in omega (arith, s.0, e)),
        along_dropped r column i numbers c.trim.work (all column) (along column h) c.remove.new.self.items c.is_spanned.new.work c.remove.ensures.items (test column h),
      );
    }

pub trim-preserved : goal.trim-preserved
trim-preserved c =
    let r = c.args.ring in
    let i = c.trim.left - 1 in
    let others = c.trim.others.items in
    let numbers = c.trim.numbers.items in
    let all : (ℕ → VectorOf r) → Ended (List ℕ) = λ column. trimmed r column c.args.all.items c.args.work.now in
    let lt : i < length others = omega (arith, c.trim.invariant.left, c.trim.invariant.count, c.trim-test.true) in
    let next : c.trim.left ≡ suc i = omega (arith, c.trim-test.true) in
    let less = c.deref.ensures.value ∙ c.remove-v.ensures.items in
    let along : (column : ℕ → VectorOf r) → Named r c.args.vectors.items c.args.all.items column → Next r column i numbers c.trim.work (all column) = λ column h. along_next r column i c.trim.left numbers c.trim.work (all column) next (c.trim.invariant.along column h).1 in
    let one : (column : ℕ → VectorOf r) (h : Named r c.args.vectors.items c.args.all.items column) → c.remove-v.result.now.terms ≡ terms_of r (column (along column h).number) = λ column h. one_is r column i numbers c.trim.work (all column) (along column h) others (c.trim.invariant.terms column h) c.remove-v.result lt c.remove-v.ensures.value in
    let test : (column : ℕ → VectorOf r) (h : Named r c.args.vectors.items c.args.all.items column)
    → tested r column (turned (along column h).former (along column h).kept) (along column h).number c.trim.work ≡ record { end = Ok false; left = c.is_spanned.new.work } = λ column h.
    let w = along column h in
    c.in-Ok-false.ensures (map column (turned w.former w.kept)) (column w.number) (others_are r column i numbers c.trim.work (all column) w others (c.trim.invariant.terms column h) c.deref.result.now less) (one column h)
    ∙ ap (λ b. record { end = Ok b; left = c.is_spanned.new.work }) c.in-Ok-false.field-0-test in
    let shape = shape_at r c.args.rows others i c.remove-v.result lt c.trim.invariant.shape in
    let put = c.in_ok-insert-in-Ok-false.ensures.items in
    record {
      shape = subst (λ vs. AreOfShape r c.args.rows (values vs)) (sym put)
          (shape_inserted r c.args.rows c.remove-v.new.self.items i c.remove-v.result
          (subst (λ vs. AreOfShape r c.args.rows (values vs)) (sym c.remove-v.ensures.items) (shape_removed r c.args.rows others i c.trim.invariant.shape))
          (ap (λ (x : Bor VectorValue). x.now.ring) c.remove-v.ensures.value ∙ shape.0) (ap (λ (x : Bor VectorValue). x.now.rows) c.remove-v.ensures.value ∙ shape.1));
      count = omega (arith, c.trim.invariant.count, c.remove-v.ensures.len, c.in_ok-insert-in-Ok-false.ensures.len);
      few = c.trim.invariant.few;
      left = omega (arith, c.trim.invariant.left);
      terms = λ column h. all_are r column i numbers c.trim.work (all column) (along column h) others (c.trim.invariant.terms column h) c.remove-v.new.self.items c.insert.new.self.items c.remove-v.result c.remove-v.ensures.items put (one column h);
      along = λ column h. (
        (let s = along_spent r column i numbers c.trim.work (all column) (along column h) c.is_spanned.new.work _ (test column h) in let e = (c.trim.invariant.along column h).0 in omega (arith, s.0, e)),
        along_kept r column i numbers c.trim.work (all column) (along column h) c.is_spanned.new.work (test column h),
      );
    }

pub returns-in-Err : goal.returns-in-Err
returns-in-Err c column h =
    let r = c.args.ring in
    let i = c.trim.left - 1 in
    let others = c.trim.others.items in
    let numbers = c.trim.numbers.items in
    let all = trimmed r column c.args.all.items c.args.work.now in
    let lt : i < length others = omega (arith, c.trim.invariant.left, c.trim.invariant.count, c.trim-test.true) in
    let next : c.trim.left ≡ suc i = omega (arith, c.trim-test.true) in
    let along = c.trim.invariant.along column h in
    let w = along_next r column i c.trim.left numbers c.trim.work all next along.1 in
    let terms = c.trim.invariant.terms column h in
    along_stops r column i numbers c.trim.work all w c.in-Err.stop c.args.work.now c.is_spanned.new.work along.0
    (c.in-Err.ensures (map column (turned w.former w.kept)) (column w.number)
    (others_are r column i numbers c.trim.work all w others terms c.deref.result.now (c.deref.ensures.value ∙ c.remove-v.ensures.items))
    (one_is r column i numbers c.trim.work all w others terms c.remove-v.result lt c.remove-v.ensures.value))
