use Rattle.std.proofs.Common.{◌-◌, not, [], get_or, length, refl, sym, ap, ◌∙◌, subst, arith}
use Rattle.fm_complete.specs.Divisions.{terms_of}
use Rattle.fm_complete.specs.Standing.{AreOfShape, values}
use Rattle.fm_mat.specs.Matrices.{matrix_meaning}
use Rattle.fm_mat.proofs.Steps.{map_length}
use Rattle.fm_run.proofs.Calls.{wanted}
use Rattle.fm_graphs.specs.Trims.{is_zero, trimmed}
use Rattle.std.specs.List.{filter}
use Rattle.fm_complete.proofs.Standing.{length_terms}
use Rattle.fm_syz.specs.Numbers.{numbers_from, column_at}
use Rattle.fm_syz.proofs.BorrowedVectors.{terms_count}
use Rattle.fm_syz.proofs.TrimCalls.{made_count, filter_few, trimmed_spends, nonzero_of, nonzero_follow, trim_is_rising, nonzero_rise}
use Rattle.fm_syz.proofs.trimming.trim_nonzero.Goals as goal

pub returns-clause-follows : goal.returns-clause-follows
returns-clause-follows c r ring =
    nonzero_follow r c.ring-ring.result c.args.a.now c.columns.result.now (terms_of c.deref.result.now) (c.ring-ring.ensures ∙ ring) c.columns.ensures.same
    (ap terms_of c.deref.ensures.value ∙ c.in_ok-made.ensures.terms) (λ out. out.items)
    c.in_ok-chosen.chosen.numbers.items c.trim_vectors.result c.args.work.now c.trim_vectors.new.work (terms_of (values c.in_ok-chosen.chosen.vectors.items))
    (c.in_ok-chosen.ensures.numbers ∙ ap (λ n. filter (λ k. not (is_zero (get_or (terms_of c.deref.result.now) (k - 1) []))) (numbers_from 1 n)) (sym (length_terms c.deref.result.now)))
    c.in_ok-chosen.ensures.terms c.trim_vectors.ensures

pub returns-clause-rising : goal.returns-clause-rising
returns-clause-rising c =
    let r = c.args.a.now.ring in
    trim_is_rising r c.args.a.now (λ out. out.items) (nonzero_of r c.args.a.now) c.trim_vectors.result c.args.work.now c.trim_vectors.new.work (returns-clause-follows c r refl) (nonzero_rise r c.args.a.now)

pub returns-in_err-made-clause-follows : goal.returns-in_err-made-clause-follows
returns-in_err-made-clause-follows c r ring =
    wanted (λ out. out.items) c.from_residual.result c.args.work.now c.args.work.now (trimmed r (column_at r (matrix_meaning r c.args.a.now)) (nonzero_of r c.args.a.now) c.args.work.now) c.from_residual.ensures (omega arith)
    (trimmed_spends r (column_at r (matrix_meaning r c.args.a.now)) (nonzero_of r c.args.a.now) c.args.work.now)

pub returns-in_err-chosen-clause-follows : goal.returns-in_err-chosen-clause-follows
returns-in_err-chosen-clause-follows c r ring =
    wanted (λ out. out.items) c.from_residual-in_err-chosen.result c.args.work.now c.args.work.now (trimmed r (column_at r (matrix_meaning r c.args.a.now)) (nonzero_of r c.args.a.now) c.args.work.now)
    c.from_residual-in_err-chosen.ensures (omega arith) (trimmed_spends r (column_at r (matrix_meaning r c.args.a.now)) (nonzero_of r c.args.a.now) c.args.work.now)

pub nonzero-requires : goal.nonzero-requires
nonzero-requires c =
    let h = ap length c.deref.ensures.value ∙ made_count c.ring-ring.result c.columns.result.now c.args.a.now.columns c.in_ok-made.made.items c.in_ok-made.ensures.terms c.columns.ensures.same in
    let k = c.columns.ensures.few in
    omega (arith, h, k)

pub trim_vectors-requires-clause-shape : goal.trim_vectors-requires-clause-shape
trim_vectors-requires-clause-shape c =
    c.in_ok-chosen.ensures.shape c.ring-ring.result c.rows-rows.result (subst (AreOfShape c.ring-ring.result c.rows-rows.result) (sym c.deref.ensures.value) c.in_ok-made.ensures.shape)

pub trim_vectors-requires-clause-count : goal.trim_vectors-requires-clause-count
trim_vectors-requires-clause-count c =
    sym (terms_count c.in_ok-chosen.chosen.vectors.items) ∙ ap length c.in_ok-chosen.ensures.terms ∙ map_length _ c.in_ok-chosen.chosen.numbers.items

pub trim_vectors-requires-clause-few : goal.trim_vectors-requires-clause-few
trim_vectors-requires-clause-few c =
    let h = ap length c.deref.ensures.value ∙ made_count c.ring-ring.result c.columns.result.now c.args.a.now.columns c.in_ok-made.made.items c.in_ok-made.ensures.terms c.columns.ensures.same in
    let k = c.columns.ensures.few in
    let l = filter_few _ (length c.deref.result.now) c.in_ok-chosen.chosen.numbers.items c.in_ok-chosen.ensures.numbers in
    omega (arith, h, k, l)
