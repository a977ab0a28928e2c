use Rattle.std.proofs.Common.{length, sym, ap, ◌∙◌, arith}
use Rattle.fm_complete.specs.Divisions.{terms_of}
use Rattle.fm_complete.specs.Standing.{values}
use Rattle.fm_mat.specs.Matrices.{matrix_meaning}
use Rattle.fm_run.proofs.Calls.{wanted}
use Rattle.fm_graphs.specs.Trims.{trimmed}
use Rattle.fm_syz.specs.Numbers.{column_at, numbers_from}
use Rattle.fm_syz.proofs.Inputs.{if_ok}
use Rattle.fm_syz.proofs.Numbering.{numbers_count, rising_numbers}
use Rattle.fm_syz.proofs.TrimCalls.{made_count, trimmed_spends, all_follow, trim_is_rising, all_rise, trim_spans, trim_frees}
use Rattle.fm_syz.proofs.trimming.trim.Goals as goal

pub returns-clause-follows : goal.returns-clause-follows
returns-clause-follows c =
    all_follow c.args.a.now.ring c.ring-ring.result c.args.a.now c.columns.result.now (terms_of c.in_ok-made.made.items) c.ring-ring.ensures c.columns.ensures.same c.in_ok-made.ensures.terms
    (λ out. out.items) c.in_ok-numbers.numbers.items c.trim_vectors.result c.args.work.now c.trim_vectors.new.work c.cols.result c.cols.ensures c.in_ok-numbers.ensures (terms_of (values c.in_ok-others.others.items))
    (ap terms_of (c.in_ok-others.ensures.values ∙ c.deref.ensures.value)) c.trim_vectors.ensures

pub returns-clause-rising : goal.returns-clause-rising
returns-clause-rising c =
    trim_is_rising c.args.a.now.ring c.args.a.now (λ out. out.items) (numbers_from 1 (length c.args.a.now.columns)) c.trim_vectors.result c.args.work.now c.trim_vectors.new.work (returns-clause-follows c) (all_rise (length c.args.a.now.columns))

pub returns-clause-numbers : goal.returns-clause-numbers
returns-clause-numbers c =
    if_ok c.trim_vectors.result (λ out rises. rising_numbers 0 (length c.args.a.now.columns) out.items rises) (returns-clause-rising c)

pub returns-clause-same : goal.returns-clause-same
returns-clause-same c =
    trim_spans c.args.a.now.ring c.args.a.now c.columns.ensures.shape (λ out. out.items) c.trim_vectors.result c.args.work.now c.trim_vectors.new.work (returns-clause-follows c)

pub returns-clause-free : goal.returns-clause-free
returns-clause-free c =
    trim_frees c.args.a.now.ring c.args.a.now c.columns.ensures.shape (λ out. out.items) c.trim_vectors.result c.args.work.now c.trim_vectors.new.work (returns-clause-follows c)

pub returns-in_err-made-clause-follows : goal.returns-in_err-made-clause-follows
returns-in_err-made-clause-follows c =
    let r = c.args.a.now.ring in
    let run = trimmed r (column_at r (matrix_meaning r c.args.a.now)) (numbers_from 1 (length c.args.a.now.columns)) in
    wanted (λ out. out.items) c.from_residual.result c.args.work.now c.args.work.now (run c.args.work.now) c.from_residual.ensures (omega arith)
    (trimmed_spends r (column_at r (matrix_meaning r c.args.a.now)) (numbers_from 1 (length c.args.a.now.columns)) c.args.work.now)

pub returns-in_err-others-clause-follows : goal.returns-in_err-others-clause-follows
returns-in_err-others-clause-follows c =
    let r = c.args.a.now.ring in
    let run = trimmed r (column_at r (matrix_meaning r c.args.a.now)) (numbers_from 1 (length c.args.a.now.columns)) in
    wanted (λ out. out.items) c.from_residual-in_err-others.result c.args.work.now c.args.work.now (run c.args.work.now) c.from_residual-in_err-others.ensures (omega arith)
    (trimmed_spends r (column_at r (matrix_meaning r c.args.a.now)) (numbers_from 1 (length c.args.a.now.columns)) c.args.work.now)

pub returns-in_err-numbers-clause-follows : goal.returns-in_err-numbers-clause-follows
returns-in_err-numbers-clause-follows c =
    let r = c.args.a.now.ring in
    let run = trimmed r (column_at r (matrix_meaning r c.args.a.now)) (numbers_from 1 (length c.args.a.now.columns)) in
    wanted (λ out. out.items) c.from_residual-in_err-numbers.result c.args.work.now c.args.work.now (run c.args.work.now) c.from_residual-in_err-numbers.ensures (omega arith)
    (trimmed_spends r (column_at r (matrix_meaning r c.args.a.now)) (numbers_from 1 (length c.args.a.now.columns)) c.args.work.now)

pub trim_vectors-requires-clause-count : goal.trim_vectors-requires-clause-count
trim_vectors-requires-clause-count c =
    c.in_ok-others.ensures.count ∙ ap length c.deref.ensures.value ∙ made_count c.ring-ring.result c.columns.result.now c.args.a.now.columns c.in_ok-made.made.items c.in_ok-made.ensures.terms c.columns.ensures.same
    ∙ sym (ap length c.in_ok-numbers.ensures ∙ numbers_count 1 c.cols.result ∙ c.cols.ensures)

pub trim_vectors-requires-clause-few : goal.trim_vectors-requires-clause-few
trim_vectors-requires-clause-few c =
    let h = ap length c.in_ok-numbers.ensures ∙ numbers_count 1 c.cols.result ∙ c.cols.ensures in
    let k = c.columns.ensures.few in
    omega (arith, h, k)
