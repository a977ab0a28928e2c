use Rattle.std.proofs.Common.{◌≡◌, subst}
use Rattle.std.specs.Prelude.{IfOk, map, option_map, string_bytes}
use Rattle.fm_lines.specs.Rows.{line_said}
use Rattle.fm_check.proofs.HeadLines.{heads_read, line_there}
use Rattle.fm_check.proofs.judging.read_behind.Goals as goal

pub returns-clause-line : goal.returns-clause-line
returns-clause-line c = λ s head stands.
    subst (λ x. IfOk c.read_line.result (λ o. line_said o ≡ x))
    (line_there c.args.problem.now s (map string_bytes c.as_slice.result.now) (option_map (λ q. q.now) c.query_at.result) c.args.line.now head c.as_slice.ensures (c.query_at.ensures c.args.problem.now s stands))
    c.read_line.ensures.line

pub returns-clause-head : goal.returns-clause-head
returns-clause-head c =
    heads_read c.args.problem.now.ring (map string_bytes c.as_slice.result.now) (option_map (λ q. q.now) c.query_at.result) c.args.line.now c.read_line.result c.read_line.ensures.line
