use Rattle.std.proofs.Common.{rules, ◌≡◌, false, map, option_map}
use Rattle.std.specs.Prelude.{codes, string_bytes}
use Rattle.fm_words.specs.Words.{same_bytes}
use Rattle.fm_lines.specs.Left.{left}
use Rattle.fm_lines.proofs.RowsSaid.{plain_row_said}
use Rattle.fm_lines.proofs.rows.read_row.Goals as goal

pub returns-clause-line : goal.returns-clause-line
returns-clause-line c =
    let part : same_bytes c.args.word.now (codes "part") ≡ false = search rules in
    let answer : same_bytes c.args.word.now (codes "answer") ≡ false = search rules in
    plain_row_said c.args.ring (map string_bytes c.args.names.now) (option_map (λ q. q.now) c.args.asked) c.args.word.now (left c.args.words) c.read_plain_row.result part answer c.read_plain_row.ensures
