-- What is claimed of the coordinates of a class and a kernel.
use Rattle.std.specs.Prelude.{ℕ, List, Option}
use Rattle.fm_words.specs.Options.{◌>>=◌}
use Rattle.fm_poly.specs.declared.ring.Ring.{Ring}
use Rattle.fm_report.specs.Parts.{Part}
use Rattle.fm_report.specs.Sheets.{Block}
use Rattle.fm_parts.specs.Conditions.{Log, Condition}
use Rattle.fm_judge.specs.Claims.{stage_of, kernel_at, excluded}
use Rattle.fm_judge.specs.Goals.{Goal}

-- w lies outside of the image of K_s, twisted as often as the stage says
abbrev pub outside_kernel : Ring → Goal → Block → List Part → List Log → (w : Part) (s n : ℕ) → List ℕ → Option (List Condition)
outside_kernel r g b ps logs w s n numbers = kernel_at r g b ps logs s >>= λ K. excluded r g b ps logs (stage_of g.aim) K w n 1 numbers
