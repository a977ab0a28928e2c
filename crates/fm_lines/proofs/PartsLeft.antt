-- A text has one part at least.
use Rattle.std.proofs.Common.{◌≡◌, ℕ, Bor, List, [], ◌∷◌, Option, Some, None, option_map, refl, sym, ap, ◌∙◌}
use Rattle.fm_words.specs.Options.{◌>>=◌}
use Rattle.fm_words.specs.declared.mark.Mark.TheVariants.{Blank}
use Rattle.fm_words.specs.Parts.{Bytes, parts}
use Rattle.fm_words.proofs.Cuts.{first_of_parts}
use Rattle.fm_cert.specs.Fields.{all_words, some_words, read_row}
use Rattle.fm_lines.specs.Ends.{task, task_said}
use Rattle.fm_lines.specs.Left.{parts_left}
use Rattle.fm_lines.specs.Plain.{some_ring, plain_row}

some_of : (ps : List Bytes) → (q : Bytes) × (qs : List Bytes) × (ps ≡ q ∷ qs) → some_words ps ≡ Some ps
some_of ps h = ap some_words h.2 ∙ sym (ap Some h.2)

pub words_of_text : (text : Bytes) → some_words (parts Blank text) ≡ Some (parts Blank text)
words_of_text text = some_of (parts Blank text) (first_of_parts Blank text)

abbrev with_words : List Bytes → Unit {0} → List Bytes × Unit {0}
with_words ws rest = (ws, rest)

-- all words that are left are a task
pub task_is : (o : Option (Bor (List ℕ))) → option_map (λ t. task_said t.now) o ≡ plain_row task (parts_left (option_map (λ t. t.now) o))
task_is None = refl
task_is (Some t) =
    sym (ap (λ (o : Option (List Bytes)). all_words o >>= λ x. option_map (with_words x.0) (read_row some_ring [] [] x.1)) (words_of_text t.now))
