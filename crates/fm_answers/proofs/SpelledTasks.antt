-- The words of a task are words.
use Rattle.std.proofs.Common.{ℕ, zero, suc, ◌≡◌, ◌<◌, ◌/◌, ◌%◌, ◌==◌, Bool, true, false, if◌then◌else◌, [], ◌∷◌, length, refl, arith, length-append}
use Rattle.std.specs.Prelude.{decimal}
use Rattle.std.specs.List.{list_all}
use Rattle.std.specs.Fmt.{digits, digits_onto, digit_glyph}
use Rattle.std.proofs.lemmas.Bool.{and_from}
use Rattle.std.proofs.lemmas.Bool.Decides.{nat_tests}
use Rattle.std.proofs.lemmas.List.Folds.{list_all-append}
use Rattle.fm_words.specs.Parts.{Bytes}
use Rattle.fm_run.specs.declared.task.Task.{Task}
use Rattle.fm_run.specs.declared.task.Side.{Side}
use Rattle.fm_run.specs.declared.task.Side.TheVariants as sides
use Rattle.fm_run.specs.declared.task.Name.{Name}
use Rattle.fm_run.specs.declared.task.Name.TheVariants as tasks
use Rattle.fm_cert.specs.Ends.{side_words, task_word, is_numbered, number_words, task_words}
use Rattle.fm_cert.specs.Writable.{is_inner, is_word}
use Rattle.fm_cert.proofs.WordsRead.{word_from}
use Rattle.std.proofs.Common.{◌∙◌}

digit_inner : (d : ℕ) → d < 10 → is_inner (digit_glyph false d) ≡ true
digit_inner d h = grind (arith, nat_tests)

glyph_inner : (n : ℕ) → is_inner (digit_glyph false (n % 10)) ≡ true
glyph_inner n = digit_inner (n % 10) (omega arith)

digits_inner : (k n : ℕ) (ds : Bytes) → list_all is_inner ds ≡ true → list_all is_inner (digits_onto k 10 false n ds) ≡ true
digits_inner zero n ds h = h
digits_inner (suc k) n ds h = by (n / 10 == 0) (and_from _ _ (glyph_inner n) h) (digits_inner k (n / 10) (digit_glyph false (n % 10) ∷ ds))
  where
    by : (t : Bool) → list_all is_inner (digit_glyph false (n % 10) ∷ ds) ≡ true
        → (list_all is_inner (digit_glyph false (n % 10) ∷ ds) ≡ true → list_all is_inner (digits_onto k 10 false (n / 10) (digit_glyph false (n % 10) ∷ ds)) ≡ true)
        → list_all is_inner (if t then digit_glyph false (n % 10) ∷ ds else digits_onto k 10 false (n / 10) (digit_glyph false (n % 10) ∷ ds)) ≡ true
    by true own later = own
    by false own later = later own

digits_kept : (k n : ℕ) (ds : Bytes) → 0 < length ds → 0 < length (digits_onto k 10 false n ds)
digits_kept zero n ds h = h
digits_kept (suc k) n ds h = by (n / 10 == 0) (digits_kept k (n / 10) (digit_glyph false (n % 10) ∷ ds) (omega arith))
  where
    by : (t : Bool) → 0 < length (digits_onto k 10 false (n / 10) (digit_glyph false (n % 10) ∷ ds))
        → 0 < length (if t then digit_glyph false (n % 10) ∷ ds else digits_onto k 10 false (n / 10) (digit_glyph false (n % 10) ∷ ds))
    by true later = omega arith
    by false later = later

digits_some : (k n : ℕ) → 0 < length (digits_onto (suc k) 10 false n [])
digits_some k n = by (n / 10 == 0) (digits_kept k (n / 10) (digit_glyph false (n % 10) ∷ []) (omega arith))
  where
    by : (t : Bool) → 0 < length (digits_onto k 10 false (n / 10) (digit_glyph false (n % 10) ∷ []))
        → 0 < length (if t then digit_glyph false (n % 10) ∷ [] else digits_onto k 10 false (n / 10) (digit_glyph false (n % 10) ∷ []))
    by true later = omega arith
    by false later = later

pub decimal_word : (n : ℕ) → is_word (decimal n) ≡ true
unfolding digits
decimal_word n = word_from (digits_onto 64 10 false n []) (digits_some 63 n) (digits_inner 64 n [] refl)

side_spelled : (s : Side) → list_all is_word (side_words s) ≡ true
side_spelled sides.Alone = refl
side_spelled sides.Source = refl
side_spelled sides.Target = refl

name_spelled : (x : Name) → is_word (task_word x) ≡ true
name_spelled tasks.Resolve = refl
name_spelled tasks.Lift = refl
name_spelled tasks.Cocycles = refl
name_spelled tasks.Relations = refl
name_spelled tasks.Morphism = refl
name_spelled tasks.Chain = refl
name_spelled tasks.Whole = refl
name_spelled tasks.Member = refl
name_spelled tasks.Test = refl
name_spelled tasks.Coordinates = refl
name_spelled tasks.Stage = refl
name_spelled tasks.Annihilator = refl
name_spelled tasks.Colon = refl
name_spelled tasks.Power = refl
name_spelled tasks.Contained = refl
name_spelled tasks.Lambda = refl
name_spelled tasks.Phi = refl
name_spelled tasks.Null = refl
name_spelled tasks.One = refl
name_spelled tasks.Onto = refl

number_spelled : (b : Bool) (n : ℕ) → list_all is_word (number_words b n) ≡ true
number_spelled true n = and_from _ _ (decimal_word n) refl
number_spelled false n = refl

pub task_some : (t : Task) → 0 < length (task_words t)
task_some t =
    omega (arith, length-append (side_words t.side) (task_word t.name ∷ number_words (is_numbered t.name) t.number))

pub task_spelled : (t : Task) → list_all is_word (task_words t) ≡ true
task_spelled t =
    list_all-append is_word (side_words t.side) (task_word t.name ∷ number_words (is_numbered t.name) t.number)
    ∙ and_from _ _ (side_spelled t.side) (and_from _ _ (name_spelled t.name) (number_spelled (is_numbered t.name) t.number))
