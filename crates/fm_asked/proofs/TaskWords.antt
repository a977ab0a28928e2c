-- Words of tasks.
use Rattle.std.proofs.Common.{◌≡◌, ℕ, Bool, true, false, List, [], ◌∷◌, ◌++◌, Option, Some, refl, sym, ◌∙◌, ap}
use Rattle.std.specs.Prelude.{is_some}
use Rattle.fm_words.specs.declared.mark.Mark.TheVariants.{Blank}
use Rattle.fm_words.specs.Parts.{Bytes, parts}
use Rattle.fm_words.specs.Words.{same_bytes, is_number, is_exact, value, small}
use Rattle.fm_words.proofs.Cuts.{first_of_parts}
use Rattle.fm_run.specs.declared.task.Side.{Side}
use Rattle.fm_run.specs.declared.task.Name.{Name}
use Rattle.fm_cert.specs.Ends.{side_words, task_word, is_numbered}
use Rattle.fm_cert.specs.Fields.{exact_number}
use Rattle.fm_judge.specs.Tasks.{spells, ends_so}
use Rattle.fm_asked.specs.Ending.{is_spelled, words_in}

-- the words after the first one
pub other_word : (v : Bytes) (vs : List Bytes) (b : Bool) (ws : List Bytes) (w : Bytes) (rest : List Bytes) → ws ≡ w ∷ rest → same_bytes v w ≡ false
    → spells (v ∷ vs) b ws ≡ false
other_word v vs b ws w rest e h = rw (e, h) refl

pub same_word : (v : Bytes) (vs : List Bytes) (b : Bool) (ws : List Bytes) (w : Bytes) (rest : List Bytes) → ws ≡ w ∷ rest → same_bytes v w ≡ true
    → spells (v ∷ vs) b ws ≡ spells vs b rest
same_word v vs b ws w rest e h = rw (e, h) refl

some_words : (b : Bool) (w : Bytes) (ws : List Bytes) → ends_so false (w ∷ ws) ≡ false
some_words b w ws = refl

pub no_end : (w : Bytes) (ws : List Bytes) (text : Bytes) → parts Blank text ≡ w ∷ ws → false ≡ ends_so false (parts Blank text)
no_end w ws text e = rw e refl

more_words : (w : Bytes) (ps : List Bytes) → (q : Bytes) × (qs : List Bytes) × (ps ≡ q ∷ qs) → ends_so true (w ∷ ps) ≡ false
more_words w ps h = ap (λ v. ends_so true (w ∷ v)) h.2

pub two_words : (text w rest : Bytes) → parts Blank text ≡ w ∷ parts Blank rest → ends_so true (parts Blank text) ≡ false
two_words text w rest e = ap (ends_so true) e ∙ more_words w (parts Blank rest) (first_of_parts Blank rest)

pub not_number : (w : Bytes) (o : Bool) → o ≡ is_number w → o ≡ false → false ≡ is_some (exact_number w)
unfolding exact_number
not_number w o is h = rw (sym is ∙ h) refl

pub not_exact : (w : Bytes) (o : Bool) → o ≡ is_exact w → o ≡ false → is_number w ≡ true → false ≡ is_some (exact_number w)
unfolding exact_number
not_exact w o is h number = rw (number, sym is ∙ h) refl

pub exact_is : (w : Bytes) (o : Option ℕ) (b : Bool) → is_number w ≡ true → is_exact w ≡ true → o ≡ small (value w) → b ≡ is_some o
    → b ≡ is_some (exact_number w)
unfolding exact_number
exact_is w o b number exact is found = found ∙ ap is_some is ∙ rw (number, exact) refl

-- the words of a task
pub named_by : (side : Side) (name : Name) (ws left : List Bytes) (v : Bytes) (x : Bool) → v ≡ task_word name
    → spells (side_words side ++ v ∷ []) (is_numbered name) ws ≡ spells (v ∷ []) (is_numbered name) left → spells (v ∷ []) (is_numbered name) left ≡ x
    → x ≡ is_spelled side name ws
named_by side name ws left v x e one two = sym (ap (λ w. spells (side_words side ++ w ∷ []) (is_numbered name) ws) (sym e) ∙ one ∙ two)

pub named_end : (side : Side) (name : Name) (ws left rest : List Bytes) (v : Bytes) (n x : Bool) → v ≡ task_word name
    → spells (side_words side ++ v ∷ []) (is_numbered name) ws ≡ spells (v ∷ []) (is_numbered name) left
    → spells (v ∷ []) (is_numbered name) left ≡ spells [] (is_numbered name) rest → n ≡ is_numbered name → x ≡ ends_so n rest → x ≡ is_spelled side name ws
named_end side name ws left rest v n x e one two is h =
    named_by side name ws left v x e one (two ∙ ap (λ b. ends_so b rest) (sym is) ∙ sym h)

pub no_more : (n : Bool) (o : Option Bytes) (text w rest : Bytes) → n ≡ true → o ≡ Some text → parts Blank text ≡ w ∷ parts Blank rest
    → false ≡ ends_so n (words_in o)
no_more n o text w rest h is e = rw (h, is) (sym (two_words text w rest e))
