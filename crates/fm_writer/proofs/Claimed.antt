-- Parts, logs and lines that are written one after another.
use Rattle.std.proofs.Common.{ℕ, zero, suc, ◌≡◌, ◌<◌, ◌≤◌, List, [], ◌∷◌, ◌++◌, drop, get_or, length, Result, Ok, Err, IfOk, arith, refl, sym, ap, ap₂, ◌∙◌, subst, append-nil, append_assoc}
use Rattle.fm_groebner.specs.Logs.{Entry}
use Rattle.fm_cert.specs.Lines.{Line}
use Rattle.fm_report.specs.Parts.{Part, twist, flip, beside}
use Rattle.fm_words.specs.Parts.{Bytes}
use Rattle.fm_standard.specs.Writing.{Shelf, Written, written_then, Reference, part, log, Claim, Page, Numbered, form_written, log_written, part_written, reference_written, references_written, claim_written, claims_written, certificate_lines, twist_line, flip_line, beside_line, bare}
use Rattle.fm_standard.specs.Small.{IsSmallLine, AreSmallLines}
use Rattle.fm_writer.specs.Claims.{HasNumbers}
use Rattle.fm_writer.specs.Writers.{WriterValue, with_lines, HasNumbered, HasPart, HasClaimed, HasLine, IsCertificate}
use Rattle.fm_writer.proofs.Pages.{more_lines, no_lines, small_append, small_none, small_cons}

-- ---- what has a number
pub then_numbered : (w w1 w2 : WriterValue) (v : Written) (next : ℕ → Shelf → Written) (j k : ℕ)
    → HasNumbered w v w1 j → HasNumbered w1 (next j w1.shelf) w2 k → HasNumbered w (written_then v next) w2 k
then_numbered w w1 w2 v next j k a b =
    let u = next v.number v.shelf in
    let e : next j w1.shelf ≡ u = ap₂ next (sym a.number) (ap (λ (x : WriterValue). x.shelf) a.page) in
    record {
      page = b.page ∙ ap (λ (x : Written). with_lines w1 x.lines x.shelf) e ∙ ap (λ (x : WriterValue). with_lines x u.lines u.shelf) a.page ∙ more_lines w v.lines u.lines v.shelf u.shelf;
      number = sym (ap (λ (x : Written). x.number) e) ∙ b.number;
      small = small_append v.lines u.lines a.small (subst (λ (x : Written). AreSmallLines x.lines) e b.small);
    }

names_after : (w w1 : WriterValue) (v : Written) (j : ℕ) → HasNumbered w v w1 j → w1.names ≡ w.names
names_after w w1 v j a = ap (λ (x : WriterValue). x.names) a.page

pub flipped : (w w1 w2 : WriterValue) (a : Part) (j k : ℕ) → HasPart w a w1 j → HasNumbered w1 (form_written w1.names (flip_line j) w1.shelf) w2 k → HasPart w (flip a) w2 k
flipped w w1 w2 a j k x y =
    then_numbered w w1 w2 (part_written w.names a w.shelf) (λ j. form_written w.names (flip_line j)) j k x
    (subst (λ ns. HasNumbered w1 (form_written ns (flip_line j) w1.shelf) w2 k) (names_after w w1 _ j x) y)

pub twisted : (w w1 w2 : WriterValue) (a : Part) (e j k : ℕ) → HasPart w a w1 j → HasNumbered w1 (form_written w1.names (twist_line j e) w1.shelf) w2 k → HasPart w (twist a e) w2 k
twisted w w1 w2 a e j k x y =
    then_numbered w w1 w2 (part_written w.names a w.shelf) (λ j. form_written w.names (twist_line j e)) j k x
    (subst (λ ns. HasNumbered w1 (form_written ns (twist_line j e) w1.shelf) w2 k) (names_after w w1 _ j x) y)

pub joined : (w w1 w2 w3 : WriterValue) (a b : Part) (j k n : ℕ) → HasPart w a w1 j → HasPart w1 b w2 k
    → HasNumbered w2 (form_written w2.names (beside_line j k) w2.shelf) w3 n → HasPart w (beside a b) w3 n
joined w w1 w2 w3 a b j k n x y z =
    let inner : HasNumbered w1 (written_then (part_written w1.names b w1.shelf) (λ k. form_written w1.names (beside_line j k))) w3 n =
    then_numbered w1 w2 w3 (part_written w1.names b w1.shelf) (λ k. form_written w1.names (beside_line j k)) k n y
    (subst (λ ns. HasNumbered w2 (form_written ns (beside_line j k) w2.shelf) w3 n) (names_after w1 w2 _ k y) z) in
    then_numbered w w1 w3 (part_written w.names a w.shelf) (λ j s. written_then (part_written w.names b s) (λ k. form_written w.names (beside_line j k))) j n x
    (subst (λ ns. HasNumbered w1 (written_then (part_written ns b w1.shelf) (λ k. form_written ns (beside_line j k))) w3 n) (names_after w w1 _ j x) inner)

pub logged : (w w1 w2 : WriterValue) (a : Part) (entries : List Entry) (j n : ℕ) → HasPart w a w1 j → HasNumbered w1 (log_written entries j w1.shelf) w2 n
    → HasNumbered w (reference_written w.names (log a entries) w.shelf) w2 n
logged w w1 w2 a entries j n x y = then_numbered w w1 w2 (part_written w.names a w.shelf) (log_written entries) j n x y

-- ---- what a line names
pub none_named : (w : WriterValue) → HasNumbers w [] w []
none_named w = record { page = no_lines w; numbers = refl; small = small_none }

pub more_named : (w w1 w2 : WriterValue) (x : Reference) (xs : List Reference) (k : ℕ) (ks : List ℕ) → HasNumbered w (reference_written w.names x w.shelf) w1 k → HasNumbers w1 xs w2 ks
    → HasNumbers w (x ∷ xs) w2 (k ∷ ks)
more_named w w1 w2 x xs k ks a b =
    let v = reference_written w.names x w.shelf in
    let u = references_written w.names xs v.shelf in
    let e : references_written w1.names xs w1.shelf ≡ u = ap (λ (y : WriterValue). references_written y.names xs y.shelf) a.page in
    record {
      page = b.page ∙ ap (λ (y : Numbered). with_lines w1 y.lines y.shelf) e ∙ ap (λ (y : WriterValue). with_lines y u.lines u.shelf) a.page ∙ more_lines w v.lines u.lines v.shelf u.shelf;
      numbers = ap₂ (λ (m : ℕ) (ms : List ℕ). m ∷ ms) a.number (sym (ap (λ (y : Numbered). y.numbers) e) ∙ b.numbers);
      small = small_append v.lines u.lines a.small (subst (λ (y : Numbered). AreSmallLines y.lines) e b.small);
    }

pub one_named : (w w1 : WriterValue) (x : Reference) (k : ℕ) → HasNumbered w (reference_written w.names x w.shelf) w1 k → HasNumbers w (x ∷ []) w1 (k ∷ [])
one_named w w1 x k a = more_named w w1 w1 x [] k [] a (none_named w1)

-- ---- claims
pub claimed : (w w1 w2 : WriterValue) (c : Claim) (ns : List ℕ) → HasNumbers w c.names w1 ns → HasLine w1 (c.line ns) w2 → HasClaimed w (c ∷ []) w2
unfolding claim_written
claimed w w1 w2 c ns a b =
    let v = references_written w.names c.names w.shelf in
    let e : c.line ns ≡ c.line v.numbers = ap c.line (sym a.numbers) in
    let all : (v.lines ++ c.line v.numbers ∷ []) ++ [] ≡ v.lines ++ c.line v.numbers ∷ [] = append-nil (v.lines ++ c.line v.numbers ∷ []) in
    record {
      page = b.page ∙ ap (λ (l : Line). with_lines w1 (l ∷ []) w1.shelf) e ∙ ap (λ (y : WriterValue). with_lines y (c.line v.numbers ∷ []) y.shelf) a.page
          ∙ more_lines w v.lines (c.line v.numbers ∷ []) v.shelf v.shelf ∙ ap (λ (ls : List Line). with_lines w ls v.shelf) (sym all);
      small = subst AreSmallLines (sym all) (small_append v.lines (c.line v.numbers ∷ []) a.small (small_cons (c.line v.numbers) [] (subst IsSmallLine e b.small) small_none));
    }

pub none_claimed : (w : WriterValue) → HasClaimed w [] w
none_claimed w = record { page = no_lines w; small = small_none }

-- a claim, and then others
pub claimed_then : (w w1 w2 : WriterValue) (c : Claim) (cs : List Claim) → HasClaimed w (c ∷ []) w1 → HasClaimed w1 cs w2 → HasClaimed w (c ∷ cs) w2
claimed_then w w1 w2 c cs a b =
    let v = claim_written w.names c w.shelf in
    let u = claims_written w.names cs v.shelf in
    let first : w1 ≡ with_lines w v.lines v.shelf = a.page ∙ ap (λ (ls : List Line). with_lines w ls v.shelf) (append-nil v.lines) in
    let e : claims_written w1.names cs w1.shelf ≡ u = ap (λ (y : WriterValue). claims_written y.names cs y.shelf) first in
    record {
      page = b.page ∙ ap (λ (y : Page). with_lines w1 y.lines y.shelf) e ∙ ap (λ (y : WriterValue). with_lines y u.lines u.shelf) first ∙ more_lines w v.lines u.lines v.shelf u.shelf;
      small = small_append v.lines u.lines (subst AreSmallLines (append-nil v.lines) a.small) (subst (λ (y : Page). AreSmallLines y.lines) e b.small);
    }

-- ---- results of calls
pub if_ok : {X E : Type 0} {P Q : X → Type 0} (r : Result X E) → ((x : X) → P x → Q x) → IfOk r P → IfOk r Q
if_ok (Ok x) f p = f x p
if_ok (Err e) f p = tt

-- ---- the text
pub certified : (names : List Bytes) (cs : List Claim) (w new : WriterValue) (text : Bytes) → w ≡ record { names = names; text = []; shelf = bare }
    → HasClaimed w cs new → text ≡ new.text → IsCertificate names cs text
unfolding certificate_lines
certified names cs w new text e h t =
    let g : HasClaimed (record { names = names; text = []; shelf = bare }) cs new = subst (λ (v : WriterValue). HasClaimed v cs new) e h in
    record { is = t ∙ ap (λ (x : WriterValue). x.text) g.page; small = g.small }

-- ---- lists that are gone through
pub dropped : {A : Type 0} (xs : List A) (i : ℕ) (x : A) → x ≡ get_or xs i x → i < length xs → drop i xs ≡ x ∷ drop (suc i) xs
dropped [] i x is less = absurd (omega (arith, less))
dropped (y ∷ xs) zero x is less = ap (λ z. z ∷ xs) (sym is)
dropped (y ∷ xs) (suc i) x is less = dropped xs i x is (omega (arith, less))

pub all_dropped : {A : Type 0} (xs : List A) (i : ℕ) → length xs ≤ i → drop i xs ≡ []
all_dropped [] zero past = refl
all_dropped [] (suc i) past = refl
all_dropped (x ∷ xs) zero past = absurd (omega (arith, past))
all_dropped (x ∷ xs) (suc i) past = all_dropped xs i (omega (arith, past))
