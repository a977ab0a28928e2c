-- The forms of parts, by the numbers of their operands.
use Rattle.std.proofs.Common.{◌≡◌, ℕ, suc, ◌+◌, ◌-◌, Bool, nat_eq, true, false, if◌then◌else◌, List, [], ◌∷◌, ◌++◌, map, length, Option, Some, None, option_map, refl, sym, ap, ap₂, ◌∙◌, arith, append_assoc, append-nil}
use Rattle.std.proofs.lemmas.Bool.{ne_eqb, lt-ltb}
use Rattle.fm_algebra.specs.Poly.{None≢Some}
use Rattle.fm_poly.specs.Polys.{PolyValue}
use Rattle.fm_words.specs.Options.{◌>>=◌, where_so, all_of}
use Rattle.fm_cert.specs.Kinds as kinds
use Rattle.fm_cert.specs.Lines.{Line, Row}
use Rattle.fm_report.specs.Parts.{Part}
use Rattle.fm_report.specs.Parts as parts
use Rattle.fm_report.specs.Sheets.{numbered, from_zero}
use Rattle.fm_standard.specs.Writing.{given_line, twist_line, flip_line, beside_line, stack_line, times_line, pick_line}

-- ---- numbers of parts
one_apart : (k : ℕ) → suc k - 1 ≡ k
one_apart k = omega arith

pub record IsGrown (ps qs : List Part) : Type 0 where
  pub more : List Part
  pub is : qs ≡ ps ++ more

pub not_grown : (ps : List Part) → IsGrown ps ps
not_grown ps = record { more = []; is = sym (append-nil ps) }

pub grown_on : (ps es qs : List Part) → IsGrown ps es → IsGrown es qs → IsGrown ps qs
grown_on ps es qs f g = record { more = f.more ++ g.more; is = g.is ∙ ap (λ xs. xs ++ g.more) f.is ∙ append_assoc ps f.more g.more }

pub front_numbered : (ps more : List Part) (n : ℕ) (a : Part) → numbered ps n ≡ Some a → numbered (ps ++ more) n ≡ Some a
front_numbered [] more n a e = absurd (None≢Some e)
front_numbered (b ∷ ps) more n a e = by (nat_eq n 1) e (front_numbered ps more (n - 1) a)
  where
    by : (t : Bool) → (if t then Some b else numbered ps (n - 1)) ≡ Some a → (numbered ps (n - 1) ≡ Some a → numbered (ps ++ more) (n - 1) ≡ Some a)
        → (if t then Some b else numbered (ps ++ more) (n - 1)) ≡ Some a
    by true e rest = e
    by false e rest = rest e

-- a part keeps its number
pub still_numbered : (ps qs : List Part) → IsGrown ps qs → (n : ℕ) (a : Part) → numbered ps n ≡ Some a → numbered qs n ≡ Some a
still_numbered ps qs g n a e = ap (λ xs. numbered xs n) g.is ∙ front_numbered ps g.more n a e

pub last_part : (ps : List Part) (a : Part) → numbered (ps ++ a ∷ []) (length ps + 1) ≡ Some a
last_part [] a = refl
last_part (b ∷ ps) a = rw (ne_eqb (length (b ∷ ps) + 1) 1 (omega arith)) (ap (numbered (ps ++ a ∷ [])) (omega arith) ∙ last_part ps a)

pub later : (a : Part) (others : List Part) (j : ℕ) → numbered (a ∷ others) (suc (suc j)) ≡ numbered others (suc j)
later a others j = rw (ne_eqb (suc (suc j)) 1 (omega arith)) (ap (numbered others) (omega arith))

-- ---- forms of parts, by the numbers of their operands
pub data Form : Type 0 where
  given : (rows : ℕ) (columns : List (List PolyValue)) → Form
  twist : (a e : ℕ) → Form
  flip : (a : ℕ) → Form
  beside : (a b : ℕ) → Form
  stack : (a b : ℕ) → Form
  times : (a b : ℕ) → Form
  pick : (a : ℕ) (columns : List ℕ) → Form

-- the line of a form, by its number
abbrev pub form_line : Form → ℕ → Line
form_line (given rows columns) = given_line rows columns
form_line (twist a e) = twist_line a e
form_line (flip a) = flip_line a
form_line (beside a b) = beside_line a b
form_line (stack a b) = stack_line a b
form_line (times a b) = times_line a b
form_line (pick a columns) = pick_line a columns

-- the part that a form makes of these
abbrev pub made : List Part → Form → Option Part
made ps (given rows columns) = Some (parts.given rows columns)
made ps (twist a e) = option_map (λ x. parts.twist x e) (numbered ps a)
made ps (flip a) = option_map parts.flip (numbered ps a)
made ps (beside a b) = numbered ps a >>= λ x. option_map (parts.beside x) (numbered ps b)
made ps (stack a b) = numbered ps a >>= λ x. option_map (parts.stack x) (numbered ps b)
made ps (times a b) = numbered ps a >>= λ x. option_map (parts.times x) (numbered ps b)
made ps (pick a columns) = option_map (λ x. parts.pick x columns) (numbered ps a)

kept_map : {A B : Type 0} (f : A → B) (o u : Option A) (x : B) → ((a : A) → o ≡ Some a → u ≡ Some a) → option_map f o ≡ Some x → option_map f u ≡ Some x
kept_map f None u x k e = absurd (None≢Some e)
kept_map f (Some a) u x k e = ap (option_map f) (k a refl) ∙ e

kept_bind : {A B : Type 0} (f g : A → Option B) (o u : Option A) (x : B) → ((a : A) → o ≡ Some a → u ≡ Some a) → ((a : A) → f a ≡ Some x → g a ≡ Some x) → (o >>= f) ≡ Some x → (u >>= g) ≡ Some x
kept_bind f g None u x k j e = absurd (None≢Some e)
kept_bind f g (Some a) u x k j e = ap (λ o. o >>= g) (k a refl) ∙ j a e

both_kept : (ps more : List Part) (f : Part → Part → Part) (a b : ℕ) (x : Part) → (numbered ps a >>= λ x. option_map (f x) (numbered ps b)) ≡ Some x
    → (numbered (ps ++ more) a >>= λ x. option_map (f x) (numbered (ps ++ more) b)) ≡ Some x
both_kept ps more f a b x e =
    kept_bind (λ x. option_map (f x) (numbered ps b)) (λ x. option_map (f x) (numbered (ps ++ more) b)) (numbered ps a) (numbered (ps ++ more) a) x (front_numbered ps more a)
    (λ y. kept_map (f y) (numbered ps b) (numbered (ps ++ more) b) x (front_numbered ps more b)) e

-- a form makes the same of more parts
pub still_made : (ps more : List Part) (f : Form) (x : Part) → made ps f ≡ Some x → made (ps ++ more) f ≡ Some x
still_made ps more (given rows columns) x e = e
still_made ps more (twist a k) x e = kept_map (λ x. parts.twist x k) (numbered ps a) (numbered (ps ++ more) a) x (front_numbered ps more a) e
still_made ps more (flip a) x e = kept_map parts.flip (numbered ps a) (numbered (ps ++ more) a) x (front_numbered ps more a) e
still_made ps more (beside a b) x e = both_kept ps more parts.beside a b x e
still_made ps more (stack a b) x e = both_kept ps more parts.stack a b x e
still_made ps more (times a b) x e = both_kept ps more parts.times a b x e
still_made ps more (pick a columns) x e = kept_map (λ x. parts.pick x columns) (numbered ps a) (numbered (ps ++ more) a) x (front_numbered ps more a) e

pub columns_back : (js : List ℕ) → all_of (map from_zero (map suc js)) ≡ Some js
columns_back [] = refl
columns_back (j ∷ js) = ap₂ (λ x y. x >>= λ a. option_map (λ rest. a ∷ rest) y) (one j) (columns_back js)
  where
    one : (j : ℕ) → from_zero (suc j) ≡ Some j
    one j = ap (λ (t : Bool). where_so t (Some (suc j - 1))) (lt-ltb 0 (suc j) (omega arith)) ∙ ap Some (one_apart j)

-- the form of which a line is
pub form_of : Line → Option Form
form_of (Row kinds.Given (k, (rows, (columns, u)))) = Some (given rows columns)
form_of (Row kinds.Twist (k, (a, (e, u)))) = Some (twist a e)
form_of (Row kinds.Flip (k, (a, u))) = Some (flip a)
form_of (Row kinds.Beside (k, (a, (b, u)))) = Some (beside a b)
form_of (Row kinds.Stack (k, (a, (b, u)))) = Some (stack a b)
form_of (Row kinds.Times (k, (a, (b, u)))) = Some (times a b)
form_of (Row kinds.Pick (k, (a, (cs, u)))) = option_map (pick a) (all_of (map from_zero cs))
form_of l = None

pub form_back : (f : Form) (n : ℕ) → form_of (form_line f n) ≡ Some f
unfolding form_of
form_back (given rows columns) n = refl
form_back (twist a e) n = refl
form_back (flip a) n = refl
form_back (beside a b) n = refl
form_back (stack a b) n = refl
form_back (times a b) n = refl
form_back (pick a columns) n = ap (option_map (pick a)) (columns_back columns)
